use Rattle.show_uploads.proofs.Prelude.{◌≡◌, inl, inr, true, false, common_steps, ap, refl, arith, link_of, List, ℕ, Option, IfSome, Held, cut_of, Gives-trans, IsInput-now, at_new, back, consumed, of_source, takes_front, to_come, run_on, stream, stream_new, during, upload_verb, Consumes, TakesFewAfter, GoesOnReady, ReadyGives, upload_ways, outcomes}
use Rattle.show_uploads.specs.declared.uploading.Ready.TheVariants as ready
use Rattle.show_uploads.proofs.BegunLemmas.{begun_link, never_same, never_wrote}
use Rattle.show_uploads.proofs.UploadLemmas.{stops_failed, stops_late, stops_refused, upload_carried, upload_failed, upload_refused}
use Rattle.show_uploads.proofs.uploading.carry.Goals as goal

pub returns-in-Ok-Host-clause-runs : goal.returns-in-Ok-Host-clause-runs
returns-in-Ok-Host-clause-runs g c all input =
    let whole = of_source _ _ all c.upload.ensures.went.at_end input in
    let may = back _ _ _ _ all c.upload.ensures.went whole in
    let gives = at_new (λ (left : Option (List ℕ)). IfSome left (λ comes. ReadyGives (upload_ways c.args.depth) c.args.start c.args.readback (cut_of comes) (ready.Host c.in-Ok-Host.host))) c.make-parts.result (to_come all (g.S.Source.told c.args.source.now)) (ap (λ (h : Held). h.waiting) c.make-parts.ensures) (rw c.in-Ok-Host.field-0-is at (c.in-Ok-Host.ensures.gives all may)) in
    let goes_on = at_new (λ (left : Option (List ℕ)). GoesOnReady (ready.Host c.in-Ok-Host.host) c.read_ready.new.parts left (stream c.read_ready.new.parts (to_come all (g.S.Source.told c.read_ready.new.source)))) c.make-parts.result (to_come all (g.S.Source.told c.args.source.now)) (ap (λ (h : Held). h.waiting) c.make-parts.ensures) (rw c.in-Ok-Host.field-0-is at (c.in-Ok-Host.ensures.goes_on all may)) in
    let u = c.upload.ensures in
    upload_carried c.args.depth c.args.start c.args.readback
    (run_on (during g.S.Source.told g.K.Sink.written g.K.Sink.faults c.args.source.now c.upload.new.source c.args.sink.now c.upload.new.sink) all)
    (stream c.read_ready.new.parts (to_come all (g.S.Source.told c.read_ready.new.source))) c.read_ready.new.parts.ended (g.S.Source.told c.read_ready.new.source).faults
    (link_of c.in-Ok-Host.host.session) c.upload.result (outcomes c.show_law.ensures (upload_verb c.args.depth c.args.start c.args.readback) (c.uploading_law.ensures c.args.depth c.args.start c.args.readback)) c.marker_law.ensures c.show_law.ensures
    (record { is = gives; rest = goes_on.1; fed = goes_on.2 }) c.read_ready.ensures.went.gives.later (takes_front _ _ _ all (Gives-trans _ _ _ c.read_ready.ensures.went.gives u.went.gives) input)
    (record { gives = u.gives all whole; grown = u.grown; known = u.known; reads_later = u.went.gives.later; writes_later = u.sink_later })

pub returns-in-Ok-Refused-clause-runs : goal.returns-in-Ok-Refused-clause-runs
returns-in-Ok-Refused-clause-runs g c all input =
    let may = of_source _ _ all c.read_ready.ensures.went.at_end input in
    let gives = at_new (λ (left : Option (List ℕ)). IfSome left (λ comes. ReadyGives (upload_ways c.args.depth) c.args.start c.args.readback (cut_of comes) (ready.Refused c.in-Ok-Refused.refusal))) c.make-parts.result (to_come all (g.S.Source.told c.args.source.now)) (ap (λ (h : Held). h.waiting) c.make-parts.ensures) (rw c.in-Ok-Refused.field-0-is at (c.in-Ok-Refused.ensures.gives all may)) in
    let sound = rw c.in-Ok-Refused.field-0-is at c.in-Ok-Refused.ensures.sound in
    let few = at_new (λ (left : Option (List ℕ)). TakesFewAfter left (to_come all (g.S.Source.told c.read_ready.new.source))) c.make-parts.result (to_come all (g.S.Source.told c.args.source.now)) (ap (λ (h : Held). h.waiting) c.make-parts.ensures) (c.in-Ok-Refused.ensures.few all may) in
    upload_refused c.args.depth c.args.start c.args.readback
    (run_on (during g.S.Source.told g.K.Sink.written g.K.Sink.faults c.args.source.now c.read_ready.new.source c.args.sink.now c.refuse_by_frame.new.sink) all)
    c.in-Ok-Refused.refusal c.refuse_by_frame.result (outcomes c.show_law.ensures (upload_verb c.args.depth c.args.start c.args.readback) (c.uploading_law.ensures c.args.depth c.args.start c.args.readback)) c.marker_law.ensures gives sound few (takes_front _ _ _ all c.read_ready.ensures.went.gives input) c.read_ready.ensures.went.gives.later
    c.refuse_by_frame.ensures

pub returns-in-Err-Read-clause-runs : goal.returns-in-Err-Read-clause-runs
returns-in-Err-Read-clause-runs g c all input =
    let may = of_source _ _ all c.read_ready.ensures.went.at_end input in
    let early = (rw c.in-Err-Read.field-0-is at c.in-Err-Read.ensures.unmarked) refl in
    let taken = at_new (λ (left : Option (List ℕ)). Consumes left (to_come all (g.S.Source.told c.read_ready.new.source)) early.0) c.make-parts.result (to_come all (g.S.Source.told c.args.source.now)) (ap (λ (h : Held). h.waiting) c.make-parts.ensures) (consumed _ _ _ all _ _ _ early.1 may) in
    let rose = (rw c.in-Err-Read.field-0-is at c.in-Err-Read.ensures.failed) refl in
    upload_failed c.args.depth c.args.start c.args.readback
    (run_on (during g.S.Source.told g.K.Sink.written g.K.Sink.faults c.args.source.now c.read_ready.new.source c.args.sink.now c.refuse_by_frame-in-Err-Read.new.sink) all)
    early.0 c.refuse_by_frame-in-Err-Read.result (outcomes c.show_law.ensures (upload_verb c.args.depth c.args.start c.args.readback) (c.uploading_law.ensures c.args.depth c.args.start c.args.readback)) rose taken early.2 c.read_ready.ensures.went.gives.later c.refuse_by_frame-in-Err-Read.ensures

pub returns-in-Ok-Host-clause-stops : goal.returns-in-Ok-Host-clause-stops
returns-in-Ok-Host-clause-stops g c all input = λ judged.
    let whole = of_source _ _ all c.upload.ensures.went.at_end input in
    let may = back _ _ _ _ all c.upload.ensures.went whole in
    let gives = at_new (λ (left : Option (List ℕ)). IfSome left (λ comes. ReadyGives (upload_ways c.args.depth) c.args.start c.args.readback (cut_of comes) (ready.Host c.in-Ok-Host.host))) c.make-parts.result (to_come all (g.S.Source.told c.args.source.now)) (ap (λ (h : Held). h.waiting) c.make-parts.ensures) (rw c.in-Ok-Host.field-0-is at (c.in-Ok-Host.ensures.gives all may)) in
    let goes_on = at_new (λ (left : Option (List ℕ)). GoesOnReady (ready.Host c.in-Ok-Host.host) c.read_ready.new.parts left (stream c.read_ready.new.parts (to_come all (g.S.Source.told c.read_ready.new.source)))) c.make-parts.result (to_come all (g.S.Source.told c.args.source.now)) (ap (λ (h : Held). h.waiting) c.make-parts.ensures) (rw c.in-Ok-Host.field-0-is at (c.in-Ok-Host.ensures.goes_on all may)) in
    stops_late c.args.depth c.args.start c.args.readback (to_come all (g.S.Source.told c.args.source.now)) (to_come all (g.S.Source.told c.upload.new.source)) (stream c.read_ready.new.parts (to_come all (g.S.Source.told c.read_ready.new.source))) (link_of c.in-Ok-Host.host.session) c.show_law.ensures gives goes_on.1 (c.upload.ensures.gives all whole).stops

pub returns-in-Ok-Refused-clause-stops : goal.returns-in-Ok-Refused-clause-stops
returns-in-Ok-Refused-clause-stops g c all input = λ judged.
    let may = of_source _ _ all c.read_ready.ensures.went.at_end input in
    stops_refused c.args.depth c.args.start c.args.readback (to_come all (g.S.Source.told c.args.source.now)) (to_come all (g.S.Source.told c.read_ready.new.source))
    (at_new (λ (left : Option (List ℕ)). TakesFewAfter left (to_come all (g.S.Source.told c.read_ready.new.source))) c.make-parts.result (to_come all (g.S.Source.told c.args.source.now)) (ap (λ (h : Held). h.waiting) c.make-parts.ensures) (c.in-Ok-Refused.ensures.few all may))

pub returns-in-Err-Read-clause-stops : goal.returns-in-Err-Read-clause-stops
returns-in-Err-Read-clause-stops g c all input = λ judged. stops_failed _ _ _ _ c.refuse_by_frame-in-Err-Read.result _ c.refuse_by_frame-in-Err-Read.ensures judged

pub returns-in-Ok-Host-clause-begun : goal.returns-in-Ok-Host-clause-begun
returns-in-Ok-Host-clause-begun g c all input = λ begun.
    let whole = of_source _ _ all c.upload.ensures.went.at_end input in
    let may = back _ _ _ _ all c.upload.ensures.went whole in
    let gives = at_new (λ (left : Option (List ℕ)). IfSome left (λ comes. ReadyGives (upload_ways c.args.depth) c.args.start c.args.readback (cut_of comes) (ready.Host c.in-Ok-Host.host))) c.make-parts.result (to_come all (g.S.Source.told c.args.source.now)) (ap (λ (h : Held). h.waiting) c.make-parts.ensures) (rw c.in-Ok-Host.field-0-is at (c.in-Ok-Host.ensures.gives all may)) in
    begun_link c.args.depth c.args.start c.args.readback (to_come all (g.S.Source.told c.args.source.now)) (link_of c.in-Ok-Host.host.session) gives

pub returns-in-Ok-Refused-clause-begun : goal.returns-in-Ok-Refused-clause-begun
returns-in-Ok-Refused-clause-begun g c all input = λ begun. absurd (never_wrote _ _ _ _ _ c.refuse_by_frame.result c.refuse_by_frame.ensures begun)

pub returns-in-Err-Read-clause-begun : goal.returns-in-Err-Read-clause-begun
returns-in-Err-Read-clause-begun g c all input = λ begun. absurd (never_wrote _ _ _ _ _ c.refuse_by_frame-in-Err-Read.result c.refuse_by_frame-in-Err-Read.ensures begun)

pub returns-in-Err-Memory-clause-begun : goal.returns-in-Err-Memory-clause-begun
returns-in-Err-Memory-clause-begun g c all input = λ begun. absurd (never_same _ begun)

pub upload-requires-clause-sound : goal.upload-requires-clause-sound
upload-requires-clause-sound g c =
    let told = g.S.Source.told c.read_ready.new.source in
    (rw c.in-Ok-Host.field-0-is at (c.in-Ok-Host.ensures.goes_on told.given (of_source _ told _ c.read_ready.ensures.went.at_end (IsInput-now told)))).0

pub returns-in-Ok-Host-clause-few : goal.returns-in-Ok-Host-clause-few
returns-in-Ok-Host-clause-few g c all input = λ why.
    let whole = of_source _ _ all c.upload.ensures.went.at_end input in
    let may = back _ _ _ _ all c.upload.ensures.went whole in
    let gives = at_new (λ (left : Option (List ℕ)). IfSome left (λ comes. ReadyGives (upload_ways c.args.depth) c.args.start c.args.readback (cut_of comes) (ready.Host c.in-Ok-Host.host))) c.make-parts.result (to_come all (g.S.Source.told c.args.source.now)) (ap (λ (h : Held). h.waiting) c.make-parts.ensures) (rw c.in-Ok-Host.field-0-is at (c.in-Ok-Host.ensures.gives all may)) in
    elim why [
      | inl alone ↦ absurd (let e : true ≡ false = alone in cc)
      | inr long ↦ absurd (omega (arith, long, gives.short))
    ]

pub returns-in-Err-Memory-clause-runs : goal.returns-in-Err-Memory-clause-runs
returns-in-Err-Memory-clause-runs g c all input = record {
  outcome = λ j. absurd (j.0 refl);
  exact = λ quiet o is. inr refl;
  safe = λ e. absurd (omega (arith, e));
  whole = λ e. absurd (omega (arith, e));
  one = λ _. (refl, refl);
  always = λ output is. absurd (cc);
  six = λ e. absurd (omega (arith, e));
  stopped = λ e. absurd (omega (arith, e));
  seven = λ e. absurd (omega (arith, e));
  prompt = λ e. absurd (omega (arith, e));
  unread = λ e. absurd (let f : true ≡ false = e in cc);
  known = (1, omega arith, refl);
  taken = takes_front _ _ _ all c.read_ready.ensures.went.gives input;
  reads_later = c.read_ready.ensures.went.gives.later;
  writes_later = omega arith;
}

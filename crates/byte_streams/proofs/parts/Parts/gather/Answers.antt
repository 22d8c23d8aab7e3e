use Rattle.byte_streams.proofs.Prelude.{common_steps, inl, inr, true, [], ◌∷◌, ◌++◌, ◌+◌, take, drop, length, length-append, append-nil, refl, sym, ap, ◌∙◌, arith, length-drop, length-take, byte_of, stream, to_come}
use Rattle.byte_streams.proofs.ToldLemmas.{Took-none, Took-runs, Took-trans, back, consumed, kept, nothing_before, took_alone}
use Rattle.byte_streams.proofs.GoingLemmas.{Goes-trans, Goes-unasked}
use Rattle.byte_streams.proofs.AskingLemmas.{Asking-runs, Asking-none, Gathers-unmarked, promised, promised_after}
use Rattle.byte_streams.proofs.AloneLemmas.{unless}
use Rattle.byte_streams.proofs.MarkLemmas.{Gathers-runs, Gathers-none, ends_marker_is}
use Rattle.byte_streams.proofs.MarkerLaws.{fed_marked, ok_marked}
use Rattle.byte_streams.proofs.FoundLemmas.{at_marker, at_end, made, refused_at_start, long_already}
use Rattle.byte_streams.proofs.ReadingLemmas.{reads_at_most}
use Rattle.byte_streams.proofs.parts.Parts.gather.Goals as goal

pub returns-in-Err-clause-goes : goal.returns-in-Err-clause-goes
returns-in-Err-clause-goes g c = Goes-trans _ _ _ _ _ _ c.bytes.invariant.goes c.next.ensures.goes

pub returns-then-ends_marker-clause-part : goal.returns-then-ends_marker-clause-part
returns-then-ends_marker-clause-part g c all may =
    let is = ends_marker_is c.in-Some.byte (drop c.bytes.start c.bytes.bytes.items) (rw c.deref.ensures.value at (sym c.if-ends_marker.ensures)) in
    made (stream c.args.self.now (to_come all (g.S.Source.told c.args.source.now))) (stream c.next.new.self (to_come all (g.S.Source.told c.next.new.source))) _ true c.bytes.start c.args.limit c.up_to_marker.result (at_marker (stream c.args.self.now (to_come all (g.S.Source.told c.args.source.now))) (stream c.bytes.self (to_come all (g.S.Source.told c.bytes.source))) (stream c.next.new.self (to_come all (g.S.Source.told c.next.new.source))) c.bytes.bytes.items c.bytes.start (consumed _ _ _ all _ _ _ c.bytes.invariant.took (back _ _ _ _ all c.next.ensures.goes.went may)) (consumed _ _ _ all _ _ _ (rw (c.in-Ok.is, c.in-Some.is, is.0) at c.next.ensures.took) may) is.1 c.bytes.invariant.gathers) c.up_to_marker.ensures.ok

pub returns-then-ends_marker-clause-too_long : goal.returns-then-ends_marker-clause-too_long
returns-then-ends_marker-clause-too_long g c all may =
    let is = ends_marker_is c.in-Some.byte (drop c.bytes.start c.bytes.bytes.items) (rw c.deref.ensures.value at (sym c.if-ends_marker.ensures)) in
    refused_at_start (stream c.args.self.now (to_come all (g.S.Source.told c.args.source.now))) (stream c.next.new.self (to_come all (g.S.Source.told c.next.new.source))) c.bytes.bytes.items c.bytes.start c.args.limit c.up_to_marker.result c.bytes.invariant.gathers.within (at_marker (stream c.args.self.now (to_come all (g.S.Source.told c.args.source.now))) (stream c.bytes.self (to_come all (g.S.Source.told c.bytes.source))) (stream c.next.new.self (to_come all (g.S.Source.told c.next.new.source))) c.bytes.bytes.items c.bytes.start (consumed _ _ _ all _ _ _ c.bytes.invariant.took (back _ _ _ _ all c.next.ensures.goes.went may)) (consumed _ _ _ all _ _ _ (rw (c.in-Ok.is, c.in-Some.is, is.0) at c.next.ensures.took) may) is.1 c.bytes.invariant.gathers) c.up_to_marker.ensures.err

pub returns-then-ends_marker-clause-goes : goal.returns-then-ends_marker-clause-goes
returns-then-ends_marker-clause-goes g c = Goes-trans _ _ _ _ _ _ c.bytes.invariant.goes c.next.ensures.goes

pub bytes-preserved : goal.bytes-preserved
bytes-preserved g c =
    let r = c.in_ok-add_run-in-Some.ensures in
    record {
      gathers = Gathers-runs c.bytes.bytes.items _ _ _ c.bytes.start _ c.in-Some.byte c.bytes.invariant.gathers (rw c.deref.ensures.value at (sym c.if-ends_marker.ensures)) r.ok r.start;
      took = Took-runs _ _ _ _ _ _ _ _ _ _ c.bytes.invariant.took (rw (c.in-Ok.is, c.in-Some.is) at c.next.ensures.took) r.ok;
      goes = Goes-trans _ _ _ _ _ _ (Goes-trans _ _ _ _ _ _ c.bytes.invariant.goes c.next.ensures.goes) (Goes-unasked _ _ _ r.sound r.lines r.ended c.next.ensures.goes.went.at_end);
      at_line = r.at_line ∙ c.next.ensures.at_line ∙ c.bytes.invariant.at_line;
      asking = Asking-runs _ _ _ (byte_of c.next.result) _ _ _ c.in-Some.byte c.bytes.start _ _ _ c.bytes.invariant.gathers c.bytes.invariant.asking c.next.ensures.unasked c.next.ensures.took c.next.ensures.most (rw (c.in-Ok.is, c.in-Some.is) refl) r.ok;
      short = r.short;
      most = omega (arith, c.next.ensures.most, length-append (byte_of c.next.result) c.next.new.self.waiting, ap length r.ok.wait, length-append r.ok.run c.add_run.new.self.waiting);
    }

pub returns-in_err-add_run-in-Some-clause-goes : goal.returns-in_err-add_run-in-Some-clause-goes
returns-in_err-add_run-in-Some-clause-goes g c =
    let r = c.in_err-add_run-in-Some.ensures in
    Goes-trans _ _ _ _ _ _ (Goes-trans _ _ _ _ _ _ c.bytes.invariant.goes c.next.ensures.goes) (Goes-unasked _ _ _ r.sound r.lines r.ended c.next.ensures.goes.went.at_end)

pub returns-in-None-clause-part : goal.returns-in-None-clause-part
returns-in-None-clause-part g c all may =
    let none = rw c.in-None.is at c.in-Ok.ensures.none in
    (at_end (stream c.args.self.now (to_come all (g.S.Source.told c.args.source.now))) (stream c.bytes.self (to_come all (g.S.Source.told c.bytes.source))) (stream c.next.new.self (to_come all (g.S.Source.told c.next.new.source))) c.bytes.bytes.items c.bytes.start c.args.limit c.up_to_end.result (consumed _ _ _ all _ _ _ c.bytes.invariant.took (back _ _ _ _ all c.next.ensures.goes.went may)) (nothing_before _ _ _ all _ _ _ c.next.ensures.took (rw (c.in-Ok.is, c.in-None.is) refl) may none.2 none.1) (kept _ _ _ all _ _ (rw (c.in-Ok.is, c.in-None.is) at c.next.ensures.took) may) c.bytes.invariant.gathers c.up_to_end.ensures.marked c.up_to_end.ensures.whole).0

pub returns-in-None-clause-too_long : goal.returns-in-None-clause-too_long
returns-in-None-clause-too_long g c all may =
    let none = rw c.in-None.is at c.in-Ok.ensures.none in
    (at_end (stream c.args.self.now (to_come all (g.S.Source.told c.args.source.now))) (stream c.bytes.self (to_come all (g.S.Source.told c.bytes.source))) (stream c.next.new.self (to_come all (g.S.Source.told c.next.new.source))) c.bytes.bytes.items c.bytes.start c.args.limit c.up_to_end.result (consumed _ _ _ all _ _ _ c.bytes.invariant.took (back _ _ _ _ all c.next.ensures.goes.went may)) (nothing_before _ _ _ all _ _ _ c.next.ensures.took (rw (c.in-Ok.is, c.in-None.is) refl) may none.2 none.1) (kept _ _ _ all _ _ (rw (c.in-Ok.is, c.in-None.is) at c.next.ensures.took) may) c.bytes.invariant.gathers c.up_to_end.ensures.marked c.up_to_end.ensures.whole).1

pub returns-clause-too_long : goal.returns-clause-too_long
returns-clause-too_long g c all may = λ _. long_already (stream c.args.self.now (to_come all (g.S.Source.told c.args.source.now))) (stream c.bytes.self (to_come all (g.S.Source.told c.bytes.source))) c.bytes.bytes.items c.bytes.start c.args.limit (omega arith) (consumed _ _ _ all _ _ _ c.bytes.invariant.took may) c.bytes.invariant.gathers

pub bytes-init : goal.bytes-init
bytes-init g c = grind (arith, common_steps, Gathers-none, Took-none, Goes-unasked, Asking-none, length-drop, take, length-take)

-- ---- how the source was asked

pub returns-in-Err-clause-asks : goal.returns-in-Err-clause-asks
returns-in-Err-clause-asks g c = (promised_after _ _ _ (byte_of c.next.result) _ c.bytes.start _ _ _ c.bytes.invariant.gathers c.bytes.invariant.asking c.next.ensures.unasked c.next.ensures.took c.next.ensures.most).0

pub returns-in-Err-clause-patient : goal.returns-in-Err-clause-patient
returns-in-Err-clause-patient g c = (promised_after _ _ _ (byte_of c.next.result) _ c.bytes.start _ _ _ c.bytes.invariant.gathers c.bytes.invariant.asking c.next.ensures.unasked c.next.ensures.took c.next.ensures.most).1

pub returns-then-ends_marker-clause-asks : goal.returns-then-ends_marker-clause-asks
returns-then-ends_marker-clause-asks g c = (promised_after _ _ _ (byte_of c.next.result) _ c.bytes.start _ _ _ c.bytes.invariant.gathers c.bytes.invariant.asking c.next.ensures.unasked c.next.ensures.took c.next.ensures.most).0

pub returns-then-ends_marker-clause-patient : goal.returns-then-ends_marker-clause-patient
returns-then-ends_marker-clause-patient g c = (promised_after _ _ _ (byte_of c.next.result) _ c.bytes.start _ _ _ c.bytes.invariant.gathers c.bytes.invariant.asking c.next.ensures.unasked c.next.ensures.took c.next.ensures.most).1

pub returns-in_err-add_run-in-Some-clause-asks : goal.returns-in_err-add_run-in-Some-clause-asks
returns-in_err-add_run-in-Some-clause-asks g c = (promised_after _ _ _ (byte_of c.next.result) _ c.bytes.start _ _ _ c.bytes.invariant.gathers c.bytes.invariant.asking c.next.ensures.unasked c.next.ensures.took c.next.ensures.most).0

pub returns-in_err-add_run-in-Some-clause-patient : goal.returns-in_err-add_run-in-Some-clause-patient
returns-in_err-add_run-in-Some-clause-patient g c = (promised_after _ _ _ (byte_of c.next.result) _ c.bytes.start _ _ _ c.bytes.invariant.gathers c.bytes.invariant.asking c.next.ensures.unasked c.next.ensures.took c.next.ensures.most).1

pub returns-in-None-clause-asks : goal.returns-in-None-clause-asks
returns-in-None-clause-asks g c = (promised_after _ _ _ (byte_of c.next.result) _ c.bytes.start _ _ _ c.bytes.invariant.gathers c.bytes.invariant.asking c.next.ensures.unasked c.next.ensures.took c.next.ensures.most).0

pub returns-in-None-clause-patient : goal.returns-in-None-clause-patient
returns-in-None-clause-patient g c = (promised_after _ _ _ (byte_of c.next.result) _ c.bytes.start _ _ _ c.bytes.invariant.gathers c.bytes.invariant.asking c.next.ensures.unasked c.next.ensures.took c.next.ensures.most).1

pub returns-clause-asks : goal.returns-clause-asks
returns-clause-asks g c = (promised _ _ _ _ _ c.bytes.invariant.asking).0

pub returns-clause-patient : goal.returns-clause-patient
returns-clause-patient g c = (promised _ _ _ _ _ c.bytes.invariant.asking).1

-- ---- a failed read

pub returns-in-Err-clause-unmarked : goal.returns-in-Err-clause-unmarked
returns-in-Err-clause-unmarked g c = λ _.
    let alone = c.in-Err.ensures.alone in (
      unless _ _ (λ ended. (c.bytes.invariant.goes.went.stays ended).0) alone.2,
      alone.1,
      (c.bytes.bytes.items, took_alone _ _ _ _ _ _ _ c.bytes.invariant.took (rw c.in-Err.is at c.next.ensures.took) alone.1, Gathers-unmarked _ c.bytes.start c.bytes.invariant.gathers),
    )

-- ---- the line feed of a marker line

pub returns-then-ends_marker-clause-fed : goal.returns-then-ends_marker-clause-fed
returns-then-ends_marker-clause-fed g c =
    let is = ends_marker_is c.in-Some.byte (drop c.bytes.start c.bytes.bytes.items) (rw c.deref.ensures.value at (sym c.if-ends_marker.ensures)) in
    ok_marked c.up_to_marker.result _ (inr (fed_marked _ _ _ _ _ _ c.bytes.bytes.items c.bytes.start c.bytes.invariant.took (rw (c.in-Ok.is, c.in-Some.is, is.0) at c.next.ensures.took) is.1 c.bytes.invariant.gathers))

pub returns-in-None-clause-fed : goal.returns-in-None-clause-fed
returns-in-None-clause-fed g c =
    let none = rw c.in-None.is at c.in-Ok.ensures.none in
    ok_marked c.up_to_end.result _ (inl none.2)

-- ---- how much was read

pub returns-in-Err-clause-few : goal.returns-in-Err-clause-few
returns-in-Err-clause-few g c =
    reads_at_most _ _ (c.bytes.bytes.items ++ byte_of c.next.result) _ _ (c.args.limit + 4) (Took-trans _ _ _ _ _ _ _ _ c.bytes.invariant.took c.next.ensures.took) (rw (c.in-Err.is, append-nil c.bytes.bytes.items) c.bytes.invariant.short) (omega (arith, c.next.ensures.most, length-append (byte_of c.next.result) c.next.new.self.waiting))

pub returns-then-ends_marker-clause-few : goal.returns-then-ends_marker-clause-few
returns-then-ends_marker-clause-few g c =
    reads_at_most _ _ (c.bytes.bytes.items ++ c.in-Some.byte ∷ []) _ _ (c.args.limit + 4) (Took-trans _ _ _ _ _ _ _ _ c.bytes.invariant.took (rw (c.in-Ok.is, c.in-Some.is) at c.next.ensures.took)) (omega (arith, length-append c.bytes.bytes.items (c.in-Some.byte ∷ []))) (omega (arith, c.next.ensures.most, length-append (byte_of c.next.result) c.next.new.self.waiting))

pub returns-in_err-add_run-in-Some-clause-few : goal.returns-in_err-add_run-in-Some-clause-few
returns-in_err-add_run-in-Some-clause-few g c =
    reads_at_most _ _ (c.bytes.bytes.items ++ c.in-Some.byte ∷ []) _ _ (c.args.limit + 4) (Took-trans _ _ _ _ _ _ _ _ c.bytes.invariant.took (rw (c.in-Ok.is, c.in-Some.is) at c.next.ensures.took)) (omega (arith, length-append c.bytes.bytes.items (c.in-Some.byte ∷ []))) (omega (arith, c.next.ensures.most, length-append (byte_of c.next.result) c.next.new.self.waiting))

pub returns-in-None-clause-few : goal.returns-in-None-clause-few
returns-in-None-clause-few g c =
    reads_at_most _ _ (c.bytes.bytes.items ++ byte_of c.next.result) _ _ (c.args.limit + 4) (Took-trans _ _ _ _ _ _ _ _ c.bytes.invariant.took c.next.ensures.took) (rw (c.in-Ok.is, c.in-None.is, append-nil c.bytes.bytes.items) c.bytes.invariant.short) (omega (arith, c.next.ensures.most, length-append (byte_of c.next.result) c.next.new.self.waiting))

pub returns-clause-few : goal.returns-clause-few
returns-clause-few g c = reads_at_most _ _ c.bytes.bytes.items _ _ (c.args.limit + 4) c.bytes.invariant.took c.bytes.invariant.short c.bytes.invariant.most

-- ---- how the reader and its source went on

pub returns-in-None-clause-goes : goal.returns-in-None-clause-goes
returns-in-None-clause-goes g c = Goes-trans _ _ _ _ _ _ c.bytes.invariant.goes c.next.ensures.goes

pub returns-clause-goes : goal.returns-clause-goes
returns-clause-goes g c = c.bytes.invariant.goes

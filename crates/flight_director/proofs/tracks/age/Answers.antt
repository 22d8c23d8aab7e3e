use Rattle.flight_director.proofs.Prelude.{◌≡◌, ◌∙◌, None, ap, arith, set, get_or, false, common_steps, get_or-set_other, Track, aged}
use Rattle.flight_director.proofs.Walks.{map-step}
use Rattle.flight_director.proofs.tracks.age.Goals as goal

pub loop-d-preserved : goal.loop-d-preserved
loop-d-preserved c =
    let d = c.loop-d.d in
    let none : Track = record { seen = None; off = None; unsure = None; outside = false } in
    let one : c.aged_by.result ≡ aged c.args.ms (get_or c.args.tracks.now d none) =
    c.aged_by.ensures ∙ ap (λ (t : Track). aged c.args.ms t) (c.loop-d.invariant.rest d (omega arith)) in
    record {
      older = ap (λ (t : Track). set c.loop-d.tracks d t) one
          ∙ (ap (λ ts. set ts d (aged c.args.ms (get_or c.args.tracks.now d none))) c.loop-d.invariant.older
          ∙ map-step (aged c.args.ms) c.args.tracks.now d c.loop-d-test.true);
      rest = λ j past. get_or-set_other c.loop-d.tracks d j c.aged_by.result none (λ same. omega (arith, same)) ∙ c.loop-d.invariant.rest j (omega arith);
    }

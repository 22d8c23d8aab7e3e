use Rattle.flight_director.proofs.Prelude.{◌≡◌, ◌∙◌, None, ap, arith, set, get_or, false, get_or-set_other, Track, renewed}
use Rattle.flight_director.proofs.Walks.{map-step}
use Rattle.flight_director.proofs.tracks.renew.Goals as goal

pub loop-d-preserved : goal.loop-d-preserved
loop-d-preserved c =
    let d = c.loop-d.d in
    let none : Track = record { seen = None; off = None; unsure = None; outside = false } in
    let one : c.renewed.result ≡ renewed (get_or c.args.tracks.now d none) =
    c.renewed.ensures ∙ ap (λ (t : Track). renewed t) (c.loop-d.invariant.rest d (omega arith)) in
    record {
      anew = ap (λ (t : Track). set c.loop-d.tracks d t) one
          ∙ (ap (λ ts. set ts d (renewed (get_or c.args.tracks.now d none))) c.loop-d.invariant.anew
          ∙ map-step renewed c.args.tracks.now d c.loop-d-test.true);
      rest = λ j past. get_or-set_other c.loop-d.tracks d j c.renewed.result none (λ same. omega (arith, same)) ∙ c.loop-d.invariant.rest j (omega arith);
    }

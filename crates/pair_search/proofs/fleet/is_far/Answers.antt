use Rattle.pair_search.proofs.Prelude.{subst, Clearance, IsClearance, IsFar}
use Rattle.pair_search.proofs.Axes.{far_separates}
use Rattle.pair_search.proofs.fleet.is_far.Goals as goal

pub returns : goal.returns
returns g c = λ yes.
    far_separates c.args.curves.now c.args.slot.a c.args.slot.b c.args.slot.cue c.extent_at-first.result c.extent_at-second.result c.extent_at-first.ensures c.extent_at-second.ensures
    c.args.ruler.now.clearance c.args.ruler.now.directions
    (subst IsClearance c.clearance-clearance.ensures.exact c.clearance-clearance.ensures.clear) c.requires.axes
    (subst (λ (clear : Clearance). IsFar clear c.extent_at-first.result c.extent_at-second.result) c.clearance-clearance.ensures.exact (c.are_far.ensures yes))

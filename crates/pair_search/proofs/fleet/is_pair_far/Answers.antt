use Rattle.pair_search.proofs.Prelude.{arith, get_or, subst, Clearance, IsClearance, Extent, IsFar, no_extent}
use Rattle.pair_search.proofs.Axes.{far_separates}
use Rattle.pair_search.proofs.fleet.is_pair_far.Goals as goal

pub are_far-requires-clause-first : goal.are_far-requires-clause-first
are_far-requires-clause-first g c = (c.requires.flights c.args.slot.a (omega (arith, c.requires.slot.first, c.requires.slot.second)) _ 0 (omega (arith, c.cues-cues.ensures.exact, c.cues-cues.ensures.some))).small

pub are_far-requires-clause-second : goal.are_far-requires-clause-second
are_far-requires-clause-second g c = (c.requires.flights c.args.slot.b c.requires.slot.second _ 0 (omega (arith, c.cues-cues.ensures.exact, c.cues-cues.ensures.some))).small

pub returns : goal.returns
returns g c = λ yes.
    let first : Extent = get_or c.args.flights.now c.args.slot.a no_extent in
    let second : Extent = get_or c.args.flights.now c.args.slot.b no_extent in
    record {
      begins = omega arith;
      each = λ cue less.
          far_separates c.args.curves.now c.args.slot.a c.args.slot.b cue first second
          (c.requires.flights c.args.slot.a (omega (arith, c.requires.slot.first, c.requires.slot.second)) no_extent cue less) (c.requires.flights c.args.slot.b c.requires.slot.second no_extent cue less)
          c.args.ruler.now.clearance c.args.ruler.now.directions
          (subst IsClearance c.clearance-clearance.ensures.exact c.clearance-clearance.ensures.clear) (c.requires.axes (cc))
          (subst (λ (clear : Clearance). IsFar clear first second) c.clearance-clearance.ensures.exact (c.are_far.ensures yes));
    }

-- What a search of a fleet finds, in the words of a plan.
use Rattle.show_plan.proofs.Prelude.{◌≡◌, ℕ, refl, ◌∙◌, ap, List, [], ◌∷◌, Option, Some, None, option_and_then, option_map, option_or, Slot, Raised, blocked_place, Clearance, BlockedPart, FailsBy, blocked_at, blocked_in, direction_at, measure_of, separation_fault}
use Rattle.pair_search.specs.declared.fleet.SearchFault.{SearchFault}
use Rattle.pair_search.specs.declared.fleet.SearchFault.TheVariants as search
use Rattle.pair_search.specs.Fleets as fleet

-- the part at which a search stops
abbrev part_of : SearchFault → Option BlockedPart
part_of (search.Blocked slot index) = Some (blocked_at slot index)
part_of search.Memory = None

module _ (e : Clearance) (depth : ℕ) (curves : Raised) where
  -- the first blocked part is that at which the search stops
  renamed : (ss : List Slot) → blocked_in e depth curves ss ≡ option_and_then part_of (fleet.blocked_in search.Blocked (measure_of e) depth curves ss)
  renamed [] = refl
  renamed (s ∷ ss) = by_place (blocked_place (direction_at e curves s) depth) (renamed ss)
    where
      by_place : (o : Option ℕ) → blocked_in e depth curves ss ≡ option_and_then part_of (fleet.blocked_in search.Blocked (measure_of e) depth curves ss) →
          option_or (option_map (blocked_at s) o) (blocked_in e depth curves ss)
          ≡ option_and_then part_of (option_or (option_map (search.Blocked s) o) (fleet.blocked_in search.Blocked (measure_of e) depth curves ss))
      by_place None later = later
      by_place (Some k) later = refl

  -- no part is blocked
  pub none_blocked : (ss : List Slot) → fleet.blocked_in search.Blocked (measure_of e) depth curves ss ≡ None → blocked_in e depth curves ss ≡ None
  none_blocked ss none = renamed ss ∙ ap (option_and_then part_of) none

  -- the search stops at the first part that is
  pub stopped_by : (ss : List Slot) (f : SearchFault) → fleet.StopsBy (fleet.blocked_in search.Blocked (measure_of e) depth curves ss) f → FailsBy (blocked_in e depth curves ss) (separation_fault f)
  stopped_by ss (search.Blocked slot index) stops = renamed ss ∙ ap (option_and_then part_of) stops
  stopped_by ss search.Memory stops = tt

-- What the definition of a show's first blocked part says of depth.
use Rattle.std.specs.Prelude.{◌≡◌, ℕ, pos, List, [], ◌∷◌, Option, Some, None}
use Rattle.traj_codec.specs.declared.traj.Traj.{Traj}
use Rattle.fleet_curves.specs.Raised.{raised_of}
use Rattle.sep_parts.specs.Slots.{slot_at}
use Rattle.sep_parts.specs.declared.clearance.Clearance.{Clearance}
use Rattle.show_plan.specs.Separation.{blocked_at, blocked_in, slots_of}
use Rattle.show_plan.specs.declared.separation.BlockedPart.{BlockedPart}
use Rattle.definition_tests.specs.Certified.{kept}
use Rattle.definition_tests.specs.Depths.{around}
use Rattle.definition_tests.specs.Flights.{flight}

-- a drone that stays at the origin, and one that flies around it
abbrev pub pair : List Traj
pair = flight (pos 0) (pos 0) ∷ around ∷ []

-- the first part of a depth in which none of the 98 directions separates them
abbrev pub blocked_by : Clearance → ℕ → Option BlockedPart
blocked_by c depth = blocked_in c depth (raised_of pair) (slots_of pair)

-- No direction separates the two in the whole cue: a depth of 0 refuses them, by its only part, and a depth of 1
-- accepts them. With half axes of 5 mm they touch at the beginning, so it refuses them by its first part.
pub record BlockedRows : Type 0 where
  pub whole : blocked_by (kept 0 0 0) 0 ≡ Some (blocked_at (slot_at 0 1 0) 0)
  pub in_halves : blocked_by (kept 0 0 0) 1 ≡ None
  pub touching : blocked_by (record (kept 0 0 0) { r = 5; h = 5 }) 1 ≡ Some (blocked_at (slot_at 0 1 0) 0)

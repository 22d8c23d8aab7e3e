-- Words of private steps and of what Curves keep. No public clause cites them.
use Rattle.std.specs.Prelude.{◌≡◌, ℕ, ◌*◌, ◌^◌, ◌≤◌, ℤ, List, length, map, All}
use Rattle.whole_numbers.specs.Limits.{most_cues, most_drones}
use Rattle.whole_numbers.specs.Numbers.{IsBelow}
use Rattle.bezier_core.specs.declared.Bez.{Bez}
use Rattle.traj_codec.specs.declared.traj.Segment.{Segment}
use Rattle.traj_codec.specs.Spelling.{stored}
use Rattle.traj_codec.specs.Positions.{element_on}
use Rattle.fleet_curves.specs.Raised.{Raised, curves_of}

-- an element has at most seven control points after its first one
abbrev pub IsFormed : Segment → Type 0
IsFormed s = (axis : ℕ) → axis ≤ 2 → length (stored (element_on s axis)) ≤ 7

-- the control values of a drone's curves in a cue are below 2^28
abbrev pub AreSmallCurves : List (Bez 8) → Type 0
AreSmallCurves curves = All (λ (curve : Bez 8). All (IsBelow (2 ^ 28)) curve.b) curves

-- those of a fleet
abbrev pub all_curves : List (List (List ℤ)) → List (List (Bez 8))
all_curves all = map curves_of all

-- what Curves keep: 1 to 32 drones, 1 to 1,000 cues, the curves of each, and their values below 2^28
pub record AreHeld (c : Raised) : Type 0 where
  pub some_drones : 1 ≤ c.drones
  pub few_drones : c.drones ≤ most_drones
  pub some_cues : 1 ≤ c.cues
  pub few_cues : c.cues ≤ most_cues
  pub total : length c.curves ≡ c.drones * c.cues
  pub small : All AreSmallCurves c.curves

-- What the definitions of near flights say of small ones.
use Rattle.std.specs.Prelude.{ℕ, ℤ, pos, negsuc, [], ◌∷◌}
use Rattle.choreo_show.specs.declared.parts.Point.{Point}
use Rattle.choreo_show.specs.declared.parts.Act.TheVariants as act
use Rattle.choreo_show.specs.declared.show.DroneLine.{DroneLine}
use Rattle.cue_grid.specs.declared.grid.Grid.{Grid}
use Rattle.figure_expand.specs.Expanded.{no_job}
use Rattle.show_plan.specs.Flight.{FliesNearOn, KeepsNearShow}
use Rattle.show_plan.specs.Trajectories.{sent}
use Rattle.definition_tests.specs.Flights.{flight}

-- a point of these micrometres on x, y and z, and tenths of a degree
abbrev pub spot : ℤ → ℤ → ℤ → ℤ → Point
spot x y z yaw = record { x = x; y = y; z = z; yaw = yaw }

-- a drone that begins at a point
abbrev pub begins_at : Point → DroneLine
begins_at p = record { line = 1; name = record { items = [] }; at = p }

-- the grid of one drone that holds at a point for this long
abbrev pub holding_for : ℕ → Point → Grid
holding_for ms p = record { starts = begins_at p ∷ []; cues = record { ms = ms; jobs = no_job ∷ [] } ∷ [] }

abbrev pub holding_at : Point → Grid
holding_at p = holding_for 10 p

-- that of two drones, in two cues of five milliseconds, of which the second drone goes evenly to a point in the later
-- cue
abbrev pub going_to : Point → Grid
going_to p = record {
  starts = begins_at (spot (pos 0) (pos 0) (pos 0) (pos 0)) ∷ begins_at (spot (pos 0) (pos 0) (pos 0) (pos 0)) ∷ [];
  cues = record { ms = 5; jobs = no_job ∷ no_job ∷ [] }
      ∷ record { ms = 5; jobs = no_job ∷ record no_job { act = act.Line p } ∷ [] } ∷ [];
}

-- that of a drone that is half a millimetre off the whole ones on x and on y
abbrev pub half_off : Grid
half_off = holding_at (spot (pos 500) (negsuc 499) (pos 0) (pos 7))

-- A drone that is sent to stay at 0 is not near to a show that holds it more than half a millimetre off on any axis, or
-- turned by any angle, or that is shorter or longer, or has another number of drones. Nor are two of which the last is
-- off at the end alone. What is sent where a show is half a millimetre off is near, at every instant.
pub record ShowRows : Type 0 where
  pub everywhere : KeepsNearShow half_off (sent half_off)
  pub half : FliesNearOn (holding_at (spot (pos 500) (pos 0) (pos 0) (pos 0))) 0 (flight (pos 0) (pos 0)) 0 7 2
  pub x : KeepsNearShow (holding_at (spot (pos 501) (pos 0) (pos 0) (pos 0))) (flight (pos 0) (pos 0) ∷ []) → ⊥
  pub y : KeepsNearShow (holding_at (spot (pos 0) (negsuc 500) (pos 0) (pos 0))) (flight (pos 0) (pos 0) ∷ []) → ⊥
  pub z : KeepsNearShow (holding_at (spot (pos 0) (pos 0) (pos 501) (pos 0))) (flight (pos 0) (pos 0) ∷ []) → ⊥
  pub yaw : KeepsNearShow (holding_at (spot (pos 0) (pos 0) (pos 0) (pos 1))) (flight (pos 0) (pos 0) ∷ []) → ⊥
  pub moves : KeepsNearShow (holding_at (spot (pos 0) (pos 0) (pos 0) (pos 0))) (flight (pos 0) (pos 1) ∷ []) → ⊥
  pub shorter : KeepsNearShow (holding_for 9 (spot (pos 0) (pos 0) (pos 0) (pos 0))) (flight (pos 0) (pos 0) ∷ []) → ⊥
  pub longer : KeepsNearShow (holding_for 11 (spot (pos 0) (pos 0) (pos 0) (pos 0))) (flight (pos 0) (pos 0) ∷ []) → ⊥
  pub last : KeepsNearShow (going_to (spot (pos 0) (pos 501) (pos 0) (pos 0)))
      (flight (pos 0) (pos 0) ∷ flight (pos 0) (pos 0) ∷ []) → ⊥
  pub count : KeepsNearShow (holding_at (spot (pos 0) (pos 0) (pos 0) (pos 0)))
      (flight (pos 0) (pos 0) ∷ flight (pos 0) (pos 0) ∷ []) → ⊥

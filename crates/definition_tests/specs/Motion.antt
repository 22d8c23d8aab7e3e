-- What the definitions of motion say of small flights.
use Rattle.std.specs.Prelude.{◌≡◌, ℕ, false, true, pos, List, [], ◌∷◌, Option, None, Some}
use Rattle.traj_codec.specs.declared.traj.Element.TheVariants.{Constant, Cubic}
use Rattle.traj_codec.specs.declared.traj.Traj.{Traj}
use Rattle.sep_parts.specs.Apart.{MovesWithin}
use Rattle.speed_bound.specs.Speed.{KeepsSpeed}
use Rattle.dynamics_bound.specs.Accelerations.{KeepsAcceleration}
use Rattle.dynamics_bound.specs.Edges.{HasVelocities, IsGreatestJump, KeepsTangents, is_rest_at, jump}
use Rattle.dynamics_bound.specs.Excesses.{IsWithinLimits}
use Rattle.show_judge.specs.Shows.{sent_of}
use Rattle.show_studies.specs.Dynamics.{KeepsDynamics, limits_of}
use Rattle.definition_tests.specs.Flights.{flight}

-- A millimetre a millisecond is a metre a second: 10^6 micrometres per second, and not one less. In 5 ms it is 5 mm.
pub record SpeedRows : Type 0 where
  pub keeps : KeepsSpeed (flight (pos 0) (pos 10)) 0 1000000
  pub faster : KeepsSpeed (flight (pos 0) (pos 10)) 0 999999 → ⊥
  pub within : MovesWithin 4 4 (flight (pos 0) (pos 10)) 0
  pub farther : MovesWithin 5 4 (flight (pos 0) (pos 10)) 0 → ⊥

-- ten milliseconds on x, 3 u^2 mm at the part u of them: a parabola from rest
abbrev pub parabola : Traj
parabola = record {
  start = pos 0 ∷ pos 0 ∷ pos 0 ∷ pos 0 ∷ [];
  segments = record { ms = 10; elements = Cubic (pos 0 ∷ pos 1 ∷ pos 3 ∷ []) ∷ Constant ∷ Constant ∷ Constant ∷ [] }
      ∷ [];
}

-- Its acceleration is 6 / 100 mm per square millisecond, 6 10^7 micrometres per second squared, and not one less; it
-- departs from its tangent by half of that times the square of the time.
pub record AccelerationRows : Type 0 where
  pub keeps : KeepsAcceleration parabola 0 60000000
  pub sharper : KeepsAcceleration parabola 0 59999999 → ⊥
  pub tangents : HasVelocities parabola 0
  pub off : KeepsTangents parabola 0 59999999 0 1 1 → ⊥

-- It begins at rest and ends at 6 / 10 mm a millisecond; the even flight begins and ends with a jump.
pub record JumpRows : Type 0 where
  pub from_rest : jump parabola 0 0 ≡ 0
  pub to_rest : jump parabola 0 1 ≡ 600000
  pub rests : is_rest_at parabola 0 ≡ true
  pub rests_not : is_rest_at parabola 1 ≡ false
  pub even_begins : jump (flight (pos 0) (pos 10)) 0 0 ≡ 1000000
  pub even_ends : jump (flight (pos 0) (pos 10)) 0 1 ≡ 1000000

-- The greatest jump of the parabola is at its end, and not the one at its beginning, which is none. The even flight has
-- two that are equal: the first of them counts.
pub record GreatestRows : Type 0 where
  pub at_the_end : IsGreatestJump parabola 0 (record { speed = pos 600000; segment = 1 })
  pub not_the_least : IsGreatestJump parabola 0 (record { speed = pos 0; segment = 0 }) → ⊥
  pub first : IsGreatestJump (flight (pos 0) (pos 10)) 0 (record { speed = pos 1000000; segment = 0 })
  pub not_the_second : IsGreatestJump (flight (pos 0) (pos 10)) 0 (record { speed = pos 1000000; segment = 1 }) → ⊥

-- A jump of a metre a second is within a limit of 1,000 mm/s, and not within one of 999. The parabola's jump at its
-- end, 600 mm/s, is not within 599, and its acceleration, 60,000 mm/s^2, not within 59,999. `dynamics` promises of no
-- show of such a drone that it keeps to 999 mm/s, nor of one of the parabola that it keeps to 59,999 mm/s^2.
pub record WithinRows : Type 0 where
  pub within : IsWithinLimits (limits_of None (Some 1000)) 0 (flight (pos 0) (pos 10))
  pub jumps : IsWithinLimits (limits_of None (Some 999)) 0 (flight (pos 0) (pos 10)) → ⊥
  pub last_jump : IsWithinLimits (limits_of None (Some 599)) 0 parabola → ⊥
  pub sharp : IsWithinLimits (limits_of (Some 59999) None) 0 parabola → ⊥
  pub keeps_jump : (input : List ℕ) (old new : Option (List ℕ)) (is : KeepsDynamics 0 None (Some 999) input old new) →
      sent_of is.s ≡ flight (pos 0) (pos 10) ∷ [] → ⊥
  pub keeps_acceleration : (input : List ℕ) (old new : Option (List ℕ))
      (is : KeepsDynamics 0 (Some 59999) None input old new) → sent_of is.s ≡ parabola ∷ [] → ⊥

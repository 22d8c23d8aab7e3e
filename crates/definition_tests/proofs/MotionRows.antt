-- Small motions: what the bounds that are computed promise, and what is refuted at one instant.
use Rattle.definition_tests.proofs.Prelude.{common_steps, ◌≡◌, ℕ, zero, suc, ◌≤◌, ◌<◌, pos, List, [], ◌∷◌, All, None, Some, arith, refl, All-cons, All-head, All-nil, bernstein, IsPiece, decoded, moment, raised_value, polar, Traj, pieces_on, segment_speed, speed, speed_of, widest_step, IsMoving, reach, formed_of, moves_reach, keeps_speed, pieces_formed, acceleration, acceleration_of, segment_acceleration, widest_bend, widest_bend_part, jump, jump_between, flight}
use Rattle.dynamics_bound.specs.Excesses.{IsWithinLimits}
use Rattle.dynamics_bound.specs.Motions.{KeepsMotion}
use Rattle.dynamics_bound.proofs.Ends.{has_velocities}
use Rattle.dynamics_bound.proofs.Segments.{keeps_acceleration}
use Rattle.show_studies.specs.Dynamics.{limits_of}
use Rattle.definition_tests.specs.Motion.{AccelerationRows, GreatestRows, JumpRows, SpeedRows, WithinRows, parabola}
use Rattle.definition_tests.proofs.KeptRows.{moving}

even : IsMoving (flight (pos 0) (pos 10))
even = moving 0 10 (omega arith) (omega arith)

pub speeds : SpeedRows
unfolding reach speed segment_speed speed_of widest_step polar bernstein raised_value decoded moment
speeds = record {
  keeps = keeps_speed 0 0 (flight (pos 0) (pos 10)) (omega arith) even.some even.durations (formed_of (flight (pos 0) (pos 10)).segments even.formed.segments);
  faster = λ keeps. let within = (keeps 0 1 10 1 (omega arith) (omega arith) (omega arith) (omega arith)).within in absurd (omega (arith, within));
  within = moves_reach 0 4 (flight (pos 0) (pos 10)) 0 (omega arith) even;
  farther = λ moves. let within = (moves 0 1 5 1 (omega arith) (omega arith) (omega arith) (omega arith) (record { before = omega arith; after = omega arith })).1 in absurd (omega (arith, within));
}

round : IsMoving parabola
round = record {
  formed = grind (arith, common_steps, All-cons, All-nil);
  some = omega arith;
  durations = grind (arith, common_steps, All-cons, All-nil);
}

pieces : All IsPiece (pieces_on 0 parabola)
pieces = pieces_formed 0 parabola.segments (omega arith) round.durations (formed_of parabola.segments round.formed.segments)

pub accelerations : AccelerationRows
unfolding acceleration segment_acceleration acceleration_of widest_bend_part widest_bend polar bernstein raised_value decoded
accelerations = record {
  keeps = keeps_acceleration 0 0 parabola pieces;
  sharper = λ keeps. let within = (keeps 0 1 0 1 2 (omega arith) (omega arith) (omega arith) (omega arith)).1 in absurd (omega (arith, within));
  tangents = has_velocities 0 parabola pieces;
  off = λ tangents. let within = tangents.first.1 in absurd (omega (arith, within));
}

pub jumps : JumpRows
unfolding jump jump_between
jumps = record { from_rest = refl; to_rest = refl; rests = refl; rests_not = refl; even_begins = refl; even_ends = refl }

-- of one segment the edges are 0 and 1
none_above : (edge : ℕ) → edge ≤ 1 → jump parabola 0 edge ≤ 600000
unfolding jump jump_between
none_above zero within = omega arith
none_above (suc zero) within = omega arith
none_above (suc (suc edge)) within = absurd (omega (arith, within))

each_less : (edge : ℕ) → edge < 1 → jump parabola 0 edge < 600000
unfolding jump jump_between
each_less zero before = omega arith
each_less (suc edge) before = absurd (omega (arith, before))

even_most : (edge : ℕ) → edge ≤ 1 → jump (flight (pos 0) (pos 10)) 0 edge ≤ 1000000
unfolding jump jump_between
even_most zero within = omega arith
even_most (suc zero) within = omega arith
even_most (suc (suc edge)) within = absurd (omega (arith, within))

pub greatest : GreatestRows
unfolding jump jump_between
greatest = record {
  at_the_end = record { inside = omega arith; here = refl; most = none_above; first = each_less };
  not_the_least = λ is. let most : 600000 ≤ 0 = is.most 1 (omega arith) in absurd (omega (arith, most));
  first = record { inside = omega arith; here = refl; most = even_most; first = λ edge before. absurd (omega (arith, before)) };
  not_the_second = λ is. let less : 1000000 < 1000000 = is.first 0 (omega arith) in absurd (omega (arith, less));
}

too_fast : IsWithinLimits (limits_of None (Some 999)) 0 (flight (pos 0) (pos 10)) → ⊥
unfolding jump jump_between
too_fast is = let most : 1000000 ≤ 999000 = is.jumps 0 0 (omega arith) (omega arith) in absurd (omega (arith, most))

ends_fast : IsWithinLimits (limits_of None (Some 599)) 0 parabola → ⊥
unfolding jump jump_between
ends_fast is = let most : 600000 ≤ 599000 = is.jumps 0 1 (omega arith) (omega arith) in absurd (omega (arith, most))

too_sharp : IsWithinLimits (limits_of (Some 59999) None) 0 parabola → ⊥
unfolding acceleration segment_acceleration acceleration_of widest_bend_part widest_bend polar bernstein raised_value
too_sharp is = let most : 60000000 ≤ 59999000 = is.acceleration 0 (omega arith) in absurd (omega (arith, most))

-- on x it jumps by a metre a second at both ends, and on y and z not
jumps_little : (axis edge : ℕ) → axis ≤ 2 → edge ≤ 1 → jump (flight (pos 0) (pos 10)) axis edge ≤ 1000000
unfolding jump jump_between
jumps_little zero zero within inside = omega arith
jumps_little zero (suc zero) within inside = omega arith
jumps_little (suc zero) zero within inside = omega arith
jumps_little (suc zero) (suc zero) within inside = omega arith
jumps_little (suc (suc zero)) zero within inside = omega arith
jumps_little (suc (suc zero)) (suc zero) within inside = omega arith
jumps_little (suc (suc (suc axis))) edge within inside = absurd (omega (arith, within))
jumps_little axis (suc (suc edge)) within inside = absurd (omega (arith, inside))

jump_kept : (ts : List Traj) → ts ≡ flight (pos 0) (pos 10) ∷ [] → All (KeepsMotion (limits_of None (Some 999)) 0) ts → ⊥
jump_kept ts are keeps =
    let all : All (KeepsMotion (limits_of None (Some 999)) 0) (flight (pos 0) (pos 10) ∷ []) = rw are at keeps in
    too_fast (All-head (KeepsMotion (limits_of None (Some 999)) 0) (flight (pos 0) (pos 10)) [] all).within

acceleration_kept : (ts : List Traj) → ts ≡ parabola ∷ [] → All (KeepsMotion (limits_of (Some 59999) None) 0) ts → ⊥
acceleration_kept ts are keeps =
    let all : All (KeepsMotion (limits_of (Some 59999) None) 0) (parabola ∷ []) = rw are at keeps in
    too_sharp (All-head (KeepsMotion (limits_of (Some 59999) None) 0) parabola [] all).within

pub within : WithinRows
within = record {
  within = record { acceleration = tt; jumps = jumps_little };
  jumps = too_fast;
  last_jump = ends_fast;
  sharp = too_sharp;
  keeps_jump = λ input old new is are. jump_kept _ are is.keeps;
  keeps_acceleration = λ input old new is are. acceleration_kept _ are is.keeps;
}

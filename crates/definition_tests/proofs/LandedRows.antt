-- What is not stored, computed.
use Rattle.definition_tests.proofs.Prelude.{◌≡◌, ℕ, pos, List, [], ◌∷◌, None, Some, ap, get_or, arith, refl, bernstein, decoded, moment, spelling, Traj, Settings, FlyApart, flight, place, LandedRows, settings}
use Rattle.definition_tests.proofs.NearRows.{show}
use Rattle.definition_tests.proofs.CarriedRows.{third}

-- the flights differ in the lower byte of their last number
distinct : flight (pos 0) (pos 2) ≡ flight (pos 0) (pos 1) → ⊥
distinct same = let bytes : ◌≡◌ {A = ℕ} 2 1 = ap (λ (t : Traj). get_or (spelling t) 11 0) same in omega (arith, bytes)

-- drones that stay a millimetre from each other touch
touching : FlyApart settings (flight (pos 50) (pos 50) ∷ flight (pos 51) (pos 51) ∷ []) → ⊥
unfolding bernstein decoded moment
touching apart =
    let share = apart 0 1 (flight (pos 50) (pos 50)) (flight (pos 51) (pos 51)) (λ e. absurd (omega (arith, e))) refl refl 0 1 0 1 (omega arith) (omega arith) (omega arith) (omega arith)
    (record { before = omega arith; after = omega arith }) (place (pos 50) (pos 0) (pos 0)) (place (pos 51) (pos 0) (pos 0))
    (record { some = omega arith; near = omega arith }) (record { some = omega arith; near = omega arith }) in
    let low = share.apart in omega (arith, low)

-- whatever settings and trajectories these are
pub touch : (e : Settings) (ts : List Traj) → e ≡ settings → ts ≡ flight (pos 50) (pos 50) ∷ flight (pos 51) (pos 51) ∷ [] → FlyApart e ts → ⊥
touch e ts e_is ts_is apart = touching (rw e_is at (rw ts_is at apart))

pub landed : LandedRows
unfolding bernstein decoded moment
landed = record {
  no_ending = λ g readback start old is. third (is.carried 0 (omega arith));
  other_byte = λ g readback start is. let same = (is.untouched 0 (omega arith)).outside 18 (λ inside. let high = inside.1 in absurd (omega (arith, high))) in absurd (omega (arith, same));
  not_started = λ g readback old is. let started : None ≡ Some 0 = is.started refl 0 (omega arith) in absurd (cc);
  far = λ readback start old new is. show.x is.near;
  other = λ g readback start old new is decodes. let same = is.only 0 (flight (pos 0) (pos 2)) (omega arith) decodes in distinct same;
  fewer = λ readback start old new is. let count = is.near.drones in absurd (omega (arith, count));
  touching = λ g readback start old new is. touching is.apart;
}

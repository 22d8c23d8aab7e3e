-- From the raised differences to the decoded positions.
use Rattle.sep_parts.proofs.Prelude.{common_steps, ◌≡◌, refl, ℕ, zero, suc, ◌≤◌, ◌<◌, ℤ, pos, negsuc, neg_ℤ, ◌+ℤ◌, ◌-ℤ◌, ◌*ℤ◌, ◌≤ℤ◌, ◌<ℤ◌, arith, sym, ◌∙◌, ap, List, length, ints, power, at, bernstein, Moment, ring, linear, le_from_mul_ℤ, one_mul_ℤ, neg_mul_ℤ, bernstein-same, bernstein-mix, cong_add, Bez, controls, eight, raised, at-eight, raise, Traj, decoded, points, Raised, curves_at, difference, less, raised_in, Clearance, AreSmall, threshold, weights}
use Rattle.whole_numbers.specs.Decoded as plain
use Rattle.sep_parts.proofs.Lifts.{near_gap}
use Rattle.sep_parts.proofs.Strays.{dot}
use Rattle.sep_parts.proofs.Directed.{IsSeenRaised, cue_of}
use Rattle.fleet_curves.proofs.Standing.{has_points}

-- ---- the gap is the difference of the curves, over 5,040
minus_ring : (x y : ℤ) → pos 1 *ℤ x +ℤ negsuc 0 *ℤ y ≡ x -ℤ y
minus_ring x y = cong_add (one_mul_ℤ x) (neg_mul_ℤ (pos 1) y ∙ ap (λ (z : ℤ). neg_ℤ z) (one_mul_ℤ y))

-- the sum of differences is the difference of the sums
difference_value : (f g : ℕ → ℤ) (a c : ℤ) → bernstein 7 (at (eight (λ k. f k -ℤ g k))) a c ≡ bernstein 7 f a c -ℤ bernstein 7 g a c
difference_value f g a c =
    bernstein-same 7 (at (eight (λ k. f k -ℤ g k))) (λ k. pos 1 *ℤ f k +ℤ negsuc 0 *ℤ g k) a c (λ k small. at-eight (λ k. f k -ℤ g k) k small ∙ sym (minus_ring (f k) (g k)))
    ∙ bernstein-mix 7 (pos 1) (negsuc 0) f g a c ∙ minus_ring (bernstein 7 f a c) (bernstein 7 g a c)

-- a drone's raised curves on an axis
pub raised_axis : (t : Traj) (cue axis : ℕ) → axis ≤ 2 → controls (raised_in t cue) axis ≡ raised (points t cue axis)
raised_axis t cue zero near = refl
raised_axis t cue (suc zero) near = refl
raised_axis t cue (suc (suc zero)) near = refl
raised_axis t cue (suc (suc (suc k))) near = absurd (omega arith)

-- the value of a raised curve is 5,040 times the decoded position
pub curve_value : (t : Traj) (m : Moment) (axis : ℕ) (curves : List (Bez 8)) → curves ≡ raised_in t m.cue → m.cue < length t.segments → axis ≤ 2 → length (points t m.cue axis) ≤ 8 →
    bernstein 7 (at (controls curves axis)) (pos m.a) (pos m.c) ≡ pos 5040 *ℤ decoded t axis m
unfolding plain.decoded
curve_value t m axis curves is inside near few = grind (arith, common_steps, pos, raised_axis, raise, has_points)

scale_minus : (s x y : ℤ) → s *ℤ x -ℤ s *ℤ y ≡ s *ℤ (x -ℤ y)
scale_minus s x y = simp ring (omega (arith, linear))

less_value : (t u : Traj) (m : Moment) (axis : ℕ) (first second : List (Bez 8)) → first ≡ raised_in t m.cue → second ≡ raised_in u m.cue →
    m.cue < length t.segments → m.cue < length u.segments → axis ≤ 2 → length (points t m.cue axis) ≤ 8 → length (points u m.cue axis) ≤ 8 →
    bernstein 7 (at (less second first axis).b) (pos m.a) (pos m.c) ≡ pos 5040 *ℤ near_gap t u m axis
less_value t u m axis first second first_is second_is t_in u_in near t_few u_few =
    difference_value (at (controls second axis)) (at (controls first axis)) (pos m.a) (pos m.c)
    ∙ minus_same (curve_value u m axis second second_is u_in near u_few) (curve_value t m axis first first_is t_in near t_few)
    ∙ scale_minus (pos 5040) (decoded u axis m) (decoded t axis m)
  where
    minus_same : {x y z w : ℤ} → x ≡ y → z ≡ w → x -ℤ z ≡ y -ℤ w
    minus_same {x} {y} {z} {w} p q = cc

-- ---- 5,040 cancels
along_ring : (u v w s x y z : ℤ) → u *ℤ (s *ℤ x) +ℤ v *ℤ (s *ℤ y) +ℤ w *ℤ (s *ℤ z) ≡ (u *ℤ x +ℤ v *ℤ y +ℤ w *ℤ z) *ℤ s
along_ring u v w s x y z = simp ring (omega (arith, linear))

scale_ring : (t s k : ℤ) → t *ℤ (s *ℤ k) ≡ (t *ℤ k) *ℤ s
scale_ring t s k = simp ring refl

along_unscaled : (t u v w s k x y z : ℤ) → pos 0 <ℤ s → (t *ℤ (s *ℤ k)) ≤ℤ (u *ℤ (s *ℤ x) +ℤ v *ℤ (s *ℤ y) +ℤ w *ℤ (s *ℤ z)) → (t *ℤ k) ≤ℤ (u *ℤ x +ℤ v *ℤ y +ℤ w *ℤ z)
along_unscaled t u v w s k x y z positive along =
    le_from_mul_ℤ (t *ℤ k) (u *ℤ x +ℤ v *ℤ y +ℤ w *ℤ z) s positive (omega (arith, linear, along, scale_ring t s k, along_ring u v w s x y z))

-- Along some direction the second drone is at least its threshold from the first, where both are over one c.
pub record IsSeenAt (clear : Clearance) (t u : Traj) (m : Moment) : Type 0 where
  pub n : List ℤ
  pub small : AreSmall n
  pub along : (threshold clear n *ℤ power (pos m.c) 7) ≤ℤ dot (at (weights n clear.r clear.h)) (near_gap t u m)

-- Where the raised differences are that far apart at a moment, the decoded positions are.
pub decoded_seen : (clear : Clearance) (curves : Raised) (a b : ℕ) (t u : Traj) (m : Moment) → curves_at curves a m.cue ≡ raised_in t m.cue → curves_at curves b m.cue ≡ raised_in u m.cue →
    m.cue < length t.segments → m.cue < length u.segments → ((axis : ℕ) → axis ≤ 2 → length (points t m.cue axis) ≤ 8) → ((axis : ℕ) → axis ≤ 2 → length (points u m.cue axis) ≤ 8) →
    IsSeenRaised clear (cue_of (difference curves a b m.cue)) (pos m.a) (pos m.c) → IsSeenAt clear t u m
unfolding difference
decoded_seen clear curves a b t u m first_is second_is t_in u_in t_few u_few seen =
    let value : (axis : ℕ) → axis ≤ 2 → bernstein 7 (at (less (curves_at curves b m.cue) (curves_at curves a m.cue) axis).b) (pos m.a) (pos m.c) ≡ pos 5040 *ℤ near_gap t u m axis =
    λ axis near. less_value t u m axis (curves_at curves a m.cue) (curves_at curves b m.cue) first_is second_is t_in u_in near (t_few axis near) (u_few axis near) in
    record {
      n = seen.n;
      small = seen.small;
      along = along_unscaled (threshold clear seen.n) (at seen.n 0 *ℤ pos clear.h) (at seen.n 1 *ℤ pos clear.h) (at seen.n 2 *ℤ pos clear.r) (pos 5040) (power (pos m.c) 7)
          (near_gap t u m 0) (near_gap t u m 1) (near_gap t u m 2) (omega (arith, ints))
          (rw (← value 0 (omega arith), ← value 1 (omega arith), ← value 2 (omega arith)) seen.along);
    }

-- From one cutting into segments to another.
use Rattle.sep_parts.proofs.Prelude.{common_steps, ◌≡◌, ℕ, suc, zero, ◌+◌, ◌-◌, ◌*◌, ◌≤◌, ℤ, pos, negsuc, ◌+ℤ◌, ◌-ℤ◌, ◌*ℤ◌, ◌≤ℤ◌, ◌<ℤ◌, unsigned_abs, arith, refl, sym, ap, ◌∙◌, subst, Bool, true, false, cond, nat_le, List, [], ◌∷◌, All, map, Option, Some, slice_get, sum, All-head, All-tail, ints, power, Moment, moment, moment_from, ring, linear, le_from_mul_ℤ, le_mul_ℤ, mul_comm_ℤ, mul_positive, power-add, power-mul, power_positive, Traj, decoded, durations, own, IsLasting, SameCurve, joined, JoinLaw, ApartLaw, FlyApart, FlyApartExactly, MayBeAt, Point, SentLaw, ShareNoPoint, aside, gap, square}
use Rattle.sep_parts.proofs.Cauchy.{square_positive}

-- ---- numbers
square_of : (x : ℤ) → power x 14 ≡ power x 7 *ℤ power x 7
square_of x = power-add x 7 7

-- ---- apart

-- the gap over both denominators, times those of the other cutting
gap_lift : (x y X Y R S P Q : ℤ) → (P *ℤ x) ≡ (R *ℤ X) → (Q *ℤ y) ≡ (S *ℤ Y) → (Y *ℤ P -ℤ X *ℤ Q) *ℤ (R *ℤ S) ≡ (y *ℤ R -ℤ x *ℤ S) *ℤ (P *ℤ Q)
gap_lift x y X Y R S P Q first second = spread X Y R S P Q ∙ rw (sym first, sym second) (gather x y R S P Q)
  where
    spread : (X Y R S P Q : ℤ) → (Y *ℤ P -ℤ X *ℤ Q) *ℤ (R *ℤ S) ≡ ((S *ℤ Y) *ℤ P) *ℤ R -ℤ ((R *ℤ X) *ℤ Q) *ℤ S
    spread X Y R S P Q = simp ring (omega (arith, linear))

    gather : (x y R S P Q : ℤ) → ((Q *ℤ y) *ℤ P) *ℤ R -ℤ ((P *ℤ x) *ℤ Q) *ℤ S ≡ (y *ℤ R -ℤ x *ℤ S) *ℤ (P *ℤ Q)
    gather x y R S P Q = simp ring (omega (arith, linear))

-- a sum of squares, each gap times a number
squares : (a b u v w n : ℤ) → (a *ℤ (u *ℤ u +ℤ v *ℤ v) +ℤ b *ℤ (w *ℤ w)) *ℤ (n *ℤ n) ≡ a *ℤ ((u *ℤ n) *ℤ (u *ℤ n) +ℤ (v *ℤ n) *ℤ (v *ℤ n)) +ℤ b *ℤ ((w *ℤ n) *ℤ (w *ℤ n))
squares a b u v w n = simp ring (omega (arith, linear))

turn : (k c n : ℤ) → (k *ℤ (c *ℤ c)) *ℤ (n *ℤ n) ≡ (k *ℤ (n *ℤ n)) *ℤ (c *ℤ c)
turn k c n = simp ring refl

-- the inequality over one denominator is that over another
pub lift : (k a b C N u v w U V W : ℤ) → pos 0 <ℤ C → (U *ℤ C) ≡ (u *ℤ N) → (V *ℤ C) ≡ (v *ℤ N) → (W *ℤ C) ≡ (w *ℤ N) →
    (k *ℤ (C *ℤ C)) ≤ℤ (a *ℤ (u *ℤ u +ℤ v *ℤ v) +ℤ b *ℤ (w *ℤ w)) → (k *ℤ (N *ℤ N)) ≤ℤ (a *ℤ (U *ℤ U +ℤ V *ℤ V) +ℤ b *ℤ (W *ℤ W))
lift k a b C N u v w U V W c_pos eu ev ew far =
    let more : ((N *ℤ N) *ℤ (k *ℤ (C *ℤ C))) ≤ℤ ((N *ℤ N) *ℤ (a *ℤ (u *ℤ u +ℤ v *ℤ v) +ℤ b *ℤ (w *ℤ w))) =
    le_mul_ℤ (N *ℤ N) (k *ℤ (C *ℤ C)) (a *ℤ (u *ℤ u +ℤ v *ℤ v) +ℤ b *ℤ (w *ℤ w)) (square_positive N) far in
    let right : (a *ℤ (u *ℤ u +ℤ v *ℤ v) +ℤ b *ℤ (w *ℤ w)) *ℤ (N *ℤ N) ≡ (a *ℤ (U *ℤ U +ℤ V *ℤ V) +ℤ b *ℤ (W *ℤ W)) *ℤ (C *ℤ C) =
    squares a b u v w N ∙ rw (sym eu, sym ev, sym ew) (sym (squares a b U V W C)) in
    le_from_mul_ℤ (k *ℤ (N *ℤ N)) (a *ℤ (U *ℤ U +ℤ V *ℤ V) +ℤ b *ℤ (W *ℤ W)) (C *ℤ C) (mul_positive C C c_pos c_pos)
    (swap (mul_comm_ℤ (N *ℤ N) (k *ℤ (C *ℤ C)) ∙ turn k C N) (mul_comm_ℤ (N *ℤ N) (a *ℤ (u *ℤ u +ℤ v *ℤ v) +ℤ b *ℤ (w *ℤ w)) ∙ right) more)
  where
    swap : {x y z t : ℤ} → x ≡ y → z ≡ t → x ≤ℤ z → y ≤ℤ t
    swap {x} {y} {z} {t} p q h = omega (arith, linear)

-- an instant has a denominator of at least 1
pub own_some : (t : Traj) (p q : ℕ) → 1 ≤ q → IsLasting t → 1 ≤ (own t p q).c
unfolding moment
own_some t p q some lasting = go (durations t.segments) 0 0 lasting
  where
    go : (times : List ℕ) (t0 k : ℕ) → All (λ ms. 1 ≤ ms) times → 1 ≤ (moment_from t0 k times p q).c
    go [] t0 k all = some
    go (ms ∷ rest) t0 k all = by_test (nat_le p (q * (t0 + ms))) _ (go rest (t0 + ms) (suc k) (All-tail (λ (ms : ℕ). 1 ≤ ms) ms rest all))
      where
        here : 1 ≤ q * ms
        here = let last : 1 ≤ ms = All-head (λ (ms : ℕ). 1 ≤ ms) ms rest all in grind arith

        by_test : (b : Bool) (m : Moment) → 1 ≤ m.c → 1 ≤ (cond b (record { cue = k; a = p - q * t0; c = q * ms }) m).c
        by_test true m h = here
        by_test false m h = h

pub seventh_positive : (c : ℕ) → 1 ≤ c → pos 0 <ℤ power (pos c) 7
seventh_positive c some = power_positive (pos c) 7 (omega (arith, ints))

-- both denominators to the fourteenth
pub whole_of : (x y : ℤ) → power (x *ℤ y) 14 ≡ (power x 7 *ℤ power y 7) *ℤ (power x 7 *ℤ power y 7)
whole_of x y = square_of (x *ℤ y) ∙ ap (λ (z : ℤ). z *ℤ z) (power-mul x y 7)

pub apart_lifts : ApartLaw
apart_lifts t u other_t other_u r h p q some t_lasts u_lasts other_t_lasts other_u_lasts t_same u_same far =
    let R : ℤ = power (pos (own t p q).c) 7 in
    let S : ℤ = power (pos (own u p q).c) 7 in
    let P : ℤ = power (pos (own other_t p q).c) 7 in
    let Q : ℤ = power (pos (own other_u p q).c) 7 in
    let old : (pos (48 * (r * r) * (h * h) + 1) *ℤ ((R *ℤ S) *ℤ (R *ℤ S))) ≤ℤ _ =
    subst (λ (z : ℤ). (pos (48 * (r * r) * (h * h) + 1) *ℤ z) ≤ℤ
    (pos (12 * (h * h)) *ℤ (gap t u p q 0 *ℤ gap t u p q 0 +ℤ gap t u p q 1 *ℤ gap t u p q 1) +ℤ pos (12 * (r * r)) *ℤ (gap t u p q 2 *ℤ gap t u p q 2)))
    (whole_of (pos (own t p q).c) (pos (own u p q).c)) far.apart in
    let new = lift (pos (48 * (r * r) * (h * h) + 1)) (pos (12 * (h * h))) (pos (12 * (r * r))) (R *ℤ S) (P *ℤ Q) (gap t u p q 0) (gap t u p q 1) (gap t u p q 2)
    (gap other_t other_u p q 0) (gap other_t other_u p q 1) (gap other_t other_u p q 2)
    (mul_positive R S (seventh_positive (own t p q).c (own_some t p q some t_lasts)) (seventh_positive (own u p q).c (own_some u p q some u_lasts)))
    (axis_lift 0) (axis_lift 1) (axis_lift 2) old in
    record {
      apart = subst (λ (z : ℤ). (pos (48 * (r * r) * (h * h) + 1) *ℤ z) ≤ℤ
          (pos (12 * (h * h)) *ℤ (gap other_t other_u p q 0 *ℤ gap other_t other_u p q 0 +ℤ gap other_t other_u p q 1 *ℤ gap other_t other_u p q 1)
          +ℤ pos (12 * (r * r)) *ℤ (gap other_t other_u p q 2 *ℤ gap other_t other_u p q 2)))
          (sym (whole_of (pos (own other_t p q).c) (pos (own other_u p q).c))) new;
    }
  where
    axis_lift : (axis : ℕ) → gap other_t other_u p q axis *ℤ (power (pos (own t p q).c) 7 *ℤ power (pos (own u p q).c) 7)
        ≡ gap t u p q axis *ℤ (power (pos (own other_t p q).c) 7 *ℤ power (pos (own other_u p q).c) 7)
    axis_lift axis = gap_lift (decoded t axis (own t p q)) (decoded u axis (own u p q)) (decoded other_t axis (own other_t p q)) (decoded other_u axis (own other_u p q))
        (power (pos (own t p q).c) 7) (power (pos (own u p q).c) 7) (power (pos (own other_t p q).c) 7) (power (pos (own other_u p q).c) 7) (t_same axis p q) (u_same axis p q)

-- how far the second drone's decoded position is from the first one's on an axis where both are over one c
abbrev pub near_gap : Traj → Traj → Moment → ℕ → ℤ
near_gap t u m axis = decoded u axis m -ℤ decoded t axis m

-- ---- a list of trajectories

-- what is at a place of the joined ones
pub sent_at : (trajs : List Traj) (a : ℕ) (u : Traj) → slice_get (map joined trajs) a ≡ Some u → (t : Traj) × (slice_get trajs a ≡ Some t) × (u ≡ joined t)
sent_at [] zero u e = absurd (cc)
sent_at [] (suc a) u e = absurd (cc)
sent_at (t ∷ trajs) zero u e = grind (arith, common_steps)
sent_at (t ∷ trajs) (suc a) u e = sent_at trajs a u e

pub lasting_at : (trajs : List Traj) (a : ℕ) (t : Traj) → All IsLasting trajs → slice_get trajs a ≡ Some t → IsLasting t
lasting_at [] zero t all e = absurd (cc)
lasting_at [] (suc a) t all e = absurd (cc)
lasting_at (u ∷ trajs) zero t all e = subst IsLasting (some_inside u t e) (All-head IsLasting u trajs all)
  where
    some_inside : (x y : Traj) → ◌≡◌ {A = Option Traj} (Some x) (Some y) → x ≡ y
    some_inside x y e = cc
lasting_at (u ∷ trajs) (suc a) t all e = lasting_at trajs a t (All-tail IsLasting u trajs all) e

-- ---- where drones may be

-- a distance over one denominator is that over the other
near_lift : (r C D d a0 a1 a2 b0 b1 b2 : ℤ) → pos 0 <ℤ D → (a0 *ℤ D) ≡ (b0 *ℤ C) → (a1 *ℤ D) ≡ (b1 *ℤ C) → (a2 *ℤ D) ≡ (b2 *ℤ C) →
    (square b0 +ℤ square b1 +ℤ square b2) ≤ℤ square (r *ℤ (D *ℤ d)) → (square a0 +ℤ square a1 +ℤ square a2) ≤ℤ square (r *ℤ (C *ℤ d))
near_lift r C D d a0 a1 a2 b0 b1 b2 positive first second third near =
    le_from_mul_ℤ (square a0 +ℤ square a1 +ℤ square a2) (square (r *ℤ (C *ℤ d))) (D *ℤ D) (mul_positive D D positive positive)
    (swap (le_mul_ℤ (C *ℤ C) (square b0 +ℤ square b1 +ℤ square b2) (square (r *ℤ (D *ℤ d))) (square_positive C) near)
    (sums b0 b1 b2 C ∙ rw (← first, ← second, ← third) (sym (sums_right a0 a1 a2 D))) (ends r C D d))
  where
    sums : (x y z n : ℤ) → (n *ℤ n) *ℤ (square x +ℤ square y +ℤ square z) ≡ square (x *ℤ n) +ℤ square (y *ℤ n) +ℤ square (z *ℤ n)
    sums x y z n = simp ring (omega (arith, linear))

    sums_right : (x y z n : ℤ) → (square x +ℤ square y +ℤ square z) *ℤ (n *ℤ n) ≡ square (x *ℤ n) +ℤ square (y *ℤ n) +ℤ square (z *ℤ n)
    sums_right x y z n = simp ring (omega (arith, linear))

    ends : (r C D d : ℤ) → (C *ℤ C) *ℤ square (r *ℤ (D *ℤ d)) ≡ square (r *ℤ (C *ℤ d)) *ℤ (D *ℤ D)
    ends r C D d = simp ring refl

    swap : {x y z t : ℤ} → x ≤ℤ y → x ≡ z → y ≡ t → z ≤ℤ t
    swap {x} {y} {z} {t} h p q = omega (arith, linear)

-- Where a drone may be by some segments, it may be by others that make the same curve.
pub may_be_lifts : (stray : ℕ) (t u : Traj) (p q : ℕ) (point : Point) → 1 ≤ q → IsLasting u → SameCurve t u → MayBeAt stray u p q point → MayBeAt stray t p q point
may_be_lifts stray t u p q point some lasts same at = record {
  some = at.some;
  near = near_lift (pos stray) (power (pos (own t p q).c) 7) (power (pos (own u p q).c) 7) (pos point.over) (aside t p q point 0) (aside t p q point 1) (aside t p q point 2)
      (aside u p q point 0) (aside u p q point 1) (aside u p q point 2) (seventh_positive (own u p q).c (own_some u p q some lasts)) (on 0) (on 1) (on 2) at.near;
}
  where
    spread : (x C D X Y d : ℤ) → (D *ℤ X) ≡ (C *ℤ Y) → (x *ℤ C -ℤ X *ℤ d) *ℤ D ≡ (x *ℤ D -ℤ Y *ℤ d) *ℤ C
    spread x C D X Y d e = left x C D X d ∙ ap (λ (z : ℤ). (x *ℤ C) *ℤ D -ℤ z *ℤ d) e ∙ sym (right x C D Y d)
      where
        left : (x C D X d : ℤ) → (x *ℤ C -ℤ X *ℤ d) *ℤ D ≡ (x *ℤ C) *ℤ D -ℤ (D *ℤ X) *ℤ d
        left x C D X d = simp ring (omega (arith, linear))

        right : (x C D Y d : ℤ) → (x *ℤ D -ℤ Y *ℤ d) *ℤ C ≡ (x *ℤ C) *ℤ D -ℤ (C *ℤ Y) *ℤ d
        right x C D Y d = simp ring (omega (arith, linear))

    on : (axis : ℕ) → aside t p q point axis *ℤ power (pos (own u p q).c) 7 ≡ aside u p q point axis *ℤ power (pos (own t p q).c) 7
    on axis = spread (point.on axis) (power (pos (own t p q).c) 7) (power (pos (own u p q).c) 7) (decoded t axis (own t p q)) (decoded u axis (own u p q)) (pos point.over) (same axis p q)

pub sent_apart : JoinLaw → SentLaw
sent_apart law r h stray late trajs lasting far a b t u differ t_is u_is p q s w p_some w_some p_before s_before together first second at_first at_second =
    let one = sent_at trajs a t t_is in
    let two = sent_at trajs b u u_is in
    let t_lasts : IsLasting one.0 = lasting_at trajs a one.0 lasting one.1 in
    let u_lasts : IsLasting two.0 = lasting_at trajs b two.0 lasting two.1 in
    let t_sum : sum (durations t.segments) ≡ sum (durations one.0.segments) = ap (λ (x : Traj). sum (durations x.segments)) one.2 ∙ law.lasts one.0 in
    let u_sum : sum (durations u.segments) ≡ sum (durations two.0.segments) = ap (λ (x : Traj). sum (durations x.segments)) two.2 ∙ law.lasts two.0 in
    far a b one.0 two.0 differ one.1 two.1 p q s w p_some w_some (subst (λ (n : ℕ). p ≤ q * n) t_sum p_before) (subst (λ (n : ℕ). s ≤ w * n) u_sum s_before) together first second
    (may_be_lifts stray one.0 (joined one.0) p q first p_some (law.last one.0 t_lasts) (law.same one.0 t_lasts) (subst (λ (x : Traj). MayBeAt stray x p q first) one.2 at_first))
    (may_be_lifts stray two.0 (joined two.0) s w second w_some (law.last two.0 u_lasts) (law.same two.0 u_lasts) (subst (λ (x : Traj). MayBeAt stray x s w second) two.2 at_second))

-- ---- drones that fly exactly

-- where the trajectory puts a drone, as a point
pub exact_point : Traj → ℕ → ℕ → Point
exact_point t p q = record { on = λ axis. decoded t axis (own t p q); over = unsigned_abs (power (pos (own t p q).c) 7) }

over_is : (z : ℤ) → pos 0 <ℤ z → pos (unsigned_abs z) ≡ z
over_is (pos k) positive = refl
over_is (negsuc k) positive = absurd (omega (arith, ints))

at_exact_point : (stray : ℕ) (t : Traj) (p q : ℕ) → 1 ≤ q → IsLasting t → MayBeAt stray t p q (exact_point t p q)
unfolding exact_point
at_exact_point stray t p q some lasts = grind (arith, common_steps, ints, pos, seventh_positive, own_some, unsigned_abs, over_is, square_positive)

-- the inequality over these denominators
abbrev Far : ℤ → ℤ → ℤ → (ℕ → ℤ) → (ℕ → ℤ) → ℤ → ℤ → Type 0
Far k a b x y C D =
    (k *ℤ square (C *ℤ D)) ≤ℤ (a *ℤ (square (y 0 *ℤ C -ℤ x 0 *ℤ D) +ℤ square (y 1 *ℤ C -ℤ x 1 *ℤ D)) +ℤ b *ℤ square (y 2 *ℤ C -ℤ x 2 *ℤ D))

pub exactly_apart : (r h stray late : ℕ) (trajs : List Traj) → All IsLasting trajs → FlyApart r h stray late trajs → FlyApartExactly r h trajs
unfolding exact_point
exactly_apart r h stray late trajs lasting far a b t u differ t_is u_is p q some t_before u_before =
    let t_lasts : IsLasting t = lasting_at trajs a t lasting t_is in
    let u_lasts : IsLasting u = lasting_at trajs b u lasting u_is in
    let C : ℤ = power (pos (own t p q).c) 7 in
    let D : ℤ = power (pos (own u p q).c) 7 in
    let first : pos (unsigned_abs C) ≡ C = over_is C (seventh_positive (own t p q).c (own_some t p q some t_lasts)) in
    let second : pos (unsigned_abs D) ≡ D = over_is D (seventh_positive (own u p q).c (own_some u p q some u_lasts)) in
    let none : ShareNoPoint r h (exact_point t p q) (exact_point u p q) =
    far a b t u differ t_is u_is p q p q some some t_before u_before (record { before = omega arith; after = omega arith }) (exact_point t p q) (exact_point u p q)
    (at_exact_point stray t p q some t_lasts) (at_exact_point stray u p q some u_lasts) in
    record {
      apart = subst (λ (z : ℤ). (pos (48 * (r * r) * (h * h) + 1) *ℤ z) ≤ℤ
          (pos (12 * (h * h)) *ℤ (gap t u p q 0 *ℤ gap t u p q 0 +ℤ gap t u p q 1 *ℤ gap t u p q 1) +ℤ pos (12 * (r * r)) *ℤ (gap t u p q 2 *ℤ gap t u p q 2)))
          (sym (whole_of (pos (own t p q).c) (pos (own u p q).c)))
          (over_these (pos (48 * (r * r) * (h * h) + 1)) (pos (12 * (h * h))) (pos (12 * (r * r))) (λ axis. decoded t axis (own t p q)) (λ axis. decoded u axis (own u p q)) first second none.apart);
    }
  where
    over_these : (k a b : ℤ) (x y : ℕ → ℤ) {C D C' D' : ℤ} → C' ≡ C → D' ≡ D → Far k a b x y C' D' → Far k a b x y C D
    over_these k a b x y {C} {D} {C'} {D'} first second far = subst (λ (z : ℤ). Far k a b x y C z) second (subst (λ (z : ℤ). Far k a b x y z D') first far)

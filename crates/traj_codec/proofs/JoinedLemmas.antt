-- A trajectory with its holds joined is the same curve.
use Rattle.traj_codec.proofs.Prelude.{common_steps, ◌≡◌, ◌⊎◌, inl, inr, ℕ, zero, suc, ◌+◌, ◌-◌, ◌*◌, ◌≤◌, ◌<◌, ℤ, pos, ◌*ℤ◌, Bool, true, false, cond, ◌&&◌, nat_le, arith, refl, sym, ap, subst, ◌∙◌, List, [], ◌∷◌, length, map, All, get_or, list_all, nat_tests, sum, sum_by-cons, All-head, All-tail, All-nil, All-cons, power, at, bern, Moment, moment, moment_from, points_from, last_value, Element, Constant, Segment, Traj, stored, HasDuration, IsSegment, element_on, value_after, piece_on, durations, points, decoded, stays, is_hold, hold, most_ms, put_held, joined_from, joined, own, SameCurve, IsLasting, JoinLaw}
use Rattle.whole_numbers.proofs.RingLemmas.{mul_left_comm_ℤ}
use Rattle.whole_numbers.proofs.BernsteinLemmas.{bernstein-zero}
use Rattle.traj_codec.proofs.PositionLemmas.{decoded-points}

-- ---- where segments are at an instant: control points, and the part a / c

pub record Reached : Type 0 where
  pub points : List ℤ
  pub a : ℕ
  pub c : ℕ

abbrev pub reached : ℕ → ℕ → ℤ → List Segment → ℕ → ℕ → Reached
reached axis t0 first [] p q = record { points = []; a = 0; c = q }
reached axis t0 first (s ∷ rest) p q =
    cond (nat_le p (q * (t0 + s.ms))) (record { points = first ∷ stored (element_on s axis); a = p - q * t0; c = q * s.ms })
    (reached axis (t0 + s.ms) (value_after first (element_on s axis)) rest p q)

-- the numerator over c^7
abbrev pub numerator : Reached → ℤ
numerator r = power (pos r.c) (8 - length r.points) *ℤ bern r.points (pos r.a) (pos r.c)

-- ---- two that are the same position
pub record IsStill (f g : Reached) : Type 0 where
  pub value : ℤ
  pub first : f.points ≡ value ∷ []
  pub second : g.points ≡ value ∷ []

abbrev pub IsSame : Reached → Reached → Type 0
IsSame f g = (f ≡ g) ⊎ IsStill f g

same_head : (v w : ℤ) → ◌≡◌ {A = List ℤ} (v ∷ []) (w ∷ []) → v ≡ w
same_head v w e = cc

same_trans : (f g k : Reached) → IsSame f g → IsSame g k → IsSame f k
same_trans f g k (inl e) other = subst (λ (r : Reached). IsSame r k) (sym e) other
same_trans f g k (inr s) (inl e) = subst (λ (r : Reached). IsSame f r) e (inr s)
same_trans f g k (inr s) (inr t) =
    let e : s.value ≡ t.value = same_head s.value t.value (sym s.second ∙ t.first) in
    inr (record { value = t.value; first = s.first ∙ ap (λ (z : ℤ). z ∷ []) e; second = t.second })

still_numerator : (r : Reached) (v : ℤ) → r.points ≡ v ∷ [] → numerator r ≡ power (pos r.c) 7 *ℤ v
still_numerator r v e =
    ap (λ (ps : List ℤ). power (pos r.c) (8 - length ps) *ℤ bern ps (pos r.a) (pos r.c)) e
    ∙ ap (λ (z : ℤ). power (pos r.c) 7 *ℤ z) (bernstein-zero (at (v ∷ [])) (pos r.a) (pos r.c))

same_numbers : (f g : Reached) → IsSame f g → (power (pos g.c) 7 *ℤ numerator f) ≡ (power (pos f.c) 7 *ℤ numerator g)
same_numbers f g (inl e) = subst (λ (r : Reached). (power (pos r.c) 7 *ℤ numerator f) ≡ (power (pos f.c) 7 *ℤ numerator r)) e refl
same_numbers f g (inr s) =
    ap (λ (z : ℤ). power (pos g.c) 7 *ℤ z) (still_numerator f s.value s.first)
    ∙ mul_left_comm_ℤ (power (pos g.c) 7) (power (pos f.c) 7) s.value
    ∙ ap (λ (z : ℤ). power (pos f.c) 7 *ℤ z) (sym (still_numerator g s.value s.second))

-- ---- tests
le_told : (m n : ℕ) → nat_le m n ≡ true → m ≤ n
le_told m n e = grind (arith, nat_tests)

more_told : (m n : ℕ) → nat_le m n ≡ false → n < m
more_told m n e = grind (arith, nat_tests)

both : (a b : Bool) → (a && b) ≡ true → (a ≡ true) × (b ≡ true)
both true b e = (refl, e)
both false b e = absurd (cc)

-- ---- holds
all_stay : (es : List Element) (axis : ℕ) → list_all stays es ≡ true → stored (get_or es axis Constant) ≡ []
all_stay [] zero e = refl
all_stay [] (suc axis) e = refl
all_stay (x ∷ es) zero e = grind (arith, common_steps, both)
all_stay (x ∷ es) (suc axis) e = all_stay es axis (both (stays x) (list_all stays es) e).1

holds : (s : Segment) (axis : ℕ) → is_hold s ≡ true → stored (element_on s axis) ≡ []
holds s axis e = all_stay s.elements axis e

-- where a hold stands in front, its value stays
abbrev still : ℕ → ℤ → ℕ → ℕ → ℕ → Reached
still t0 v ms p q = record { points = v ∷ []; a = p - q * t0; c = q * ms }

reached_hold : (axis t0 : ℕ) (v : ℤ) (s : Segment) (rest : List Segment) (p q : ℕ) → is_hold s ≡ true →
    reached axis t0 v (s ∷ rest) p q ≡ cond (nat_le p (q * (t0 + s.ms))) (still t0 v s.ms p q) (reached axis (t0 + s.ms) v rest p q)
reached_hold axis t0 v s rest p q e =
    ap (λ (zs : List ℤ). cond (nat_le p (q * (t0 + s.ms))) (record { points = v ∷ zs; a = p - q * t0; c = q * s.ms }) (reached axis (t0 + s.ms) (last_value v zs) rest p q))
    (holds s axis e)

-- a hold is seen by its duration alone
as_hold : (axis t0 : ℕ) (v : ℤ) (s : Segment) (rest : List Segment) (p q : ℕ) → is_hold s ≡ true →
    reached axis t0 v (hold s.ms ∷ rest) p q ≡ reached axis t0 v (s ∷ rest) p q
as_hold axis t0 v s rest p q e = reached_hold axis t0 v (hold s.ms) rest p q refl ∙ sym (reached_hold axis t0 v s rest p q e)

-- ---- the same after one segment
behind : (axis t0 : ℕ) (v : ℤ) (s : Segment) (xs ys : List Segment) (p q : ℕ) →
    IsSame (reached axis (t0 + s.ms) (value_after v (element_on s axis)) xs p q) (reached axis (t0 + s.ms) (value_after v (element_on s axis)) ys p q) →
    IsSame (reached axis t0 v (s ∷ xs) p q) (reached axis t0 v (s ∷ ys) p q)
behind axis t0 v s xs ys p q same = grind (arith, common_steps, nat_le, cond)

-- after a hold the value is as before
behind_hold : (axis t0 : ℕ) (v : ℤ) (ms : ℕ) (xs ys : List Segment) (p q : ℕ) →
    IsSame (reached axis (t0 + ms) v xs p q) (reached axis (t0 + ms) v ys p q) →
    IsSame (reached axis t0 v (hold ms ∷ xs) p q) (reached axis t0 v (hold ms ∷ ys) p q)
behind_hold axis t0 v ms xs ys p q same =
    behind axis t0 v (hold ms) xs ys p q
    (subst (λ (z : ℤ). IsSame (reached axis (t0 + ms) z xs p q) (reached axis (t0 + ms) z ys p q)) (sym (ap (λ (zs : List ℤ). last_value v zs) (holds (hold ms) axis refl))) same)

-- ---- one hold in place of two
spread : (q t m : ℕ) → q * (t + m) ≡ q * t + q * m
spread q t m = omega arith

one_for_two : (axis t0 : ℕ) (v : ℤ) (m n : ℕ) (rest : List Segment) (p q : ℕ) →
    IsSame (reached axis t0 v (hold (m + n) ∷ rest) p q) (reached axis t0 v (hold m ∷ hold n ∷ rest) p q)
one_for_two axis t0 v m n rest p q = grind (arith, common_steps, reached, cond, nat_le, still, reached_hold, le_told, spread, nat_tests)

-- ---- the fold
module _ (axis p q : ℕ) where
  -- holds in front, the same after them
  put_same : (held t0 : ℕ) (v : ℤ) (xs ys : List Segment) → IsSame (reached axis (t0 + held) v xs p q) (reached axis (t0 + held) v ys p q) →
      IsSame (reached axis t0 v (put_held held xs) p q) (reached axis t0 v (put_held held ys) p q)
  put_same zero t0 v xs ys same = let e : t0 + 0 ≡ t0 = omega arith in subst (λ (t : ℕ). IsSame (reached axis t v xs p q) (reached axis t v ys p q)) e same
  put_same (suc held) t0 v xs ys same = behind_hold axis t0 v (suc held) xs ys p q same

  some_hold : (ms : ℕ) (rest : List Segment) → 1 ≤ ms → put_held ms rest ≡ hold ms ∷ rest
  some_hold zero rest some = absurd (omega arith)
  some_hold (suc ms) rest some = refl

  -- one hold more is one longer hold
  put_more : (held t0 : ℕ) (v : ℤ) (s : Segment) (rest : List Segment) → is_hold s ≡ true → 1 ≤ s.ms →
      IsSame (reached axis t0 v (put_held (held + s.ms) rest) p q) (reached axis t0 v (put_held held (s ∷ rest)) p q)
  put_more zero t0 v s rest is some =
      let e : s.ms ≡ 0 + s.ms = omega arith in
      subst (λ (n : ℕ). IsSame (reached axis t0 v (put_held n rest) p q) (reached axis t0 v (s ∷ rest) p q)) e (go s.ms some (inl (as_hold axis t0 v s rest p q is)))
    where
      go : (ms : ℕ) → 1 ≤ ms → IsSame (reached axis t0 v (hold ms ∷ rest) p q) (reached axis t0 v (s ∷ rest) p q) →
          IsSame (reached axis t0 v (put_held ms rest) p q) (reached axis t0 v (s ∷ rest) p q)
      go zero some same = absurd (omega arith)
      go (suc ms) some same = same
  put_more (suc held) t0 v s rest is some =
      subst (λ (xs : List Segment). IsSame (reached axis t0 v xs p q) (reached axis t0 v (hold (suc held) ∷ s ∷ rest) p q)) (sym (some_hold (suc held + s.ms) rest (omega arith)))
      (same_trans (reached axis t0 v (hold (suc held + s.ms) ∷ rest) p q) (reached axis t0 v (hold (suc held) ∷ hold s.ms ∷ rest) p q) (reached axis t0 v (hold (suc held) ∷ s ∷ rest) p q)
      (one_for_two axis t0 v (suc held) s.ms rest p q)
      (behind_hold axis t0 v (suc held) (hold s.ms ∷ rest) (s ∷ rest) p q (inl (as_hold axis (t0 + suc held) v s rest p q is))))

  pub same_from : (segs : List Segment) (held t0 : ℕ) (v : ℤ) → All (λ ms. 1 ≤ ms) (durations segs) →
      IsSame (reached axis t0 v (joined_from held segs) p q) (reached axis t0 v (put_held held segs) p q)
  unfolding joined_from
  same_from [] held t0 v all = inl refl
  same_from (s ∷ rest) held t0 v all =
      go (is_hold s) refl (nat_le (held + s.ms) most_ms) (λ n t x. same_from rest n t x (All-tail (λ (ms : ℕ). 1 ≤ ms) s.ms (durations rest) all))
    where
      some : 1 ≤ s.ms
      some = All-head (λ (ms : ℕ). 1 ≤ ms) s.ms (durations rest) all

      go : (b : Bool) → is_hold s ≡ b → (c : Bool) →
          ((n t : ℕ) (x : ℤ) → IsSame (reached axis t x (joined_from n rest) p q) (reached axis t x (put_held n rest) p q)) →
          IsSame (reached axis t0 v (cond b (cond c (joined_from (cond b (cond c (held + s.ms) s.ms) 0) rest) (put_held held (joined_from (cond b (cond c (held + s.ms) s.ms) 0) rest))) (put_held held (s ∷ joined_from (cond b (cond c (held + s.ms) s.ms) 0) rest))) p q)
          (reached axis t0 v (put_held held (s ∷ rest)) p q)
      go true is true later =
          same_trans (reached axis t0 v (joined_from (held + s.ms) rest) p q) (reached axis t0 v (put_held (held + s.ms) rest) p q) (reached axis t0 v (put_held held (s ∷ rest)) p q)
          (later (held + s.ms) t0 v) (put_more held t0 v s rest is some)
      go true is false later =
          put_same held t0 v (joined_from s.ms rest) (s ∷ rest)
          (same_trans (reached axis (t0 + held) v (joined_from s.ms rest) p q) (reached axis (t0 + held) v (hold s.ms ∷ rest) p q) (reached axis (t0 + held) v (s ∷ rest) p q)
          (subst (λ (ys : List Segment). IsSame (reached axis (t0 + held) v (joined_from s.ms rest) p q) (reached axis (t0 + held) v ys p q)) (some_hold s.ms rest some)
          (later s.ms (t0 + held) v))
          (inl (as_hold axis (t0 + held) v s rest p q is)))
      go false is c later =
          put_same held t0 v (s ∷ joined_from 0 rest) (s ∷ rest)
          (behind axis (t0 + held) v s (joined_from 0 rest) rest p q (later 0 (t0 + held + s.ms) (value_after v (element_on s axis))))

-- ---- from an instant to its segment
pub record IsTold (ps : List (List ℤ)) (k : ℕ) (m : Moment) (r : Reached) : Type 0 where
  pub j : ℕ
  pub cue : m.cue ≡ k + j
  pub points : get_or ps j [] ≡ r.points
  pub a : m.a ≡ r.a
  pub c : m.c ≡ r.c

told : (axis : ℕ) (segs : List Segment) (t0 k : ℕ) (first : ℤ) (p q : ℕ) →
    IsTold (points_from first (map (piece_on axis) segs)) k (moment_from t0 k (durations segs) p q) (reached axis t0 first segs p q)
told axis [] t0 k first p q = record { j = 0; cue = omega arith; points = refl; a = refl; c = refl }
told axis (s ∷ rest) t0 k first p q =
    go (nat_le p (q * (t0 + s.ms))) (told axis rest (t0 + s.ms) (suc k) (value_after first (element_on s axis)) p q)
  where
    go : (b : Bool) → {ps : List (List ℤ)} → {m : Moment} → {r : Reached} → IsTold ps (suc k) m r →
        IsTold ((first ∷ stored (element_on s axis)) ∷ ps) k (cond b (record { cue = k; a = p - q * t0; c = q * s.ms }) m)
        (cond b (record { points = first ∷ stored (element_on s axis); a = p - q * t0; c = q * s.ms }) r)
    go true h = record { j = 0; cue = omega arith; points = refl; a = refl; c = refl }
    go false h = record { j = suc h.j; cue = omega (arith, h.cue); points = h.points; a = h.a; c = h.c }

-- the decoded position is that of what is reached
pub decoded_reached : (t : Traj) (axis p q : ℕ) →
    (decoded t axis (own t p q) ≡ numerator (reached axis 0 (at t.start axis) t.segments p q)) × ((own t p q).c ≡ (reached axis 0 (at t.start axis) t.segments p q).c)
unfolding moment
decoded_reached t axis p q =
    let h = told axis t.segments 0 0 (at t.start axis) p q in
    let r : Reached = reached axis 0 (at t.start axis) t.segments p q in
    let e : 0 + h.j ≡ h.j = omega arith in
    let here : points t (own t p q).cue axis ≡ r.points = ap (λ (k : ℕ). points t k axis) (h.cue ∙ e) ∙ h.points in (
      decoded-points t axis (own t p q) ∙ numbers (points t (own t p q).cue axis) r.points (own t p q).a r.a (own t p q).c r.c here h.a h.c,
      h.c,
    )
  where
    numbers : (ps qs : List ℤ) (a b c d : ℕ) → ps ≡ qs → a ≡ b → c ≡ d → power (pos c) (8 - length ps) *ℤ bern ps (pos a) (pos c) ≡ power (pos d) (8 - length qs) *ℤ bern qs (pos b) (pos d)
    numbers ps qs a b c d e f g = rw (e, f, g) refl

-- Joined holds are the same curve.
pub join_same : (t : Traj) → IsLasting t → SameCurve t (joined t)
join_same t all axis p q =
    let x = decoded_reached t axis p q in
    let y = decoded_reached (joined t) axis p q in
    let f : Reached = reached axis 0 (at t.start axis) t.segments p q in
    let g : Reached = reached axis 0 (at t.start axis) (joined_from 0 t.segments) p q in
    let same = same_numbers g f (same_from axis p q t.segments 0 0 (at t.start axis) all) in
    numbers (own (joined t) p q).c g.c (own t p q).c f.c _ (numerator f) _ (numerator g) y.1 x.1 x.0 y.0 (sym same)
  where
    numbers : (c d e f : ℕ) (x z y w : ℤ) → c ≡ d → e ≡ f → x ≡ z → y ≡ w → (power (pos d) 7 *ℤ z) ≡ (power (pos f) 7 *ℤ w) → (power (pos c) 7 *ℤ x) ≡ (power (pos e) 7 *ℤ y)
    numbers c d e f x z y w p q r s same =
        ap (λ (n : ℕ). power (pos n) 7 *ℤ x) p ∙ ap (λ (u : ℤ). power (pos d) 7 *ℤ u) r ∙ same
        ∙ sym (ap (λ (n : ℕ). power (pos n) 7 *ℤ y) q ∙ ap (λ (u : ℤ). power (pos f) 7 *ℤ u) s)

-- ---- durations and lengths
sum_cons : (ms : ℕ) (rest : List ℕ) → sum (ms ∷ rest) ≡ ms + sum rest
sum_cons ms rest = sum_by-cons (λ (n : ℕ). n) ms rest

sum_put : (held : ℕ) (xs : List Segment) → sum (durations (put_held held xs)) ≡ held + sum (durations xs)
sum_put zero xs = omega arith
sum_put (suc held) xs = sum_cons (suc held) (durations xs)

sum_from : (segs : List Segment) (held : ℕ) → sum (durations (joined_from held segs)) ≡ held + sum (durations segs)
unfolding joined_from
sum_from [] held = sum_put held []
sum_from (s ∷ rest) held = go (is_hold s) (nat_le (held + s.ms) most_ms) (λ n. sum_from rest n)
  where
    go : (b c : Bool) → ((n : ℕ) → sum (durations (joined_from n rest)) ≡ n + sum (durations rest)) →
        sum (durations (cond b (cond c (joined_from (cond b (cond c (held + s.ms) s.ms) 0) rest) (put_held held (joined_from (cond b (cond c (held + s.ms) s.ms) 0) rest))) (put_held held (s ∷ joined_from (cond b (cond c (held + s.ms) s.ms) 0) rest))))
        ≡ held + sum (durations (s ∷ rest))
    go true true later = omega (arith, later (held + s.ms), sum_cons s.ms (durations rest))
    go true false later = omega (arith, sum_put held (joined_from s.ms rest), later s.ms, sum_cons s.ms (durations rest))
    go false c later = omega (arith, sum_put held (s ∷ joined_from 0 rest), sum_cons s.ms (durations (joined_from 0 rest)), later 0, sum_cons s.ms (durations rest))

last_put : (held : ℕ) (xs : List Segment) → All (λ ms. 1 ≤ ms) (durations xs) → All (λ ms. 1 ≤ ms) (durations (put_held held xs))
last_put zero xs all = all
last_put (suc held) xs all = All-cons (λ (ms : ℕ). 1 ≤ ms) (suc held) (durations xs) (omega arith) all

last_from : (segs : List Segment) (held : ℕ) → All (λ ms. 1 ≤ ms) (durations segs) → All (λ ms. 1 ≤ ms) (durations (joined_from held segs))
unfolding joined_from
last_from [] held all = last_put held [] all
last_from (s ∷ rest) held all = go (is_hold s) (nat_le (held + s.ms) most_ms) (λ n. last_from rest n (All-tail (λ (ms : ℕ). 1 ≤ ms) s.ms (durations rest) all))
  where
    go : (b c : Bool) → ((n : ℕ) → All (λ ms. 1 ≤ ms) (durations (joined_from n rest))) →
        All (λ ms. 1 ≤ ms) (durations (cond b (cond c (joined_from (cond b (cond c (held + s.ms) s.ms) 0) rest) (put_held held (joined_from (cond b (cond c (held + s.ms) s.ms) 0) rest))) (put_held held (s ∷ joined_from (cond b (cond c (held + s.ms) s.ms) 0) rest))))
    go true true later = later (held + s.ms)
    go true false later = last_put held (joined_from s.ms rest) (later s.ms)
    go false c later =
        last_put held (s ∷ joined_from 0 rest) (All-cons (λ (ms : ℕ). 1 ≤ ms) s.ms (durations (joined_from 0 rest)) (All-head (λ (ms : ℕ). 1 ≤ ms) s.ms (durations rest) all) (later 0))

-- one segment stands for the holds in front, where there are any
abbrev front : ℕ → ℕ
front zero = 0
front (suc held) = 1

front_small : (held : ℕ) → front held ≤ 1
front_small zero = omega arith
front_small (suc held) = omega arith

length_put : (held : ℕ) (xs : List Segment) → length (put_held held xs) ≡ front held + length xs
length_put zero xs = omega arith
length_put (suc held) xs = omega arith

fewer_from : (segs : List Segment) (held : ℕ) → length (joined_from held segs) ≤ front held + length segs
unfolding joined_from
fewer_from [] held = omega (arith, length_put held [])
fewer_from (s ∷ rest) held = go (is_hold s) (nat_le (held + s.ms) most_ms) (λ n. fewer_from rest n)
  where
    go : (b c : Bool) → ((n : ℕ) → length (joined_from n rest) ≤ front n + length rest) →
        length (cond b (cond c (joined_from (cond b (cond c (held + s.ms) s.ms) 0) rest) (put_held held (joined_from (cond b (cond c (held + s.ms) s.ms) 0) rest))) (put_held held (s ∷ joined_from (cond b (cond c (held + s.ms) s.ms) 0) rest)))
        ≤ front held + length (s ∷ rest)
    go true true later = omega (arith, later (held + s.ms), front_small (held + s.ms))
    go true false later = omega (arith, length_put held (joined_from s.ms rest), later s.ms, front_small s.ms)
    go false c later = omega (arith, length_put held (s ∷ joined_from 0 rest), later 0)

-- a segment takes some time
lasting_from : (segs : List Segment) → All HasDuration segs → All (λ ms. 1 ≤ ms) (durations segs)
lasting_from [] all = All-nil (λ (ms : ℕ). 1 ≤ ms)
lasting_from (s ∷ rest) all =
    let first : 0 < s.ms = All-head HasDuration s rest all in
    All-cons (λ (ms : ℕ). 1 ≤ ms) s.ms (durations rest) (omega (arith)) (lasting_from rest (All-tail HasDuration s rest all))

pub lasting_of : (t : Traj) → All HasDuration t.segments → IsLasting t
lasting_of t all = lasting_from t.segments all

durations_from : (segs : List Segment) → All (λ ms. 1 ≤ ms) (durations segs) → All HasDuration segs
durations_from [] all = All-nil HasDuration
durations_from (s ∷ rest) all =
    let first : 1 ≤ s.ms = All-head (λ (ms : ℕ). 1 ≤ ms) s.ms (durations rest) all in
    All-cons HasDuration s rest (omega (arith)) (durations_from rest (All-tail (λ (ms : ℕ). 1 ≤ ms) s.ms (durations rest) all))

pub durations_of : (t : Traj) → IsLasting t → All HasDuration t.segments
durations_of t all = durations_from t.segments all

-- ---- each segment is formed
formed_hold : (ms : ℕ) → ms ≤ most_ms → IsSegment (hold ms)
formed_hold ms short = grind (arith, common_steps, All-cons, All-nil)

formed_put : (held : ℕ) (xs : List Segment) → held ≤ most_ms → All IsSegment xs → All IsSegment (put_held held xs)
formed_put zero xs short all = all
formed_put (suc held) xs short all = All-cons IsSegment (hold (suc held)) xs (formed_hold (suc held) short) all

formed_from : (segs : List Segment) (held : ℕ) → held ≤ most_ms → All IsSegment segs → All IsSegment (joined_from held segs)
unfolding joined_from
formed_from [] held short all = formed_put held [] short all
formed_from (s ∷ rest) held short all =
    go (is_hold s) (nat_le (held + s.ms) most_ms) refl (λ n small. formed_from rest n small (All-tail IsSegment s rest all))
  where
    first : IsSegment s
    first = All-head IsSegment s rest all

    go : (b c : Bool) → c ≡ nat_le (held + s.ms) most_ms → ((n : ℕ) → n ≤ most_ms → All IsSegment (joined_from n rest)) →
        All IsSegment (cond b (cond c (joined_from (cond b (cond c (held + s.ms) s.ms) 0) rest) (put_held held (joined_from (cond b (cond c (held + s.ms) s.ms) 0) rest))) (put_held held (s ∷ joined_from (cond b (cond c (held + s.ms) s.ms) 0) rest)))
    go true true fits later = later (held + s.ms) (le_told (held + s.ms) most_ms (sym fits))
    go true false fits later = formed_put held (joined_from s.ms rest) short (later s.ms (omega (arith, first.short)))
    go false c fits later = formed_put held (s ∷ joined_from 0 rest) short (All-cons IsSegment s (joined_from 0 rest) first (later 0 (omega arith)))

pub join_holds_law : JoinLaw
join_holds_law = grind (arith, common_steps, join_same, sum_from, last_from, fewer_from, formed_from)

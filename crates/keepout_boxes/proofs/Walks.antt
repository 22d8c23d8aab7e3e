-- Parts of parts: what is known of the halves of a part is known of the part.
use Rattle.keepout_boxes.proofs.Prelude.{common_steps, ◌≡◌, ℕ, suc, ◌+◌, ◌-◌, ◌*◌, ◌^◌, ◌≤◌, ◌<◌, ℤ, pos, ◌+ℤ◌, ◌-ℤ◌, ◌*ℤ◌, ◌≤ℤ◌, ◌<ℤ◌, true, false, arith, refl, sym, subst, ◌∙◌, ap, inl, inr, List, Option, Some, None, All, lit<, MatchOption, FitsSigned, [], length, get_or_past, w128, part-within, part-at_least, part-at_most, part-half, is_some, ints, pow-add, pow_pos, All-from_get_or, All-get_or, IsIn, IsBelow, at, ring, linear, mul_assoc_ℤ, one_mul_ℤ, by_lt, Bez, controls, part_value, Region, Keepout, Volume, AllAbove, AllBelow, IsKept, extent, part_of, Raised, curves_at, AllKeptIn, CueKept, IsFirstIn, IsFirstOfCue, KeptHere, KeptIn, values_of}
use Rattle.std.specs.Option.{option_map}
use Rattle.std.proofs.Math.Nat.{pow-suc, pow-le-pow_right}
use Rattle.bezier_core.specs.Raised.{eight}
use Rattle.bezier_core.specs.Steps.{IsWithin}
use Rattle.bezier_core.proofs.CurveLemmas.{at-eight}
use Rattle.bezier_core.proofs.PolarLemmas.{polar-same, part-whole}
use Rattle.keepout_boxes.proofs.Hulls.{less_scaled, more_scaled}

-- the same of equal control values at an equal scale
pub kept-same : (r h : ℕ) (region : Region) (f g : ℕ → ℕ → ℤ) (s u : ℤ) → ((axis k : ℕ) → axis ≤ 2 → k ≤ 7 → f axis k ≡ g axis k) → s ≡ u → IsKept r h region f s → IsKept r h region g u
kept-same r h (Keepout low high) f g s u same scales kept = grind (arith, common_steps)
kept-same r h (Volume low high) f g s u same scales kept = grind (arith, common_steps)

-- ---- where a part is kept, so is each part of it
limit_scaled : (l s p : ℤ) → (l *ℤ s) *ℤ p ≡ l *ℤ (p *ℤ s)
limit_scaled l s p = simp ring refl

pub kept_within : (r h : ℕ) (region : Region) (curves : List (Bez 8)) (scale : ℤ) (n i : ℕ) → i < 2 ^ n → IsKept r h region (values_of curves) scale → KeptIn r h region curves scale n i
kept_within r h (Keepout low high) curves scale n i inside kept =
    let axis : ℕ = kept.0 in (
      axis,
      kept.1,
      elim (kept.2) [
        | inl below ↦ inl (λ k small. lower axis k small below)
        | inr above ↦ inr (λ k small. upper axis k small above)
      ],
    )
  where
    positive : pos 1 ≤ℤ pos (2 ^ (7 * n))
    positive = omega (arith, ints, pow_pos (7 * n))

    lower : (axis k : ℕ) → k ≤ 7 → AllBelow (values_of curves axis) ((at low axis -ℤ extent r h axis) *ℤ scale) → part_of curves n i axis k <ℤ ((at low axis -ℤ extent r h axis) *ℤ (pos (2 ^ (7 * n)) *ℤ scale))
    lower axis k small below =
        subst (λ (z : ℤ). part_of curves n i axis k <ℤ z) (limit_scaled (at low axis -ℤ extent r h axis) scale (pos (2 ^ (7 * n))))
        (less_scaled ((at low axis -ℤ extent r h axis) *ℤ scale) (pos (2 ^ (7 * n))) (part_of curves n i axis k) positive
        (part-at_most n i k (values_of curves axis) ((at low axis -ℤ extent r h axis) *ℤ scale -ℤ pos 1) inside small (λ j near. omega (arith, linear, below j near))))

    upper : (axis k : ℕ) → k ≤ 7 → AllAbove (values_of curves axis) ((at high axis +ℤ extent r h axis) *ℤ scale) → ((at high axis +ℤ extent r h axis) *ℤ (pos (2 ^ (7 * n)) *ℤ scale)) <ℤ part_of curves n i axis k
    upper axis k small above =
        subst (λ (z : ℤ). z <ℤ part_of curves n i axis k) (limit_scaled (at high axis +ℤ extent r h axis) scale (pos (2 ^ (7 * n))))
        (more_scaled ((at high axis +ℤ extent r h axis) *ℤ scale) (pos (2 ^ (7 * n))) (part_of curves n i axis k) positive
        (part-at_least n i k (values_of curves axis) ((at high axis +ℤ extent r h axis) *ℤ scale +ℤ pos 1) inside small (λ j near. omega (arith, linear, above j near))))
kept_within r h (Volume low high) curves scale n i inside kept = λ axis near k small. (
  subst (λ (z : ℤ). z ≤ℤ part_of curves n i axis k) (limit_scaled (at low axis +ℤ extent r h axis) scale (pos (2 ^ (7 * n))))
      (part-at_least n i k (values_of curves axis) ((at low axis +ℤ extent r h axis) *ℤ scale) inside small (λ j low. (kept axis near j low).0)),
  subst (λ (z : ℤ). part_of curves n i axis k ≤ℤ z) (limit_scaled (at high axis -ℤ extent r h axis) scale (pos (2 ^ (7 * n))))
      (part-at_most n i k (values_of curves axis) ((at high axis -ℤ extent r h axis) *ℤ scale) inside small (λ j low. (kept axis near j low).1)),
)

-- ---- the whole part
pub first_whole : (r h : ℕ) (region : Region) (curves : List (Bez 8)) (scale : ℤ) (depth : ℕ) → depth ≡ 0 → (IsKept r h region (values_of curves) scale → ⊥) → IsFirstIn r h region curves scale depth 0
first_whole r h region curves scale depth none enters = grind (arith, common_steps, kept-same, pos, part-whole, one_mul_ℤ)

-- ---- the halves
-- curves that are a half of others
abbrev pub IsHalf : ℕ → List (Bez 8) → List (Bez 8) → Type 0
IsHalf side curves half = (axis : ℕ) → axis ≤ 2 → controls half axis ≡ eight (part_value 1 side (at (controls curves axis)))

half_values : (side : ℕ) (curves half : List (Bez 8)) (n i axis k : ℕ) → IsHalf side curves half → axis ≤ 2 → k ≤ 7 → part_of half n i axis k ≡ part_of curves (suc n) (2 ^ n * side + i) axis k
half_values side curves half n i axis k is near small =
    polar-same (7 - k) k (at (controls half axis)) (part_value 1 side (at (controls curves axis))) (pos i) (pos (i + 1)) (pos (2 ^ n))
    (λ j low. ap (λ (b : List ℤ). at b j) (is axis near) ∙ at-eight (part_value 1 side (at (controls curves axis))) j (omega arith))
    ∙ part-half n side i k (at (controls curves axis)) small

half_scale : (n : ℕ) (scale next : ℤ) → next ≡ pos 128 *ℤ scale → pos (2 ^ (7 * n)) *ℤ next ≡ pos (2 ^ (7 * suc n)) *ℤ scale
half_scale n scale next is =
    let more : 7 * suc n ≡ 7 * n + 7 = omega arith in
    ap (λ (z : ℤ). pos (2 ^ (7 * n)) *ℤ z) is ∙ sym (mul_assoc_ℤ (pos (2 ^ (7 * n))) (pos 128) scale)
    ∙ ap (λ (z : ℤ). z *ℤ scale) (product (2 ^ (7 * n)) ∙ ap (λ (m : ℕ). pos m) (sym (ap (λ (m : ℕ). 2 ^ m) more ∙ pow-add 2 (7 * n) 7)))
  where
    product : (m : ℕ) → pos m *ℤ pos 128 ≡ pos (m * 2 ^ 7)
    product m = omega (arith, ints)

to_whole : (r h : ℕ) (region : Region) (side : ℕ) (curves half : List (Bez 8)) (scale next : ℤ) (n i j : ℕ) → IsHalf side curves half → next ≡ pos 128 *ℤ scale → 2 ^ n * side + i ≡ j →
    KeptIn r h region half next n i → KeptIn r h region curves scale (suc n) j
to_whole r h region side curves half scale next n i j is next_is place kept =
    kept-same r h region (part_of half n i) (part_of curves (suc n) j) (pos (2 ^ (7 * n)) *ℤ next) (pos (2 ^ (7 * suc n)) *ℤ scale)
    (λ axis k near small. half_values side curves half n i axis k is near small ∙ ap (λ (m : ℕ). part_of curves (suc n) m axis k) place) (half_scale n scale next next_is) kept

to_half : (r h : ℕ) (region : Region) (side : ℕ) (curves half : List (Bez 8)) (scale next : ℤ) (n i j : ℕ) → IsHalf side curves half → next ≡ pos 128 *ℤ scale → 2 ^ n * side + i ≡ j →
    KeptIn r h region curves scale (suc n) j → KeptIn r h region half next n i
to_half r h region side curves half scale next n i j is next_is place kept =
    kept-same r h region (part_of curves (suc n) j) (part_of half n i) (pos (2 ^ (7 * suc n)) *ℤ scale) (pos (2 ^ (7 * n)) *ℤ next)
    (λ axis k near small. sym (half_values side curves half n i axis k is near small ∙ ap (λ (m : ℕ). part_of curves (suc n) m axis k) place)) (sym (half_scale n scale next next_is)) kept

doubled : (n : ℕ) → 2 ^ suc n ≡ 2 ^ n + 2 ^ n
doubled n = rw (pow-suc 2 n) (omega arith)

-- both halves are kept
pub all_halves : (r h : ℕ) (region : Region) (curves left right : List (Bez 8)) (scale next : ℤ) (n : ℕ) → IsHalf 0 curves left → IsHalf 1 curves right → next ≡ pos 128 *ℤ scale →
    AllKeptIn r h region left next n → AllKeptIn r h region right next n → AllKeptIn r h region curves scale (suc n)
all_halves r h region curves left right scale next n left_is right_is next_is first second j inside =
    by_lt j (2 ^ n)
    (λ low. to_whole r h region 0 curves left scale next n j j left_is next_is (omega arith) (first j low))
    (λ high. to_whole r h region 1 curves right scale next n (j - 2 ^ n) j right_is next_is (omega arith) (second (j - 2 ^ n) (omega (arith, doubled n, inside))))

-- the first half has the first part that isn't kept
pub first_left : (r h : ℕ) (region : Region) (curves left : List (Bez 8)) (scale next : ℤ) (n i : ℕ) → IsHalf 0 curves left → next ≡ pos 128 *ℤ scale → IsFirstIn r h region left next n i → IsFirstIn r h region curves scale (suc n) i
first_left r h region curves left scale next n i is next_is found = record {
  inside = omega (arith, doubled n, found.inside);
  enters = λ kept. found.enters (to_half r h region 0 curves left scale next n i i is next_is (omega arith) kept);
  kept_before = λ j less. to_whole r h region 0 curves left scale next n j j is next_is (omega arith) (found.kept_before j less);
}

-- the second half has it
pub first_right : (r h : ℕ) (region : Region) (curves left right : List (Bez 8)) (scale next : ℤ) (n i : ℕ) → IsHalf 0 curves left → IsHalf 1 curves right → next ≡ pos 128 *ℤ scale →
    AllKeptIn r h region left next n → IsFirstIn r h region right next n i → IsFirstIn r h region curves scale (suc n) (2 ^ n + i)
first_right r h region curves left right scale next n i left_is right_is next_is first found = record {
  inside = omega (arith, doubled n, found.inside);
  enters = λ kept. found.enters (to_half r h region 1 curves right scale next n i (2 ^ n + i) right_is next_is (omega arith) kept);
  kept_before = λ j less. by_lt j (2 ^ n)
      (λ low. to_whole r h region 0 curves left scale next n j j left_is next_is (omega arith) (first j low))
      (λ high. to_whole r h region 1 curves right scale next n (j - 2 ^ n) j right_is next_is (omega arith) (found.kept_before (j - 2 ^ n) (omega arith)));
}

-- ---- what the walk answers
pub answer_left : (r h : ℕ) (region : Region) (curves left : List (Bez 8)) (scale next : ℤ) (n depth : ℕ) (first : Option ℕ) → depth ≡ suc n → is_some first ≡ true → IsHalf 0 curves left → next ≡ pos 128 *ℤ scale →
    MatchOption first (AllKeptIn r h region left next n) (IsFirstIn r h region left next n) → MatchOption first (AllKeptIn r h region curves scale depth) (IsFirstIn r h region curves scale depth)
answer_left r h region curves left scale next n depth None deep there is next_is found = cc
answer_left r h region curves left scale next n depth (Some i) deep there is next_is found =
    subst (λ (m : ℕ). IsFirstIn r h region curves scale m i) (sym deep) (first_left r h region curves left scale next n i is next_is found)

pub answer_right : (r h : ℕ) (region : Region) (curves left right : List (Bez 8)) (scale next : ℤ) (n depth parts : ℕ) (first second answer : Option ℕ) → depth ≡ suc n → is_some first ≡ false → parts ≡ 2 ^ n → answer ≡ option_map (λ i. parts + i) second →
    IsHalf 0 curves left → IsHalf 1 curves right → next ≡ pos 128 *ℤ scale →
    MatchOption first (AllKeptIn r h region left next n) (IsFirstIn r h region left next n) → MatchOption second (AllKeptIn r h region right next n) (IsFirstIn r h region right next n) →
    MatchOption answer (AllKeptIn r h region curves scale depth) (IsFirstIn r h region curves scale depth)
answer_right r h region curves left right scale next n depth parts (Some k) second answer deep there parts_are answer_is left_is right_is next_is one other = cc
answer_right r h region curves left right scale next n depth parts None None answer deep there parts_are answer_is left_is right_is next_is one other =
    subst (λ (o : Option ℕ). MatchOption o (AllKeptIn r h region curves scale depth) (IsFirstIn r h region curves scale depth)) (sym answer_is)
    (subst (λ (m : ℕ). AllKeptIn r h region curves scale m) (sym deep) (all_halves r h region curves left right scale next n left_is right_is next_is one other))
answer_right r h region curves left right scale next n depth parts None (Some i) answer deep there parts_are answer_is left_is right_is next_is one other =
    subst (λ (o : Option ℕ). MatchOption o (AllKeptIn r h region curves scale depth) (IsFirstIn r h region curves scale depth)) (sym answer_is)
    (subst (λ (m : ℕ). IsFirstIn r h region curves scale m (parts + i)) (sym deep)
    (subst (λ (p : ℕ). IsFirstIn r h region curves scale (suc n) (p + i)) (sym parts_are) (first_right r h region curves left right scale next n i left_is right_is next_is one other)))

-- ---- sizes
-- what bounds the control values of each curve bounds those of one
controls_within : (m : ℕ) (curves : List (Bez 8)) (axis k : ℕ) → All (λ (curve : Bez 8). All (IsWithin (pos m)) curve.b) curves → IsWithin (pos m) (at (controls curves axis) k)
controls_within m curves axis k all = grind (arith, common_steps, ints, by_lt, All-get_or, pos, get_or_past)

-- the halves have room
pub half_within : (side depth below : ℕ) (curves half : List (Bez 8)) → suc below ≡ depth → depth ≤ 8 → side < 2 → length half ≡ 3 → IsHalf side curves half → All (λ (curve : Bez 8). All (IsWithin (pos (2 ^ (84 - 7 * depth)))) curve.b) curves →
    All (λ (curve : Bez 8). All (IsWithin (pos (2 ^ (84 - 7 * below)))) curve.b) half
half_within side depth below curves half less shallow near len is within =
    All-from_get_or (λ (curve : Bez 8). All (IsWithin (pos (2 ^ (84 - 7 * below)))) curve.b) half (record { b = [] }) (λ axis inside. one axis (omega (arith, len)))
  where
    wide : (p : ℕ) (x : ℤ) → IsWithin (pos 128 *ℤ pos p) x → IsWithin (pos (128 * p)) x
    wide p x within = (omega (arith, ints, within.0), omega (arith, ints, within.1))

    value : (axis k : ℕ) → k ≤ 7 → IsWithin (pos (2 ^ (84 - 7 * below))) (at (eight (part_value 1 side (at (controls curves axis)))) k)
    value axis k small =
        let e : 84 - 7 * below ≡ 7 + (84 - 7 * depth) = omega arith in
        rw (e, pow-add 2 7 (84 - 7 * depth), at-eight (part_value 1 side (at (controls curves axis))) k small)
        (wide (2 ^ (84 - 7 * depth)) (part_value 1 side (at (controls curves axis)) k) (part-within 1 side k (at (controls curves axis)) (pos (2 ^ (84 - 7 * depth))) near small (λ i low. controls_within (2 ^ (84 - 7 * depth)) curves axis i within)))

    one : (axis : ℕ) → axis ≤ 2 → All (IsWithin (pos (2 ^ (84 - 7 * below)))) (controls half axis)
    one axis small =
        rw (is axis small) (All-from_get_or (IsWithin (pos (2 ^ (84 - 7 * below)))) (eight (part_value 1 side (at (controls curves axis)))) (pos 0) (λ k inside. value axis k (omega arith)))

pub room_of : (depth : ℕ) (x : ℤ) → IsWithin (pos (2 ^ (84 - 7 * depth))) x → IsBelow (2 ^ 118) x
room_of depth x within =
    let more : 84 - 7 * depth ≤ 84 = omega arith in
    let room : 2 ^ (84 - 7 * depth) ≤ 2 ^ 84 = pow-le-pow_right {n = 2} (lit< tt) more in
    (omega (arith, ints, room, within.0), omega (arith, ints, room, within.1))

pub scale_room : (depth : ℕ) (scale : ℤ) → IsIn (pos 0) (pos (2 ^ (70 - 7 * depth))) scale → IsIn (pos 0) (pos (2 ^ 70)) scale
scale_room depth scale inside =
    let more : 70 - 7 * depth ≤ 70 = omega arith in
    let room : 2 ^ (70 - 7 * depth) ≤ 2 ^ 70 = pow-le-pow_right {n = 2} (lit< tt) more in
    (inside.0, omega (arith, ints, room, inside.1))

pub next_fits : (scale : ℤ) → IsIn (pos 0) (pos (2 ^ 70)) scale → FitsSigned w128 (pos 128 *ℤ scale)
next_fits scale inside = omega (arith, ints)

pub next_room : (depth below : ℕ) (scale : ℤ) → suc below ≡ depth → depth ≤ 8 → IsIn (pos 0) (pos (2 ^ (70 - 7 * depth))) scale → IsIn (pos 0) (pos (2 ^ (70 - 7 * below))) (pos 128 *ℤ scale)
next_room depth below scale less shallow inside =
    let e : 70 - 7 * below ≡ 7 + (70 - 7 * depth) = omega arith in
    rw (e, pow-add 2 7 (70 - 7 * depth)) (wide (2 ^ (70 - 7 * depth)) scale inside)
  where
    wide : (p : ℕ) (x : ℤ) → IsIn (pos 0) (pos p) x → IsIn (pos 0) (pos (128 * p)) (pos 128 *ℤ x)
    wide p x inside = (omega (arith, ints, inside.0), omega (arith, ints, inside.1))

-- ---- a drone's cue
scale_is : (n : ℕ) → pos n *ℤ pos 5040 ≡ pos (5040 * n)
scale_is n = omega (arith, ints)

pub to_here : (c : Raised) (r h depth : ℕ) (region : Region) (drone cue : ℕ) (curves : List (Bez 8)) (i : ℕ) → curves ≡ curves_at c drone cue → KeptIn r h region curves (pos 5040) depth i → KeptHere c r h depth region drone cue i
to_here c r h depth region drone cue curves i is kept =
    kept-same r h region (part_of curves depth i) (part_of (curves_at c drone cue) depth i) (pos (2 ^ (7 * depth)) *ℤ pos 5040) (pos (5040 * 2 ^ (7 * depth)))
    (λ axis k near small. ap (λ (cs : List (Bez 8)). part_of cs depth i axis k) is) (scale_is (2 ^ (7 * depth))) kept

from_here : (c : Raised) (r h depth : ℕ) (region : Region) (drone cue : ℕ) (curves : List (Bez 8)) (i : ℕ) → curves ≡ curves_at c drone cue → KeptHere c r h depth region drone cue i → KeptIn r h region curves (pos 5040) depth i
from_here c r h depth region drone cue curves i is kept =
    kept-same r h region (part_of (curves_at c drone cue) depth i) (part_of curves depth i) (pos (5040 * 2 ^ (7 * depth))) (pos (2 ^ (7 * depth)) *ℤ pos 5040)
    (λ axis k near small. ap (λ (cs : List (Bez 8)). part_of cs depth i axis k) (sym is)) (sym (scale_is (2 ^ (7 * depth)))) kept

pub answer_cue : (c : Raised) (r h depth : ℕ) (region : Region) (drone cue : ℕ) (curves : List (Bez 8)) (o : Option ℕ) → curves ≡ curves_at c drone cue →
    MatchOption o (AllKeptIn r h region curves (pos 5040) depth) (IsFirstIn r h region curves (pos 5040) depth) → MatchOption o (CueKept c r h depth region drone cue) (IsFirstOfCue c r h depth region drone cue)
answer_cue c r h depth region drone cue curves None is found = λ i inside. to_here c r h depth region drone cue curves i is (found i inside)
answer_cue c r h depth region drone cue curves (Some index) is found = grind (arith, common_steps, from_here, to_here)

pub first_scale : (depth : ℕ) → depth ≤ 8 → pos 5040 ≤ℤ pos (2 ^ (70 - 7 * depth))
first_scale depth shallow =
    let more : 14 ≤ 70 - 7 * depth = omega arith in
    let room : 2 ^ 14 ≤ 2 ^ (70 - 7 * depth) = pow-le-pow_right {n = 2} (lit< tt) more in
    omega (arith, ints)

pub first_room : (depth : ℕ) (x : ℤ) → depth ≤ 8 → IsBelow (2 ^ 28) x → IsWithin (pos (2 ^ (84 - 7 * depth))) x
first_room depth x shallow below =
    let more : 28 ≤ 84 - 7 * depth = omega arith in
    let room : 2 ^ 28 ≤ 2 ^ (84 - 7 * depth) = pow-le-pow_right {n = 2} (lit< tt) more in
    (omega (arith, ints, room, below.0), omega (arith, ints, room, below.1))

-- The halves of a separated place are separated.
use Rattle.pair_search.proofs.Prelude.{◌≡◌, ℕ, suc, ◌+◌, ◌-◌, ◌*◌, ◌^◌, ◌≤◌, ◌<◌, ℤ, pos, ◌+ℤ◌, ◌*ℤ◌, ◌≤ℤ◌, true, false, arith, refl, sym, ◌∙◌, ap, List, [], length, get_or, Option, Some, None, is_none, pow-add, at, mul_assoc_ℤ, one_mul_ℤ, Bez, controls, Place, part_value, polar-mix, polar-same, Clearance, direction_of, threshold, position-Some, Separates, least_value, low_value, part_along, first_low-none, first_low-values, first_direction, left_half, right_half}
use Rattle.whole_numbers.specs.Sums.{power}
use Rattle.whole_numbers.proofs.SumLemmas.{power-add}
use Rattle.bezier_core.proofs.SeparationLemmas.{half-at_least}
use Rattle.pair_search.proofs.Firsts.{position-there}
use Rattle.pair_search.proofs.Trees.{Has}

-- a part of a weighted sum of three curves is the weighted sum of their parts
part-sum : (e m k : ℕ) (u v w : ℤ) (f g h : ℕ → ℤ) →
    part_value e m (λ i. u *ℤ f i +ℤ v *ℤ g i +ℤ w *ℤ h i) k ≡ u *ℤ part_value e m f k +ℤ v *ℤ part_value e m g k +ℤ w *ℤ part_value e m h k
part-sum e m k u v w f g h =
    polar-same (7 - k) k (λ i. u *ℤ f i +ℤ v *ℤ g i +ℤ w *ℤ h i) (λ i. pos 1 *ℤ (u *ℤ f i +ℤ v *ℤ g i) +ℤ w *ℤ h i) (pos m) (pos (m + 1)) (pos (2 ^ e))
    (λ i low. ap (λ (z : ℤ). z +ℤ w *ℤ h i) (sym (one_mul_ℤ (u *ℤ f i +ℤ v *ℤ g i))))
    ∙ polar-mix (7 - k) k (pos 1) w (λ i. u *ℤ f i +ℤ v *ℤ g i) h (pos m) (pos (m + 1)) (pos (2 ^ e))
    ∙ ap (λ (z : ℤ). z +ℤ w *ℤ part_value e m h k) (one_mul_ℤ (part_value e m (λ i. u *ℤ f i +ℤ v *ℤ g i) k) ∙ polar-mix (7 - k) k u v f g (pos m) (pos (m + 1)) (pos (2 ^ e)))

-- the threshold of a half is that of the whole, times 2^7
next_least : (t : ℤ) (e k : ℕ) → k ≤ 7 → (least_value t e *ℤ power (pos 2) k) *ℤ power (pos 2) (7 - k) ≡ least_value t (suc e)
next_least t e k small =
    let seven : k + (7 - k) ≡ 7 = omega arith in
    let up : 7 * suc e ≡ 7 * e + 7 = omega arith in
    mul_assoc_ℤ (least_value t e) (power (pos 2) k) (power (pos 2) (7 - k))
    ∙ ap (λ (z : ℤ). least_value t e *ℤ z) (sym (power-add (pos 2) k (7 - k)) ∙ ap (λ (n : ℕ). power (pos 2) n) seven)
    ∙ mul_assoc_ℤ t (pos (5040 * 2 ^ (7 * e))) (power (pos 2) 7)
    ∙ ap (λ (n : ℕ). t *ℤ pos n) (scaled (2 ^ (7 * e)) ∙ ap (λ (n : ℕ). 5040 * n) (sym (pow-add 2 (7 * e) 7) ∙ ap (λ (n : ℕ). 2 ^ n) (sym up)))
  where
    scaled : (p : ℕ) → 5040 * p * 128 ≡ 5040 * (p * 128)
    scaled p = omega arith

-- where a direction separates a place, it separates each of its halves
half-separates : (c : Clearance) (diff : List (Bez 8)) (n : List ℤ) (e m side : ℕ) → side ≤ 1 → Separates c diff (record { depth = e; index = m }) n → Separates c diff (record { depth = suc e; index = 2 * m + side }) n
half-separates c diff n e m side small separates k within =
    let u : ℤ = at n 0 *ℤ pos c.h in
    let v : ℤ = at n 1 *ℤ pos c.h in
    let w : ℤ = at n 2 *ℤ pos c.r in
    let x : ℕ → ℤ = at (controls diff 0) in
    let y : ℕ → ℤ = at (controls diff 1) in
    let z : ℕ → ℤ = at (controls diff 2) in
    let t : ℤ = threshold c n in
    let above : (i : ℕ) → i ≤ 7 → least_value t e ≤ℤ part_value e m (λ i. u *ℤ x i +ℤ v *ℤ y i +ℤ w *ℤ z i) i =
    λ i near. rw (part-sum e m i u v w x y z) (separates i near) in
    let half : ((least_value t e *ℤ power (pos 2) k) *ℤ power (pos 2) (7 - k)) ≤ℤ part_value (suc e) (2 * m + side) (λ i. u *ℤ x i +ℤ v *ℤ y i +ℤ w *ℤ z i) k =
    half-at_least e m side k (λ i. u *ℤ x i +ℤ v *ℤ y i +ℤ w *ℤ z i) (least_value t e) small within above in
    rw (← next_least t e k within, ← part-sum (suc e) (2 * m + side) k u v w x y z) half

pub left-separates : (c : Clearance) (diff : List (Bez 8)) (n : List ℤ) (p : Place) → Separates c diff p n → Separates c diff (left_half p) n
left-separates c diff n p separates =
    let up : p.depth + 1 ≡ suc p.depth = omega arith in
    let same : 2 * p.index ≡ 2 * p.index + 0 = omega arith in
    rw (up, same) (half-separates c diff n p.depth p.index 0 (omega arith) separates)

pub right-separates : (c : Clearance) (diff : List (Bez 8)) (n : List ℤ) (p : Place) → Separates c diff p n → Separates c diff (right_half p) n
right-separates c diff n p separates =
    let up : p.depth + 1 ≡ suc p.depth = omega arith in
    rw up (half-separates c diff n p.depth p.index 1 (omega arith) separates)

-- ---- places with a direction
-- where there is a first direction, it separates the place
pub first-separates : (c : Clearance) (diff : List (Bez 8)) (dirs : List (List ℤ)) (p : Place) (dir : ℕ) → first_direction c diff dirs p ≡ Some dir → (dir < length dirs) × Separates c diff p (direction_of dirs dir)
unfolding first_direction
first-separates c diff dirs p dir e =
    let found : (dir < length dirs) × (is_none (low_value c diff p (get_or dirs dir [])) ≡ true) × ((k : ℕ) → k < dir → is_none (low_value c diff p (get_or dirs k [])) ≡ false) =
    position-Some (λ n. is_none (low_value c diff p n)) dirs dir [] e in (
      found.0,
      first_low-values (part_along c.r c.h diff p (get_or dirs dir [])) (least_value (threshold c (get_or dirs dir [])) p.depth)
          (is_nothing (low_value c diff p (get_or dirs dir [])) found.1),
    )
  where
    is_nothing : (o : Option ℕ) → is_none o ≡ true → o ≡ None
    is_nothing None e = refl
    is_nothing (Some k) e = cc

-- where some direction separates a place, there is a first one
pub first-there : (c : Clearance) (diff : List (Bez 8)) (dirs : List (List ℤ)) (p : Place) (dir : ℕ) → dir < length dirs → Separates c diff p (direction_of dirs dir) → Has (first_direction c diff dirs) p
unfolding first_direction
first-there c diff dirs p dir inside separates =
    position-there (λ n. is_none (low_value c diff p n)) dirs dir [] inside
    (ap is_none (first_low-none (part_along c.r c.h diff p (get_or dirs dir [])) (least_value (threshold c (get_or dirs dir [])) p.depth) separates))

pub left_has : (c : Clearance) (diff : List (Bez 8)) (dirs : List (List ℤ)) (p : Place) → Has (first_direction c diff dirs) p → Has (first_direction c diff dirs) (left_half p)
left_has c diff dirs p has =
    let told : (has.0 < length dirs) × Separates c diff p (direction_of dirs has.0) = first-separates c diff dirs p has.0 has.1 in
    first-there c diff dirs (left_half p) has.0 told.0 (left-separates c diff (direction_of dirs has.0) p told.1)

pub right_has : (c : Clearance) (diff : List (Bez 8)) (dirs : List (List ℤ)) (p : Place) → Has (first_direction c diff dirs) p → Has (first_direction c diff dirs) (right_half p)
right_has c diff dirs p has =
    let told : (has.0 < length dirs) × Separates c diff p (direction_of dirs has.0) = first-separates c diff dirs p has.0 has.1 in
    first-there c diff dirs (right_half p) has.0 told.0 (right-separates c diff (direction_of dirs has.0) p told.1)

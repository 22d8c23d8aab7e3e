-- The parts of the curves at a place: how large they are, their halves, and their values along a direction.
use Rattle.sep_parts.proofs.Prelude.{common_steps, ◌≡◌, ℕ, suc, ◌+◌, ◌-◌, ◌*◌, ◌^◌, ◌≤◌, ◌<◌, ℤ, pos, ◌+ℤ◌, ◌*ℤ◌, arith, ◌∙◌, ap, List, [], length, All, lit<, ints, pow-le-pow_right, pow-suc, All-from_get_or, All-get_or, at, Bez, IsBelow, along_value, controls, eight, at-eight, same_eight, list_of_eight, controls_below, part_value, IsPlace, AreRaised, Level, weights, first_low, part_along, IsLevel, left_half, right_half, root, part-within}
use Rattle.bezier_core.proofs.PolarLemmas.{polar-same, part-part, part-whole}
use Rattle.bezier_core.specs.Steps.{IsWithin}
use Rattle.sep_parts.proofs.Lows.{first_low-same}

-- ---- how large the values of a part are

below_wide : (p : ℕ) (x : ℤ) → p ≤ 2 ^ 56 → IsWithin (pos p *ℤ pos (2 ^ 30 - 1)) x → IsBelow (2 ^ 86) x
below_wide p x few within = (omega (arith, ints), omega (arith, ints))

within_of : (x : ℤ) → IsBelow (2 ^ 30) x → IsWithin (pos (2 ^ 30 - 1)) x
within_of x below = (omega (arith, ints), omega (arith, ints))

pub part-small : (e m k : ℕ) (f : ℕ → ℤ) → IsPlace e m → k ≤ 7 → ((i : ℕ) → i ≤ 7 → IsBelow (2 ^ 30) (f i)) → IsBelow (2 ^ 86) (part_value e m f k)
part-small e m k f place small below =
    let few : 7 * e ≤ 56 = omega (arith, place.0) in
    below_wide (2 ^ (7 * e)) (part_value e m f k) (pow-le-pow_right {n = 2} (lit< tt) few)
    (part-within e m k f (pos (2 ^ 30 - 1)) place.1 small (λ i low. within_of (f i) (below i low)))

-- the values of a part that is halved at most so many times
pub level_below : (most n : ℕ) (diff : List (Bez 8)) (level : Level) → level.place.depth ≤ most → 2 ^ (7 * most) * 2 ^ 30 ≤ n → 1 ≤ n → IsLevel diff level →
    All (λ (curve : Bez 8). All (IsBelow (2 ^ 30)) curve.b) diff → All (λ (curve : Bez 8). All (IsBelow n) curve.b) level.part
level_below most n diff level shallow room some is small =
    All-from_get_or (λ (curve : Bez 8). All (IsBelow n) curve.b) level.part (record { b = [] })
    (λ axis inside. All-from_get_or (IsBelow n) (controls level.part axis) (pos 0) (λ k low. one axis k inside low))
  where
    below : (p q : ℕ) (x : ℤ) → p ≤ q → q * 2 ^ 30 ≤ n → IsWithin (pos p *ℤ pos (2 ^ 30 - 1)) x → IsBelow n x
    below p q x few enough within = (omega (arith, ints, some), omega (arith, ints, some))

    one : (axis k : ℕ) → axis < length level.part → k < length (controls level.part axis) → IsBelow n (at (controls level.part axis) k)
    one axis k inside low =
        let axis_is : axis ≤ 2 = omega (arith, is.axes) in
        let values : controls level.part axis ≡ eight (part_value level.place.depth level.place.index (at (controls diff axis))) = is.part axis axis_is in
        let few : k ≤ 7 = omega (arith, ap (λ (xs : List ℤ). length xs) values) in
        let shift : 7 * level.place.depth ≤ 7 * most = omega arith in
        rw values (rw (at-eight (part_value level.place.depth level.place.index (at (controls diff axis))) k few)
        (below (2 ^ (7 * level.place.depth)) (2 ^ (7 * most)) (part_value level.place.depth level.place.index (at (controls diff axis)) k) (pow-le-pow_right {n = 2} (lit< tt) shift) room
        (part-within level.place.depth level.place.index k (at (controls diff axis)) (pos (2 ^ 30 - 1)) is.place.1 few (λ i near. within_of (at (controls diff axis) i) (controls_below (2 ^ 30) diff axis i (lit< tt) small)))))

pub level_small : (diff : List (Bez 8)) (level : Level) → IsLevel diff level → All (λ (curve : Bez 8). All (IsBelow (2 ^ 30)) curve.b) diff →
    All (λ (curve : Bez 8). All (IsBelow (2 ^ 86)) curve.b) level.part
level_small diff level is small = level_below 8 (2 ^ 86) diff level is.place.0 (omega arith) (lit< tt) is small

-- of one that is halved at most twice
pub level_narrow : (diff : List (Bez 8)) (level : Level) → level.place.depth ≤ 2 → IsLevel diff level → All (λ (curve : Bez 8). All (IsBelow (2 ^ 30)) curve.b) diff →
    All (λ (curve : Bez 8). All (IsBelow (2 ^ 46)) curve.b) level.part
level_narrow diff level shallow is small = level_below 2 (2 ^ 46) diff level shallow (omega arith) (lit< tt) is small

-- of one that is halved at most three times, whose halves are made in 64 bits
pub level_halved : (diff : List (Bez 8)) (level : Level) → level.place.depth < 4 → IsLevel diff level → All (λ (curve : Bez 8). All (IsBelow (2 ^ 30)) curve.b) diff →
    All (λ (curve : Bez 8). All (IsBelow (2 ^ 54)) curve.b) level.part
level_halved diff level shallow is small = level_below 3 (2 ^ 54) diff level (omega arith) (omega arith) (lit< tt) is small

-- each curve of a level has eight control values
pub level_sizes : (diff : List (Bez 8)) (level : Level) → IsLevel diff level → All (λ (curve : Bez 8). length curve.b ≡ 8) level.part
level_sizes diff level is =
    All-from_get_or (λ (curve : Bez 8). length curve.b ≡ 8) level.part (record { b = [] }) (λ axis inside. ap (λ (xs : List ℤ). length xs) (is.part axis (omega (arith, is.axes, inside))))

-- ---- halves
half-part : (e m r : ℕ) (f : ℕ → ℤ) (b : List ℤ) → r ≤ 1 → b ≡ eight (part_value e m f) → eight (part_value 1 r (at b)) ≡ eight (part_value (e + 1) (2 * m + r) f)
half-part e m r f b small is =
    same_eight (part_value 1 r (at b)) (part_value (e + 1) (2 * m + r) f) (λ k low. one k (omega arith))
  where
    one : (k : ℕ) → k ≤ 7 → part_value 1 r (at b) k ≡ part_value (e + 1) (2 * m + r) f k
    one k low =
        let up : e + 1 ≡ suc e = omega arith in
        rw up (polar-same (7 - k) k (at b) (part_value e m f) (pos r) (pos (r + 1)) (pos 2) (λ i near. ap (λ (xs : List ℤ). at xs i) is ∙ at-eight (part_value e m f) i (omega arith))
        ∙ part-part e m r k f small low)

next_depth : (e : ℕ) → 2 ^ (e + 1) ≡ 2 ^ e * 2
next_depth e = let up : e + 1 ≡ suc e = omega arith in rw up (pow-suc 2 e)

pub left_level : (diff part : List (Bez 8)) (level : Level) → IsLevel diff level → level.place.depth < 8 → length part ≡ 3 →
    ((axis : ℕ) → axis ≤ 2 → controls part axis ≡ eight (part_value 1 0 (at (controls level.part axis)))) → IsLevel diff (record { place = left_half level.place; part = part })
left_level diff part level is shallow len halves = record {
  place = (omega arith, rw (next_depth level.place.depth) (omega (arith, is.place.1)));
  axes = len;
  part = λ axis small. halves axis small ∙ half-part level.place.depth level.place.index 0 (at (controls diff axis)) (controls level.part axis) (omega arith) (is.part axis small)
      ∙ ap (λ (n : ℕ). eight (part_value (level.place.depth + 1) n (at (controls diff axis)))) (omega arith);
}

pub right_level : (diff part : List (Bez 8)) (level : Level) → IsLevel diff level → level.place.depth < 8 → length part ≡ 3 →
    ((axis : ℕ) → axis ≤ 2 → controls part axis ≡ eight (part_value 1 1 (at (controls level.part axis)))) → IsLevel diff (record { place = right_half level.place; part = part })
right_level diff part level is shallow len halves = grind (arith, common_steps, next_depth, half-part)

-- the whole curves are the part at the root
pub root_level : (diff : List (Bez 8)) → length diff ≡ 3 → ((axis : ℕ) → axis ≤ 2 → length (controls diff axis) ≡ 8) → IsLevel diff (record { place = root; part = diff })
root_level diff len sizes = grind (arith, common_steps, list_of_eight, same_eight, part-whole)

-- that of a difference
pub raised_level : (diff : List (Bez 8)) → AreRaised diff → IsLevel diff (record { place = root; part = diff })
raised_level diff is = root_level diff is.axes (λ axis near. All-get_or (λ (curve : Bez 8). length curve.b ≡ 8) diff axis (record { b = [] }) (omega (arith, is.axes, near)) is.sizes)

-- ---- along a direction
pub low-along : (diff : List (Bez 8)) (level : Level) (n : List ℤ) (r h : ℕ) (least : ℤ) → IsLevel diff level →
    first_low (along_value level.part (weights n r h)) least ≡ first_low (part_along r h diff level.place n) least
low-along diff level n r h least is =
    first_low-same (along_value level.part (weights n r h)) (part_along r h diff level.place n) least (λ k small. one k small)
  where
    value : (axis k : ℕ) → axis ≤ 2 → k ≤ 7 → at (controls level.part axis) k ≡ part_value level.place.depth level.place.index (at (controls diff axis)) k
    value axis k near small = ap (λ (xs : List ℤ). at xs k) (is.part axis near) ∙ at-eight (part_value level.place.depth level.place.index (at (controls diff axis))) k small

    sums : {x y z u v w : ℤ} (a b c : ℤ) → x ≡ u → y ≡ v → z ≡ w → a *ℤ x +ℤ b *ℤ y +ℤ c *ℤ z ≡ a *ℤ u +ℤ b *ℤ v +ℤ c *ℤ w
    sums {x} {y} {z} {u} {v} {w} a b c p q r = cc

    one : (k : ℕ) → k ≤ 7 → along_value level.part (weights n r h) k ≡ part_along r h diff level.place n k
    one k small = sums (at n 0 *ℤ pos h) (at n 1 *ℤ pos h) (at n 2 *ℤ pos r) (value 0 k (omega arith) small) (value 1 k (omega arith) small) (value 2 k (omega arith) small)

-- What a ruler tells of a part.
use Rattle.sep_parts.proofs.Prelude.{arith, length-map, ◌≡◌, ℕ, ◌^◌, ◌≤◌, ◌<◌, ℤ, pos, ◌≤ℤ◌, ◌<ℤ◌, ◌↔◌, IsTrue, Bool, true, false, refl, sym, ◌∙◌, ap, List, [], length, get_or, Option, Some, None, is_none, to_z, of_z, All-get_or, w128, at, Bez, along_value, Level, Clearance, threshold, weights, AreSmall, first_low, least_value, low_value, IsLevel}
use Rattle.sep_parts.specs.Rulers.{IsRuler}
use Rattle.sep_parts.proofs.Parts.{low-along}
use Rattle.sep_parts.proofs.Lows.{first_low-none, first_low-values}
use Rattle.sep_parts.proofs.Limits.{threshold_told, threshold_low, threshold_small}

module _ (dirs : List (List ℤ)) (ts : List ℤ) (c : Clearance) (dir : ℕ) (ruler : IsRuler dirs ts c) (inside : dir < length dirs) where
  -- a kept threshold is that of its direction
  pub told : to_z w128 (of_z w128 (at ts dir)) ≡ threshold c (get_or dirs dir [])
  told = threshold_told c ts dirs dir ruler.clear ruler.entries ruler.reached inside

  -- a kept threshold is not negative
  pub positive : pos 0 ≤ℤ to_z w128 (of_z w128 (at ts dir))
  positive = rw told (threshold_low c (get_or dirs dir []))

  -- and below 2^30
  pub small : to_z w128 (of_z w128 (at ts dir)) <ℤ pos (2 ^ 30)
  small = rw told (threshold_small c (get_or dirs dir []) ruler.clear (All-get_or AreSmall dirs dir [] inside ruler.entries))

  -- each direction has a threshold, its entries are small, and there are few
  pub reaches : dir < length ts
  reaches = let same : length ts ≡ length dirs = rw ruler.reached (length-map dirs (threshold c)) in omega (arith, inside, same)

  pub entries : AreSmall (get_or dirs dir [])
  entries = All-get_or AreSmall dirs dir [] inside ruler.entries

  pub few : dir < 98
  few = omega (arith, inside, ruler.few)

  -- the first low control value of a part, by the kept threshold
  pub low : (diff : List (Bez 8)) (level : Level) → IsLevel diff level →
      first_low (along_value level.part (weights (get_or dirs dir []) c.r c.h)) (least_value (to_z w128 (of_z w128 (at ts dir))) level.place.depth)
      ≡ low_value c diff level.place (get_or dirs dir [])
  low diff level is =
      ap (λ (t : ℤ). first_low (along_value level.part (weights (get_or dirs dir []) c.r c.h)) (least_value t level.place.depth)) told
      ∙ low-along diff level (get_or dirs dir []) c.r c.h (least_value (threshold c (get_or dirs dir [])) level.place.depth) is

  -- whether none is low
  pub none_low : (diff : List (Bez 8)) (level : Level) (b : Bool) → IsLevel diff level →
      (IsTrue b ↔ ((k : ℕ) → k ≤ 7 → least_value (to_z w128 (of_z w128 (at ts dir))) level.place.depth ≤ℤ along_value level.part (weights (get_or dirs dir []) c.r c.h) k)) →
      b ≡ is_none (low_value c diff level.place (get_or dirs dir []))
  none_low diff level b is reach =
      sym (tested b (along_value level.part (weights (get_or dirs dir []) c.r c.h)) (least_value (to_z w128 (of_z w128 (at ts dir))) level.place.depth) reach)
      ∙ ap is_none (low diff level is)
    where
      tested : (b : Bool) (f : ℕ → ℤ) (least : ℤ) → (IsTrue b ↔ ((k : ℕ) → k ≤ 7 → least ≤ℤ f k)) → is_none (first_low f least) ≡ b
      tested true f least reach = ap is_none (first_low-none f least (reach.0 refl))
      tested false f least reach = go (first_low f least) refl
        where
          go : (o : Option ℕ) → first_low f least ≡ o → is_none o ≡ false
          go None e = sym (reach.1 (first_low-values f least e))
          go (Some k) e = refl

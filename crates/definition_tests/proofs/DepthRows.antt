-- Parts of one cue, computed.
use Rattle.definition_tests.proofs.Prelude.{◌<◌, ℕ, zero, suc, arith, refl, raised_value, bernstein, polar, difference, raised_of, direction_of, root_above, left_half, right_half, root, Separates, IsClear, blocked_place}
use Rattle.definition_tests.specs.Depths.{DepthRows, SearchRows, near, slants, turning}
use Rattle.definition_tests.proofs.Counting.{to_seven}

-- the first half lies between x and y, the second between x backward and y
first_half : Separates near turning (left_half root) (direction_of slants 0)
unfolding raised_of difference root_above polar bernstein raised_value
first_half = to_seven _ (omega arith) (omega arith) (omega arith) (omega arith) (omega arith) (omega arith) (omega arith) (omega arith)

second_half : Separates near turning (right_half root) (direction_of slants 1)
unfolding raised_of difference root_above polar bernstein raised_value
second_half = to_seven _ (omega arith) (omega arith) (omega arith) (omega arith) (omega arith) (omega arith) (omega arith) (omega arith)

first_quarter : Separates near turning (left_half (left_half root)) (direction_of slants 0)
unfolding raised_of difference root_above polar bernstein raised_value
first_quarter = to_seven _ (omega arith) (omega arith) (omega arith) (omega arith) (omega arith) (omega arith) (omega arith) (omega arith)

second_quarter : Separates near turning (right_half (left_half root)) (direction_of slants 0)
unfolding raised_of difference root_above polar bernstein raised_value
second_quarter = to_seven _ (omega arith) (omega arith) (omega arith) (omega arith) (omega arith) (omega arith) (omega arith) (omega arith)

-- at its end the drone is backward on x, and at its beginning forward; so no half has the direction of the other
end_low : Separates near turning root (direction_of slants 0) → ⊥
unfolding raised_of difference root_above polar bernstein raised_value
end_low is = let low = is 7 (omega arith) in absurd (omega (arith, low))

beginning_low : Separates near turning root (direction_of slants 1) → ⊥
unfolding raised_of difference root_above polar bernstein raised_value
beginning_low is = let low = is 0 (omega arith) in absurd (omega (arith, low))

half_low : Separates near turning (left_half root) (direction_of slants 1) → ⊥
unfolding raised_of difference root_above polar bernstein raised_value
half_low is = let low = is 0 (omega arith) in absurd (omega (arith, low))

whole_low : (dir : ℕ) → dir < 2 → Separates near turning root (direction_of slants dir) → ⊥
whole_low zero known is = end_low is
whole_low (suc zero) known is = beginning_low is
whole_low (suc (suc dir)) known is = absurd (omega (arith, known))

in_halves : IsClear near turning slants 1
in_halves zero below = (0, omega arith, first_half)
in_halves (suc zero) below = (1, omega arith, second_half)
in_halves (suc (suc index)) below = absurd (let few : suc (suc index) < 2 = below in omega (arith, few))

pub depth : DepthRows
depth = record {
  whole = λ clear. let found = clear 0 (omega arith) in whole_low found.0 found.1 found.2;
  in_halves = in_halves;
  one_deep = (omega arith, first_half, second_half);
  too_deep = λ valid. let deep : 0 < 0 = valid.0 in absurd (omega (arith, deep));
  first_leaf = λ valid. end_low valid;
  second_leaf = λ valid. beginning_low valid;
  exchanged = λ valid. half_low valid.1;
  deeper = λ valid. let deep : 1 < 1 = valid.1.0 in absurd (omega (arith, deep));
  two_deep = (omega arith, (omega arith, first_quarter, second_quarter), second_half);
}

pub search : SearchRows
unfolding blocked_place
search = record {
  whole = refl;
  second_half = refl;
  third_quarter = refl;
  clear = refl;
  no_tree = refl;
  no_tree_of_halves = refl;
  no_tree_of_quarters = refl;
  tree = refl;
  one_leaf = refl;
}

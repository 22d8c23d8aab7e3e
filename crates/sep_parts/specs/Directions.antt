-- The directions along which two drones are told apart, and how far apart they must be along each.
use Rattle.std.specs.Prelude.{◌≡◌, ◌⊎◌, ℕ, zero, suc, ◌+◌, ◌*◌, ◌%◌, ◌==◌, ◌≤◌, ◌<◌, ℤ, pos, negsuc, neg_ℤ, ◌+ℤ◌, ◌-ℤ◌}
use Rattle.std.specs.Prelude.{◌*ℤ◌, ◌≤ℤ◌, ◌<ℤ◌, Bool, true, false, not, ◌&&◌, ◌||◌, int_lt, List, [], ◌∷◌, length, map}
use Rattle.std.specs.Prelude.{filter, flat_map, unsigned_abs, slice_index_or, if◌then◌else◌}
use Rattle.whole_numbers.specs.Bernstein.{at}
use Rattle.sep_parts.specs.declared.clearance.Clearance.{Clearance}

-- how many directions the table has
abbrev pub direction_count : ℕ
direction_count = 26

-- a table has 26 directions, or 98
abbrev pub IsTableSize : ℕ → Type 0
IsTableSize m = (m ≡ 26) ⊎ (m ≡ 98)

-- a half axis of an ellipsoid has 1 to 2,000 millimetres
abbrev pub IsAxis : ℕ → Type 0
IsAxis r = (1 ≤ r) × (r ≤ 2000)

-- how far a drone moves on an axis while it is late, at most
abbrev pub reach_on : Clearance → ℕ → ℕ
reach_on c axis = slice_index_or c.reach axis 0

-- A clearance as shows have it: half axes of 1 to 2,000 mm, a stray of at most 1,000 mm, and a reach of at most 65,536
-- mm on each axis, which is farther than two positions can be from one another.
pub record IsClearance (c : Clearance) : Type 0 where
  pub across : IsAxis c.r
  pub upwards : IsAxis c.h
  pub stray : c.stray ≤ 1000
  pub reach : (axis : ℕ) → reach_on c axis ≤ 65536

-- the three entries of a direction lie from -2 to 2
pub record AreSmall (n : List ℤ) : Type 0 where
  pub low : (k : ℕ) → k ≤ 2 → neg_ℤ (pos 2) ≤ℤ at n k
  pub high : (k : ℕ) → k ≤ 2 → at n k ≤ℤ pos 2

-- z lies from 0 to 16,000,000, as the square of a weight does
abbrev pub IsSquare : ℤ → Type 0
IsSquare z = (pos 0 ≤ℤ z) × (z ≤ℤ pos 16000000)

-- n . n, the square of a direction's length
abbrev pub length_squared : List ℤ → ℤ
length_squared n = at n 0 *ℤ at n 0 +ℤ at n 1 *ℤ at n 1 +ℤ at n 2 *ℤ at n 2

-- ---- the tables
abbrev pub entries : List ℤ
entries = negsuc 0 ∷ pos 0 ∷ pos 1 ∷ []

abbrev pub is_zero : ℤ → Bool
is_zero x = not (int_lt x (pos 0)) && not (int_lt (pos 0) x)

-- each of three numbers out of some, in lexicographic order where these rise
abbrev pub triples_of : List ℤ → List (List ℤ)
triples_of numbers = flat_map (λ x. flat_map (λ y. map (λ z. x ∷ y ∷ z ∷ []) numbers) numbers) numbers

-- the directions of the old table: the triples out of -1, 0 and 1 that aren't all 0
abbrev pub directions : List (List ℤ)
directions = filter (λ n. not (is_zero (at n 0) && is_zero (at n 1) && is_zero (at n 2))) (triples_of entries)

-- the greatest common divisor by Euclid's rule, in this many steps at most; that of 0 and 0 is 0
abbrev pub divisor_in : ℕ → ℕ → ℕ → ℕ
divisor_in zero a b = a
divisor_in (suc n) a b = if b == 0 then a else divisor_in n b (a % b)

-- eight steps are enough for entries of directions
abbrev pub common_divisor : ℕ → ℕ → ℕ
common_divisor a b = divisor_in 8 a b

-- the greatest common divisor of a direction's entries
abbrev pub divisor_of : List ℤ → ℕ
divisor_of n = common_divisor (common_divisor (unsigned_abs (at n 0)) (unsigned_abs (at n 1))) (unsigned_abs (at n 2))

abbrev pub wide_entries : List ℤ
wide_entries = negsuc 1 ∷ negsuc 0 ∷ pos 0 ∷ pos 1 ∷ pos 2 ∷ []

-- the directions of the wide table: the triples out of -2 to 2 whose entries have the greatest common divisor 1
abbrev pub wide_directions : List (List ℤ)
wide_directions = filter (λ n. divisor_of n == 1) (triples_of wide_entries)

-- the one direction stands before the other in lexicographic order
abbrev pub is_before : List ℤ → List ℤ → Bool
is_before [] n = false
is_before (x ∷ xs) [] = false
is_before (x ∷ xs) (y ∷ ys) = int_lt x y || (not (int_lt y x) && is_before xs ys)

-- each direction stands before the next one, so no two are the same
abbrev pub is_rising : List (List ℤ) → Bool
is_rising [] = true
is_rising (m ∷ []) = true
is_rising (m ∷ n ∷ rest) = is_before m n && is_rising (n ∷ rest)

abbrev pub is_same : List ℤ → List ℤ → Bool
is_same m n = not (is_before m n) && not (is_before n m)

-- the direction stands in the table
abbrev pub has : List (List ℤ) → List ℤ → Bool
has [] n = false
has (m ∷ rest) n = is_same m n || has rest n

-- the opposite of each of these directions stands in the table
abbrev pub are_closed : List (List ℤ) → List (List ℤ) → Bool
are_closed table [] = true
are_closed table (n ∷ rest) = has table (map neg_ℤ n) && are_closed table rest

-- with each direction the table has the opposite one
abbrev pub is_closed : List (List ℤ) → Bool
is_closed table = are_closed table table

-- the direction of a number, counted from 0; past the table no direction
abbrev pub direction_of : List (List ℤ) → ℕ → List ℤ
direction_of table dir = slice_index_or table dir []

-- the direction stands in a table
abbrev pub Stands : List (List ℤ) → List ℤ → Type 0
Stands table n = (dir : ℕ) × (dir < length table) × (direction_of table dir ≡ n)

-- ---- thresholds
-- the first number from k on whose square is above v, looking at n numbers
abbrev pub root_from : ℤ → ℕ → ℕ → ℕ
root_from v zero k = k
root_from v (suc n) k = if int_lt v (pos (k * k)) then k else root_from v n (suc k)

-- The least whole number whose square is above v: |v| + 1 numbers are enough to find one.
unfoldable pub root_above : ℤ → ℕ
root_above v = root_from v (suc (unsigned_abs v)) 0

-- the least whole number whose square is at least v
abbrev pub root_reaching : ℤ → ℕ
root_reaching v = root_above (v -ℤ pos 1)

-- the weights of the three curves along a direction: (n_x h, n_y h, n_z r)
abbrev pub weights : List ℤ → ℕ → ℕ → List ℤ
weights n r h = (at n 0 *ℤ pos h) ∷ (at n 1 *ℤ pos h) ∷ (at n 2 *ℤ pos r) ∷ []

-- 4 r^2 h^2 (n . n)
abbrev pub limit_along : ℕ → ℕ → List ℤ → ℤ
limit_along r h n = pos (4 * (r * r) * (h * h)) *ℤ length_squared n

-- 4 stray^2 (w . w), where w are the weights along the direction
abbrev pub stray_limit : Clearance → List ℤ → ℤ
stray_limit c n = pos (4 * (c.stray * c.stray)) *ℤ length_squared (weights n c.r c.h)

-- what the ellipsoids ask for along a direction: the least whole number whose square is above 4 r^2 h^2 (n . n)
abbrev pub for_ellipsoids : Clearance → List ℤ → ℤ
for_ellipsoids c n = pos (root_above (limit_along c.r c.h n))

-- what the strays of two drones take away along it, at most: the least whole number whose square is at least 4 stray^2
-- (w . w)
abbrev pub for_strays : Clearance → List ℤ → ℤ
for_strays c n = pos (root_reaching (stray_limit c n))

-- what the way of a drone that is late takes away along it, at most: |w_x| times its reach on x, and so on
abbrev pub for_reach : Clearance → List ℤ → ℤ
for_reach c n =
    pos (unsigned_abs (at n 0 *ℤ pos c.h) * reach_on c 0 + unsigned_abs (at n 1 *ℤ pos c.h) * reach_on c 1
    + unsigned_abs (at n 2 *ℤ pos c.r) * reach_on c 2)

-- The threshold of a direction: how far apart along it two curves must be, so that the ellipsoids around two drones
-- share no point.
abbrev pub threshold : Clearance → List ℤ → ℤ
threshold c n = for_ellipsoids c n +ℤ for_strays c n +ℤ for_reach c n

-- t is the least number that is not negative and whose square is above v
pub record IsLeastRoot (v t : ℤ) : Type 0 where
  pub not_negative : pos 0 ≤ℤ t
  pub above : v <ℤ (t *ℤ t)
  pub least : (s : ℤ) → pos 0 ≤ℤ s → v <ℤ (s *ℤ s) → t ≤ℤ s

-- t is the least number that is not negative and whose square is at least v
pub record IsLeastReaching (v t : ℤ) : Type 0 where
  pub not_negative : pos 0 ≤ℤ t
  pub reaches : v ≤ℤ (t *ℤ t)
  pub least : (s : ℤ) → pos 0 ≤ℤ s → v ≤ℤ (s *ℤ s) → t ≤ℤ s

-- nobody strays or is late
pub record IsStill (c : Clearance) : Type 0 where
  pub stray : c.stray ≡ 0
  pub reach : (axis : ℕ) → reach_on c axis ≡ 0

-- The first two parts of a threshold are these least numbers, whatever the clearance and the direction, and where
-- nobody strays or is late it is its first part.
pub record ThresholdLaw : Type 0 where
  pub ellipsoids : (c : Clearance) (n : List ℤ) → IsLeastRoot (limit_along c.r c.h n) (for_ellipsoids c n)
  pub strays : (c : Clearance) (n : List ℤ) → IsLeastReaching (stray_limit c n) (for_strays c n)
  pub still : (c : Clearance) (n : List ℤ) → IsStill c → threshold c n ≡ for_ellipsoids c n

-- At an edge of a trajectory both neighbouring pieces give the same position.
use Rattle.whole_numbers.proofs.Prelude.{◌≡◌, ℕ, zero, suc, ◌+◌, ◌-◌, ◌*◌, ◌≤◌, ◌<◌, ℤ, pos, ◌*ℤ◌, true, false, nat_le, arith, refl, sym, ◌∙◌, ap, List, [], ◌∷◌, length, All, get_or, zero-add, nat_tests, All-nil, All-cons, All-head, All-tail, power, at, moment, moment_from, moment_in, time_before, edge, Piece, IsPiece, last_value, points, durations, decoded, IsSamePosition}
use Rattle.whole_numbers.proofs.RingLemmas.{mul_left_comm_ℤ, mul_assoc_ℤ}
use Rattle.whole_numbers.proofs.SumLemmas.{power-add}
use Rattle.whole_numbers.proofs.BernsteinLemmas.{bernstein-at_zero, bernstein-at_end}

-- the last of a list's numbers is its last value
at-last : (first : ℤ) (stored : List ℤ) → at (first ∷ stored) (length stored) ≡ last_value first stored
at-last first [] = refl
at-last first (v ∷ rest) = at-last v rest

-- each piece begins with the value with which the piece before it ends
pub points-joined : (first : ℤ) (pieces : List Piece) (cue : ℕ) → suc cue < length pieces →
    at (points first pieces (suc cue)) 0 ≡ at (points first pieces cue) (length (points first pieces cue) - 1)
points-joined first [] cue inside = absurd (omega arith)
points-joined first (piece ∷ []) cue inside = absurd (omega arith)
points-joined first (piece ∷ next ∷ rest) zero inside =
    let last : suc (length piece.stored) - 1 ≡ length piece.stored = omega arith in
    rw last (sym (at-last first piece.stored))
points-joined first (piece ∷ next ∷ rest) (suc cue) inside =
    points-joined (last_value first piece.stored) (next ∷ rest) cue (omega arith)

-- a piece has one to eight control points
pub points-count : (first : ℤ) (pieces : List Piece) (cue : ℕ) → All IsPiece pieces → cue < length pieces →
    (1 ≤ length (points first pieces cue)) × (length (points first pieces cue) ≤ 8)
points-count first [] cue all inside = absurd (omega arith)
points-count first (piece ∷ rest) zero all inside =
    let few : length piece.stored ≤ 7 = (All-head IsPiece piece rest all).few in
    (omega arith, omega arith)
points-count first (piece ∷ rest) (suc cue) all inside =
    points-count (last_value first piece.stored) rest cue (All-tail IsPiece piece rest all) (omega arith)

-- two powers whose exponents sum to seven
seventh_power : (x y : ℤ) (n : ℕ) → 1 ≤ n → n ≤ 8 → power x (8 - n) *ℤ (power x (n - 1) *ℤ y) ≡ power x 7 *ℤ y
seventh_power x y n some few =
    let e : 8 - n + (n - 1) ≡ 7 = omega arith in
    sym (mul_assoc_ℤ (power x (8 - n)) (power x (n - 1)) y)
    ∙ ap (λ (z : ℤ). z *ℤ y) (sym (power-add x (8 - n) (n - 1)) ∙ ap (power x) e)

-- a piece begins with its first control point
pub decoded-at_start : (start : ℤ) (pieces : List Piece) (cue c : ℕ) → All IsPiece pieces → cue < length pieces →
    decoded start pieces (record { cue = cue; a = 0; c = c }) ≡ power (pos c) 7 *ℤ at (points start pieces cue) 0
unfolding decoded
decoded-at_start start pieces cue c all inside =
    let count : (1 ≤ length (points start pieces cue)) × (length (points start pieces cue) ≤ 8) = points-count start pieces cue all inside in
    ap (λ (z : ℤ). power (pos c) (8 - length (points start pieces cue)) *ℤ z) (bernstein-at_zero (length (points start pieces cue) - 1) (at (points start pieces cue)) (pos c))
    ∙ seventh_power (pos c) (at (points start pieces cue) 0) (length (points start pieces cue)) count.0 count.1

-- a piece ends with its last control point
pub decoded-at_end : (start : ℤ) (pieces : List Piece) (cue c : ℕ) → All IsPiece pieces → cue < length pieces →
    decoded start pieces (record { cue = cue; a = c; c = c }) ≡ power (pos c) 7 *ℤ at (points start pieces cue) (length (points start pieces cue) - 1)
unfolding decoded
decoded-at_end start pieces cue c all inside =
    let count : (1 ≤ length (points start pieces cue)) × (length (points start pieces cue) ≤ 8) = points-count start pieces cue all inside in
    ap (λ (z : ℤ). power (pos c) (8 - length (points start pieces cue)) *ℤ z) (bernstein-at_end (length (points start pieces cue) - 1) (at (points start pieces cue)) (pos c))
    ∙ seventh_power (pos c) (at (points start pieces cue) (length (points start pieces cue) - 1)) (length (points start pieces cue)) count.0 count.1

-- the end of one piece and the beginning of the next are one position
pub decoded-joined : (start : ℤ) (pieces : List Piece) (cue c d : ℕ) → All IsPiece pieces → suc cue < length pieces →
    IsSamePosition start pieces (record { cue = cue; a = c; c = c }) (record { cue = suc cue; a = 0; c = d })
decoded-joined start pieces cue c d all inside =
    ap (λ (z : ℤ). power (pos d) 7 *ℤ z) (decoded-at_end start pieces cue c all (omega arith))
    ∙ mul_left_comm_ℤ (power (pos d) 7) (power (pos c) 7) (at (points start pieces cue) (length (points start pieces cue) - 1))
    ∙ ap (λ (z : ℤ). power (pos c) 7 *ℤ z)
    (ap (λ (z : ℤ). power (pos d) 7 *ℤ z) (sym (points-joined start pieces cue inside)) ∙ sym (decoded-at_start start pieces (suc cue) d all inside))

-- ---- where an edge lies
-- the end of a cue, multiplied out
spread : (q t ms : ℕ) → q * (t + ms) ≡ q * t + q * ms
spread q t ms = omega arith

-- a cue lasts from its beginning to its end
time_before-suc : (times : List ℕ) (cue : ℕ) → cue < length times → time_before times (suc cue) ≡ time_before times cue + get_or times cue 0
time_before-suc [] cue inside = absurd (omega arith)
time_before-suc (ms ∷ rest) zero inside = omega arith
time_before-suc (ms ∷ rest) (suc cue) inside = omega (arith, time_before-suc rest cue (omega arith))

-- the end of a cue is all of it
pub end-is : (times : List ℕ) (cue q : ℕ) → cue < length times → edge times cue q - q * time_before times cue ≡ q * get_or times cue 0
end-is times cue q inside =
    rw (time_before-suc times cue inside) (omega (arith, spread q (time_before times cue) (get_or times cue 0)))

-- the next cue begins there
pub start-is : (times : List ℕ) (cue q : ℕ) → edge times cue q - q * time_before times (suc cue) ≡ 0
start-is times cue q = omega arith

-- some time has passed at the end of a cue
lasting : (times : List ℕ) (cue : ℕ) → All (λ ms. 1 ≤ ms) times → cue < length times → 1 ≤ time_before times (suc cue)
lasting [] cue all inside = absurd (omega arith)
lasting (ms ∷ rest) cue all inside = let some : 1 ≤ ms = All-head (λ (ms : ℕ). 1 ≤ ms) ms rest all in omega arith

-- more time is a later numerator
some_more : (q t m : ℕ) → 1 ≤ q → 1 ≤ m → q * t < q * (t + m)
some_more q t m some more = grind arith

-- the first cue whose end is not before the end of a cue is that cue
pub moment_from-edge : (times : List ℕ) (t0 first cue q : ℕ) → 1 ≤ q → All (λ ms. 1 ≤ ms) times → cue < length times →
    moment_from t0 first times (q * (t0 + time_before times (suc cue))) q ≡ record { cue = first + cue; a = q * get_or times cue 0; c = q * get_or times cue 0 }
moment_from-edge [] t0 first cue q some all inside = absurd (omega arith)
moment_from-edge (ms ∷ rest) t0 first zero q some all inside =
    let whole : t0 + (ms + 0) ≡ t0 + ms = omega arith in
    let told : nat_le (q * (t0 + ms)) (q * (t0 + ms)) ≡ true = grind (arith, nat_tests) in
    let length_is : q * (t0 + ms) - q * t0 ≡ q * ms = omega (arith, spread q t0 ms) in
    let here : first + 0 ≡ first = omega arith in
    rw (whole, told, length_is, here) refl
moment_from-edge (ms ∷ rest) t0 first (suc cue) q some all inside =
    let more : 1 ≤ time_before rest (suc cue) = lasting rest cue (All-tail (λ (ms : ℕ). 1 ≤ ms) ms rest all) (omega arith) in
    let whole : t0 + (ms + time_before rest (suc cue)) ≡ t0 + ms + time_before rest (suc cue) = omega arith in
    let later : q * (t0 + ms) < q * (t0 + ms + time_before rest (suc cue)) = some_more q (t0 + ms) (time_before rest (suc cue)) some more in
    let told : nat_le (q * (t0 + ms + time_before rest (suc cue))) (q * (t0 + ms)) ≡ false = grind (arith, nat_tests) in
    let there : first + suc cue ≡ suc first + cue = omega arith in
    rw (whole, told, there) (moment_from-edge rest (t0 + ms) (suc first) cue q some (All-tail (λ (ms : ℕ). 1 ≤ ms) ms rest all) (omega arith))

-- each of a trajectory's pieces lasts some time
durations-last : (pieces : List Piece) → All IsPiece pieces → All (λ ms. 1 ≤ ms) (durations pieces)
durations-last [] all = All-nil (λ (ms : ℕ). 1 ≤ ms)
durations-last (piece ∷ rest) all =
    All-cons (λ (ms : ℕ). 1 ≤ ms) piece.ms (durations rest) (All-head IsPiece piece rest all).lasts (durations-last rest (All-tail IsPiece piece rest all))

-- there are as many durations as pieces
durations-count : (pieces : List Piece) → length (durations pieces) ≡ length pieces
durations-count [] = refl
durations-count (piece ∷ rest) = omega (arith, durations-count rest)

-- the moment of an edge is the end of the piece before it
pub moment-edge : (pieces : List Piece) (cue q : ℕ) → All IsPiece pieces → cue < length pieces → 1 ≤ q →
    moment (durations pieces) (edge (durations pieces) cue q) q ≡ moment_in (durations pieces) cue (edge (durations pieces) cue q) q
unfolding moment
moment-edge pieces cue q all inside some =
    let inside_times : cue < length (durations pieces) = omega (arith, durations-count pieces) in
    ap (λ (t : ℕ). moment_from 0 0 (durations pieces) (q * t) q) (sym (zero-add (time_before (durations pieces) (suc cue))))
    ∙ moment_from-edge (durations pieces) 0 0 cue q some (durations-last pieces all) inside_times
    ∙ ap (λ (n : ℕ). record { cue = n; a = q * get_or (durations pieces) cue 0; c = q * get_or (durations pieces) cue 0 }) (zero-add cue)
    ∙ ap (λ (n : ℕ). record { cue = cue; a = n; c = q * get_or (durations pieces) cue 0 }) (sym (end-is (durations pieces) cue q inside_times))

-- taken in either of the neighbouring pieces, an edge has one position
pub edge-same : (start : ℤ) (pieces : List Piece) (cue q : ℕ) → All IsPiece pieces → suc cue < length pieces →
    IsSamePosition start pieces (moment_in (durations pieces) cue (edge (durations pieces) cue q) q) (moment_in (durations pieces) (suc cue) (edge (durations pieces) cue q) q)
edge-same start pieces cue q all inside =
    let inside_times : cue < length (durations pieces) = omega (arith, durations-count pieces) in
    rw (end-is (durations pieces) cue q inside_times, start-is (durations pieces) cue q)
    (decoded-joined start pieces cue (q * get_or (durations pieces) cue 0) (q * get_or (durations pieces) (suc cue) 0) all inside)

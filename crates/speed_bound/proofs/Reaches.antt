-- How far a trajectory moves in some time: by its speed, and never farther than two positions are apart.
use Rattle.speed_bound.proofs.Prelude.{◌≡◌, ℕ, zero, suc, ◌+◌, ◌-◌, ◌*◌, ◌≤◌, ◌<◌, min, ℤ, pos, neg_ℤ, ◌-ℤ◌, ◌*ℤ◌, ◌≤ℤ◌, unsigned_abs, arith, sym, ◌∙◌, ap, subst, List, [], ◌∷◌, length, map, get_or, All, sum, div_ceil, ints, mul-le, div_ceil_times, common_steps, get_or_past, length-map, All-nil, All-cons, All-head, All-tail, All-from_get_or, All-get_or, power, IsIn, at, bern, Moment, time_before, IsPiece, last_value, points_from, linear, le_mul_ℤ, mul_assoc_ℤ, mul_comm_ℤ, mul_not_negative, by_lt, power-add, points-count, IsWithin, within_mul, bernstein-within, Element, Constant, Linear, Cubic, Seven, Segment, Traj, IsElement, IsNumber, IsSegment, IsTrajectory, stored, decoded, durations, element_on, piece_on, pieces_on, own, IsFormed, MovesWithin, way, Lies, moment-lies, time_before-suc, IsMoving, ReachLaw, farthest, reach, reach_of, traj_at, KeepsSpeed, greatest_below, speed}
use Rattle.whole_numbers.specs.Decoded as plain
use Rattle.speed_bound.proofs.Rests.{keeps_speed, pieces_formed}
use Rattle.speed_bound.proofs.Speeds.{power_low, product_of}
use Rattle.speed_bound.proofs.Units.{le_from_mul}
use Rattle.speed_bound.proofs.Widths.{div_ceil-least, greatest-at, greatest-map, greatest-most}

-- ---- by the speed
-- how far two instants are apart, in time
time_apart : (late q w a b : ℕ) → a ≤ b + late * (q * w) → b ≤ a + late * (q * w) → unsigned_abs (pos b -ℤ pos a) ≤ late * (q * w)
time_apart late q w a b first second = grind (arith, common_steps, ints, unsigned_abs, pos)

-- a number by its size
by_size : (x n : ℤ) → pos (unsigned_abs x) ≤ℤ n → IsIn (neg_ℤ n) n x
by_size x n most = (omega (arith, ints), omega (arith, ints))

-- what a speed allows in a time, and what is left when the time and the units are cancelled
cancelled : (n v d e k : ℕ) (x N : ℤ) → pos 0 ≤ℤ N → 1 ≤ n → d ≤ e * n → e * v ≤ k * 1000000 → (pos (1000000 * n) *ℤ x) ≤ℤ (pos (v * d) *ℤ N) → x ≤ℤ (pos k *ℤ N)
cancelled n v d e k x N low some time enough speedy =
    le_from_mul (pos (1000000 * n)) x (pos k *ℤ N) (omega (arith, ints)) (omega (arith, linear, speedy, most, regroup (1000000 * n) k N))
  where
    grown : v * d ≤ k * (1000000 * n)
    grown =
        let first : v * d ≤ v * (e * n) = mul-le v d v (e * n) (omega arith) time in
        let second : e * v * n ≤ k * 1000000 * n = mul-le (e * v) n (k * 1000000) n enough (omega arith) in
        let one : v * (e * n) ≡ e * v * n = omega arith in
        let other : k * 1000000 * n ≡ k * (1000000 * n) = omega arith in
        omega (arith, first, second, one, other)

    most : (pos (v * d) *ℤ N) ≤ℤ (pos (k * (1000000 * n)) *ℤ N)
    most = omega (arith, linear, le_mul_ℤ N (pos (v * d)) (pos (k * (1000000 * n))) low (omega (arith, ints, grown)), mul_comm_ℤ N (pos (v * d)), mul_comm_ℤ N (pos (k * (1000000 * n))))

    regroup : (m k : ℕ) (N : ℤ) → pos (k * m) *ℤ N ≡ pos m *ℤ (pos k *ℤ N)
    regroup m k N = ap (λ (z : ℤ). z *ℤ N) (sym (product_of k m) ∙ mul_comm_ℤ (pos k) (pos m)) ∙ mul_assoc_ℤ (pos m) (pos k) N

product_some : (q w : ℕ) → 1 ≤ q → 1 ≤ w → 1 ≤ q * w
product_some q w first second = grind arith

turn_way : (C D U V : ℤ) → C *ℤ V -ℤ D *ℤ U ≡ V *ℤ C -ℤ U *ℤ D
turn_way C D U V = omega (arith, linear, mul_comm_ℤ C V, mul_comm_ℤ D U)

-- A trajectory moves in some time by at most its bound times the time.
pub moves_by_speed : (late v k : ℕ) (t : Traj) (axis : ℕ) → late * v ≤ k * 1000000 → KeepsSpeed t axis v → MovesWithin late k t axis
moves_by_speed late v k t axis enough keeps p q s w q_some w_some p_in s_in together =
    let C : ℤ = power (pos (own t p q).c) 7 in
    let D : ℤ = power (pos (own t s w).c) 7 in
    let low : pos 0 ≤ℤ (C *ℤ D) = mul_not_negative C D (power_low (pos (own t p q).c) 7 (omega (arith, ints))) (power_low (pos (own t s w).c) 7 (omega (arith, ints))) in
    subst (λ (z : ℤ). IsIn (neg_ℤ (pos k *ℤ (C *ℤ D))) (pos k *ℤ (C *ℤ D)) z) (turn_way C D (decoded t axis (own t p q)) (decoded t axis (own t s w)))
    (by_size (C *ℤ decoded t axis (own t s w) -ℤ D *ℤ decoded t axis (own t p q)) (pos k *ℤ (C *ℤ D))
    (cancelled (q * w) v (unsigned_abs (pos (s * q) -ℤ pos (p * w))) late k (pos (unsigned_abs (C *ℤ decoded t axis (own t s w) -ℤ D *ℤ decoded t axis (own t p q)))) (C *ℤ D) low
    (product_some q w q_some w_some) (time_apart late q w (p * w) (s * q) together.before together.after) enough (keeps p q s w q_some w_some p_in s_in).within))

-- ---- by how far positions are apart
-- the numbers of an element, and how many they are
stored_numbers : (e : Element) → IsElement e → All IsNumber (stored e) × (length (stored e) ≤ 7)
stored_numbers Constant is = (All-nil IsNumber, omega arith)
stored_numbers (Linear v) is = (All-cons IsNumber v [] is (All-nil IsNumber), omega arith)
stored_numbers (Cubic v) is = (is.each, omega (arith, is.many))
stored_numbers (Seven v) is = (is.each, omega (arith, is.many))

element_is : (s : Segment) (axis : ℕ) → axis ≤ 2 → IsSegment s → IsElement (element_on s axis)
element_is s axis near is = All-get_or IsElement s.elements axis Constant (omega (arith, is.many)) is.each

pub formed_of : (segments : List Segment) → All IsSegment segments → All IsFormed segments
formed_of [] all = All-nil IsFormed
formed_of (s ∷ rest) all =
    All-cons IsFormed s rest (λ axis near. (stored_numbers (element_on s axis) (element_is s axis near (All-head IsSegment s rest all))).1) (formed_of rest (All-tail IsSegment s rest all))

last_number : (first : ℤ) (numbers : List ℤ) → IsNumber first → All IsNumber numbers → IsNumber (last_value first numbers)
last_number first [] is all = is
last_number first (v ∷ rest) is all = last_number v rest (All-head IsNumber v rest all) (All-tail IsNumber v rest all)

points_numbers : (segments : List Segment) (first : ℤ) (axis cue : ℕ) → axis ≤ 2 → IsNumber first → All IsSegment segments → cue < length segments →
    All IsNumber (get_or (points_from first (map (piece_on axis) segments)) cue [])
points_numbers [] first axis cue near is all inside = absurd (omega arith)
points_numbers (s ∷ rest) first axis zero near is all inside =
    All-cons IsNumber first (stored (element_on s axis)) is (stored_numbers (element_on s axis) (element_is s axis near (All-head IsSegment s rest all))).0
points_numbers (s ∷ rest) first axis (suc cue) near is all inside =
    points_numbers rest (last_value first (stored (element_on s axis))) axis cue near
    (last_number first (stored (element_on s axis)) is (stored_numbers (element_on s axis) (element_is s axis near (All-head IsSegment s rest all))).0)
    (All-tail IsSegment s rest all) (omega arith)

-- a number of a list, or 0 past its end
within_at : (b : List ℤ) (k : ℕ) → All IsNumber b → IsWithin (pos 32768) (at b k)
within_at b k all = grind (arith, common_steps, ints, by_lt, All-get_or, pos, get_or_past)

seventh_power : (x y : ℤ) (n : ℕ) → 1 ≤ n → n ≤ 8 → power x (8 - n) *ℤ (power x (n - 1) *ℤ y) ≡ power x 7 *ℤ y
seventh_power x y n some few =
    let e : 8 - n + (n - 1) ≡ 7 = omega arith in
    sym (mul_assoc_ℤ (power x (8 - n)) (power x (n - 1)) y)
    ∙ ap (λ (z : ℤ). z *ℤ y) (sym (power-add x (8 - n) (n - 1)) ∙ ap (power x) e)

-- a position in a piece is at most 32,768 mm from the origin
position_within : (start : ℤ) (pieces : List plain.Piece) (m : Moment) → All IsPiece pieces → m.cue < length pieces → m.a ≤ m.c → All IsNumber (plain.points start pieces m.cue) →
    IsWithin (power (pos m.c) 7 *ℤ pos 32768) (plain.decoded start pieces m)
unfolding plain.decoded
position_within start pieces m formed inside before numbers =
    let pts : List ℤ = plain.points start pieces m.cue in
    let count : (1 ≤ length pts) × (length pts ≤ 8) = points-count start pieces m.cue formed inside in
    let value : IsWithin (power (pos m.c) (length pts - 1) *ℤ pos 32768) (bern pts (pos m.a) (pos m.c)) =
    bernstein-within (length pts - 1) (at pts) (pos 32768) (pos m.a) (pos m.c) (omega (arith, ints)) (omega (arith, ints, before)) (λ k small. within_at pts k numbers) in
    subst (λ (z : ℤ). IsWithin z (power (pos m.c) (8 - length pts) *ℤ bern pts (pos m.a) (pos m.c))) (seventh_power (pos m.c) (pos 32768) (length pts) count.0 count.1)
    (within_mul (power (pos m.c) (8 - length pts)) _ _ (power_low (pos m.c) (8 - length pts) (omega (arith, ints))) value)

-- at each instant
position_at : (t : Traj) (axis p q : ℕ) → axis ≤ 2 → IsMoving t → p ≤ q * sum (durations t.segments) → IsWithin (power (pos (own t p q).c) 7 *ℤ pos 32768) (decoded t axis (own t p q))
position_at t axis p q near moving before =
    let lies : Lies (durations t.segments) p q (own t p q) = moment-lies (durations t.segments) p q (omega (arith, length-map t.segments (λ (s : Segment). s.ms), moving.some)) before in
    let in_piece : lies.cue < length (pieces_on axis t) = omega (arith, lies.inside, length-map t.segments (λ (s : Segment). s.ms), length-map t.segments (piece_on axis)) in
    let here : lies.cue < length t.segments = omega (arith, lies.inside, length-map t.segments (λ (s : Segment). s.ms)) in
    rw lies.is
    (position_within (at t.start axis) (pieces_on axis t) _ (pieces_formed axis t.segments near moving.durations (formed_of t.segments moving.formed.segments)) in_piece
    (ends p q (time_before (durations t.segments) lies.cue) (get_or (durations t.segments) lies.cue 0) _ (time_before-suc (durations t.segments) lies.cue lies.inside) lies.to)
    (points_numbers t.segments (at t.start axis) axis lies.cue near (start_is t axis near moving.formed) moving.formed.segments here))
  where
    ends : (p q before ms after : ℕ) → after ≡ before + ms → p ≤ q * after → p - q * before ≤ q * ms
    ends p q before ms after e to = omega (arith, ap (λ (n : ℕ). q * n) e, to, spread q before ms)
      where
        spread : (q t ms : ℕ) → q * (t + ms) ≡ q * t + q * ms
        spread q t ms = omega arith

    start_is : (t : Traj) (axis : ℕ) → axis ≤ 2 → IsTrajectory t → IsNumber (at t.start axis)
    start_is t axis near formed = All-get_or IsNumber t.start axis (pos 0) (omega (arith, formed.start.many)) formed.start.each

-- two positions are at most 65,536 mm apart
apart_numbers : (C D U V : ℤ) → pos 0 ≤ℤ C → pos 0 ≤ℤ D → IsWithin (C *ℤ pos 32768) U → IsWithin (D *ℤ pos 32768) V → IsIn (neg_ℤ (pos 65536 *ℤ (C *ℤ D))) (pos 65536 *ℤ (C *ℤ D)) (V *ℤ C -ℤ U *ℤ D)
apart_numbers C D U V c_low d_low first second =
    let one : IsWithin (C *ℤ (D *ℤ pos 32768)) (C *ℤ V) = within_mul C _ _ c_low second in
    let two : IsWithin (D *ℤ (C *ℤ pos 32768)) (D *ℤ U) = within_mul D _ _ d_low first in
    let one_is : C *ℤ (D *ℤ pos 32768) ≡ pos 32768 *ℤ (C *ℤ D) = sym (mul_assoc_ℤ C D (pos 32768)) ∙ mul_comm_ℤ (C *ℤ D) (pos 32768) in
    let two_is : D *ℤ (C *ℤ pos 32768) ≡ pos 32768 *ℤ (C *ℤ D) = sym (mul_assoc_ℤ D C (pos 32768)) ∙ mul_comm_ℤ (D *ℤ C) (pos 32768) ∙ ap (λ (z : ℤ). pos 32768 *ℤ z) (mul_comm_ℤ D C) in
    (omega (arith, linear, one.0, two.1, one_is, two_is, mul_comm_ℤ C V, mul_comm_ℤ D U), omega (arith, linear, one.1, two.0, one_is, two_is, mul_comm_ℤ C V, mul_comm_ℤ D U))

moves_at_most : (late : ℕ) (t : Traj) (axis : ℕ) → axis ≤ 2 → IsMoving t → MovesWithin late farthest t axis
moves_at_most late t axis near moving p q s w q_some w_some p_in s_in together =
    apart_numbers (power (pos (own t p q).c) 7) (power (pos (own t s w).c) 7) (decoded t axis (own t p q)) (decoded t axis (own t s w))
    (power_low (pos (own t p q).c) 7 (omega (arith, ints))) (power_low (pos (own t s w).c) 7 (omega (arith, ints)))
    (position_at t axis p q near moving p_in) (position_at t axis s w near moving s_in)

-- ---- both
wider : (m n : ℕ) (N z : ℤ) → m ≤ n → pos 0 ≤ℤ N → IsIn (neg_ℤ (pos m *ℤ N)) (pos m *ℤ N) z → IsIn (neg_ℤ (pos n *ℤ N)) (pos n *ℤ N) z
wider m n N z less low within =
    let more : (pos m *ℤ N) ≤ℤ (pos n *ℤ N) = omega (arith, linear, le_mul_ℤ N (pos m) (pos n) low (omega (arith, ints)), mul_comm_ℤ N (pos m), mul_comm_ℤ N (pos n)) in
    (omega (arith, linear, within.0, more), omega (arith, linear, within.1, more))

moves_wider : (late m n : ℕ) (t : Traj) (axis : ℕ) → m ≤ n → MovesWithin late m t axis → MovesWithin late n t axis
moves_wider late m n t axis less moves p q s w q_some w_some p_in s_in together =
    wider m n (power (pos (own t p q).c) 7 *ℤ power (pos (own t s w).c) 7) (way t axis p q s w) less
    (mul_not_negative _ _ (power_low (pos (own t p q).c) 7 (omega (arith, ints))) (power_low (pos (own t s w).c) 7 (omega (arith, ints)))) (moves p q s w q_some w_some p_in s_in together)

moves_least : (late m n : ℕ) (t : Traj) (axis : ℕ) → MovesWithin late m t axis → MovesWithin late n t axis → MovesWithin late (min m n) t axis
moves_least late m n t axis first second =
    by_lt m n
    (λ less. let is : min m n ≡ m = omega arith in rw is first)
    (λ more. let is : min m n ≡ n = omega arith in rw is second)

-- Between any two instants that are at most so far apart a trajectory moves within its reach.
pub moves_reach : (depth late : ℕ) (t : Traj) (axis : ℕ) → axis ≤ 2 → IsMoving t → MovesWithin late (reach depth late t axis) t axis
unfolding reach
moves_reach depth late t axis near moving =
    moves_least late farthest (div_ceil (late * speed depth t axis) 1000000) t axis (moves_at_most late t axis near moving)
    (moves_by_speed late (speed depth t axis) (div_ceil (late * speed depth t axis) 1000000) t axis (div_ceil_times (late * speed depth t axis) 1000000 (omega arith)).0
    (keeps_speed depth axis t near moving.some moving.durations (formed_of t.segments moving.formed.segments)))

-- all of them within the reach of all
pub reach_law_holds : ReachLaw
unfolding reach_of
reach_law_holds depth late trajs moving =
    All-from_get_or (λ (t : Traj). (axis : ℕ) → axis ≤ 2 → MovesWithin late (reach_of depth late trajs axis) t axis) trajs (record { start = []; segments = [] })
    (λ drone inside axis near. moves_wider late (reach depth late (traj_at trajs drone) axis) (reach_of depth late trajs axis) (traj_at trajs drone) axis
    (greatest-at (length trajs) (λ k. reach depth late (traj_at trajs k) axis) drone inside)
    (moves_reach depth late (traj_at trajs drone) axis near (All-get_or IsMoving trajs drone (record { start = []; segments = [] }) inside moving)))

-- the reach of all trajectories is that of the greatest of their speeds
pub reach_by_speed : (depth late : ℕ) (trajs : List Traj) (axis : ℕ) → min farthest (div_ceil (late * greatest_below (length trajs) (λ drone. speed depth (traj_at trajs drone) axis)) 1000000) ≡ reach_of depth late trajs axis
unfolding reach_of reach
reach_by_speed depth late trajs axis =
    sym (greatest-map (length trajs) (λ drone. speed depth (traj_at trajs drone) axis) (λ v. min farthest (div_ceil (late * v) 1000000)) none (λ x y less. grows x y less))
  where
    none : min farthest (div_ceil (late * 0) 1000000) ≡ 0
    none = let least : div_ceil (late * 0) 1000000 ≤ 0 = div_ceil-least (late * 0) 0 1000000 (omega arith) (omega arith) in omega (arith, least)

    grows : (x y : ℕ) → x ≤ y → min farthest (div_ceil (late * x) 1000000) ≤ min farthest (div_ceil (late * y) 1000000)
    grows x y less =
        let way : late * x ≤ late * y = mul-le late x late y (omega arith) less in
        let more : div_ceil (late * x) 1000000 ≤ div_ceil (late * y) 1000000 =
        div_ceil-least (late * x) (div_ceil (late * y) 1000000) 1000000 (omega arith) (omega (arith, way, (div_ceil_times (late * y) 1000000 (omega arith)).0)) in
        omega (arith, more)

-- no reach is above 65,536
pub reach_few : (depth late : ℕ) (trajs : List Traj) (axis : ℕ) → reach_of depth late trajs axis ≤ farthest
unfolding reach_of reach
reach_few depth late trajs axis = greatest-most (length trajs) (λ drone. reach depth late (traj_at trajs drone) axis) farthest (λ k inside. omega arith)

-- where nobody is late nobody moves
pub reach_none : (depth : ℕ) (trajs : List Traj) (axis : ℕ) → reach_of depth 0 trajs axis ≡ 0
unfolding reach_of reach
reach_none depth trajs axis = grind (arith, common_steps, greatest-most, min, div_ceil_times)

-- A listed instant is an instant of the show: the drones are at the same places there.
use Rattle.touch_witness.proofs.Prelude.{common_steps, ◌≡◌, ℕ, zero, suc, ◌+◌, ◌-◌, ◌*◌, ◌^◌, ◌≤◌, ◌<◌, ℤ, pos, ◌+ℤ◌, ◌-ℤ◌, ◌*ℤ◌, ◌≤ℤ◌, ◌<ℤ◌, arith, refl, sym, subst, ◌∙◌, ap, List, [], ◌∷◌, length, map, get_or, All, sum, Some, slice_get, ints, mul-le, pow_pos, length-map, All-head, All-tail, All-nil, All-cons, power, at, bernstein, Piece, IsPiece, points, durations, ring, linear, le_mul_ℤ, mul_add_ℤ, mul_comm_ℤ, mul_left_comm_ℤ, mul_positive, one_mul_ℤ, power-add, power-mul, power_positive, by_lt, power_pos, pow-zero, pow-suc, Segment, Traj, piece_on, pieces_on, durations_on, IsFormed, own, IsOneShow, cues_in, AreApart, FlyApartExactly, at_place, segments_of, MatchOption, Option, None, Touch, AreDisjoint, DisjointAt, IsFirstTouch, IsListed, NoTouch, SharePoint, TouchAt, gap_at, instant_of, left_of, listed, right_of, IsFirstSite, NoneTouch, SidesDisjoint, SidesTouch}
use Rattle.std.proofs.lemmas.List.Sums.{sum_by-cons}
use Rattle.whole_numbers.specs.Moments.{Moment, moment, time_before}
use Rattle.whole_numbers.specs.Decoded.{decoded}
use Rattle.whole_numbers.proofs.DivisionLemmas.{lt_from_mul_ℤ}
use Rattle.whole_numbers.proofs.EdgeLemmas.{points-count, points-joined, decoded-at_start, decoded-at_end}
use Rattle.bezier_core.proofs.PartBounds.{bernstein-scaled}
use Rattle.whole_numbers.proofs.MomentLemmas.{IsInside, moment-inside}
use Rattle.traj_codec.specs.Positions as traj
use Rattle.whole_numbers.proofs.Instants.{Lies, moment-lies, time_before-suc}
use Rattle.touch_witness.proofs.Sharing.{share_point}

-- ---- one axis
-- two positions are the same number, over denominators of their own
abbrev pub Same : ℤ → ℤ → ℤ → ℤ → Type 0
Same k x l y = l *ℤ x ≡ k *ℤ y

-- the position at a fraction, written with a larger denominator
scaled_position : (start : ℤ) (pieces : List Piece) (cue a c m : ℕ) → All IsPiece pieces → cue < length pieces →
    decoded start pieces (record { cue = cue; a = m * a; c = m * c }) ≡ power (pos m) 7 *ℤ decoded start pieces (record { cue = cue; a = a; c = c })
unfolding decoded
scaled_position start pieces cue a c m formed inside =
    let b : List ℤ = points start pieces cue in
    let count : (1 ≤ length b) × (length b ≤ 8) = points-count start pieces cue formed inside in
    let e : 8 - length b + (length b - 1) ≡ 7 = omega arith in
    same_product (ap (λ (z : ℤ). power z (8 - length b)) (product m c) ∙ power-mul (pos m) (pos c) (8 - length b))
    (ap (λ (z : ℤ). bernstein (length b - 1) (at b) z (pos (m * c))) (product m a) ∙ ap (λ (z : ℤ). bernstein (length b - 1) (at b) (pos m *ℤ pos a) z) (product m c)
    ∙ bernstein-scaled (length b - 1) (at b) (pos m) (pos a) (pos c))
    ∙ regroup (power (pos m) (8 - length b)) (power (pos c) (8 - length b)) (power (pos m) (length b - 1)) (bernstein (length b - 1) (at b) (pos a) (pos c))
    ∙ ap (λ (z : ℤ). z *ℤ (power (pos c) (8 - length b) *ℤ bernstein (length b - 1) (at b) (pos a) (pos c))) (sym (power-add (pos m) (8 - length b) (length b - 1)) ∙ ap (λ (n : ℕ). power (pos m) n) e)
  where
    product : (m c : ℕ) → pos (m * c) ≡ pos m *ℤ pos c
    product m c = omega (arith, ints)

    same_product : {x y u v : ℤ} → x ≡ y → u ≡ v → x *ℤ u ≡ y *ℤ v
    same_product {x} {y} {u} {v} p q = cc

    regroup : (p k q v : ℤ) → (p *ℤ k) *ℤ (q *ℤ v) ≡ (p *ℤ q) *ℤ (k *ℤ v)
    regroup p k q v = simp ring refl

-- the same piece
same_here : (start : ℤ) (pieces : List Piece) (cue a c m : ℕ) → All IsPiece pieces → cue < length pieces →
    Same (power (pos c) 7) (decoded start pieces (record { cue = cue; a = a; c = c })) (power (pos (m * c)) 7) (decoded start pieces (record { cue = cue; a = m * a; c = m * c }))
same_here start pieces cue a c m formed inside =
    ap (λ (z : ℤ). power z 7 *ℤ decoded start pieces (record { cue = cue; a = a; c = c })) (product m c)
    ∙ ap (λ (z : ℤ). z *ℤ decoded start pieces (record { cue = cue; a = a; c = c })) (power-mul (pos m) (pos c) 7)
    ∙ regroup (power (pos m) 7) (power (pos c) 7) (decoded start pieces (record { cue = cue; a = a; c = c }))
    ∙ ap (λ (z : ℤ). power (pos c) 7 *ℤ z) (sym (scaled_position start pieces cue a c m formed inside))
  where
    product : (m c : ℕ) → pos (m * c) ≡ pos m *ℤ pos c
    product m c = omega (arith, ints)

    regroup : (p k x : ℤ) → (p *ℤ k) *ℤ x ≡ k *ℤ (p *ℤ x)
    regroup p k x = simp ring refl

-- the beginning of a piece and the end of the one before it
same_before : (start : ℤ) (pieces : List Piece) (cue c d : ℕ) → All IsPiece pieces → suc cue < length pieces →
    Same (power (pos c) 7) (decoded start pieces (record { cue = suc cue; a = 0; c = c })) (power (pos d) 7) (decoded start pieces (record { cue = cue; a = d; c = d }))
same_before start pieces cue c d formed inside =
    ap (λ (z : ℤ). power (pos d) 7 *ℤ z) (decoded-at_start start pieces (suc cue) c formed inside ∙ ap (λ (z : ℤ). power (pos c) 7 *ℤ z) (points-joined start pieces cue inside))
    ∙ mul_left_comm_ℤ (power (pos d) 7) (power (pos c) 7) (at (points start pieces cue) (length (points start pieces cue) - 1))
    ∙ ap (λ (z : ℤ). power (pos c) 7 *ℤ z) (sym (decoded-at_end start pieces cue d formed (omega arith)))

-- the end of a piece and the beginning of the one after it
same_behind : (start : ℤ) (pieces : List Piece) (cue c d : ℕ) → All IsPiece pieces → suc cue < length pieces →
    Same (power (pos c) 7) (decoded start pieces (record { cue = cue; a = c; c = c })) (power (pos d) 7) (decoded start pieces (record { cue = suc cue; a = 0; c = d }))
same_behind start pieces cue c d formed inside = sym (same_before start pieces cue d c formed inside)

-- ---- the instant
-- Where a moment is, as seen from the fraction at / q of a cue.
data IsThere (times : List ℕ) (cue at q : ℕ) (m : Moment) : Type 0 where
  here : m ≡ record { cue = cue; a = get_or times cue 0 * at; c = get_or times cue 0 * q } → IsThere times cue at q m
  before : (i : ℕ) → suc i ≡ cue → at ≡ 0 → (c : ℕ) → m ≡ record { cue = i; a = c; c = c } → IsThere times cue at q m
  behind : at ≡ q → (c : ℕ) → suc cue < length times → m ≡ record { cue = suc cue; a = 0; c = c } → IsThere times cue at q m

-- each cue adds some time
time_grows : (times : List ℕ) (i n : ℕ) → All (λ ms. 1 ≤ ms) times → i + n ≤ length times → time_before times i + n ≤ time_before times (i + n)
time_grows times i zero lasting inside = let e : i + 0 ≡ i = omega arith in rw e (omega arith)
time_grows times i (suc n) lasting inside =
    let e : i + suc n ≡ suc (i + n) = omega arith in
    let some : 1 ≤ get_or times (i + n) 0 = lasting (i + n) 0 (omega arith) in
    rw e (omega (arith, time_grows times i n lasting (omega arith), time_before-suc times (i + n) (omega arith), some))

time_whole : (times : List ℕ) (i : ℕ) → time_before times i ≤ sum times
time_whole [] zero = omega arith
time_whole [] (suc i) = omega arith
time_whole (ms ∷ rest) zero = omega arith
time_whole (ms ∷ rest) (suc i) = omega (arith, time_whole rest i, sum_by-cons (λ (n : ℕ). n) ms rest)

grow : (q x y : ℕ) → x ≤ y → q * x ≤ q * y
grow q x y less = mul-le q x q y (omega arith) less

-- where an instant lies that is a fraction of a cue
there : (times : List ℕ) (cue at q p j : ℕ) (m : Moment) → All (λ ms. 1 ≤ ms) times → cue < length times → at ≤ q → 1 ≤ q → p ≡ q * time_before times cue + get_or times cue 0 * at → j < length times →
    m ≡ record { cue = j; a = p - q * time_before times j; c = q * get_or times j 0 } → q * time_before times j ≤ p → p ≤ q * time_before times (suc j) → IsThere times cue at q m
there times cue at q p j m lasting inside fraction some p_is j_in m_is from to =
    by_lt j cue
    (λ earlier.
    let more : suc j + (cue - suc j) ≡ cue = omega arith in
    let grown : time_before times (suc j) + (cue - suc j) ≤ time_before times cue = rw more at (time_grows times (suc j) (cue - suc j) lasting (omega arith)) in
    let times_q : q * (time_before times (suc j) + (cue - suc j)) ≤ q * time_before times cue = grow q _ _ grown in
    let apart : q * (time_before times (suc j) + (cue - suc j)) ≡ q * time_before times (suc j) + q * (cue - suc j) = spread q (time_before times (suc j)) (cue - suc j) in
    let gone : 1 * (cue - suc j) ≤ q * (cue - suc j) = mul-le 1 (cue - suc j) q (cue - suc j) some (omega arith) in
    let passed : 1 * at ≤ get_or times cue 0 * at = mul-le 1 at (get_or times cue 0) at ms_some (omega arith) in
    let next : suc j ≡ cue = omega (arith, times_q, apart, gone, passed) in
    let none : at ≡ 0 = omega (arith, times_q, apart, gone, passed) in
    let length_is : q * time_before times (suc j) ≡ q * time_before times j + q * get_or times j 0 = ap (λ (t : ℕ). q * t) (time_before-suc times j j_in) ∙ spread q (time_before times j) (get_or times j 0) in
    let whole : p - q * time_before times j ≡ q * get_or times j 0 = omega (arith, length_is, times_q, apart, gone, passed) in
    before j next none (q * get_or times j 0) (m_is ∙ ap (λ (n : ℕ). record { cue = j; a = n; c = q * get_or times j 0 }) whole))
    (λ not_earlier. by_lt cue j
    (λ later.
    let more : suc cue + (j - suc cue) ≡ j = omega arith in
    let grown : time_before times (suc cue) + (j - suc cue) ≤ time_before times j = rw more at (time_grows times (suc cue) (j - suc cue) lasting (omega arith)) in
    let times_q : q * (time_before times (suc cue) + (j - suc cue)) ≤ q * time_before times j = grow q _ _ grown in
    let apart : q * (time_before times (suc cue) + (j - suc cue)) ≡ q * time_before times (suc cue) + q * (j - suc cue) = spread q (time_before times (suc cue)) (j - suc cue) in
    let gone : 1 * (j - suc cue) ≤ q * (j - suc cue) = mul-le 1 (j - suc cue) q (j - suc cue) some (omega arith) in
    let ends : q * time_before times (suc cue) ≡ q * time_before times cue + q * get_or times cue 0 = ap (λ (t : ℕ). q * t) (time_before-suc times cue inside) ∙ spread q (time_before times cue) (get_or times cue 0) in
    let split : get_or times cue 0 * q ≡ get_or times cue 0 * at + get_or times cue 0 * (q - at) = parts (get_or times cue 0) at q fraction in
    let rest : 1 * (q - at) ≤ get_or times cue 0 * (q - at) = mul-le 1 (q - at) (get_or times cue 0) (q - at) ms_some (omega arith) in
    let next : suc cue ≡ j = omega (arith, times_q, apart, gone, ends, split, rest) in
    let all : at ≡ q = omega (arith, times_q, apart, gone, ends, split, rest) in
    let none : p - q * time_before times j ≡ 0 = omega (arith, times_q, apart, gone, ends, split, rest) in
    behind all (q * get_or times j 0) (omega arith)
    (m_is ∙ ap (λ (n : ℕ). record { cue = j; a = n; c = q * get_or times j 0 }) none ∙ ap (λ (n : ℕ). record { cue = n; a = 0; c = q * get_or times j 0 }) (sym next)))
    (λ not_later.
    let same : j ≡ cue = omega arith in
    here (m_is ∙ ap (λ (n : ℕ). record { cue = n; a = p - q * time_before times n; c = q * get_or times n 0 }) same
    ∙ ap (λ (n : ℕ). record { cue = cue; a = n; c = q * get_or times cue 0 }) (let left : p - q * time_before times cue ≡ get_or times cue 0 * at = omega arith in left)
    ∙ ap (λ (n : ℕ). record { cue = cue; a = get_or times cue 0 * at; c = n }) (swap q (get_or times cue 0)))))
  where
    ms_some : 1 ≤ get_or times cue 0
    ms_some = lasting cue 0 inside

    spread : (q t ms : ℕ) → q * (t + ms) ≡ q * t + q * ms
    spread q t ms = omega arith

    swap : (q ms : ℕ) → q * ms ≡ ms * q
    swap q ms = omega arith

    parts : (ms at q : ℕ) → at ≤ q → ms * q ≡ ms * at + ms * (q - at)
    parts ms at q less = let e : q ≡ at + (q - at) = omega arith in ap (λ (n : ℕ). ms * n) e ∙ spread ms at (q - at)

-- it is not past the end of the show
pub instant_inside : (times : List ℕ) (cue at q : ℕ) → cue < length times → at ≤ q → instant_of times cue at q ≤ q * sum times
instant_inside times cue at q inside fraction =
    let most : get_or times cue 0 * at ≤ get_or times cue 0 * q = grow (get_or times cue 0) at q fraction in
    let ends : q * time_before times (suc cue) ≡ q * time_before times cue + get_or times cue 0 * q = ap (λ (t : ℕ). q * t) (time_before-suc times cue inside) ∙ spread q (time_before times cue) (get_or times cue 0) in
    omega (arith, most, ends, grow q (time_before times (suc cue)) (sum times) (time_whole times (suc cue)))
  where
    spread : (q t ms : ℕ) → q * (t + ms) ≡ q * t + ms * q
    spread q t ms = omega arith

instant_there : (times : List ℕ) (cue at q : ℕ) → All (λ ms. 1 ≤ ms) times → cue < length times → at ≤ q → 1 ≤ q → IsThere times cue at q (moment times (instant_of times cue at q) q)
instant_there times cue at q lasting inside fraction some =
    let lies : Lies times (instant_of times cue at q) q (moment times (instant_of times cue at q) q) = moment-lies times (instant_of times cue at q) q (omega arith) (instant_inside times cue at q inside fraction) in
    there times cue at q (instant_of times cue at q) lies.cue (moment times (instant_of times cue at q) q) lasting inside fraction some refl lies.inside lies.is lies.from lies.to

-- the position at the instant is that at the fraction
same_position : (start : ℤ) (pieces : List Piece) (cue a q : ℕ) (m : Moment) → All IsPiece pieces → cue < length pieces → IsThere (durations pieces) cue a q m →
    Same (power (pos q) 7) (decoded start pieces (record { cue = cue; a = a; c = q })) (power (pos m.c) 7) (decoded start pieces m)
same_position start pieces cue a q m formed inside (here is) =
    subst (λ (n : Moment). Same (power (pos q) 7) (decoded start pieces (record { cue = cue; a = a; c = q })) (power (pos n.c) 7) (decoded start pieces n)) (sym is)
    (same_here start pieces cue a q (get_or (durations pieces) cue 0) formed inside)
same_position start pieces cue a q m formed inside (before i next none c is) = grind (arith, common_steps, pos, same_before)
same_position start pieces cue a q m formed inside (behind all c next is) = grind (arith, common_steps, pos, same_behind, length-map)

-- ---- two drones
high_ring : (h r k x y z : ℤ) → h *ℤ ((k *ℤ x) *ℤ (k *ℤ x) +ℤ (k *ℤ y) *ℤ (k *ℤ y)) +ℤ r *ℤ ((k *ℤ z) *ℤ (k *ℤ z)) ≡ (h *ℤ (x *ℤ x +ℤ y *ℤ y) +ℤ r *ℤ (z *ℤ z)) *ℤ (k *ℤ k)
high_ring h r k x y z = simp ring (omega (arith, linear))

turn_ring : (g k l : ℤ) → (g *ℤ (k *ℤ k)) *ℤ (l *ℤ l) ≡ (g *ℤ (l *ℤ l)) *ℤ (k *ℤ k)
turn_ring g k l = simp ring refl

lt_mul : (x y b : ℤ) → pos 0 <ℤ b → x <ℤ y → (x *ℤ b) <ℤ (y *ℤ b)
lt_mul x y b positive less =
    let more : (b *ℤ (x +ℤ pos 1)) ≤ℤ (b *ℤ y) = le_mul_ℤ b (x +ℤ pos 1) y (omega (arith, linear)) (omega (arith, linear)) in
    omega (arith, linear, more, mul_add_ℤ b x (pos 1), mul_comm_ℤ b x, mul_comm_ℤ b y, mul_comm_ℤ b (pos 1), one_mul_ℤ b)

-- over numbers: differences over l are those over k
same_disjoint : (g h r k l x y z u v w : ℤ) → pos 0 <ℤ (k *ℤ k) → pos 0 <ℤ (l *ℤ l) → l *ℤ x ≡ k *ℤ u → l *ℤ y ≡ k *ℤ v → l *ℤ z ≡ k *ℤ w →
    (g *ℤ (l *ℤ l)) <ℤ (h *ℤ (u *ℤ u +ℤ v *ℤ v) +ℤ r *ℤ (w *ℤ w)) → (g *ℤ (k *ℤ k)) <ℤ (h *ℤ (x *ℤ x +ℤ y *ℤ y) +ℤ r *ℤ (z *ℤ z))
same_disjoint g h r k l x y z u v w k_some l_some x_is y_is z_is apart =
    let more : ((g *ℤ (l *ℤ l)) *ℤ (k *ℤ k)) <ℤ ((h *ℤ (u *ℤ u +ℤ v *ℤ v) +ℤ r *ℤ (w *ℤ w)) *ℤ (k *ℤ k)) = lt_mul _ _ (k *ℤ k) k_some apart in
    let both : (h *ℤ (x *ℤ x +ℤ y *ℤ y) +ℤ r *ℤ (z *ℤ z)) *ℤ (l *ℤ l) ≡ (h *ℤ (u *ℤ u +ℤ v *ℤ v) +ℤ r *ℤ (w *ℤ w)) *ℤ (k *ℤ k) =
    sym (high_ring h r l x y z) ∙ same x_is y_is z_is ∙ high_ring h r k u v w in
    lt_from_mul_ℤ (g *ℤ (k *ℤ k)) (h *ℤ (x *ℤ x +ℤ y *ℤ y) +ℤ r *ℤ (z *ℤ z)) (l *ℤ l) l_some (omega (arith, linear, more, both, turn_ring g k l))
  where
    same : {a b c d e f : ℤ} → a ≡ d → b ≡ e → c ≡ f → h *ℤ (a *ℤ a +ℤ b *ℤ b) +ℤ r *ℤ (c *ℤ c) ≡ h *ℤ (d *ℤ d +ℤ e *ℤ e) +ℤ r *ℤ (f *ℤ f)
    same {a} {b} {c} {d} {e} {f} p q s = cc

gap_same : (k l x y u v : ℤ) → l *ℤ x ≡ k *ℤ u → l *ℤ y ≡ k *ℤ v → l *ℤ (y -ℤ x) ≡ k *ℤ (v -ℤ u)
gap_same k l x y u v first second = omega (arith, linear, first, second, spread l x y, spread k u v)
  where
    spread : (l x y : ℤ) → l *ℤ (y -ℤ x) ≡ l *ℤ y -ℤ l *ℤ x
    spread l x y = simp ring (omega (arith, linear))

power_some : (c : ℕ) → 1 ≤ c → pos 0 <ℤ (power (pos c) 7 *ℤ power (pos c) 7)
power_some c some = grind (arith, common_steps, ints, pos, power_pos, pow-zero, pow-suc, mul-le)

-- drones that are disjoint at one of two moments with the same positions are disjoint at the other
disjoint_moved : (t u : Traj) (r h : ℕ) (m n : Moment) → 1 ≤ m.c → 1 ≤ n.c →
    ((axis : ℕ) → axis ≤ 2 → Same (power (pos m.c) 7) (traj.decoded t axis m) (power (pos n.c) 7) (traj.decoded t axis n)) →
    ((axis : ℕ) → axis ≤ 2 → Same (power (pos m.c) 7) (traj.decoded u axis m) (power (pos n.c) 7) (traj.decoded u axis n)) →
    right_of r h n <ℤ left_of t u r h n → right_of r h m <ℤ left_of t u r h m
disjoint_moved t u r h m n m_some n_some t_same u_same far =
    subst (λ (z : ℤ). (pos (4 * (r * r) * (h * h)) *ℤ z) <ℤ left_of t u r h m) (sym (power-add (pos m.c) 7 7))
    (same_disjoint (pos (4 * (r * r) * (h * h))) (pos (h * h)) (pos (r * r)) (power (pos m.c) 7) (power (pos n.c) 7) (gap_at t u m 0) (gap_at t u m 1) (gap_at t u m 2) (gap_at t u n 0) (gap_at t u n 1) (gap_at t u n 2)
    (power_some m.c m_some) (power_some n.c n_some) (axis_same 0 (omega arith)) (axis_same 1 (omega arith)) (axis_same 2 (omega arith))
    (subst (λ (z : ℤ). (pos (4 * (r * r) * (h * h)) *ℤ z) <ℤ left_of t u r h n) (power-add (pos n.c) 7 7) far))
  where
    axis_same : (axis : ℕ) → axis ≤ 2 → power (pos n.c) 7 *ℤ gap_at t u m axis ≡ power (pos m.c) 7 *ℤ gap_at t u n axis
    axis_same axis near = gap_same (power (pos m.c) 7) (power (pos n.c) 7) (traj.decoded t axis m) (traj.decoded u axis m) (traj.decoded t axis n) (traj.decoded u axis n) (t_same axis near) (u_same axis near)

-- the distance on an axis of two drones at moments of their own
wide : Traj → Traj → Moment → Moment → ℕ → ℤ
wide t u m n axis = traj.decoded u axis n *ℤ power (pos m.c) 7 -ℤ traj.decoded t axis m *ℤ power (pos n.c) 7

-- disjoint, at moments of their own
AreFar : Traj → Traj → ℕ → ℕ → Moment → Moment → Type 0
AreFar t u r h m n =
    (pos (4 * (r * r) * (h * h)) *ℤ power (pos m.c *ℤ pos n.c) 14)
    <ℤ (pos (h * h) *ℤ (wide t u m n 0 *ℤ wide t u m n 0 +ℤ wide t u m n 1 *ℤ wide t u m n 1) +ℤ pos (r * r) *ℤ (wide t u m n 2 *ℤ wide t u m n 2))

-- ---- Where both drones' segments have the same durations, what is disjoint at the instant is so over one c, and the other way round.
module _ (t u : Traj) (r h : ℕ) (m : Moment) (some : 1 ≤ m.c) where
  abbrev C : ℤ
  C = power (pos m.c) 7

  square_some : (c : ℤ) → pos 0 <ℤ (c *ℤ c) → pos 0 <ℤ ((c *ℤ c) *ℤ (c *ℤ c))
  square_some c positive = mul_positive (c *ℤ c) (c *ℤ c) positive positive

  widened : (x y c : ℤ) → (c *ℤ c) *ℤ (y -ℤ x) ≡ c *ℤ (y *ℤ c -ℤ x *ℤ c)
  widened x y c = simp ring (omega (arith, linear))

  axis_same : (axis : ℕ) → (C *ℤ C) *ℤ gap_at t u m axis ≡ C *ℤ wide t u m m axis
  unfolding wide
  axis_same axis = widened (traj.decoded t axis m) (traj.decoded u axis m) C

  squared : power (pos m.c *ℤ pos m.c) 14 ≡ (C *ℤ C) *ℤ (C *ℤ C)
  squared = power-add (pos m.c *ℤ pos m.c) 7 7 ∙ ap (λ (z : ℤ). z *ℤ z) (power-mul (pos m.c) (pos m.c) 7)

  disjoint_there : (p q : ℕ) → own t p q ≡ m → own u p q ≡ m → AreDisjoint t u r h p q → right_of r h m <ℤ left_of t u r h m
  unfolding AreFar wide
  disjoint_there p q t_is u_is disjoint =
      let here : AreFar t u r h m m = subst (λ (n : Moment). AreFar t u r h m n) u_is (subst (λ (k : Moment). AreFar t u r h k (own u p q)) t_is disjoint.above) in
      subst (λ (z : ℤ). (pos (4 * (r * r) * (h * h)) *ℤ z) <ℤ left_of t u r h m) (sym (power-add (pos m.c) 7 7))
      (same_disjoint (pos (4 * (r * r) * (h * h))) (pos (h * h)) (pos (r * r)) C (C *ℤ C) (gap_at t u m 0) (gap_at t u m 1) (gap_at t u m 2) (wide t u m m 0) (wide t u m m 1) (wide t u m m 2)
      (power_some m.c some) (square_some C (power_some m.c some)) (axis_same 0) (axis_same 1) (axis_same 2)
      (subst (λ (z : ℤ). (pos (4 * (r * r) * (h * h)) *ℤ z)
      <ℤ (pos (h * h) *ℤ (wide t u m m 0 *ℤ wide t u m m 0 +ℤ wide t u m m 1 *ℤ wide t u m m 1) +ℤ pos (r * r) *ℤ (wide t u m m 2 *ℤ wide t u m m 2))) squared here))

  moment_disjoint : (p q : ℕ) → own t p q ≡ m → own u p q ≡ m → right_of r h m <ℤ left_of t u r h m → AreDisjoint t u r h p q
  unfolding AreFar wide
  moment_disjoint p q t_is u_is far =
      let here : AreFar t u r h m m =
      subst (λ (z : ℤ). (pos (4 * (r * r) * (h * h)) *ℤ z)
      <ℤ (pos (h * h) *ℤ (wide t u m m 0 *ℤ wide t u m m 0 +ℤ wide t u m m 1 *ℤ wide t u m m 1) +ℤ pos (r * r) *ℤ (wide t u m m 2 *ℤ wide t u m m 2))) (sym squared)
      (same_disjoint (pos (4 * (r * r) * (h * h))) (pos (h * h)) (pos (r * r)) (C *ℤ C) C (wide t u m m 0) (wide t u m m 1) (wide t u m m 2) (gap_at t u m 0) (gap_at t u m 1) (gap_at t u m 2)
      (square_some C (power_some m.c some)) (power_some m.c some) (sym (axis_same 0)) (sym (axis_same 1)) (sym (axis_same 2))
      (subst (λ (z : ℤ). (pos (4 * (r * r) * (h * h)) *ℤ z) <ℤ left_of t u r h m) (power-add (pos m.c) 7 7) far)) in
      record {
        above = subst (λ (k : Moment). AreFar t u r h k (own u p q)) (sym t_is) (subst (λ (n : Moment). AreFar t u r h m n) (sym u_is) here);
      }

-- What is apart is disjoint: the margin is left out.
pub apart_disjoint : (t u : Traj) (r h p q : ℕ) → 1 ≤ (own t p q).c → 1 ≤ (own u p q).c → AreApart t u r h p q → AreDisjoint t u r h p q
apart_disjoint t u r h p q t_some u_some apart = record {
  above = numbers (r * r) (h * h) (power (pos (own t p q).c *ℤ pos (own u p q).c) 14) _ _ positive apart.apart;
}
  where
    positive : pos 0 <ℤ power (pos (own t p q).c *ℤ pos (own u p q).c) 14
    positive = power_positive (pos (own t p q).c *ℤ pos (own u p q).c) 14 (mul_positive (pos (own t p q).c) (pos (own u p q).c) (omega (arith, ints, t_some)) (omega (arith, ints, u_some)))

    numbers : (x y : ℕ) (k a b : ℤ) → pos 0 <ℤ k → (pos (48 * x * y + 1) *ℤ k) ≤ℤ (pos (12 * y) *ℤ a +ℤ pos (12 * x) *ℤ b) → (pos (4 * x * y) *ℤ k) <ℤ (pos y *ℤ a +ℤ pos x *ℤ b)
    numbers x y k a b some far = let e : 48 * x * y ≡ 12 * (4 * x * y) = omega arith in less (4 * x * y) (rw e at far)
      where
        less : (n : ℕ) → (pos (12 * n + 1) *ℤ k) ≤ℤ (pos (12 * y) *ℤ a +ℤ pos (12 * x) *ℤ b) → (pos n *ℤ k) <ℤ (pos y *ℤ a +ℤ pos x *ℤ b)
        less n far = omega (arith, ints, some, far)

-- each of the pieces of formed segments lasts some time and has at most seven stored points
pieces_formed : (axis : ℕ) (segments : List Segment) → axis ≤ 2 → All (λ ms. 1 ≤ ms) (traj.durations segments) → All IsFormed segments → All IsPiece (map (piece_on axis) segments)
pieces_formed axis [] near lasting formed = All-nil IsPiece
pieces_formed axis (s ∷ rest) near lasting formed =
    All-cons IsPiece (piece_on axis s) (map (piece_on axis) rest)
    (record { lasts = All-head (λ (ms : ℕ). 1 ≤ ms) s.ms (traj.durations rest) lasting; few = All-head IsFormed s rest formed axis near })
    (pieces_formed axis rest near (All-tail (λ (ms : ℕ). 1 ≤ ms) s.ms (traj.durations rest) lasting) (All-tail IsFormed s rest formed))

-- a drone at the instant of a fraction
drone_same : (t : Traj) (times : List ℕ) (cue a q axis : ℕ) → axis ≤ 2 → traj.durations t.segments ≡ times → All (λ ms. 1 ≤ ms) times → All IsFormed t.segments → cue < length times → a ≤ q → 1 ≤ q →
    Same (power (pos q) 7) (traj.decoded t axis (record { cue = cue; a = a; c = q })) (power (pos (moment times (instant_of times cue a q) q).c) 7) (traj.decoded t axis (moment times (instant_of times cue a q) q))
drone_same t times cue a q axis near is lasting formed inside fraction some =
    let on : durations (pieces_on axis t) ≡ times = durations_on axis t.segments ∙ is in
    same_position (at t.start axis) (pieces_on axis t) cue a q (moment times (instant_of times cue a q) q)
    (pieces_formed axis t.segments near (subst (λ (ns : List ℕ). All (λ ms. 1 ≤ ms) ns) (sym is) lasting) formed)
    (omega (arith, inside, ap (λ (ns : List ℕ). length ns) on, length-map (pieces_on axis t) (λ (piece : Piece). piece.ms)))
    (subst (λ (ns : List ℕ). IsThere ns cue a q (moment times (instant_of times cue a q) q)) (sym on) (instant_there times cue a q lasting inside fraction some))

-- ---- a pair of drones of one show
-- Where two drones of one show are disjoint by the test at a fraction of a cue, they are disjoint at its instant, and the other way round.
module _ (t u : Traj) (r h fine cue a : ℕ) (same : traj.durations u.segments ≡ traj.durations t.segments) (lasting : All (λ ms. 1 ≤ ms) (traj.durations t.segments))
    (t_formed : All IsFormed t.segments) (u_formed : All IsFormed u.segments) (inside : cue < length (traj.durations t.segments)) (fraction : a ≤ 2 ^ fine) where
  abbrev times : List ℕ
  times = traj.durations t.segments

  abbrev when : ℕ
  when = instant_of times cue a (2 ^ fine)

  abbrev there_at : Moment
  there_at = moment times when (2 ^ fine)

  some : 1 ≤ 2 ^ fine
  some = omega (arith, pow_pos fine)

  there_some : 1 ≤ there_at.c
  there_some =
      let within : IsInside (length times) there_at = moment-inside times when (2 ^ fine) some (omega arith) lasting (instant_inside times cue a (2 ^ fine) inside fraction) in
      within.some

  t_same : (axis : ℕ) → axis ≤ 2 → Same (power (pos (2 ^ fine)) 7) (traj.decoded t axis (listed fine cue a)) (power (pos there_at.c) 7) (traj.decoded t axis there_at)
  t_same axis near = drone_same t times cue a (2 ^ fine) axis near refl lasting t_formed inside fraction some

  u_same : (axis : ℕ) → axis ≤ 2 → Same (power (pos (2 ^ fine)) 7) (traj.decoded u axis (listed fine cue a)) (power (pos there_at.c) 7) (traj.decoded u axis there_at)
  u_same axis near = drone_same u times cue a (2 ^ fine) axis near same lasting u_formed inside fraction some

  u_own : own u when (2 ^ fine) ≡ there_at
  u_own = ap (λ (ns : List ℕ). moment ns when (2 ^ fine)) same

  pub disjoint_at : right_of r h (listed fine cue a) <ℤ left_of t u r h (listed fine cue a) → AreDisjoint t u r h when (2 ^ fine)
  disjoint_at far =
      moment_disjoint t u r h there_at there_some when (2 ^ fine) refl u_own
      (disjoint_moved t u r h there_at (listed fine cue a) there_some some (λ axis near. sym (t_same axis near)) (λ axis near. sym (u_same axis near)) far)

  pub test_at : AreDisjoint t u r h when (2 ^ fine) → right_of r h (listed fine cue a) <ℤ left_of t u r h (listed fine cue a)
  test_at disjoint =
      disjoint_moved t u r h (listed fine cue a) there_at some there_some t_same u_same (disjoint_there t u r h there_at there_some when (2 ^ fine) refl u_own disjoint)

  pub touch_at : left_of t u r h (listed fine cue a) ≤ℤ right_of r h (listed fine cue a) → (AreDisjoint t u r h when (2 ^ fine) → ⊥) × SharePoint t u r h when (2 ^ fine)
  touch_at near =
      let none : AreDisjoint t u r h when (2 ^ fine) → ⊥ = λ disjoint. never _ _ near (test_at disjoint) in
      (none, share_point t u r h when (2 ^ fine) there_some (rw u_own there_some) none)
    where
      never : (x y : ℤ) → x ≤ℤ y → y <ℤ x → ⊥
      never x y below above = omega (arith, linear)

  -- What is apart at the instant is disjoint there.
  pub apart_then : AreApart t u r h when (2 ^ fine) → AreDisjoint t u r h when (2 ^ fine)
  apart_then = apart_disjoint t u r h when (2 ^ fine) there_some (rw u_own there_some)

-- ---- a show
module _ (trajs : List Traj) (r h fine : ℕ) (show : IsOneShow trajs) (formed : All (λ (t : Traj). All IsFormed t.segments) trajs) where
  times_of : (k : ℕ) (t : Traj) → slice_get trajs k ≡ Some t → traj.durations t.segments ≡ show.0
  times_of k t is = at_place (λ (t : Traj). traj.durations t.segments ≡ show.0) trajs k t show.1.same_times is

  same_of : (k l : ℕ) (t u : Traj) → slice_get trajs k ≡ Some t → slice_get trajs l ≡ Some u → traj.durations u.segments ≡ traj.durations t.segments
  same_of k l t u t_is u_is = times_of l u u_is ∙ sym (times_of k t t_is)

  lasting_of : (k : ℕ) (t : Traj) → slice_get trajs k ≡ Some t → All (λ ms. 1 ≤ ms) (traj.durations t.segments)
  lasting_of k t is = subst (λ (ns : List ℕ). All (λ ms. 1 ≤ ms) ns) (sym (times_of k t is)) show.1.lasting

  formed_of : (k : ℕ) (t : Traj) → slice_get trajs k ≡ Some t → All IsFormed t.segments
  formed_of k t is = at_place (λ (t : Traj). All IsFormed t.segments) trajs k t formed is

  first_of : (ts : List Traj) → 1 ≤ length ts → (t : Traj) × (slice_get ts 0 ≡ Some t) × (cues_in ts ≡ length t.segments)
  first_of [] some = absurd (omega arith)
  first_of (t ∷ ts) some = (t, refl, refl)

  cue_of : (cue k : ℕ) (t : Traj) → slice_get trajs k ≡ Some t → cue < cues_in trajs → cue < length (traj.durations t.segments)
  cue_of cue k t is inside =
      let first : (t : Traj) × (slice_get trajs 0 ≡ Some t) × (cues_in trajs ≡ length t.segments) = first_of trajs show.1.some_drones in
      let count : length first.0.segments ≡ length show.0 = segments_of first.0 show.0 (times_of 0 first.0 first.1) in
      omega (arith, inside, first.2, count, ap (λ (ns : List ℕ). length ns) (times_of k t is))

  disjoint_told : (s : Touch) → IsListed trajs fine s → SidesDisjoint trajs r h fine s → DisjointAt trajs r h fine s
  disjoint_told s among far t u t_is u_is =
      disjoint_at t u r h fine s.cue s.at (same_of s.a s.b t u t_is u_is) (lasting_of s.a t t_is) (formed_of s.a t t_is) (formed_of s.b u u_is) (cue_of s.cue s.a t t_is among.cue) among.at (far t u t_is u_is)

  touch_told : (s : Touch) → IsListed trajs fine s → SidesTouch trajs r h fine s → TouchAt trajs r h fine s
  touch_told s among near t u t_is u_is =
      touch_at t u r h fine s.cue s.at (same_of s.a s.b t u t_is u_is) (lasting_of s.a t t_is) (formed_of s.a t t_is) (formed_of s.b u u_is) (cue_of s.cue s.a t t_is among.cue) among.at (near t u t_is u_is)

  -- The first site at which the test fails is the first touch.
  pub first_told : (result : Option Touch) → MatchOption result (NoneTouch trajs r h fine) (IsFirstSite trajs r h fine) → MatchOption result (NoTouch trajs r h fine) (IsFirstTouch trajs r h fine)
  first_told None none = λ s among. disjoint_told s among (none s among)
  first_told (Some s) found = record {
    listed = found.listed;
    touches = touch_told s found.listed found.touches;
    none_before = λ u among before. disjoint_told u among (found.none_before u among before);
  }

  stands_there : (ts : List Traj) (k : ℕ) → k < length ts → (t : Traj) × (slice_get ts k ≡ Some t)
  stands_there [] k inside = absurd (omega arith)
  stands_there (t ∷ ts) zero inside = (t, refl)
  stands_there (t ∷ ts) (suc k) inside = stands_there ts k (omega arith)

  -- Where any two drones are disjoint at each listed instant, there is no touch.
  pub none_told : (result : Option Touch) → MatchOption result (NoTouch trajs r h fine) (IsFirstTouch trajs r h fine) → NoTouch trajs r h fine → result ≡ None
  none_told None is none = refl
  none_told (Some s) found none =
      let first : (t : Traj) × (slice_get trajs s.a ≡ Some t) = stands_there trajs s.a (omega (arith, found.listed.pair, found.listed.drone)) in
      let second : (u : Traj) × (slice_get trajs s.b ≡ Some u) = stands_there trajs s.b found.listed.drone in
      absurd ((found.touches first.0 second.0 first.1 second.1).0 (none s found.listed first.0 second.0 first.1 second.1))

  -- Where drones fly apart, they are.
  pub no_touch : FlyApartExactly r h trajs → NoTouch trajs r h fine
  no_touch apart s among t u t_is u_is =
      let inside : s.cue < length (traj.durations t.segments) = cue_of s.cue s.a t t_is among.cue in
      apart_then t u r h fine s.cue s.at (same_of s.a s.b t u t_is u_is) (lasting_of s.a t t_is) (formed_of s.a t t_is) (formed_of s.b u u_is) inside among.at
      (apart s.a s.b t u (λ same. omega (arith, same, among.pair)) t_is u_is (instant_of (traj.durations t.segments) s.cue s.at (2 ^ fine)) (2 ^ fine) (omega (arith, pow_pos fine))
      (instant_inside (traj.durations t.segments) s.cue s.at (2 ^ fine) inside among.at)
      (subst (λ (ns : List ℕ). instant_of (traj.durations t.segments) s.cue s.at (2 ^ fine) ≤ 2 ^ fine * sum ns) (sym (same_of s.a s.b t u t_is u_is))
      (instant_inside (traj.durations t.segments) s.cue s.at (2 ^ fine) inside among.at)))

-- The orders draw the ways.
use Rattle.flight_model.proofs.Prelude.{◌≡◌, ◌<◌, ◌≤◌, ◌∷◌, ◌∙◌, ◌||◌, ◌&&◌, [], List, Bool, true, false, not, cond, refl, sym, ap, subst, None, Some, Option, ℕ, zero, suc, inl, inr, ◌-◌, arith, length, ℤ, pos, ◌+ℤ◌, ◌*ℤ◌, map, int_le, list_any, common_steps, and_parts, at, bern, bernstein, stored, element_on, piece_on, Segment, Traj, Order, Leg, RestsOn, IsWay, IsWayUp, IsWayDown, after_segment, legs_from, legs_of, leg, same_on, moves, has_moved, will_move, go_to, is_vertical, first_move, last_move, up_order, down_order}
use Rattle.whole_numbers.specs.Sums.{power}
use Rattle.whole_numbers.specs.Moments.{Moment}
use Rattle.whole_numbers.specs.Decoded as plain
unfoldable use Rattle.whole_numbers.specs.Decoded.{decoded}
use Rattle.whole_numbers.proofs.BernsteinLemmas.{bernstein-suc, bernstein-zero, bernstein-same, bernstein-scale, cong_add}
use Rattle.whole_numbers.proofs.RingLemmas.{add_mul_ℤ, mul_comm_ℤ, one_mul_ℤ}
use Rattle.traj_codec.specs.Positions as positions
use Rattle.flight_model.specs.declared.events.Order.TheVariants as order
use Rattle.flight_model.specs.Draws.{led_to, time_of, rest_points, obeyed, DrawLaw}
use Rattle.flight_model.proofs.Rises.{or-parts, same-value}

-- ---- from rest to rest

split : (u a p : ℤ) → u *ℤ p +ℤ a *ℤ p ≡ (u +ℤ a) *ℤ p
split u a p = sym (add_mul_ℤ u a p)

-- control values that are all 1 have the sum c ^ n
ones : (n : ℕ) (a c : ℤ) → bernstein n (λ _. pos 1) a c ≡ power c n
ones zero a c = bernstein-zero (λ _. pos 1) a c
ones (suc n) a c = grind (arith, common_steps, bernstein-suc, pos, cong_add, split, (ones n a c), (ones n a c))

one_times : (x : ℤ) → x ≡ x *ℤ pos 1
one_times x = sym (mul_comm_ℤ x (pos 1) ∙ one_mul_ℤ x)

-- who goes from a value to the same stays
stays : (x a c : ℤ) → bern (rest_points x x) a c ≡ power c 7 *ℤ x
stays x a c =
    bernstein-same 7 (at (rest_points x x)) (λ k. x *ℤ pos 1) a c each
    ∙ bernstein-scale 7 x (λ k. pos 1) a c
    ∙ ap (λ (z : ℤ). x *ℤ z) (ones 7 a c)
    ∙ mul_comm_ℤ x (power c 7) where
      each : (k : ℕ) → k ≤ 7 → at (rest_points x x) k ≡ x *ℤ pos 1
      each zero l = one_times x
      each (suc zero) l = one_times x
      each (suc (suc zero)) l = one_times x
      each (suc (suc (suc zero))) l = one_times x
      each (suc (suc (suc (suc zero)))) l = one_times x
      each (suc (suc (suc (suc (suc zero))))) l = one_times x
      each (suc (suc (suc (suc (suc (suc zero)))))) l = one_times x
      each (suc (suc (suc (suc (suc (suc (suc zero))))))) l = one_times x
      each (suc (suc (suc (suc (suc (suc (suc (suc k)))))))) l = absurd (omega arith)

-- control points that rest, from their first to their last value
rests-as : (b : List ℤ) (u v a c : ℤ) → RestsOn b → at b 0 ≡ u → at b (length b - 1) ≡ v → bern (rest_points u v) a c ≡ power c (8 - length b) *ℤ bern b a c
rests-as [] u v a c (inl e) p q = absurd (omega (arith, e))
rests-as (x ∷ []) u v a c (inl e) p q =
    ap (λ (z : ℤ). bern (rest_points z v) a c) (sym p) ∙ ap (λ (z : ℤ). bern (rest_points x z) a c) (sym q)
    ∙ stays x a c ∙ ap (λ (z : ℤ). power c 7 *ℤ z) (sym (bernstein-zero (at (x ∷ [])) a c))
rests-as (x ∷ y ∷ b) u v a c (inl e) p q = absurd (omega (arith, e))
rests-as b u v a c (inr (x, y, e)) p q =
    let first : x ≡ u = sym (ap (λ (l : List ℤ). at l 0) e) ∙ p in
    let last : y ≡ v = sym (ap (λ (l : List ℤ). at l (length l - 1)) e) ∙ q in
    ap (λ (z : ℤ). bern (rest_points z v) a c) (sym first) ∙ ap (λ (z : ℤ). bern (rest_points x z) a c) (sym last)
    ∙ sym (ap (λ (l : List ℤ). power c (8 - length l) *ℤ bern l a c) e ∙ one_mul_ℤ (bern (rest_points x y) a c))

-- ---- the control points of a leg

at-last : (first : ℤ) (b : List ℤ) → at (first ∷ b) (length b) ≡ plain.last_value first b
at-last first [] = refl
at-last first (v ∷ b) = at-last v b

at-end : (first : ℤ) (b : List ℤ) → at (first ∷ b) (length (first ∷ b) - 1) ≡ plain.last_value first b
at-end first b = let last : length (first ∷ b) - 1 ≡ length b = omega arith in rw last (at-last first b)

-- the control points of a segment lead from where its leg begins to where it ends
record Leads (here : List ℤ) (segments : List Segment) (k axis : ℕ) : Type 0 where
  from : at (plain.points (at here axis) (map (piece_on axis) segments) k) 0 ≡ at (leg (legs_from here segments) k).from axis
  to : at (plain.points (at here axis) (map (piece_on axis) segments) k) (length (plain.points (at here axis) (map (piece_on axis) segments) k) - 1)
      ≡ at (leg (legs_from here segments) k).to axis

leads-x : (here : List ℤ) (segments : List Segment) (k : ℕ) → k < length segments → Leads here segments k 0
leads-x here [] k l = absurd (omega arith)
leads-x here (s ∷ rest) zero l = record { from = refl; to = at-end (at here 0) (stored (element_on s 0)) }
leads-x here (s ∷ rest) (suc k) l = let r = leads-x (after_segment here s) rest k (omega arith) in record { from = r.from; to = r.to }

leads-y : (here : List ℤ) (segments : List Segment) (k : ℕ) → k < length segments → Leads here segments k 1
leads-y here [] k l = absurd (omega arith)
leads-y here (s ∷ rest) zero l = record { from = refl; to = at-end (at here 1) (stored (element_on s 1)) }
leads-y here (s ∷ rest) (suc k) l = let r = leads-y (after_segment here s) rest k (omega arith) in record { from = r.from; to = r.to }

leads-z : (here : List ℤ) (segments : List Segment) (k : ℕ) → k < length segments → Leads here segments k 2
leads-z here [] k l = absurd (omega arith)
leads-z here (s ∷ rest) zero l = record { from = refl; to = at-end (at here 2) (stored (element_on s 2)) }
leads-z here (s ∷ rest) (suc k) l = let r = leads-z (after_segment here s) rest k (omega arith) in record { from = r.from; to = r.to }

leads-yaw : (here : List ℤ) (segments : List Segment) (k : ℕ) → k < length segments → Leads here segments k 3
leads-yaw here [] k l = absurd (omega arith)
leads-yaw here (s ∷ rest) zero l = record { from = refl; to = at-end (at here 3) (stored (element_on s 3)) }
leads-yaw here (s ∷ rest) (suc k) l = let r = leads-yaw (after_segment here s) rest k (omega arith) in record { from = r.from; to = r.to }

leads : (here : List ℤ) (segments : List Segment) (k axis : ℕ) → k < length segments → axis < 4 → Leads here segments k axis
leads here segments k zero l m = leads-x here segments k l
leads here segments k (suc zero) l m = leads-y here segments k l
leads here segments k (suc (suc zero)) l m = leads-z here segments k l
leads here segments k (suc (suc (suc zero))) l m = leads-yaw here segments k l
leads here segments k (suc (suc (suc (suc j)))) l m = absurd (omega (arith, m))

-- ---- where orders lead

-- the leg ends where it begins on this axis
abbrev StaysOn : Leg → ℕ → Type 0
StaysOn l axis = at l.from axis ≡ at l.to axis

stays-on : (l : Leg) (axis : ℕ) → same_on l axis ≡ true → StaysOn l axis
stays-on l axis h = sym (same-value (at l.from axis) (at l.to axis) h)

four-all : (a b c d : Bool) → not (a && b && c && d) ≡ false → (a ≡ true) × (b ≡ true) × (c ≡ true) × (d ≡ true)
four-all true true true true h = (refl, refl, refl, refl)
four-all true true true false h = absurd (cc)
four-all true true false d h = absurd (cc)
four-all true false c d h = absurd (cc)
four-all false b c d h = absurd (cc)

-- a leg without a move leads nowhere
still : (l : Leg) (axis : ℕ) → moves l ≡ false → axis < 4 → StaysOn l axis
still l zero h m = stays-on l 0 (four-all (same_on l 0) (same_on l 1) (same_on l 2) (same_on l 3) h).0
still l (suc zero) h m = stays-on l 1 (four-all (same_on l 0) (same_on l 1) (same_on l 2) (same_on l 3) h).1
still l (suc (suc zero)) h m = stays-on l 2 (four-all (same_on l 0) (same_on l 1) (same_on l 2) (same_on l 3) h).2
still l (suc (suc (suc zero))) h m = stays-on l 3 (four-all (same_on l 0) (same_on l 1) (same_on l 2) (same_on l 3) h).3
still l (suc (suc (suc (suc j)))) h m = absurd (omega (arith, m))

-- a height alone leads straight up or down
upright : (l : Leg) (axis : ℕ) → is_vertical l ≡ true → axis < 4 → at (at l.from 0 ∷ at l.from 1 ∷ at l.to 2 ∷ at l.from 3 ∷ []) axis ≡ at l.to axis
upright l zero h m = stays-on l 0 (and_parts (same_on l 0) (same_on l 1) (and_parts (same_on l 0 && same_on l 1) (same_on l 3) h).0).0
upright l (suc zero) h m = stays-on l 1 (and_parts (same_on l 0) (same_on l 1) (and_parts (same_on l 0 && same_on l 1) (same_on l 3) h).0).1
upright l (suc (suc zero)) h m = refl
upright l (suc (suc (suc zero))) h m = stays-on l 3 (and_parts (same_on l 0 && same_on l 1) (same_on l 3) h).1
upright l (suc (suc (suc (suc j)))) h m = absurd (omega (arith, m))

-- a go leads to the leg's end
goes : (l : Leg) (axis : ℕ) → axis < 4 → at (led_to l.from (Some (go_to l))) axis ≡ at l.to axis
goes l zero m = refl
goes l (suc zero) m = refl
goes l (suc (suc zero)) m = refl
goes l (suc (suc (suc zero))) m = refl
goes l (suc (suc (suc (suc j)))) m = absurd (omega (arith, m))

leads-up : (a b : Bool) (l : Leg) (axis : ℕ) → axis < 4 → (a ≡ false → b ≡ true → is_vertical l ≡ true) → (b ≡ false → StaysOn l axis) →
    at (led_to l.from (cond a (Some (go_to l)) (cond b (Some (order.Rise (at l.to 2) l.ms)) None))) axis ≡ at l.to axis
leads-up true b l axis m up none = goes l axis m
leads-up false true l axis m up none = upright l axis (up refl refl) m
leads-up false false l axis m up none = none refl

leads-down : (a b : Bool) (l : Leg) (axis : ℕ) → axis < 4 → (a ≡ false → b ≡ true → is_vertical l ≡ true) → (b ≡ false → StaysOn l axis) →
    at (led_to l.from (cond a (Some (go_to l)) (cond b (Some (order.Land (at l.to 2) l.ms)) None))) axis ≡ at l.to axis
leads-down true b l axis m down none = goes l axis m
leads-down false true l axis m down none = upright l axis (down refl refl) m
leads-down false false l axis m down none = none refl

takes-up : (a b : Bool) (l : Leg) → time_of l.ms (cond a (Some (go_to l)) (cond b (Some (order.Rise (at l.to 2) l.ms)) None)) ≡ l.ms
takes-up true b l = refl
takes-up false true l = refl
takes-up false false l = refl

takes-down : (a b : Bool) (l : Leg) → time_of l.ms (cond a (Some (go_to l)) (cond b (Some (order.Land (at l.to 2) l.ms)) None)) ≡ l.ms
takes-down true b l = refl
takes-down false true l = refl
takes-down false false l = refl

-- ---- the first and the last move

is-first : (legs : List Leg) (k : ℕ) → has_moved legs k ≡ false → moves (leg legs k) ≡ true → first_move legs ≡ Some (leg legs k)
is-first [] k h m = absurd (cc)
is-first (l ∷ legs) zero h m = rw m refl
is-first (l ∷ legs) (suc k) h m =
    let p = or-parts (moves l) (has_moved legs k) h in
    ap (λ (b : Bool). cond b (Some l) (first_move legs)) p.0 ∙ is-first legs k p.1 m

any-move : (legs : List Leg) (k : ℕ) → moves (leg legs k) ≡ true → list_any moves legs ≡ true
any-move [] k m = absurd (cc)
any-move (l ∷ legs) zero m = ap (λ (b : Bool). b || list_any moves legs) m
any-move (l ∷ legs) (suc k) m = by_now (moves l) (list_any moves legs) (any-move legs k m) where
  by_now : (a b : Bool) → b ≡ true → a || b ≡ true
  by_now true b e = refl
  by_now false b e = e

is-last : (legs : List Leg) (k : ℕ) → will_move legs (suc k) ≡ false → moves (leg legs k) ≡ true → last_move legs ≡ Some (leg legs k)
is-last [] k h m = absurd (cc)
is-last (l ∷ legs) zero h m = by_both (list_any moves legs) (moves l) h m where
  by_both : (a b : Bool) → a ≡ false → b ≡ true → cond a (last_move legs) (cond b (Some l) None) ≡ Some l
  by_both true b p q = absurd (cc)
  by_both false true p q = refl
  by_both false false p q = absurd (cc)
is-last (l ∷ legs) (suc k) h m =
    ap (λ (b : Bool). cond b (last_move legs) (cond (moves l) (Some l) None)) (any-move legs k m) ∙ is-last legs k h m

some_is : (a b : Leg) → Some a ≡ Some b → a ≡ b
some_is a b e = cc

rises-up : (t : Traj) (w : IsWayUp t) (k : ℕ) → has_moved (legs_of t) k ≡ false → moves (leg (legs_of t) k) ≡ true → is_vertical (leg (legs_of t) k) ≡ true
rises-up t w k h m =
    let same : w.first ≡ leg (legs_of t) k = some_is w.first (leg (legs_of t) k) (sym w.is_first ∙ is-first (legs_of t) k h m) in
    subst (λ (l : Leg). is_vertical l ≡ true) same (and_parts (is_vertical w.first) (not (int_le (at w.first.to 2) (at w.first.from 2))) w.up).0

lands-down : (t : Traj) (w : IsWayDown t) (k : ℕ) → will_move (legs_of t) (suc k) ≡ false → moves (leg (legs_of t) k) ≡ true → is_vertical (leg (legs_of t) k) ≡ true
lands-down t w k h m =
    let same : w.last ≡ leg (legs_of t) k = some_is w.last (leg (legs_of t) k) (sym w.is_last ∙ is-last (legs_of t) k h m) in
    subst (λ (l : Leg). is_vertical l ≡ true) same (and_parts (is_vertical w.last) (not (int_le (at w.last.from 2) (at w.last.to 2))) w.down).0

-- ---- all

drawn : (t : Traj) (m : Moment) (axis : ℕ) (o : Option Order) → IsWay t → m.cue < length t.segments → axis < 4 →
    at (led_to (leg (legs_of t) m.cue).from o) axis ≡ at (leg (legs_of t) m.cue).to axis →
    obeyed (leg (legs_of t) m.cue).from o axis m.a m.c ≡ positions.decoded t axis m
unfolding decoded
drawn t m axis o way l n to =
    let is = leads t.start t.segments m.cue axis l n in
    rests-as (positions.points t m.cue axis) (at (leg (legs_of t) m.cue).from axis) (at (led_to (leg (legs_of t) m.cue).from o) axis) (pos m.a) (pos m.c) (way m.cue axis l n) is.from
    (is.to ∙ sym to)

pub draw_law : DrawLaw
draw_law = record {
  up = λ t w. record {
    in_time = λ k. takes-up (has_moved (legs_of t) k) (moves (leg (legs_of t) k)) (leg (legs_of t) k);
    along = λ m axis l n.
        drawn t m axis (up_order (legs_of t) m.cue) w.rests l n
        (leads-up (has_moved (legs_of t) m.cue) (moves (leg (legs_of t) m.cue)) (leg (legs_of t) m.cue) axis n (rises-up t w m.cue) (λ h. still (leg (legs_of t) m.cue) axis h n));
  };
  down = λ t w. record {
    in_time = λ k. takes-down (will_move (legs_of t) (suc k)) (moves (leg (legs_of t) k)) (leg (legs_of t) k);
    along = λ m axis l n.
        drawn t m axis (down_order (legs_of t) m.cue) w.rests l n
        (leads-down (will_move (legs_of t) (suc m.cue)) (moves (leg (legs_of t) m.cue)) (leg (legs_of t) m.cue) axis n (lands-down t w m.cue) (λ h. still (leg (legs_of t) m.cue) axis h n));
  };
}

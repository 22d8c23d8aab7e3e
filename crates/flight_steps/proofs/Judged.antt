-- That there is a fault exactly where there is no flight.
use Rattle.flight_steps.proofs.Prelude.{◌≡◌, ◌<◌, ◌≤◌, ◌∷◌, ◌∙◌, [], List, Bool, false, cond, true, ◌&&◌, ◌==◌, refl, sym, ap, None, Some, Option, ℕ, zero, suc, length, map, arith, inl, inr, nat_le, length-map, ℤ, slice_get, All, bytes_eq, All-nil, All-cons, All-head, All-tail, ArrayVec, at, stored, element_on, piece_on, Segment, Traj, Leg, Routes, RestsOn, IsWayUp, IsWayDown, IsFlight, after_segment, way_begins, way_ends, legs_of, first_move, last_move, FlightFault, routes, AreFitted, same_place, rests_on, rests_by, rests_in, restless_from, restless, first_other, other_drone, same_ellipsoid, other_ellipsoid, gap, seam_fault, seams_fault, is_straight, way_fault, up_fault, down_fault, ups_fault, downs_fault, narrow, name_fault, size_fault, crew_fault, route_fault, flight_fault, spelled, AreFlight, GivesFault, option_or}
use Rattle.std.proofs.lemmas.Bool.{false≢true}
use Rattle.std.specs.Cmp.Lexicographic.{pointwise_decides, bytes_decides}
use Rattle.std.proofs.lemmas.Bool.Decides.{Decides-int_eq, nat_tests}
use Rattle.whole_numbers.specs.Decoded as plain
use Rattle.flight_steps.specs.declared.faults.Way.{Way}
use Rattle.flight_steps.specs.declared.faults.Way.TheVariants as way
use Rattle.flight_steps.specs.declared.faults.Seam.{Seam}
use Rattle.flight_steps.specs.declared.faults.Seam.TheVariants as seam
use Rattle.flight_steps.specs.declared.faults.FlightFault.TheVariants as fault
use Rattle.flight_steps.specs.declared.ways.Crews.{Crews}
use Rattle.flight_steps.specs.declared.ways.Ellipsoid.{Ellipsoid}
use Rattle.flight_steps.specs.declared.ways.Ways.{Ways}

-- ---- no fault

if-none : {A : Type 0} (b : Bool) (f : A) → cond b None (Some f) ≡ None → b ≡ true
if-none true f e = refl
if-none false f e = absurd (cc)

first-none : {A : Type 0} (b : Bool) (o : Option A) (f : A) → cond b o (Some f) ≡ None → (b ≡ true) × (o ≡ None)
first-none true o f e = (refl, e)
first-none false o f e = absurd (cc)

or-of : (a b : Option FlightFault) → option_or a b ≡ None → (a ≡ None) × (b ≡ None)
or-of None b e = (refl, e)
or-of (Some x) b e = absurd (cc)

or-to : (a b : Option FlightFault) → a ≡ None → b ≡ None → option_or a b ≡ None
or-to None b p q = q
or-to (Some x) b p q = absurd (cc)

-- ---- positions

same-of : (a b : List ℤ) → same_place a b ≡ true → a ≡ b
same-of a b e = (pointwise_decides Decides-int_eq a b).0 e

same-to : (a b : List ℤ) → a ≡ b → same_place a b ≡ true
same-to a b e = (pointwise_decides Decides-int_eq a b).1 e

-- ---- rest

rest-of : (u : ℤ) (vs : List ℤ) → rests_on u vs ≡ true → RestsOn (u ∷ vs)
rest-of u [] e = inl refl
rest-of u (v ∷ vs) e = inr (u, at (v ∷ vs) 3, ap (λ (xs : List ℤ). u ∷ xs) (same-of (v ∷ vs) _ e))

abbrev tail : List ℤ → List ℤ
tail [] = []
tail (x ∷ xs) = xs

rest-to : (u : ℤ) (vs : List ℤ) → RestsOn (u ∷ vs) → rests_on u vs ≡ true
rest-to u [] r = refl
rest-to u (v ∷ vs) (inl e) = absurd (omega (arith, e))
rest-to u (v ∷ vs) (inr (a, b, e)) =
    let all : v ∷ vs ≡ a ∷ a ∷ a ∷ b ∷ b ∷ b ∷ b ∷ [] = ap tail e in
    let first : u ≡ a = ap (λ (xs : List ℤ). at xs 0) e in
    let last : at (v ∷ vs) 3 ≡ b = ap (λ (xs : List ℤ). at xs 3) all in
    same-to (v ∷ vs) _
    (all ∙ sym (ap (λ (x : ℤ). x ∷ x ∷ x ∷ at (v ∷ vs) 3 ∷ at (v ∷ vs) 3 ∷ at (v ∷ vs) 3 ∷ at (v ∷ vs) 3 ∷ []) first
    ∙ ap (λ (x : ℤ). a ∷ a ∷ a ∷ x ∷ x ∷ x ∷ x ∷ []) last))

four-of : (a b c d : Bool) → (a && b && c && d) ≡ true → (a ≡ true) × (b ≡ true) × (c ≡ true) × (d ≡ true)
four-of true true true true e = (refl, refl, refl, refl)
four-of true true true false e = absurd (false≢true e)
four-of true true false d e = absurd (false≢true e)
four-of true false c d e = absurd (false≢true e)
four-of false b c d e = absurd (false≢true e)

four-to : (a b c d : Bool) → a ≡ true → b ≡ true → c ≡ true → d ≡ true → (a && b && c && d) ≡ true
four-to true true true true p q r s = refl
four-to true true true false p q r s = absurd (false≢true s)
four-to true true false d p q r s = absurd (false≢true r)
four-to true false c d p q r s = absurd (false≢true q)
four-to false b c d p q r s = absurd (false≢true p)

-- in each of these segments, from here on, the drone rests on each axis
abbrev RestFrom : List ℤ → List Segment → Type 0
RestFrom here segments = (cue axis : ℕ) → cue < length segments → axis < 4 → RestsOn (plain.points (at here axis) (map (piece_on axis) segments) cue)

rest-here : (here : List ℤ) (s : Segment) (rest : List Segment) → rests_in here s ≡ true → RestFrom (after_segment here s) rest → RestFrom here (s ∷ rest)
rest-here here s rest r more zero zero l m =
    rest-of (at here 0) (stored (element_on s 0)) (four-of (rests_by (at here 0) (element_on s 0)) (rests_by (at here 1) (element_on s 1)) (rests_by (at here 2) (element_on s 2)) (rests_by (at here 3) (element_on s 3)) r).0
rest-here here s rest r more zero (suc zero) l m =
    rest-of (at here 1) (stored (element_on s 1)) (four-of (rests_by (at here 0) (element_on s 0)) (rests_by (at here 1) (element_on s 1)) (rests_by (at here 2) (element_on s 2)) (rests_by (at here 3) (element_on s 3)) r).1
rest-here here s rest r more zero (suc (suc zero)) l m =
    rest-of (at here 2) (stored (element_on s 2)) (four-of (rests_by (at here 0) (element_on s 0)) (rests_by (at here 1) (element_on s 1)) (rests_by (at here 2) (element_on s 2)) (rests_by (at here 3) (element_on s 3)) r).2
rest-here here s rest r more zero (suc (suc (suc zero))) l m =
    rest-of (at here 3) (stored (element_on s 3)) (four-of (rests_by (at here 0) (element_on s 0)) (rests_by (at here 1) (element_on s 1)) (rests_by (at here 2) (element_on s 2)) (rests_by (at here 3) (element_on s 3)) r).3
rest-here here s rest r more zero (suc (suc (suc (suc k)))) l m = absurd (omega (arith, m))
rest-here here s rest r more (suc cue) zero l m = more cue zero (omega arith) (omega arith)
rest-here here s rest r more (suc cue) (suc zero) l m = more cue (suc zero) (omega arith) (omega arith)
rest-here here s rest r more (suc cue) (suc (suc zero)) l m = more cue (suc (suc zero)) (omega arith) (omega arith)
rest-here here s rest r more (suc cue) (suc (suc (suc zero))) l m = more cue (suc (suc (suc zero))) (omega arith) (omega arith)
rest-here here s rest r more (suc cue) (suc (suc (suc (suc k)))) l m = absurd (omega (arith, m))

rest-later : (here : List ℤ) (s : Segment) (rest : List Segment) → RestFrom here (s ∷ rest) → RestFrom (after_segment here s) rest
rest-later here s rest r cue zero l m = r (suc cue) zero (omega arith) (omega arith)
rest-later here s rest r cue (suc zero) l m = r (suc cue) (suc zero) (omega arith) (omega arith)
rest-later here s rest r cue (suc (suc zero)) l m = r (suc cue) (suc (suc zero)) (omega arith) (omega arith)
rest-later here s rest r cue (suc (suc (suc zero))) l m = r (suc cue) (suc (suc (suc zero))) (omega arith) (omega arith)
rest-later here s rest r cue (suc (suc (suc (suc k)))) l m = absurd (omega (arith, m))

rest-now : (here : List ℤ) (s : Segment) (rest : List Segment) → RestFrom here (s ∷ rest) → rests_in here s ≡ true
rest-now here s rest r =
    four-to (rests_by (at here 0) (element_on s 0)) (rests_by (at here 1) (element_on s 1)) (rests_by (at here 2) (element_on s 2)) (rests_by (at here 3) (element_on s 3))
    (rest-to (at here 0) (stored (element_on s 0)) (r 0 0 (omega arith) (omega arith)))
    (rest-to (at here 1) (stored (element_on s 1)) (r 0 1 (omega arith) (omega arith)))
    (rest-to (at here 2) (stored (element_on s 2)) (r 0 2 (omega arith) (omega arith)))
    (rest-to (at here 3) (stored (element_on s 3)) (r 0 3 (omega arith) (omega arith)))

restless-of : (n : ℕ) (here : List ℤ) (segments : List Segment) → restless_from n here segments ≡ None → RestFrom here segments
restless-of n here [] e cue axis l m = absurd (omega arith)
restless-of n here (s ∷ rest) e cue axis l m =
    let f = first-none (rests_in here s) (restless_from (suc n) (after_segment here s) rest) n e in
    rest-here here s rest f.0 (restless-of (suc n) (after_segment here s) rest f.1) cue axis l m

restless-to : (n : ℕ) (here : List ℤ) (segments : List Segment) → RestFrom here segments → restless_from n here segments ≡ None
restless-to n here [] r = refl
restless-to n here (s ∷ rest) r =
    ap (λ (b : Bool). cond b (restless_from (suc n) (after_segment here s) rest) (Some n)) (rest-now here s rest r)
    ∙ restless-to (suc n) (after_segment here s) rest (rest-later here s rest r)

-- ---- ways

record Faultless (w : Way) (cue : Option ℕ) (move : Option Leg) : Type 0 where
  rests : cue ≡ None
  leg : Leg
  is_leg : move ≡ Some leg
  straight : is_straight w leg ≡ true

way-of : (w : Way) (d : ℕ) (cue : Option ℕ) (move : Option Leg) → way_fault w d cue move ≡ None → Faultless w cue move
way-of w d (Some cue) move e = absurd (cc)
way-of w d None None e = absurd (cc)
way-of w d None (Some l) e = record { rests = refl; leg = l; is_leg = refl; straight = if-none (is_straight w l) (fault.Slanted w d) e }

way-to : (w : Way) (d : ℕ) (cue : Option ℕ) (move : Option Leg) (l : Leg) → cue ≡ None → move ≡ Some l → is_straight w l ≡ true → way_fault w d cue move ≡ None
way-to w d (Some cue) move l p q v = absurd (cc)
way-to w d None None l p q v = absurd (cc)
way-to w d None (Some k) l p q v =
    let same : k ≡ l = cc in
    ap (λ (b : Bool). cond b None (Some (fault.Slanted w d))) (ap (λ (x : Leg). is_straight w x) same ∙ v)

up-of : (d : ℕ) (t : Traj) → up_fault d t ≡ None → IsWayUp t
up-of d t e =
    let f = way-of way.Up d (restless t) (first_move (legs_of t)) e in
    record { rests = restless-of 0 t.start t.segments f.rests; first = f.leg; is_first = f.is_leg; up = f.straight }

up-to : (d : ℕ) (t : Traj) → IsWayUp t → up_fault d t ≡ None
up-to d t w = way-to way.Up d (restless t) (first_move (legs_of t)) w.first (restless-to 0 t.start t.segments w.rests) w.is_first w.up

down-of : (d : ℕ) (t : Traj) → down_fault d t ≡ None → IsWayDown t
down-of d t e =
    let f = way-of way.Down d (restless t) (last_move (legs_of t)) e in
    record { rests = restless-of 0 t.start t.segments f.rests; last = f.leg; is_last = f.is_leg; down = f.straight }

down-to : (d : ℕ) (t : Traj) → IsWayDown t → down_fault d t ≡ None
down-to d t w = way-to way.Down d (restless t) (last_move (legs_of t)) w.last (restless-to 0 t.start t.segments w.rests) w.is_last w.down

ups-of : (d : ℕ) (ts : List Traj) → ups_fault d ts ≡ None → All IsWayUp ts
ups-of d [] e = All-nil IsWayUp
ups-of d (t ∷ ts) e =
    let f = or-of (up_fault d t) (ups_fault (suc d) ts) e in
    All-cons IsWayUp t ts (up-of d t f.0) (ups-of (suc d) ts f.1)

ups-to : (d : ℕ) (ts : List Traj) → All IsWayUp ts → ups_fault d ts ≡ None
ups-to d [] a = refl
ups-to d (t ∷ ts) a =
    or-to (up_fault d t) (ups_fault (suc d) ts) (up-to d t (All-head IsWayUp t ts a)) (ups-to (suc d) ts (All-tail IsWayUp t ts a))

downs-of : (d : ℕ) (ts : List Traj) → downs_fault d ts ≡ None → All IsWayDown ts
downs-of d [] e = All-nil IsWayDown
downs-of d (t ∷ ts) e =
    let f = or-of (down_fault d t) (downs_fault (suc d) ts) e in
    All-cons IsWayDown t ts (down-of d t f.0) (downs-of (suc d) ts f.1)

downs-to : (d : ℕ) (ts : List Traj) → All IsWayDown ts → downs_fault d ts ≡ None
downs-to d [] a = refl
downs-to d (t ∷ ts) a =
    or-to (down_fault d t) (downs_fault (suc d) ts) (down-to d t (All-head IsWayDown t ts a)) (downs-to (suc d) ts (All-tail IsWayDown t ts a))

-- ---- seams

abbrev Meet : Traj → Traj → Traj → Type 0
Meet u s n = (way_ends u ≡ way_begins s) × (way_ends s ≡ way_begins n) × (way_ends n ≡ way_begins u)

abbrev AllMeet : List Traj → List Traj → List Traj → Type 0
AllMeet us ss ns = (d : ℕ) (u s n : Traj) → slice_get us d ≡ Some u → slice_get ss d ≡ Some s → slice_get ns d ≡ Some n → Meet u s n

gap-of : (w : Seam) (d : ℕ) (a b : List ℤ) → gap w d a b ≡ None → a ≡ b
gap-of w d a b e = same-of a b (if-none (same_place a b) (fault.Gap w d) e)

gap-to : (w : Seam) (d : ℕ) (a b : List ℤ) → a ≡ b → gap w d a b ≡ None
gap-to w d a b e = ap (λ (c : Bool). cond c None (Some (fault.Gap w d))) (same-to a b e)

seam-of : (d : ℕ) (u s n : Traj) → seam_fault d u s n ≡ None → Meet u s n
seam-of d u s n e =
    let a = gap seam.UpToShow d (way_ends u) (way_begins s) in
    let b = gap seam.ShowToDown d (way_ends s) (way_begins n) in
    let c = gap seam.DownToUp d (way_ends n) (way_begins u) in
    let f = or-of a (option_or b c) e in
    let g = or-of b c f.1 in (
      gap-of seam.UpToShow d (way_ends u) (way_begins s) f.0,
      gap-of seam.ShowToDown d (way_ends s) (way_begins n) g.0,
      gap-of seam.DownToUp d (way_ends n) (way_begins u) g.1,
    )

seam-to : (d : ℕ) (u s n : Traj) → Meet u s n → seam_fault d u s n ≡ None
seam-to d u s n m =
    or-to (gap seam.UpToShow d (way_ends u) (way_begins s)) _ (gap-to seam.UpToShow d (way_ends u) (way_begins s) m.0)
    (or-to (gap seam.ShowToDown d (way_ends s) (way_begins n)) _ (gap-to seam.ShowToDown d (way_ends s) (way_begins n) m.1)
    (gap-to seam.DownToUp d (way_ends n) (way_begins u) m.2))

meet-same : (u v s r n m : Traj) → u ≡ v → s ≡ r → n ≡ m → Meet u s n → Meet v r m
meet-same u v s r n m p q o meet = (
  sym (ap (λ (t : Traj). way_ends t) p) ∙ (meet.0 ∙ ap (λ (t : Traj). way_begins t) q),
  sym (ap (λ (t : Traj). way_ends t) q) ∙ (meet.1 ∙ ap (λ (t : Traj). way_begins t) o),
  sym (ap (λ (t : Traj). way_ends t) o) ∙ (meet.2 ∙ ap (λ (t : Traj). way_begins t) p),
)

of-some : (u v : Traj) → Some u ≡ Some v → u ≡ v
of-some u v e = cc

seams-of : (k : ℕ) (us ss ns : List Traj) → seams_fault k us ss ns ≡ None → AllMeet us ss ns
seams-of k [] ss ns e d u s n a b c = absurd (cc)
seams-of k (x ∷ us) [] ns e d u s n a b c = absurd (cc)
seams-of k (x ∷ us) (y ∷ ss) [] e d u s n a b c = absurd (cc)
seams-of k (x ∷ us) (y ∷ ss) (z ∷ ns) e zero u s n a b c =
    meet-same x u y s z n (of-some x u a) (of-some y s b) (of-some z n c) (seam-of k x y z (or-of (seam_fault k x y z) (seams_fault (suc k) us ss ns) e).0)
seams-of k (x ∷ us) (y ∷ ss) (z ∷ ns) e (suc d) u s n a b c =
    seams-of (suc k) us ss ns (or-of (seam_fault k x y z) (seams_fault (suc k) us ss ns) e).1 d u s n a b c

seams-to : (k : ℕ) (us ss ns : List Traj) → AllMeet us ss ns → seams_fault k us ss ns ≡ None
seams-to k [] ss ns j = refl
seams-to k (u ∷ us) [] ns j = refl
seams-to k (u ∷ us) (s ∷ ss) [] j = refl
seams-to k (u ∷ us) (s ∷ ss) (n ∷ ns) j =
    or-to (seam_fault k u s n) (seams_fault (suc k) us ss ns) (seam-to k u s n (j zero u s n refl refl refl)) (seams-to (suc k) us ss ns (λ d. j (suc d)))

-- ---- names

other-of : (n : ℕ) (xs ys : List (ArrayVec ℕ)) → first_other n xs ys ≡ None → spelled xs ≡ spelled ys
other-of n [] [] e = refl
other-of n [] (y ∷ ys) e = absurd (cc)
other-of n (x ∷ xs) [] e = absurd (cc)
other-of n (x ∷ xs) (y ∷ ys) e =
    let f = first-none (bytes_eq x.items y.items) (first_other (suc n) xs ys) n e in
    ap (λ (name : List ℕ). name ∷ spelled xs) ((bytes_decides x.items y.items).0 f.0)
    ∙ ap (λ (names : List (List ℕ)). y.items ∷ names) (other-of (suc n) xs ys f.1)

other-to : (n : ℕ) (xs ys : List (ArrayVec ℕ)) → spelled xs ≡ spelled ys → first_other n xs ys ≡ None
other-to n [] [] e = refl
other-to n [] (y ∷ ys) e = absurd (cc)
other-to n (x ∷ xs) [] e = absurd (cc)
other-to n (x ∷ xs) (y ∷ ys) e =
    let name : x.items ≡ y.items = cc in
    let names : spelled xs ≡ spelled ys = cc in
    ap (λ (b : Bool). cond b (first_other (suc n) xs ys) (Some n)) ((bytes_decides x.items y.items).1 name) ∙ other-to (suc n) xs ys names

drone-of : (w : Way) (o : Option ℕ) → other_drone w o ≡ None → o ≡ None
drone-of w None e = refl
drone-of w (Some d) e = absurd (cc)

-- ---- ellipsoids

abbrev ellipsoid : ℕ → ℕ → Ellipsoid
ellipsoid r h = record { r = r; h = h }

ellipsoid-of : (w : Way) (a b : Ellipsoid) → other_ellipsoid w a b ≡ None → a ≡ b
ellipsoid-of w a b e = let t : (a.r == b.r && a.h == b.h) ≡ true = if-none (same_ellipsoid a b) (fault.OtherEllipsoid w) e in same a.r b.r a.h b.h t where
  same : (r s h k : ℕ) → (r == s && h == k) ≡ true → ellipsoid r h ≡ ellipsoid s k
  same r s h k t = let p : r ≡ s = grind (arith, nat_tests) in let q : h ≡ k = grind (arith, nat_tests) in ap (λ (n : ℕ). ellipsoid n h) p ∙ ap (λ (n : ℕ). ellipsoid s n) q

ellipsoid-to : (w : Way) (a b : Ellipsoid) → a ≡ b → other_ellipsoid w a b ≡ None
ellipsoid-to w a b e =
    let t : (a.r == b.r && a.h == b.h) ≡ true = let p : a.r ≡ b.r = ap (λ (x : Ellipsoid). x.r) e in let q : a.h ≡ b.h = ap (λ (x : Ellipsoid). x.h) e in grind (arith, nat_tests) in
    ap (λ (c : Bool). cond c None (Some (fault.OtherEllipsoid w))) t

long : (xs ys : List (ArrayVec ℕ)) → spelled xs ≡ spelled ys → length xs ≡ length ys
long xs ys e =
    sym (length-map xs (λ (name : ArrayVec ℕ). name.items)) ∙ (ap (λ (names : List (List ℕ)). length names) e ∙ length-map ys (λ (name : ArrayVec ℕ). name.items))

-- ---- all

narrow-of : (w : Routes) → narrow w ≡ None → w.near ≤ w.stray
narrow-of w e = let t = if-none (nat_le w.near w.stray) (fault.Narrow w.near w.stray) e in grind (arith, nat_tests)

narrow-to : (w : Routes) → w.near ≤ w.stray → narrow w ≡ None
narrow-to w l =
    let t : nat_le w.near w.stray ≡ true = grind (arith, nat_tests) in
    ap (λ (b : Bool). cond b None (Some (fault.Narrow w.near w.stray))) t

pub route-of : (w : Routes) → length w.up ≡ length w.show → length w.down ≡ length w.show → route_fault w ≡ None → IsFlight w
route-of w ups downs e =
    let f = or-of (seams_fault 0 w.up w.show w.down) (option_or (ups_fault 0 w.up) (option_or (downs_fault 0 w.down) (narrow w))) e in
    let g = or-of (ups_fault 0 w.up) (option_or (downs_fault 0 w.down) (narrow w)) f.1 in
    let h = or-of (downs_fault 0 w.down) (narrow w) g.1 in
    record {
      ups = ups;
      downs = downs;
      rise = ups-of 0 w.up g.0;
      return = downs-of 0 w.down h.0;
      strays = narrow-of w h.1;
      joined = seams-of 0 w.up w.show w.down f.0;
    }

pub route-to : (w : Routes) → IsFlight w → route_fault w ≡ None
route-to w f =
    or-to (seams_fault 0 w.up w.show w.down) _ (seams-to 0 w.up w.show w.down f.joined)
    (or-to (ups_fault 0 w.up) _ (ups-to 0 w.up f.rise) (or-to (downs_fault 0 w.down) (narrow w) (downs-to 0 w.down f.return) (narrow-to w f.strays)))

-- no fault: a flight
pub flight-of : (c : Crews) (w : Ways) → AreFitted c w → flight_fault c (routes w) ≡ None → AreFlight c (routes w)
flight-of c w fits e =
    let f = or-of (crew_fault c) (route_fault (routes w)) e in
    let k = or-of (name_fault c) (size_fault c.up.ellipsoid c.show.ellipsoid c.down.ellipsoid) f.0 in
    let g = or-of (other_drone way.Up (first_other 0 c.up.names.now c.show.names.now)) (other_drone way.Down (first_other 0 c.down.names.now c.show.names.now)) k.0 in
    let s = or-of (other_ellipsoid way.Up c.up.ellipsoid c.show.ellipsoid) (other_ellipsoid way.Down c.down.ellipsoid c.show.ellipsoid) k.1 in
    let up : spelled c.up.names.now ≡ spelled c.show.names.now = other-of 0 c.up.names.now c.show.names.now (drone-of way.Up _ g.0) in
    let down : spelled c.down.names.now ≡ spelled c.show.names.now = other-of 0 c.down.names.now c.show.names.now (drone-of way.Down _ g.1) in
    record {
      up = up;
      down = down;
      up_ellipsoid = ellipsoid-of way.Up c.up.ellipsoid c.show.ellipsoid s.0;
      down_ellipsoid = ellipsoid-of way.Down c.down.ellipsoid c.show.ellipsoid s.1;
      flight =
          route-of (routes w) (fits.up ∙ (long c.up.names.now c.show.names.now up ∙ sym fits.show)) (fits.down ∙ (long c.down.names.now c.show.names.now down ∙ sym fits.show)) f.1;
    }

-- a flight: no fault
flight-to : (c : Crews) (w : Routes) → AreFlight c w → flight_fault c w ≡ None
flight-to c w f =
    or-to (crew_fault c) (route_fault w)
    (or-to (name_fault c) (size_fault c.up.ellipsoid c.show.ellipsoid c.down.ellipsoid)
    (or-to (other_drone way.Up (first_other 0 c.up.names.now c.show.names.now)) (other_drone way.Down (first_other 0 c.down.names.now c.show.names.now))
    (ap (λ (o : Option ℕ). other_drone way.Up o) (other-to 0 c.up.names.now c.show.names.now f.up)) (ap (λ (o : Option ℕ). other_drone way.Down o) (other-to 0 c.down.names.now c.show.names.now f.down)))
    (or-to (other_ellipsoid way.Up c.up.ellipsoid c.show.ellipsoid) (other_ellipsoid way.Down c.down.ellipsoid c.show.ellipsoid)
    (ellipsoid-to way.Up c.up.ellipsoid c.show.ellipsoid f.up_ellipsoid) (ellipsoid-to way.Down c.down.ellipsoid c.show.ellipsoid f.down_ellipsoid)))
    (route-to w f.flight)

pub fault-of : (c : Crews) (w : Routes) (f : FlightFault) → flight_fault c w ≡ Some f → GivesFault c w f
fault-of c w f e = record { first = e; none = λ flight. let n = flight-to c w flight in absurd (cc) }

-- Where drones rise from.
use Rattle.flight_model.proofs.Prelude.{◌≡◌, ◌≤◌, ◌∷◌, ◌∙◌, ◌||◌, ◌&&◌, [], List, Bool, true, false, not, cond, refl, sym, ap, subst, None, Some, Option, ℕ, zero, suc, ◌-◌, arith, ℤ, int_le, map, slice_get, Contains, All, ◌≤ℤ◌, pos, flat_map, range_with_len, option_map, and_parts, ints, All-nil, All-cons, All-append, All-head, All-tail, at, Segment, Traj, Order, Sample, Event, Position, Condition, Step, Flight, Routes, Leg, after_segment, legs_from, legs_of, leg, same_on, moves, has_moved, will_move, arm_order, up_order, down_order, way_begins, position_of, leg_count, group_step, arm_step, up_condition, up_step, start_step, down_step, last_step, lasts, State, Begin, order_in, frames_of_step, choice, says, orders_to, in_step, IsNear, Rises, square}
use Rattle.whole_numbers.proofs.DivisionLemmas.{square_le}
use Rattle.flight_model.specs.declared.events.Order.TheVariants as order
unfoldable use Rattle.flight_model.specs.Legs.{steps_of}
unfoldable use Rattle.flight_model.specs.Directors.{heard, done}
use Rattle.flight_model.specs.Rises.{RiseLaw}
use Rattle.flight_model.proofs.OrdersTo.{orders_to-of_step}
use Rattle.flight_model.proofs.Telling.{orders_to-says}
use Rattle.flight_model.proofs.Beginning.{begin-may, onward-begins, contains-nil, contains-one}

-- ---- before its first move a drone is where its way begins

pub or-parts : (a b : Bool) → a || b ≡ false → (a ≡ false) × (b ≡ false)
or-parts false false h = (refl, refl)
or-parts false true h = absurd (cc)
or-parts true b h = absurd (cc)

four : (a b c d : Bool) → not (a && b && c && d) ≡ false → (a ≡ true) × (b ≡ true) × (c ≡ true)
four true true true true h = (refl, refl, refl)
four true true true false h = absurd (cc)
four true true false d h = absurd (cc)
four true false c d h = absurd (cc)
four false b c d h = absurd (cc)

pub same-value : (a b : ℤ) → int_le a b && int_le b a ≡ true → b ≡ a
same-value a b h = let p = and_parts (int_le a b) (int_le b a) h in omega (arith, ints, p.0, p.1)

same-position : (u v : List ℤ) → at v 0 ≡ at u 0 → at v 1 ≡ at u 1 → at v 2 ≡ at u 2 → position_of v ≡ position_of u
same-position u v x y z = cc

still-there : (l : Leg) → moves l ≡ false → position_of l.to ≡ position_of l.from
still-there l h =
    let s = four (same_on l 0) (same_on l 1) (same_on l 2) (same_on l 3) h in
    same-position l.from l.to (same-value (at l.from 0) (at l.to 0) s.0) (same-value (at l.from 1) (at l.to 1) s.1) (same-value (at l.from 2) (at l.to 2) s.2)

pub begins-there : (here : List ℤ) (segments : List Segment) (k : ℕ) → has_moved (legs_from here segments) k ≡ false → moves (leg (legs_from here segments) k) ≡ true →
    position_of (leg (legs_from here segments) k).from ≡ position_of here
begins-there here [] k still moving = absurd (cc)
begins-there here (s ∷ rest) zero still moving = refl
begins-there here (s ∷ rest) (suc k) still moving =
    let l : Leg = record { from = here; to = after_segment here s; ms = s.ms } in
    let p = or-parts (moves l) (has_moved (legs_from (after_segment here s) rest) k) still in
    begins-there (after_segment here s) rest k p.1 moving ∙ still-there l p.0

pub still-sooner : (legs : List Leg) (j k : ℕ) → j ≤ k → has_moved legs k ≡ false → has_moved legs j ≡ false
still-sooner legs zero k l h = refl
still-sooner legs (suc j) zero l h = absurd (omega arith)
still-sooner [] (suc j) (suc k) l h = refl
still-sooner (x ∷ legs) (suc j) (suc k) l h =
    let p = or-parts (moves x) (has_moved legs k) h in
    rw p.0 (still-sooner legs j k (omega arith) p.1)

-- ---- which steps order a rise

-- the step orders this drone to rise only if it has to be near to where its way up begins
abbrev StartsNear : Routes → ℕ → Traj → ℤ → ℕ → Step → Type 0
StartsNear w d up z ms step =
    order_in step.orders d ≡ Some (Some (order.Rise z ms)) →
    (c : Condition) × (slice_get step.conditions d ≡ Some c) × (c.bound ≡ w.near) × (c.position ≡ position_of (way_begins up))

pub get-leg : {B : Type 0} (g : List Leg → B) (ts : List Traj) (d : ℕ) (t : Traj) → slice_get ts d ≡ Some t → slice_get (map g (map legs_of ts)) d ≡ Some (g (legs_of t))
get-leg g [] d t e = absurd (cc)
get-leg g (u ∷ ts) zero t e = ap (λ (o : Option Traj). option_map (λ v. g (legs_of v)) o) e
get-leg g (u ∷ ts) (suc d) t e = get-leg g ts d t e

pub get-none : {B : Type 0} (g : List Leg → B) (ts : List Traj) (d : ℕ) → slice_get ts d ≡ None → slice_get (map g (map legs_of ts)) d ≡ None
get-none g [] d e = refl
get-none g (u ∷ ts) zero e = absurd (cc)
get-none g (u ∷ ts) (suc d) e = get-none g ts d e

no_rise-arm : (b : Bool) (z : ℤ) (ms : ℕ) → Some (cond b (Some order.Arm) None) ≡ Some (Some (order.Rise z ms)) → ⊥
no_rise-arm true z ms e = absurd (cc)
no_rise-arm false z ms e = absurd (cc)

no_rise-down : (a b : Bool) (x y h yaw floor z : ℤ) (n m ms : ℕ) →
    Some (cond a (Some (order.Go x y h yaw n)) (cond b (Some (order.Land floor m)) None)) ≡ Some (Some (order.Rise z ms)) → ⊥
no_rise-down true b x y h yaw floor z n m ms e = absurd (cc)
no_rise-down false true x y h yaw floor z n m ms e = absurd (cc)
no_rise-down false false x y h yaw floor z n m ms e = absurd (cc)

-- a rise of the way up is the first move
pub rises-first : (a b : Bool) (x y h yaw top z : ℤ) (n m ms : ℕ) →
    Some (cond a (Some (order.Go x y h yaw n)) (cond b (Some (order.Rise top m)) None)) ≡ Some (Some (order.Rise z ms)) → (a ≡ false) × (b ≡ true)
rises-first true b x y h yaw top z n m ms e = absurd (cc)
rises-first false true x y h yaw top z n m ms e = (refl, refl)
rises-first false false x y h yaw top z n m ms e = absurd (cc)

in-group : (w : Routes) (d : ℕ) (z : ℤ) (ms : ℕ) → order_in (group_step (map legs_of w.up)).orders d ≡ Some (Some (order.Rise z ms)) → ⊥
in-group w d z ms rise = by_way (slice_get w.up d) refl where
  by_way : (o : Option Traj) → slice_get w.up d ≡ o → ⊥
  by_way None same = let none = get-none (λ legs. Some order.Group) w.up d same in absurd (cc)
  by_way (Some t) same = let one = sym (get-leg (λ legs. Some order.Group) w.up d t same) ∙ rise in absurd (cc)

in-arm : (w : Routes) (d : ℕ) (up : Traj) (z : ℤ) (ms k : ℕ) → slice_get w.up d ≡ Some up → StartsNear w d up z ms (arm_step w (map legs_of w.up) k)
in-arm w d up z ms k e rise =
    absurd (no_rise-arm (not (has_moved (legs_of up) k) && moves (leg (legs_of up) k)) z ms (sym (get-leg (λ legs. arm_order legs k) w.up d up e) ∙ rise))

in-up : (w : Routes) (d : ℕ) (up : Traj) (z : ℤ) (ms k : ℕ) → slice_get w.up d ≡ Some up → StartsNear w d up z ms (up_step w (map legs_of w.up) k)
in-up w d up z ms k e rise =
    let legs = legs_of up in
    let l = leg legs k in
    let first = rises-first (has_moved legs k) (moves l) (at l.to 0) (at l.to 1) (at l.to 2) (at l.to 3) (at l.to 2) z l.ms l.ms ms
    (sym (get-leg (λ legs. up_order legs k) w.up d up e) ∙ rise) in (
      up_condition w k legs,
      get-leg (up_condition w k) w.up d up e,
      (let still = still-sooner legs (k - 1) k (omega arith) first.0 in rw still refl),
      begins-there up.start up.segments k first.0 first.1,
    )

in-down : (w : Routes) (d : ℕ) (up : Traj) (z : ℤ) (ms total k : ℕ) → StartsNear w d up z ms (down_step w total (map legs_of w.down) k)
in-down w d up z ms total k rise = absurd (by_way (slice_get w.down d) refl) where
  by_way : (o : Option Traj) → slice_get w.down d ≡ o → ⊥
  by_way None same =
      let is = get-none (λ legs. down_order legs k) w.down d same in absurd (cc)
  by_way (Some t) same =
      let legs = legs_of t in
      let l = leg legs k in
      no_rise-down (will_move legs (suc k)) (moves l) (at l.to 0) (at l.to 1) (at l.to 2) (at l.to 3) (at l.to 2) z l.ms l.ms ms
      (sym (get-leg (λ legs. down_order legs k) w.down d t same) ∙ rise)

pub flat-all : (P : Step → Type 0) (h : ℕ → List Step) (ks : List ℕ) → ((k : ℕ) → All P (h k)) → All P (flat_map h ks)
flat-all P h [] each = All-nil P
flat-all P h (k ∷ ks) each = All-append P (h k) (flat_map h ks) (each k) (flat-all P h ks each)

pub map-all : (P : Step → Type 0) (h : ℕ → Step) (ks : List ℕ) → ((k : ℕ) → P (h k)) → All P (map h ks)
map-all P h [] each = All-nil P
map-all P h (k ∷ ks) each = All-cons P (h k) (map h ks) (each k) (map-all P h ks each)

-- what holds of each kind of step holds of all steps
pub all-steps : (P : Step → Type 0) (w : Routes) → P (group_step (map legs_of w.up)) → ((k : ℕ) → P (arm_step w (map legs_of w.up) k)) → ((k : ℕ) → P (up_step w (map legs_of w.up) k)) →
    P (start_step w (lasts w.show) (map legs_of w.up)) → ((k : ℕ) → P (down_step w (lasts w.show) (map legs_of w.down) k)) → P (last_step w (map legs_of w.down)) →
    All P (steps_of w)
unfolding steps_of
all-steps P w group arm up begin down last =
    let ups = map legs_of w.up in
    let downs = map legs_of w.down in
    All-cons P (group_step ups) _ group
    (All-append P (flat_map (λ k. arm_step w ups k ∷ up_step w ups k ∷ []) (range_with_len 0 (leg_count ups))) _
    (flat-all P (λ k. arm_step w ups k ∷ up_step w ups k ∷ []) (range_with_len 0 (leg_count ups))
    (λ k. All-cons P (arm_step w ups k) (up_step w ups k ∷ []) (arm k) (All-cons P (up_step w ups k) [] (up k) (All-nil P))))
    (All-cons P (start_step w (lasts w.show) ups) _ begin
    (All-append P (map (down_step w (lasts w.show) downs) (range_with_len 0 (leg_count downs))) (last_step w downs ∷ [])
    (map-all P (down_step w (lasts w.show) downs) (range_with_len 0 (leg_count downs)) down)
    (All-cons P (last_step w downs) [] last (All-nil P)))))

all-near : (w : Routes) (d : ℕ) (up : Traj) (z : ℤ) (ms : ℕ) → slice_get w.up d ≡ Some up → All (StartsNear w d up z ms) (steps_of w)
all-near w d up z ms e =
    all-steps (StartsNear w d up z ms) w (λ rise. absurd (in-group w d z ms rise)) (λ k. in-arm w d up z ms k e) (λ k. in-up w d up z ms k e) (λ rise. absurd (cc))
    (λ k. in-down w d up z ms (lasts w.show) k) (λ rise. absurd (cc))

pub all-get : (P : Step → Type 0) (steps : List Step) (n : ℕ) (step : Step) → All P steps → slice_get steps n ≡ Some step → P step
all-get P [] n step all e = absurd (cc)
all-get P (x ∷ steps) zero step all e = let same : x ≡ step = cc in subst P same (All-head P x steps all)
all-get P (x ∷ steps) (suc n) step all e = all-get P steps n step (All-tail P x steps all) e

-- ---- the step that tells a drone to rise

pub told-in : (o : Option (Option Order)) (x : Order) → Contains (in_step o) x → o ≡ Some (Some x)
told-in None x c = absurd (contains-nil x c)
told-in (Some None) x c = absurd (contains-nil x c)
told-in (Some (Some y)) x c = ap (λ (v : Order). Some (Some v)) (contains-one y x c)

pub ordered-step : (f : Flight) (s : State) (e : Event) (d : ℕ) (x : Order) (step : Step) → choice f s e ≡ Begin → slice_get f.steps s.next ≡ Some step →
    Contains (orders_to d (says f s e)) x → order_in step.orders d ≡ Some (Some x)
unfolding done heard
ordered-step f s e d x step same is has =
    let told : orders_to d (says f s e) ≡ in_step (order_in step.orders d) =
    orders_to-says d f s e ∙ rw same (ap (λ o. orders_to d (frames_of_step o)) is ∙ orders_to-of_step d step.orders) in
    told-in (order_in step.orders d) x (subst (λ os. Contains os x) told has)

wider : (a b : ℕ) (p : Position) (x : Sample) → a ≤ b → IsNear a p x → IsNear b p x
wider a b p x l n = past _ (square (pos a)) (square (pos b)) n (square_le (pos a) (pos b) (omega (arith, ints)) (omega (arith, ints, l))) where
  past : (s u v : ℤ) → s ≤ℤ u → u ≤ℤ v → s ≤ℤ v
  past s u v h i = omega (arith, ints, h, i)

pub rise_law : RiseLaw
rise_law f w is steps s e d up at_d z ms has =
    let begins = onward-begins f (heard f s e) d (order.Rise z ms) (choice f s e) (Rises z ms) (subst (λ os. Contains os (order.Rise z ms)) (orders_to-says d f s e) has) in
    let m = begin-may f s e begins in
    let all = all-get (StartsNear w d up z ms) (steps_of w) s.next m.step (all-near w d up z ms at_d) (sym (ap (λ (xs : List Step). slice_get xs s.next) steps) ∙ m.is_next) in
    let c = all (ordered-step f s e d (order.Rise z ms) m.step begins m.is_next has) in
    let fit = m.fit d c.0 c.1 in
    let near = subst (λ (p : Position). IsNear c.0.bound p fit.1) c.3 fit.4.near in
    record {
      track = fit.0;
      sample = fit.1;
      is_track = fit.2;
      is_sample = fit.3;
      near = wider c.0.bound w.stray (position_of (way_begins up)) fit.1 (let strays = is.strays in let b = c.2 in omega (arith, strays, b)) near;
    }

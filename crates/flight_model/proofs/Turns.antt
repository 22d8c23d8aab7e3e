-- In whose turn each order goes out.
use Rattle.flight_model.proofs.Prelude.{◌≡◌, ◌⊎◌, ◌≤◌, ◌∷◌, ◌∙◌, ◌||◌, ◌&&◌, [], List, Bool, true, false, not, cond, refl, sym, ap, subst, None, Some, Option, ℕ, zero, suc, inl, inr, ◌-◌, ◌+◌, ◌<◌, ◌++◌, length, leb, ltb, eqb, arith, ℤ, map, slice_get, Contains, All, option_map, append_assoc, flat_map, range_with_len, stands_at, and_parts, not-true, leb-true, ltb-true, ltb-false, ne_eqb, eqb-true, eqb-false, Traj, Order, Sample, Event, Clock, Seen, Answered, Said, Position, Condition, Step, Flight, Routes, Leg, legs_of, leg, moves, has_moved, will_move, arm_order, up_order, down_order, way_begins, position_of, leg_count, leg_ms, ms_before, up_bound, down_bound, arm_condition, group_step, arm_step, down_condition, up_condition, start_condition, start_step, up_step, down_step, lasts, last_condition, last_step, Phase, Steps, Landing, Off, Halted, Ended, Track, State, Choice, Rest, Begin, Descend, Cut, Quit, Finish, chosen, is_fault, is_stop, is_down, all_down, are_down, end_step, has_landed, order_in, says, later, passed, land_order, has_risen, drones, orders_to, only_if, IsNear, StandsAt, MayBegin, IsOnward, Arms, Rises, Starts, twice, HoldsUntil, IsUpBound, IsDownBound, MayGoOn, MayArm, MayRise, MayStart, AtPads, IsSeenDown, AllDown, TurnLaw, Wait}
use Rattle.flight_model.specs.declared.events.Order.TheVariants as order
use Rattle.flight_model.specs.declared.events.Signal.TheVariants as signal
unfoldable use Rattle.flight_model.specs.Legs.{steps_of}
unfoldable use Rattle.flight_model.specs.Directors.{heard, choice, done, led, happens}
use Rattle.flight_model.proofs.OrdersTo.{orders_to-landing, orders_to-no_landing}
use Rattle.flight_model.proofs.Telling.{orders_to-says}
use Rattle.flight_model.proofs.Choices.{steps-has, landing-has, off-has, halted-has}
use Rattle.flight_model.proofs.Beginning.{implied, stands-true, begin-may, due_law, onward-begins, contains-nil, contains-one}
use Rattle.flight_model.proofs.Rises.{or-parts, begins-there, still-sooner, get-leg, get-none, all-steps, all-get, ordered-step, rises-first}

-- ---- which step has an order

-- arm, rise, go and land are orders of legs; as they, the group is told to each drone by itself
abbrev is_of_leg : Order → Bool
is_of_leg order.Arm = true
is_of_leg (order.Rise z ms) = true
is_of_leg (order.Go x y z yaw ms) = true
is_of_leg (order.Land z ms) = true
is_of_leg order.Start = false
is_of_leg order.Halt = false
is_of_leg order.Disarm = false
is_of_leg order.Group = true

of_leg : (a b : Bool) (x y o : Order) → is_of_leg x ≡ true → is_of_leg y ≡ true → Some (cond a (Some x) (cond b (Some y) None)) ≡ Some (Some o) → is_of_leg o ≡ true
of_leg true b x y o p q e = let same : x ≡ o = cc in subst (λ (z : Order). is_of_leg z ≡ true) same p
of_leg false true x y o p q e = let same : y ≡ o = cc in subst (λ (z : Order). is_of_leg z ≡ true) same q
of_leg false false x y o p q e = absurd (cc)

-- a list of one order a drone has only orders of legs
each_of_leg : (g : List Leg → Option Order) (ts : List Traj) (d : ℕ) (o : Order) → ((legs : List Leg) → Some (g legs) ≡ Some (Some o) → is_of_leg o ≡ true) →
    slice_get (map g (map legs_of ts)) d ≡ Some (Some o) → is_of_leg o ≡ true
each_of_leg g ts d o each e = by_way (slice_get ts d) refl where
  by_way : (t : Option Traj) → slice_get ts d ≡ t → is_of_leg o ≡ true
  by_way None same = let none = get-none g ts d same in absurd (cc)
  by_way (Some t) same = each (legs_of t) (sym (get-leg g ts d t same) ∙ e)

arm_of_leg : (legs : List Leg) (k : ℕ) (o : Order) → Some (arm_order legs k) ≡ Some (Some o) → is_of_leg o ≡ true
arm_of_leg legs k o e = of_leg (not (has_moved legs k) && moves (leg legs k)) false order.Arm order.Arm o refl refl e

up_of_leg : (legs : List Leg) (k : ℕ) (o : Order) → Some (up_order legs k) ≡ Some (Some o) → is_of_leg o ≡ true
up_of_leg legs k o e = of_leg (has_moved legs k) (moves (leg legs k)) _ _ o refl refl e

down_of_leg : (legs : List Leg) (k : ℕ) (o : Order) → Some (down_order legs k) ≡ Some (Some o) → is_of_leg o ≡ true
down_of_leg legs k o e = of_leg (will_move legs (suc k)) (moves (leg legs k)) _ _ o refl refl e

group_of_leg : (o : Order) → Some (Some order.Group) ≡ Some (Some o) → is_of_leg o ≡ true
group_of_leg o e = let same : order.Group ≡ o = cc in subst (λ (z : Order). is_of_leg z ≡ true) same refl

-- the step has this order for the drone only if it is that one
abbrev Has : ℕ → Order → Step → Type 0
Has d o step = order_in step.orders d ≡ Some (Some o)

-- an order that no leg has is that of the start, or of the last step
abbrev IsOfNoLeg : Routes → ℕ → Order → Step → Type 0
IsOfNoLeg w d o step =
    Has d o step → is_of_leg o ≡ false →
    ((step ≡ start_step w (lasts w.show) (map legs_of w.up)) × (o ≡ order.Start)) ⊎ ((step ≡ last_step w (map legs_of w.down)) × (o ≡ order.Disarm))

of_no_leg : (w : Routes) (d : ℕ) (o : Order) → All (IsOfNoLeg w d o) (steps_of w)
of_no_leg w d o =
    all-steps (IsOfNoLeg w d o) w
    (λ has no. let yes : is_of_leg o ≡ true = each_of_leg (λ legs. Some order.Group) w.up d o (λ legs is. group_of_leg o is) has in absurd (cc))
    (λ k has no. let yes : is_of_leg o ≡ true = each_of_leg (λ legs. arm_order legs k) w.up d o (λ legs. arm_of_leg legs k o) has in absurd (cc))
    (λ k has no. let yes : is_of_leg o ≡ true = each_of_leg (λ legs. up_order legs k) w.up d o (λ legs. up_of_leg legs k o) has in absurd (cc))
    (λ has no. inl (refl, cc))
    (λ k has no. let yes : is_of_leg o ≡ true = each_of_leg (λ legs. down_order legs k) w.down d o (λ legs. down_of_leg legs k o) has in absurd (cc))
    (λ has no. inr (refl, cc))

-- what holds of the steps of three ways holds of the step that begins
begun : (f : Flight) (w : Routes) (P : Step → Type 0) → f.steps ≡ steps_of w → All P (steps_of w) → (s : State) (e : Event) (m : MayBegin f s e) → P m.step
begun f w P steps all s e m = all-get P (steps_of w) s.next m.step all (sym (ap (λ (xs : List Step). slice_get xs s.next) steps) ∙ m.is_next)

-- ---- the first step

first-asks : (w : Routes) (step : Step) → slice_get (steps_of w) 1 ≡ Some step → step.asked ≡ true
unfolding steps_of
first-asks w step e = by_legs (leg_count (map legs_of w.up)) refl where
  by_legs : (n : ℕ) → leg_count (map legs_of w.up) ≡ n → step.asked ≡ true
  by_legs zero none = let same : start_step w (lasts w.show) (map legs_of w.up) ≡ step = cc in subst (λ (x : Step). x.asked ≡ true) same refl
  by_legs (suc n) some = let same : arm_step w (map legs_of w.up) 0 ≡ step = cc in subst (λ (x : Step). x.asked ≡ true) same refl

-- one step at an event, at most
led-most : (f : Flight) (h : State) (c : Choice) → (led f h c).next ≤ suc h.next
unfolding led
led-most f h Rest = omega arith
led-most f h Begin = omega arith
led-most f h Descend = omega arith
led-most f h Wait = omega arith
led-most f h Cut = omega arith
led-most f h Quit = omega arith
led-most f h Finish = omega arith

next-most : (f : Flight) (s : State) (e : Event) → (happens f s e).next ≤ suc s.next
unfolding happens heard
next-most f s e = led-most f (heard f s e) (choice f s e)

first_waits : (f : Flight) (w : Routes) → f.steps ≡ steps_of w → (s : State) (e : Event) → s.next ≤ 1 → ((happens f s e).next ≤ 1) ⊎ (e ≡ Said signal.Go)
first_waits f w steps s e few = elim (due_law.steps f s e) [
  | inl same ↦ inl (omega (arith, few, same))
  | inr m ↦ by_step (eqb s.next 0) refl m
] where
  by_step : (b : Bool) → eqb s.next 0 ≡ b → MayBegin f s e → ((happens f s e).next ≤ 1) ⊎ (e ≡ Said signal.Go)
  by_step true is m = let none = eqb-true s.next 0 is in let most = next-most f s e in inl (omega (arith, none, most))
  by_step false is m =
      let some = eqb-false s.next 0 is in
      let first : s.next ≡ 1 = omega (arith, few, some) in
      inr (m.asked (first-asks w m.step (sym (ap (λ (xs : List Step). slice_get xs 1) steps) ∙ (sym (ap (λ (n : ℕ). slice_get f.steps n) first) ∙ m.is_next))))

-- ---- arm

abbrev ArmsReady : Routes → ℕ → Traj → Step → Type 0
ArmsReady w d up step =
    Has d order.Arm step → (c : Condition) × (slice_get step.conditions d ≡ Some c) × (c.ready ≡ true) × (c.bound ≡ w.near) × (c.position ≡ position_of (way_begins up))

arm-parts : (a b : Bool) → Some (cond (not a && b) (Some order.Arm) None) ≡ Some (Some order.Arm) → (a ≡ false) × (b ≡ true)
arm-parts true b e = absurd (cc)
arm-parts false true e = (refl, refl)
arm-parts false false e = absurd (cc)

no_arm : (a b : Bool) (x y z yaw h : ℤ) (n m : ℕ) → Some (cond a (Some (order.Go x y z yaw n)) (cond b (Some (order.Rise h m)) None)) ≡ Some (Some order.Arm) → ⊥
no_arm true b x y z yaw h n m e = absurd (cc)
no_arm false true x y z yaw h n m e = absurd (cc)
no_arm false false x y z yaw h n m e = absurd (cc)

no_arm-down : (a b : Bool) (x y z yaw h : ℤ) (n m : ℕ) → Some (cond a (Some (order.Go x y z yaw n)) (cond b (Some (order.Land h m)) None)) ≡ Some (Some order.Arm) → ⊥
no_arm-down true b x y z yaw h n m e = absurd (cc)
no_arm-down false true x y z yaw h n m e = absurd (cc)
no_arm-down false false x y z yaw h n m e = absurd (cc)

no_down : (g : List Leg → Option Order) (ts : List Traj) (d : ℕ) (o : Order) → ((legs : List Leg) → Some (g legs) ≡ Some (Some o) → ⊥) → slice_get (map g (map legs_of ts)) d ≡ Some (Some o) → ⊥
no_down g ts d o never e = by_way (slice_get ts d) refl where
  by_way : (t : Option Traj) → slice_get ts d ≡ t → ⊥
  by_way None same = let none = get-none g ts d same in absurd (cc)
  by_way (Some t) same = never (legs_of t) (sym (get-leg g ts d t same) ∙ e)

arms_ready : (w : Routes) (d : ℕ) (up : Traj) → slice_get w.up d ≡ Some up → All (ArmsReady w d up) (steps_of w)
arms_ready w d up e =
    all-steps (ArmsReady w d up) w
    (λ has. absurd (no_down (λ legs. Some order.Group) w.up d order.Arm (λ legs is. absurd (cc)) has))
    (λ k has. (let legs = legs_of up in
    let parts = arm-parts (has_moved legs k) (moves (leg legs k)) (sym (get-leg (λ legs. arm_order legs k) w.up d up e) ∙ has) in (
      arm_condition w k legs,
      get-leg (arm_condition w k) w.up d up e,
      ap not parts.0,
      (let still = still-sooner legs (k - 1) k (omega arith) parts.0 in rw still refl),
      begins-there up.start up.segments k parts.0 parts.1,
    )))
    (λ k has. absurd (no_down (λ legs. up_order legs k) w.up d order.Arm (λ legs is. no_arm (has_moved legs k) (moves (leg legs k)) _ _ _ _ _ _ _ is) has))
    (λ has. absurd (cc))
    (λ k has. absurd (no_down (λ legs. down_order legs k) w.down d order.Arm (λ legs is. no_arm-down (will_move legs (suc k)) (moves (leg legs k)) _ _ _ _ _ _ _ is) has))
    (λ has. absurd (cc))

-- the step that tells a drone something onward
onward-step : (f : Flight) (s : State) (e : Event) (d : ℕ) (o : Order) → IsOnward o → Contains (orders_to d (says f s e)) o → (m : MayBegin f s e) × Has d o m.step
onward-step f s e d o on has =
    let begins = onward-begins f (heard f s e) d o (choice f s e) on (subst (λ os. Contains os o) (orders_to-says d f s e) has) in
    let m = begin-may f s e begins in
    (m, ordered-step f s e d o m.step begins m.is_next has)

may_arm : (f : Flight) (w : Routes) → f.steps ≡ steps_of w → (s : State) (e : Event) (d : ℕ) (up : Traj) → slice_get w.up d ≡ Some up →
    Contains (orders_to d (says f s e)) order.Arm → MayArm f w s e d up
may_arm f w steps s e d up at_d has =
    let m = onward-step f s e d order.Arm Arms has in
    let c = begun f w (ArmsReady w d up) steps (arms_ready w d up at_d) s e m.0 m.1 in
    let fit = m.0.fit d c.0 c.1 in
    record {
      sample = fit.1;
      is_last = record { track = fit.0; is_track = fit.2; is_sample = fit.3 };
      ready = fit.4.ready c.2;
      near = subst (λ (n : ℕ). IsNear n (position_of (way_begins up)) fit.1) c.3 (subst (λ (p : Position). IsNear c.0.bound p fit.1) c.4 fit.4.near);
    }

-- ---- rise

abbrev RisesArmed : ℕ → ℤ → ℕ → Step → Type 0
RisesArmed d z ms step = Has d (order.Rise z ms) step → (c : Condition) × (slice_get step.conditions d ≡ Some c) × (c.armed ≡ true)

has_moved-now : (legs : List Leg) (k : ℕ) → moves (leg legs k) ≡ true → has_moved legs (suc k) ≡ true
has_moved-now [] k m = absurd (cc)
has_moved-now (l ∷ legs) zero m = rw m refl
has_moved-now (l ∷ legs) (suc k) m = by_now (moves l) (has_moved legs (suc k)) (has_moved-now legs k m) where
  by_now : (a b : Bool) → b ≡ true → a || b ≡ true
  by_now true b e = refl
  by_now false b e = e

no_rise : (b : Bool) (z : ℤ) (ms : ℕ) → Some (cond b (Some order.Arm) None) ≡ Some (Some (order.Rise z ms)) → ⊥
no_rise true z ms e = absurd (cc)
no_rise false z ms e = absurd (cc)

no_rise-down : (a b : Bool) (x y h yaw floor z : ℤ) (n m ms : ℕ) → Some (cond a (Some (order.Go x y h yaw n)) (cond b (Some (order.Land floor m)) None)) ≡ Some (Some (order.Rise z ms)) → ⊥
no_rise-down true b x y h yaw floor z n m ms e = absurd (cc)
no_rise-down false true x y h yaw floor z n m ms e = absurd (cc)
no_rise-down false false x y h yaw floor z n m ms e = absurd (cc)

rises_armed : (w : Routes) (d : ℕ) (up : Traj) (z : ℤ) (ms : ℕ) → slice_get w.up d ≡ Some up → All (RisesArmed d z ms) (steps_of w)
rises_armed w d up z ms e =
    all-steps (RisesArmed d z ms) w
    (λ has. absurd (no_down (λ legs. Some order.Group) w.up d (order.Rise z ms) (λ legs is. absurd (cc)) has))
    (λ k has. absurd (no_down (λ legs. arm_order legs k) w.up d (order.Rise z ms) (λ legs is. no_rise (not (has_moved legs k) && moves (leg legs k)) z ms is) has))
    (λ k has. (let legs = legs_of up in
    let first = rises-first (has_moved legs k) (moves (leg legs k)) _ _ _ _ _ z _ _ ms (sym (get-leg (λ legs. up_order legs k) w.up d up e) ∙ has) in
    (up_condition w k legs, get-leg (up_condition w k) w.up d up e, has_moved-now legs k first.1)))
    (λ has. absurd (cc))
    (λ k has. absurd (no_down (λ legs. down_order legs k) w.down d (order.Rise z ms) (λ legs is. no_rise-down (will_move legs (suc k)) (moves (leg legs k)) _ _ _ _ _ z _ _ ms is) has))
    (λ has. absurd (cc))

may_rise : (f : Flight) (w : Routes) → f.steps ≡ steps_of w → (s : State) (e : Event) (d : ℕ) (up : Traj) → slice_get w.up d ≡ Some up → (z : ℤ) (ms : ℕ) →
    Contains (orders_to d (says f s e)) (order.Rise z ms) → MayRise f s e d
may_rise f w steps s e d up at_d z ms has =
    let m = onward-step f s e d (order.Rise z ms) (Rises z ms) has in
    let c = begun f w (RisesArmed d z ms) steps (rises_armed w d up z ms at_d) s e m.0 m.1 in
    let fit = m.0.fit d c.0 c.1 in
    record { sample = fit.1; is_last = record { track = fit.0; is_track = fit.2; is_sample = fit.3 }; armed = fit.4.armed c.2 }

-- ---- start

get-map : {B : Type 0} (g : Traj → B) (ts : List Traj) (d : ℕ) (t : Traj) → slice_get ts d ≡ Some t → slice_get (map g ts) d ≡ Some (g t)
get-map g [] d t e = absurd (cc)
get-map g (u ∷ ts) zero t e = ap (λ (o : Option Traj). option_map g o) e
get-map g (u ∷ ts) (suc d) t e = get-map g ts d t e

starts_at : (f : Flight) (w : Routes) (s : State) (e : Event) (m : MayBegin f s e) → m.step ≡ start_step w (lasts w.show) (map legs_of w.up) → MayStart f w s e
starts_at f w s e m is = record {
  go = m.asked (ap (λ (x : Step). x.asked) is);
  over = subst (λ (x : Step). x.after ≤ (heard f s e).waited) is m.time;
  settled = subst (λ (x : Step). x.settle ≤ (heard f s e).steady) is m.settled;
  each = λ k show at_k.
      (let c = start_condition w w.at_place show in
      let fit = m.fit k c (ap (λ (x : Step). slice_get x.conditions k) is ∙ get-map (start_condition w w.at_place) w.show k show at_k) in
      record { sample = fit.1; is_last = record { track = fit.0; is_track = fit.2; is_sample = fit.3 }; armed = fit.4.armed refl; near = fit.4.near });
}

may_start : (f : Flight) (w : Routes) → f.steps ≡ steps_of w → (s : State) (e : Event) (d : ℕ) → Contains (orders_to d (says f s e)) order.Start → MayStart f w s e
may_start f w steps s e d has =
    let m = onward-step f s e d order.Start Starts has in
    elim (begun f w (IsOfNoLeg w d order.Start) steps (of_no_leg w d order.Start) s e m.0 m.1 refl) [
      | inl is ↦ starts_at f w s e m.0 is.0
      | inr is ↦ absurd (cc)
    ]

-- ---- legs after the first

pub pair-at : (a b : ℕ → Step) (i n k : ℕ) (rest : List Step) → k < n → slice_get (flat_map (λ j. a j ∷ b j ∷ []) (range_with_len i n) ++ rest) (twice k) ≡ Some (a (i + k))
pair-at a b i zero k rest l = absurd (omega (arith, l))
pair-at a b i (suc n) zero rest l = let e : i ≡ i + 0 = omega arith in ap (λ j. Some (a j)) e
pair-at a b i (suc n) (suc k) rest l =
    pair-at a b (i + 1) n k rest (omega (arith, l)) ∙ (let e : i + 1 + k ≡ i + suc k = omega arith in ap (λ j. Some (a j)) e)

pub pair-past : (a b : ℕ → Step) (i n j : ℕ) (rest : List Step) → slice_get (flat_map (λ j. a j ∷ b j ∷ []) (range_with_len i n) ++ rest) (twice n + j) ≡ slice_get rest j
pair-past a b i zero j rest = let e : 0 + j ≡ j = omega arith in ap (λ k. slice_get rest k) e
pair-past a b i (suc n) j rest =
    let e : twice (suc n) + j ≡ suc (suc (twice n + j)) = omega arith in
    ap (λ k. slice_get (flat_map (λ j. a j ∷ b j ∷ []) (range_with_len i (suc n)) ++ rest) k) e ∙ pair-past a b (i + 1) n j rest

map-at : (a : ℕ → Step) (i n k : ℕ) (rest : List Step) → k < n → slice_get (map a (range_with_len i n) ++ rest) k ≡ Some (a (i + k))
map-at a i zero k rest l = absurd (omega (arith, l))
map-at a i (suc n) zero rest l = let e : i ≡ i + 0 = omega arith in ap (λ j. Some (a j)) e
map-at a i (suc n) (suc k) rest l =
    map-at a (i + 1) n k rest (omega (arith, l)) ∙ (let e : i + 1 + k ≡ i + suc k = omega arith in ap (λ j. Some (a j)) e)

arm-step : (w : Routes) (k : ℕ) → suc k < leg_count (map legs_of w.up) → slice_get (steps_of w) (suc (twice (suc k))) ≡ Some (arm_step w (map legs_of w.up) (suc k))
unfolding steps_of
arm-step w k l =
    pair-at (arm_step w (map legs_of w.up)) (up_step w (map legs_of w.up)) 0 (leg_count (map legs_of w.up)) (suc k) _ l
    ∙ (let e : 0 + suc k ≡ suc k = omega arith in ap (λ j. Some (arm_step w (map legs_of w.up) j)) e)

pub down-step : (w : Routes) (k : ℕ) → k < leg_count (map legs_of w.down) →
    slice_get (steps_of w) (suc (twice (leg_count (map legs_of w.up)) + suc k)) ≡ Some (down_step w (lasts w.show) (map legs_of w.down) k)
unfolding steps_of
down-step w k l =
    pair-past (arm_step w (map legs_of w.up)) (up_step w (map legs_of w.up)) 0 (leg_count (map legs_of w.up)) (suc k) _
    ∙ (map-at (down_step w (lasts w.show) (map legs_of w.down)) 0 (leg_count (map legs_of w.down)) k _ l
    ∙ (let e : 0 + k ≡ k = omega arith in ap (λ j. Some (down_step w (lasts w.show) (map legs_of w.down) j)) e))

-- the step that begins is the one of its number
is-step : (f : Flight) (w : Routes) (s : State) (e : Event) (n : ℕ) (step : Step) → f.steps ≡ steps_of w → s.next ≡ n → slice_get (steps_of w) n ≡ Some step → (m : MayBegin f s e) → m.step ≡ step
is-step f w s e n step steps number is m = by_some m.step step (sym m.is_next ∙ (ap (λ k. slice_get f.steps k) number ∙ (ap (λ (xs : List Step). slice_get xs n) steps ∙ is))) where
  by_some : (a b : Step) → Some a ≡ Some b → a ≡ b
  by_some a b h = cc

-- ---- how near drones have to be before a leg

moved-at : (legs : List Leg) (k : ℕ) → has_moved legs k ≡ true → (j : ℕ) × (j < k) × (moves (leg legs j) ≡ true)
moved-at legs zero h = absurd (cc)
moved-at [] (suc k) h = absurd (cc)
moved-at (l ∷ legs) (suc k) h = by_first (λ more. moved-at legs k more) (moves l) refl h where
  by_first : (has_moved legs k ≡ true → (j : ℕ) × (j < k) × (moves (leg legs j) ≡ true)) →
      (b : Bool) → moves l ≡ b → b || has_moved legs k ≡ true → (j : ℕ) × (j < suc k) × (moves (leg (l ∷ legs) j) ≡ true)
  by_first more true is h = (0, omega arith, is)
  by_first more false is h = let r = more h in (suc r.0, (let less = r.1 in omega (arith, less)), r.2)

moved-not : (legs : List Leg) (k : ℕ) → has_moved legs k ≡ false → HoldsUntil legs k
moved-not legs zero h j l = absurd (omega (arith, l))
moved-not [] (suc k) h j l = cc
moved-not (x ∷ legs) (suc k) h zero l = (or-parts (moves x) (has_moved legs k) h).0
moved-not (x ∷ legs) (suc k) h (suc j) l = moved-not legs k (or-parts (moves x) (has_moved legs k) h).1 j (omega (arith, l))

moving-at : (legs : List Leg) (k : ℕ) → will_move legs k ≡ true → (j : ℕ) × (k ≤ j) × (moves (leg legs j) ≡ true)
moving-at [] zero h = absurd (cc)
moving-at [] (suc k) h = absurd (cc)
moving-at (l ∷ legs) zero h = by_first (λ more. moving-at legs zero more) (moves l) refl h where
  by_first : (will_move legs zero ≡ true → (j : ℕ) × (zero ≤ j) × (moves (leg legs j) ≡ true)) →
      (b : Bool) → moves l ≡ b → b || will_move legs zero ≡ true → (j : ℕ) × (zero ≤ j) × (moves (leg (l ∷ legs) j) ≡ true)
  by_first more true is h = (0, omega arith, is)
  by_first more false is h = let r = more h in (suc r.0, omega arith, r.2)
moving-at (l ∷ legs) (suc k) h = let r = moving-at legs k h in (suc r.0, (let less = r.1 in omega (arith, less)), r.2)

moving-not : (legs : List Leg) (k : ℕ) → will_move legs k ≡ false → (j : ℕ) → k ≤ j → moves (leg legs j) ≡ false
moving-not [] k h j l = cc
moving-not (x ∷ legs) zero h zero l = (or-parts (moves x) (will_move legs zero) h).0
moving-not (x ∷ legs) zero h (suc j) l = moving-not legs zero (or-parts (moves x) (will_move legs zero) h).1 j (omega arith)
moving-not (x ∷ legs) (suc k) h zero l = absurd (omega (arith, l))
moving-not (x ∷ legs) (suc k) h (suc j) l = moving-not legs k h j (omega (arith, l))

is-up_bound : (w : Routes) (legs : List Leg) (k : ℕ) → IsUpBound w legs (suc k) (up_bound w legs (suc k))
is-up_bound w legs k = by_moved (has_moved legs (suc k - 1)) refl where
  by_moved : (b : Bool) → has_moved legs (suc k - 1) ≡ b → IsUpBound w legs (suc k) (up_bound w legs (suc k))
  by_moved true is =
      let m = moved-at legs (suc k - 1) is in
      let less = m.1 in
      let no = λ (holds : moves (leg legs m.0) ≡ false). sym m.2 ∙ holds in
      record {
        on_pad = λ holds. (let never = no (holds m.0 (omega (arith, less))) in absurd (cc));
        risen = λ j same holds first. (let never = no (holds m.0 (omega (arith, less, same))) in absurd (cc));
        in_the_air = λ j l first. rw is refl;
      }
  by_moved false is = record {
    on_pad = λ holds. rw is refl;
    risen = λ j same holds first. rw is refl;
    in_the_air = λ j l first. (let never = sym first ∙ moved-not legs (suc k - 1) is j (omega (arith, l)) in absurd (cc));
  }

is-down_bound : (w : Routes) (legs : List Leg) (k : ℕ) → IsDownBound w legs k (down_bound w legs k)
is-down_bound w legs k = by_moving (will_move legs k) refl where
  by_moving : (b : Bool) → will_move legs k ≡ b → IsDownBound w legs k (down_bound w legs k)
  by_moving true is =
      let m = moving-at legs k is in
      record { in_the_air = λ j l moving. rw is refl; landed = λ holds. (let never = sym m.2 ∙ holds m.0 m.1 in absurd (cc)) }
  by_moving false is = record {
    in_the_air = λ j l moving. (let never = sym moving ∙ moving-not legs k is j l in absurd (cc));
    landed = λ holds. rw is refl;
  }

leg_up : (f : Flight) (w : Routes) → f.steps ≡ steps_of w → (s : State) (e : Event) (k : ℕ) → suc k < leg_count (map legs_of w.up) → s.next ≡ suc (twice (suc k)) →
    ((happens f s e).next ≡ s.next) ⊎ MayGoOn f s e (leg_ms (map legs_of w.up) k) w.up (suc k) (λ legs. IsUpBound w legs (suc k))
leg_up f w steps s e k l number = elim (due_law.steps f s e) [
  | inl same ↦ inl same
  | inr m ↦ let is = is-step f w s e (suc (twice (suc k))) (arm_step w (map legs_of w.up) (suc k)) steps number (arm-step w k l) m in
      let other : eqb (suc k) 0 ≡ false = ne_eqb (suc k) 0 (λ same. absurd (omega (arith, same))) in
      let one : suc k - 1 ≡ k = omega arith in
      inr (record {
        over = subst (λ (ms : ℕ). ms ≤ (heard f s e).waited)
            (ap (λ b. cond b 0 (leg_ms (map legs_of w.up) (suc k - 1))) other ∙ ap (λ j. leg_ms (map legs_of w.up) j) one)
            (subst (λ (x : Step). x.after ≤ (heard f s e).waited) is m.time);
        settled = subst (λ (ms : ℕ). ms ≤ (heard f s e).steady) (ap (λ b. cond b 0 1000) other) (subst (λ (x : Step). x.settle ≤ (heard f s e).steady) is m.settled);
        each = λ d t at_d.
            (let c = arm_condition w (suc k) (legs_of t) in
            let fit = m.fit d c (ap (λ (x : Step). slice_get x.conditions d) is ∙ get-leg (arm_condition w (suc k)) w.up d t at_d) in (
              up_bound w (legs_of t) (suc k),
              is-up_bound w (legs_of t) k,
              record { sample = fit.1; is_last = record { track = fit.0; is_track = fit.2; is_sample = fit.3 }; near = fit.4.near },
            ));
      })
]

leg_down : (f : Flight) (w : Routes) → f.steps ≡ steps_of w → (s : State) (e : Event) (k : ℕ) → k < leg_count (map legs_of w.down) →
    s.next ≡ suc (twice (leg_count (map legs_of w.up)) + suc k) →
    ((happens f s e).next ≡ s.next) ⊎ MayGoOn f s e (ms_before (lasts w.show) (map legs_of w.down) k) w.down k (λ legs. IsDownBound w legs k)
leg_down f w steps s e k l number = elim (due_law.steps f s e) [
  | inl same ↦ inl same
  | inr m ↦ let n = suc (twice (leg_count (map legs_of w.up)) + suc k) in
      let is = is-step f w s e n (down_step w (lasts w.show) (map legs_of w.down) k) steps number (down-step w k l) m in
      inr (record {
        over = subst (λ (x : Step). x.after ≤ (heard f s e).waited) is m.time;
        settled = subst (λ (x : Step). x.settle ≤ (heard f s e).steady) is m.settled;
        each = λ d t at_d.
            (let c = down_condition w k (legs_of t) in
            let fit = m.fit d c (ap (λ (x : Step). slice_get x.conditions d) is ∙ get-leg (down_condition w k) w.down d t at_d) in (
              down_bound w (legs_of t) k,
              is-down_bound w (legs_of t) k,
              record { sample = fit.1; is_last = record { track = fit.0; is_track = fit.2; is_sample = fit.3 }; near = fit.4.near },
            ));
      })
]

-- ---- disarm and halt

-- an order that no leg and no start has goes out by the last step, by a landing that is over, or at the operator's stop
abbrev Ends : Flight → State → Event → ℕ → Order → Choice → Type 0
Ends f s e d o c = Contains (orders_to d (done f (heard f s e) c)) o → is_of_leg o ≡ false → (c ≡ Begin) ⊎ (((c ≡ Quit) × (o ≡ order.Disarm)) ⊎ ((c ≡ Cut) × (o ≡ order.Halt)))

ends-by : (f : Flight) (s : State) (e : Event) (d : ℕ) (o : Order) (c : Choice) → Ends f s e d o c
unfolding done
ends-by f s e d o Rest has other = absurd (contains-nil o has)
ends-by f s e d o Begin has other = inl refl
ends-by f s e d o Cut has other = inr (inr (refl, sym (contains-one order.Halt o has)))
ends-by f s e d o Quit has other = inr (inl (refl, sym (contains-one order.Disarm o has)))
ends-by f s e d o Wait has other = absurd (contains-nil o has)
ends-by f s e d o Finish has other = absurd (contains-nil o has)
ends-by f s e d o Descend has other = absurd (by_drone (ltb d (drones f)) refl) where
  by_told : (b : Bool) → Contains (only_if b (land_order f)) o → ⊥
  by_told true l = let same = contains-one (land_order f) o l in absurd (cc)
  by_told false l = contains-nil o l

  by_drone : (b : Bool) → ltb d (drones f) ≡ b → ⊥
  by_drone true l = by_told (has_risen f (heard f s e).next d) (subst (λ xs. Contains xs o) (orders_to-landing f (heard f s e).next d (ltb-true d (drones f) l)) has)
  by_drone false l = contains-nil o (subst (λ xs. Contains xs o) (orders_to-no_landing f (heard f s e).next d (ltb-false d (drones f) l)) has)

stop-true : (e : Event) → is_stop e ≡ true → e ≡ Said signal.Stop
stop-true (Said signal.Go) h = absurd (cc)
stop-true (Said signal.Land) h = absurd (cc)
stop-true (Said signal.Stop) h = refl
stop-true (Clock ms) h = absurd (cc)
stop-true (Seen d x) h = absurd (cc)
stop-true (Answered d status) h = absurd (cc)

-- all is cut off at the operator's stop alone
cut-stops : (f : Flight) (h : State) (e : Event) (fault : Bool) (p : Phase) → chosen f h e fault p ≡ Cut → e ≡ Said signal.Stop
cut-stops f h e fault Steps same =
    steps-has (λ c. c ≡ Cut → e ≡ Said signal.Stop) f h e fault (λ stop is. stop-true e stop) (λ go land may is. absurd (cc)) (λ go land no first is. absurd (cc)) (λ go on due is. absurd (cc)) (λ is. absurd (cc)) same
cut-stops f h e fault Landing same = landing-has (λ c. c ≡ Cut → e ≡ Said signal.Stop) f h e fault (λ stop is. stop-true e stop) (λ go is. absurd (cc)) (λ go is. absurd (cc)) same
cut-stops f h e fault Off same = off-has (λ c. c ≡ Cut → e ≡ Said signal.Stop) f h e fault (λ stop is. stop-true e stop) (λ go is. absurd (cc)) (λ go is. absurd (cc)) same
cut-stops f h e fault Halted same = halted-has (λ c. c ≡ Cut → e ≡ Said signal.Stop) f h e fault (λ is. absurd (cc)) (λ is. absurd (cc)) same
cut-stops f h e fault Ended same = absurd (cc)

-- a landing is over where all are seen down
landed : (b a : Bool) → cond b Cut (cond a Quit Rest) ≡ Quit → a ≡ true
landed true a e = absurd (cc)
landed false true e = refl
landed false false e = absurd (cc)

quit-lands : (f : Flight) (h : State) (e : Event) (fault : Bool) (p : Phase) → chosen f h e fault p ≡ Quit → (p ≡ Landing) × (has_landed f h ≡ true)
quit-lands f h e fault Steps same =
    steps-has (λ c. c ≡ Quit → (Steps ≡ Landing) × (has_landed f h ≡ true)) f h e fault (λ stop is. absurd (cc)) (λ go land may is. absurd (cc)) (λ go land no first is. absurd (cc))
    (λ go on due is. absurd (cc)) (λ is. absurd (cc)) same
quit-lands f h e fault Landing same = (refl, landed (is_stop e) (has_landed f h) same)
quit-lands f h e fault Off same =
    off-has (λ c. c ≡ Quit → (Off ≡ Landing) × (has_landed f h ≡ true)) f h e fault (λ stop is. absurd (cc)) (λ go is. absurd (cc)) (λ go is. absurd (cc)) same
quit-lands f h e fault Halted same =
    halted-has (λ c. c ≡ Quit → (Halted ≡ Landing) × (has_landed f h ≡ true)) f h e fault (λ is. absurd (cc)) (λ is. absurd (cc)) same
quit-lands f h e fault Ended same = absurd (cc)

-- the last step of three ways
get-after : (xs : List Step) (z : Step) → slice_get (xs ++ z ∷ []) (length xs) ≡ Some z
get-after [] z = refl
get-after (x ∷ xs) z = get-after xs z

length-after : (xs : List Step) (z : Step) → length (xs ++ z ∷ []) ≡ suc (length xs)
length-after [] z = refl
length-after (x ∷ xs) z = ap suc (length-after xs z)

last-of : (xs ys : List Step) (z : Step) → slice_get (xs ++ (ys ++ z ∷ [])) (length (xs ++ (ys ++ z ∷ [])) - 1) ≡ Some z
last-of xs ys z =
    let long = length-after (xs ++ ys) z in
    let n : length ((xs ++ ys) ++ z ∷ []) - 1 ≡ length (xs ++ ys) = omega (arith, long) in
    ap (λ (zs : List Step). slice_get zs (length zs - 1)) (sym (append_assoc xs ys (z ∷ [])))
    ∙ (ap (λ k. slice_get ((xs ++ ys) ++ z ∷ []) k) n ∙ get-after (xs ++ ys) z)

ends-with : (f : Flight) (w : Routes) → f.steps ≡ steps_of w → end_step f ≡ Some (last_step w (map legs_of w.down))
unfolding steps_of
ends-with f w steps =
    ap (λ (xs : List Step). slice_get xs (length xs - 1)) steps
    ∙ (last-of (group_step (map legs_of w.up) ∷ flat_map (λ k. arm_step w (map legs_of w.up) k ∷ up_step w (map legs_of w.up) k ∷ []) (range_with_len 0 (leg_count (map legs_of w.up))))
    (start_step w (lasts w.show) (map legs_of w.up) ∷ map (down_step w (lasts w.show) (map legs_of w.down)) (range_with_len 0 (leg_count (map legs_of w.down))))
    (last_step w (map legs_of w.down)))

or-cases : (a b : Bool) → a || b ≡ true → (a ≡ true) ⊎ (b ≡ true)
or-cases true b h = inl refl
or-cases false b h = inr h

-- what a drone says that is down on the floor or at its pad
stands-where : (floor height : ℤ) (x : Sample) → stands_at floor x || stands_at height x ≡ true → StandsAt floor x ⊎ StandsAt height x
stands-where floor height x h = elim (or-cases (stands_at floor x) (stands_at height x) h) [
  | inl low ↦ inl (stands-true floor x low)
  | inr there ↦ inr (stands-true height x there)
]

-- in a list of a pad for each drone, each is down
record IsDownAt (f : Flight) (still : Bool) (w : Condition) (t : Track) : Type 0 where
  sample : Sample
  is_sample : t.seen ≡ Some sample
  fresh : sample.age ≤ f.silence
  stands : StandsAt f.floor sample ⊎ StandsAt w.position.z sample
  calm : still ≡ true → sample.flying ≡ false

down-at : (f : Flight) (still : Bool) (w : Condition) (t : Track) (o : Option Sample) → t.seen ≡ o → is_down f still w o ≡ true → IsDownAt f still w t
down-at f still w t None is down = absurd (cc)
down-at f still w t (Some x) is down =
    let p = and_parts (leb x.age f.silence && (stands_at f.floor x || stands_at w.position.z x)) (not still || not x.flying) down in
    let q = and_parts (leb x.age f.silence) (stands_at f.floor x || stands_at w.position.z x) p.0 in
    record {
      sample = x;
      is_sample = is;
      fresh = leb-true x.age f.silence q.0;
      stands = stands-where f.floor w.position.z x q.1;
      calm = λ quiet. not-true x.flying (implied still (not x.flying) p.1 quiet);
    }

each_down : (f : Flight) (still : Bool) (ws : List Condition) (ts : List Track) → all_down f still ws ts ≡ true → (k : ℕ) (t : Track) → slice_get ts k ≡ Some t →
    (w : Condition) × (slice_get ws k ≡ Some w) × IsDownAt f still w t
each_down f still ws [] all k t e = absurd (cc)
each_down f still [] (u ∷ ts) all k t e = absurd (cc)
each_down f still (w ∷ ws) (u ∷ ts) all zero t e =
    let p = and_parts (is_down f still w u.seen) (all_down f still ws ts) all in
    let same : u ≡ t = cc in
    (w, refl, subst (IsDownAt f still w) same (down-at f still w u u.seen refl p.0))
each_down f still (w ∷ ws) (u ∷ ts) all (suc k) t e =
    each_down f still ws ts (and_parts (is_down f still w u.seen) (all_down f still ws ts) all).1 k t e

map-none : (g : Traj → Condition) (ts : List Traj) (d : ℕ) → slice_get ts d ≡ None → slice_get (map g ts) d ≡ None
map-none g [] d e = refl
map-none g (u ∷ us) zero e = absurd (cc)
map-none g (u ∷ us) (suc d) e = map-none g us d e

-- and so it is at its pad, where none says that it flies or all have stood for long
seen_down : (f : Flight) (w : Routes) (still : Bool) (stood : ℕ) (ts : List Track) → f.steps ≡ steps_of w → are_down f still (end_step f) ts ≡ true → (still ≡ true) ⊎ (5000 ≤ stood) →
    (k : ℕ) (t : Track) → slice_get ts k ≡ Some t → (down : Traj) × (slice_get w.down k ≡ Some down) × IsSeenDown f stood down t
seen_down f w still stood ts steps all calm k t e =
    let pads = map (last_condition w) w.down in
    let one = each_down f still pads ts (subst (λ (o : Option Step). are_down f still o ts ≡ true) (ends-with f w steps) all) k t e in
    by_pad (slice_get w.down k) refl one.0 one.1 one.2 where
      by_pad : (o : Option Traj) → slice_get w.down k ≡ o → (c : Condition) → slice_get (map (last_condition w) w.down) k ≡ Some c → IsDownAt f still c t →
          (down : Traj) × (slice_get w.down k ≡ Some down) × IsSeenDown f stood down t
      by_pad None none c is at = let no = map-none (last_condition w) w.down k none in absurd (cc)
      by_pad (Some down) some c is at =
          let same : Some (last_condition w down) ≡ Some c = sym (get-map (last_condition w) w.down k down some) ∙ is in
          let pad : last_condition w down ≡ c = cc in (
            down,
            some,
            record {
              sample = at.sample;
              is_sample = at.is_sample;
              fresh = at.fresh;
              stands = subst (λ (v : Condition). StandsAt f.floor at.sample ⊎ StandsAt v.position.z at.sample) (sym pad) at.stands;
              still = elim calm [ inl quiet ↦ inl (at.calm quiet) | inr long ↦ inr long ];
            },
          )

-- who has stood for five seconds stands now
stood-now : (f : Flight) (s : State) (e : Event) → 5000 ≤ (heard f s e).stood → are_down f false (end_step f) (heard f s e).tracks ≡ true
unfolding heard
stood-now f s e long = by_down (are_down f false (end_step f) (heard f s e).tracks) long where
  by_down : (b : Bool) → 5000 ≤ cond b (later s.stood (passed e)) 0 → b ≡ true
  by_down true l = refl
  by_down false l = absurd (omega (arith, l))

all_landed : (f : Flight) (w : Routes) (s : State) (e : Event) → f.steps ≡ steps_of w → s.phase ≡ Landing → has_landed f (heard f s e) ≡ true → AllDown f w s e
all_landed f w s e steps landing over = record {
  landing = landing;
  each = elim (or-cases (are_down f true (end_step f) (heard f s e).tracks) (leb 5000 (heard f s e).stood) over) [
    | inl down ↦ seen_down f w true (heard f s e).stood (heard f s e).tracks steps down (inl refl)
    | inr long ↦ let most = leb-true 5000 (heard f s e).stood long in
        seen_down f w false (heard f s e).stood (heard f s e).tracks steps (stood-now f s e most) (inr most)
  ];
}

at_pads : (f : Flight) (w : Routes) (s : State) (e : Event) (m : MayBegin f s e) → m.step ≡ last_step w (map legs_of w.down) → AtPads f w s e
at_pads f w s e m is = record {
  over = subst (λ (x : Step). x.after ≤ (heard f s e).waited) is m.time;
  settled = subst (λ (x : Step). x.settle ≤ (heard f s e).steady) is m.settled;
  each = λ k down at_k.
      (let c = last_condition w down in
      let fit = m.fit k c (ap (λ (x : Step). slice_get x.conditions k) is ∙ get-map (last_condition w) w.down k down at_k) in
      record {
        sample = fit.1;
        is_last = record { track = fit.0; is_track = fit.2; is_sample = fit.3 };
        near = fit.4.near;
        stands = fit.4.down refl;
        still = fit.4.still refl;
      });
}

may_disarm : (f : Flight) (w : Routes) → f.steps ≡ steps_of w → (s : State) (e : Event) (d : ℕ) → Contains (orders_to d (says f s e)) order.Disarm → AllDown f w s e ⊎ AtPads f w s e
unfolding choice
may_disarm f w steps s e d has =
    elim (ends-by f s e d order.Disarm (choice f s e) (subst (λ os. Contains os order.Disarm) (orders_to-says d f s e) has) refl) [
      | inl begins ↦ let m = begin-may f s e begins in
          elim (begun f w (IsOfNoLeg w d order.Disarm) steps (of_no_leg w d order.Disarm) s e m (ordered-step f s e d order.Disarm m.step begins m.is_next has) refl) [
            | inl is ↦ absurd (cc)
            | inr is ↦ inr (at_pads f w s e m is.0)
          ]
      | inr (inl quits) ↦ let down = quit-lands f (heard f s e) e (is_fault f s e) s.phase quits.0 in
          inl (all_landed f w s e steps down.0 down.1)
      | inr (inr cuts) ↦ absurd (cc)
    ]

may_halt : (f : Flight) (w : Routes) → f.steps ≡ steps_of w → (s : State) (e : Event) (d : ℕ) → Contains (orders_to d (says f s e)) order.Halt → e ≡ Said signal.Stop
unfolding choice
may_halt f w steps s e d has =
    elim (ends-by f s e d order.Halt (choice f s e) (subst (λ os. Contains os order.Halt) (orders_to-says d f s e) has) refl) [
      | inl begins ↦ let m = begin-may f s e begins in
          elim (begun f w (IsOfNoLeg w d order.Halt) steps (of_no_leg w d order.Halt) s e m (ordered-step f s e d order.Halt m.step begins m.is_next has) refl) [
            | inl is ↦ absurd (cc)
            | inr is ↦ absurd (cc)
          ]
      | inr (inl quits) ↦ absurd (cc)
      | inr (inr cuts) ↦ cut-stops f (heard f s e) e (is_fault f s e) s.phase cuts.0
    ]

pub turn_law : TurnLaw
turn_law = record {
  first = first_waits;
  arm = may_arm;
  rise = may_rise;
  leg_up = leg_up;
  start = may_start;
  leg_down = leg_down;
  disarm = may_disarm;
  halt = may_halt;
}

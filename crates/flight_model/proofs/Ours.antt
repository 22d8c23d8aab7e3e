-- Whom the orders of a flight reach, and that each of its drones is in the group before anybody is armed.
use Rattle.flight_model.proofs.Prelude.{◌≡◌, ◌⊎◌, ◌<◌, ◌≤◌, ◌∷◌, ◌++◌, ◌∙◌, [], List, Bool, true, false, cond, refl, sym, ap, subst, None, Some, Option, ℕ, zero, suc, inl, inr, take, drop, length, eqb, arith, eqb-true, eqb-false, append_assoc, length-set, length-map, All-head, Contains-append_cases, Contains-append_left, Contains-append_right, Contains-push, slice_get_within, map, replicate, slice_get, slice_set, Contains, Traj, Order, Event, Clock, Seen, Answered, Said, Frame, To, ToAll, Noted, Over, Step, Flight, Routes, IsFlight, IsWayUp, Leg, legs_of, leg_count, first_move, group_step, arm_step, State, Choice, Rest, Begin, Descend, Cut, Quit, Finish, start, sent, after, says, drones, order_in, frames_of_step, land_order, answered_after, unanswered, orders_to, in_step, ordered, only_if, OnlyOrders, MayBegin, IsOnward, flight_group, is_for, Drone, does, obeys, obeys_all, overheard_by, overheard, HasJoined, OursLaw, Wait}
use Rattle.flight_model.specs.declared.events.Order.TheVariants as order
unfoldable use Rattle.flight_model.specs.Legs.{steps_of}
unfoldable use Rattle.flight_model.specs.Directors.{heard, choice, done, led, happens}
use Rattle.flight_model.proofs.OrdersTo.{orders_to-append, orders_to-of_step}
use Rattle.flight_model.proofs.Telling.{orders_to-says, only_law}
use Rattle.flight_model.proofs.Beginning.{begin-may, onward-begins, contains-nil, contains-one}
use Rattle.flight_model.proofs.Rises.{get-leg, get-none, ordered-step}
use Rattle.flight_model.proofs.Kept.{after-append, happens-next}

-- ---- a drone that isn't of the flight

obeys_all-append : (x : Drone) (os ps : List Order) → obeys_all x (os ++ ps) ≡ obeys_all (obeys_all x os) ps
obeys_all-append x [] ps = refl
obeys_all-append x (o ∷ os) ps = obeys_all-append (obeys x o) os ps

no_start : (x : Drone) → x.group ≡ 0 → obeys x order.Start ≡ x
no_start x none = ap (λ b. cond b (does x order.Start) x) (ap (λ g. is_for flight_group g) none)

stays-by : (x : Drone) → x.group ≡ 0 → (frame : Frame) → (Contains (overheard_by frame) order.Halt → ⊥) → obeys_all x (overheard_by frame) ≡ x
stays-by x none (To d o) calm = refl
stays-by x none (Noted n) calm = refl
stays-by x none (Over flown kept) calm = refl
stays-by x none (ToAll order.Arm) calm = refl
stays-by x none (ToAll (order.Rise z ms)) calm = refl
stays-by x none (ToAll (order.Go a b z yaw ms)) calm = refl
stays-by x none (ToAll (order.Land z ms)) calm = refl
stays-by x none (ToAll order.Start) calm = no_start x none
stays-by x none (ToAll order.Halt) calm = absurd (calm (0, omega arith, refl))
stays-by x none (ToAll order.Disarm) calm = refl
stays-by x none (ToAll order.Group) calm = refl

stays-all : (x : Drone) → x.group ≡ 0 → (frames : List Frame) → (Contains (overheard frames) order.Halt → ⊥) → obeys_all x (overheard frames) ≡ x
stays-all x none [] calm = refl
stays-all x none (frame ∷ frames) calm =
    obeys_all-append x (overheard_by frame) (overheard frames)
    ∙ (ap (λ y. obeys_all y (overheard frames)) (stays-by x none frame (λ h. calm (Contains-append_left (overheard_by frame) (overheard frames) order.Halt h)))
    ∙ stays-all x none frames (λ h. calm (Contains-append_right (overheard_by frame) (overheard frames) order.Halt h)))

-- ---- a drone of the flight

record InGroup (y : Drone) (o : Order) : Type 0 where
  group : (obeys y o).group ≡ flight_group
  obeyed : (obeys y o).obeyed ≡ y.obeyed ++ o ∷ []

in-group : (y : Drone) (o : Order) → y.group ≡ flight_group → InGroup y o
in-group y order.Arm g = record { group = g; obeyed = refl }
in-group y (order.Rise z ms) g = record { group = g; obeyed = refl }
in-group y (order.Go a b z yaw ms) g = record { group = g; obeyed = refl }
in-group y (order.Land z ms) g = record { group = g; obeyed = refl }
in-group y order.Start g =
    let is : is_for flight_group y.group ≡ true = ap (λ n. is_for flight_group n) g in
    record {
      group = ap (λ b. (cond b (does y order.Start) y).group) is ∙ g;
      obeyed = ap (λ b. (cond b (does y order.Start) y).obeyed) is;
    }
in-group y order.Halt g = record { group = g; obeyed = refl }
in-group y order.Disarm g = record { group = g; obeyed = refl }
in-group y order.Group g = record { group = refl; obeyed = refl }

one-or_rest : (o x : Order) (os : List Order) → Contains (o ∷ os) x → (o ≡ x) ⊎ Contains os x
one-or_rest o x os has = elim (Contains-append_cases (o ∷ []) os x has) [ inl one ↦ inl (contains-one o x one) | inr more ↦ inr more ]

starts-all : (y : Drone) (os : List Order) → y.group ≡ flight_group → Contains os order.Start ⊎ Contains y.obeyed order.Start → Contains (obeys_all y os).obeyed order.Start
starts-all y [] g (inl has) = absurd (contains-nil order.Start has)
starts-all y [] g (inr has) = has
starts-all y (o ∷ os) g has = starts-all (obeys y o) os (in-group y o g).group (by_where has) where
  then : Contains (y.obeyed ++ o ∷ []) order.Start → Contains (obeys y o).obeyed order.Start
  then h = subst (λ xs. Contains xs order.Start) (sym (in-group y o g).obeyed) h

  by_where : Contains (o ∷ os) order.Start ⊎ Contains y.obeyed order.Start → Contains os order.Start ⊎ Contains (obeys y o).obeyed order.Start
  by_where (inr before) = inr (then (Contains-append_left y.obeyed (o ∷ []) order.Start before))
  by_where (inl now) = elim (one-or_rest o order.Start os now) [
    | inl is ↦ inr (then (subst (λ p. Contains (y.obeyed ++ p ∷ []) order.Start) (sym is) (Contains-push y.obeyed order.Start)))
    | inr more ↦ inl more
  ]

-- landing, disarm and halt are no start
no_end-start : (f : Flight) (a b c : Bool) → Contains (only_if a (land_order f) ++ (only_if b order.Disarm ++ only_if c order.Halt)) order.Start → ⊥
no_end-start f a b c has = elim (Contains-append_cases (only_if a (land_order f)) (only_if b order.Disarm ++ only_if c order.Halt) order.Start has) [
  | inl lands ↦ none a (land_order f) (λ e. absurd (cc)) lands
  | inr later ↦ elim (Contains-append_cases (only_if b order.Disarm) (only_if c order.Halt) order.Start later) [
    | inl off ↦ none b order.Disarm (λ e. absurd (cc)) off
    | inr halts ↦ none c order.Halt (λ e. absurd (cc)) halts
  ]
] where
  none : (b : Bool) (o : Order) → (o ≡ order.Start → ⊥) → Contains (only_if b o) order.Start → ⊥
  none true o other h = other (contains-one o order.Start h)
  none false o other h = contains-nil order.Start h

some-way : (ts : List Traj) (d : ℕ) → d < length ts → (t : Traj) × (slice_get ts d ≡ Some t)
some-way [] d l = absurd (omega (arith, l))
some-way (t ∷ ts) zero l = (t, refl)
some-way (t ∷ ts) (suc d) l = some-way ts d (omega (arith, l))

-- what the first step tells a drone of the flight
group-told : (w : Routes) (d : ℕ) → d < length w.up → in_step (order_in (group_step (map legs_of w.up)).orders d) ≡ order.Group ∷ []
group-told w d l = let t = some-way w.up d l in ap in_step (get-leg (λ legs. Some order.Group) w.up d t.0 t.1)

-- what some steps tell it begins with the group, if they are any
begins-grouped : (w : Routes) (d n : ℕ) → d < length w.up → (n ≡ 0) ⊎ ((os : List Order) × (ordered d (take n (steps_of w)) ≡ order.Group ∷ os))
unfolding steps_of
begins-grouped w d zero l = inl refl
begins-grouped w d (suc n) l =
    inr (ordered d (take n (drop 1 (steps_of w))), ap (λ xs. xs ++ ordered d (take n (drop 1 (steps_of w)))) (group-told w d l))

starts-own : (f : Flight) (w : Routes) → f.steps ≡ steps_of w → (events : List Event) (d : ℕ) → d < length w.up →
    (x : Drone) → Contains (orders_to d (sent f (start f) events)) order.Start → Contains (obeys_all x (orders_to d (sent f (start f) events))).obeyed order.Start
starts-own f w steps events d l x has = by_first (begins-grouped w d o.n l) where
  o : OnlyOrders f d (orders_to d (sent f (start f) events))
  o = only_law f events d

  ends : List Order
  ends = only_if o.landed (land_order f) ++ (only_if o.disarmed order.Disarm ++ only_if o.halted order.Halt)

  told : orders_to d (sent f (start f) events) ≡ ordered d (take o.n (steps_of w)) ++ ends
  told = o.are ∙ ap (λ (xs : List Step). ordered d (take o.n xs) ++ ends) steps

  by_first : (o.n ≡ 0) ⊎ ((os : List Order) × (ordered d (take o.n (steps_of w)) ≡ order.Group ∷ os)) →
      Contains (obeys_all x (orders_to d (sent f (start f) events))).obeyed order.Start
  by_first (inl none) =
      absurd (no_end-start f o.landed o.disarmed o.halted (subst (λ xs. Contains xs order.Start) (told ∙ ap (λ n. ordered d (take n (steps_of w)) ++ ends) none) has))
  by_first (inr some) =
      let whole : orders_to d (sent f (start f) events) ≡ order.Group ∷ (some.0 ++ ends) = told ∙ ap (λ xs. xs ++ ends) some.1 in
      subst (λ xs. Contains (obeys_all x xs).obeyed order.Start) (sym whole)
      (starts-all (obeys x order.Group) (some.0 ++ ends) refl
      (elim (one-or_rest order.Group order.Start (some.0 ++ ends) (subst (λ xs. Contains xs order.Start) whole has)) [ inl same ↦ absurd (cc) | inr more ↦ inl more ]))

-- ---- who has answered

set-other : (bs : List Bool) (k d : ℕ) → (k ≡ d → ⊥) → slice_get (slice_set bs k true) d ≡ slice_get bs d
set-other [] k d n = refl
set-other (b ∷ bs) zero zero n = absurd (n refl)
set-other (b ∷ bs) zero (suc d) n = refl
set-other (b ∷ bs) (suc k) zero n = refl
set-other (b ∷ bs) (suc k) (suc d) n = set-other bs k d (λ e. n (ap suc e))

-- who has answered after an event had answered before, or does so with it
answered-cases : (bs : List Bool) (e : Event) (d : ℕ) → slice_get (answered_after bs e) d ≡ Some true → (slice_get bs d ≡ Some true) ⊎ (e ≡ Answered d 0)
answered-cases bs (Clock ms) d h = inl h
answered-cases bs (Seen k x) d h = inl h
answered-cases bs (Said w) d h = inl h
answered-cases bs (Answered k status) d h = by_status (eqb status 0) refl h where
  by_drone : (b : Bool) → eqb k d ≡ b → status ≡ 0 → slice_get (slice_set bs k true) d ≡ Some true → (slice_get bs d ≡ Some true) ⊎ (Answered k status ≡ Answered d 0)
  by_drone true q well g = inr (ap (λ n. Answered n status) (eqb-true k d q) ∙ ap (λ n. Answered d n) well)
  by_drone false q well g = inl (sym (set-other bs k d (eqb-false k d q)) ∙ g)

  by_status : (b : Bool) → eqb status 0 ≡ b → slice_get (cond b (slice_set bs k true) bs) d ≡ Some true → (slice_get bs d ≡ Some true) ⊎ (Answered k status ≡ Answered d 0)
  by_status true q g = by_drone (eqb k d) refl (eqb-true status 0 q) g
  by_status false q g = inl g

length-answered : (bs : List Bool) (e : Event) → length (answered_after bs e) ≡ length bs
length-answered bs (Clock ms) = refl
length-answered bs (Seen k x) = refl
length-answered bs (Said w) = refl
length-answered bs (Answered k status) = by_status (eqb status 0) where
  by_status : (b : Bool) → length (cond b (slice_set bs k true) bs) ≡ length bs
  by_status true = length-set bs k true
  by_status false = refl

nobody : (bs : List Bool) (d : ℕ) → slice_get (unanswered bs) d ≡ Some true → ⊥
nobody [] d h = absurd (cc)
nobody (b ∷ bs) zero h = absurd (cc)
nobody (b ∷ bs) (suc d) h = nobody bs d h

some-answer : (bs : List Bool) (d : ℕ) → d < length bs → (b : Bool) × (slice_get bs d ≡ Some b)
some-answer [] d l = absurd (omega (arith, l))
some-answer (b ∷ bs) zero l = (b, refl)
some-answer (b ∷ bs) (suc d) l = some-answer bs d (omega (arith, l))

length-same : (n : ℕ) → length (replicate n false) ≡ n
length-same zero = refl
length-same (suc n) = ap suc (length-same n)

-- ---- what is known after some events

-- each drone was told to be in the group
record Asked (f : Flight) (xs : List Event) : Type 0 where
  earlier : List Event
  asking : Event
  between : List Event
  are : xs ≡ earlier ++ asking ∷ between
  told : (k : ℕ) → k < drones f → Contains (orders_to k (says f (after f (start f) earlier) asking)) order.Group

-- after n steps, of which these have answered
record Knows (f : Flight) (xs : List Event) (n : ℕ) (answered : List Bool) : Type 0 where
  long : length answered ≡ drones f
  asked : n ≡ 1 → Asked f xs
  some : n ≡ 1 → (k : ℕ) → slice_get answered k ≡ Some true → HasJoined f xs k
  each : 2 ≤ n → (k : ℕ) → k < drones f → HasJoined f xs k

more-asked : (f : Flight) (xs : List Event) (e : Event) → Asked f xs → Asked f (xs ++ e ∷ [])
more-asked f xs e a = record {
  earlier = a.earlier;
  asking = a.asking;
  between = a.between ++ e ∷ [];
  are = ap (λ ys. ys ++ e ∷ []) a.are ∙ append_assoc a.earlier (a.asking ∷ a.between) (e ∷ []);
  told = a.told;
}

more-joined : (f : Flight) (xs ys : List Event) (k : ℕ) → HasJoined f xs k → HasJoined f (xs ++ ys) k
more-joined f xs ys k j = record {
  earlier = j.earlier;
  asking = j.asking;
  between = j.between;
  later = j.later ++ ys;
  are = ap (λ zs. zs ++ ys) j.are
      ∙ (append_assoc j.earlier (j.asking ∷ (j.between ++ Answered k 0 ∷ j.later)) ys
      ∙ ap (λ zs. j.earlier ++ j.asking ∷ zs) (append_assoc j.between (Answered k 0 ∷ j.later) ys));
  told = j.told;
}

new-joined : (f : Flight) (xs : List Event) (e : Event) (k : ℕ) → Asked f xs → k < drones f → e ≡ Answered k 0 → HasJoined f (xs ++ e ∷ []) k
new-joined f xs e k a l is = record {
  earlier = a.earlier;
  asking = a.asking;
  between = a.between;
  later = [];
  are = ap (λ ys. ys ++ e ∷ []) a.are
      ∙ (append_assoc a.earlier (a.asking ∷ a.between) (e ∷ []) ∙ ap (λ y. a.earlier ++ a.asking ∷ (a.between ++ y ∷ [])) is);
  told = a.told k l;
}

-- an event is heard
knows-heard : (f : Flight) (xs : List Event) (n : ℕ) (bs : List Bool) (e : Event) → Knows f xs n bs → Knows f (xs ++ e ∷ []) n (answered_after bs e)
knows-heard f xs n bs e k = record {
  long = length-answered bs e ∙ k.long;
  asked = λ one. more-asked f xs e (k.asked one);
  some = λ one d h. elim (answered-cases bs e d h) [
    | inl before ↦ more-joined f xs (e ∷ []) d (k.some one d before)
    | inr now ↦ new-joined f xs e d (k.asked one) (let l = slice_get_within (answered_after bs e) d true h in let long = length-answered bs e ∙ k.long in omega (arith, l, long)) now
  ];
  each = λ many d l. more-joined f xs (e ∷ []) d (k.each many d l);
}

-- the first step tells all of the group, and the second waits for their answers
told-by_step : (f : Flight) (s : State) (e : Event) (d : ℕ) (step : Step) → choice f s e ≡ Begin → slice_get f.steps s.next ≡ Some step →
    orders_to d (says f s e) ≡ in_step (order_in step.orders d)
unfolding done heard
told-by_step f s e d step same is = orders_to-says d f s e ∙ rw same (ap (λ o. orders_to d (frames_of_step o)) is ∙ orders_to-of_step d step.orders)

group-first : (w : Routes) → slice_get (steps_of w) 0 ≡ Some (group_step (map legs_of w.up))
unfolding steps_of
group-first w = refl

second-waits : (w : Routes) → 1 ≤ leg_count (map legs_of w.up) → (step : Step) → slice_get (steps_of w) 1 ≡ Some step → step.answered ≡ true
unfolding steps_of
second-waits w some step e = by_legs (leg_count (map legs_of w.up)) refl some where
  by_legs : (n : ℕ) → leg_count (map legs_of w.up) ≡ n → 1 ≤ n → step.answered ≡ true
  by_legs zero none l = absurd (omega (arith, l))
  by_legs (suc n) is l = let same : arm_step w (map legs_of w.up) 0 ≡ step = cc in subst (λ (x : Step). x.answered ≡ true) same refl

legs-some : (w : Routes) → IsFlight w → 1 ≤ length w.up → 1 ≤ leg_count (map legs_of w.up)
legs-some w is l = by_ways w.up is.rise l where
  by_legs : (legs : List Leg) (first : Leg) → first_move legs ≡ Some first → 1 ≤ length legs
  by_legs [] first e = absurd (cc)
  by_legs (x ∷ legs) first e = omega arith

  by_ways : (ts : List Traj) → Rattle.std.specs.Prelude.All IsWayUp ts → 1 ≤ length ts → 1 ≤ leg_count (map legs_of ts)
  by_ways [] all m = absurd (omega (arith, m))
  by_ways (t ∷ ts) all m = let up = All-head IsWayUp t ts all in by_legs (legs_of t) up.first up.is_first

led-same : (f : Flight) (h : State) (c : Choice) → ((led f h c).next ≡ h.next) × ((led f h c).answered ≡ h.answered) ⊎ (c ≡ Begin)
unfolding led
led-same f h Rest = inl (refl, refl)
led-same f h Begin = inr refl
led-same f h Descend = inl (refl, refl)
led-same f h Wait = inl (refl, refl)
led-same f h Cut = inl (refl, refl)
led-same f h Quit = inl (refl, refl)
led-same f h Finish = inl (refl, refl)

led-begin : (f : Flight) (h : State) (c : Choice) → c ≡ Begin → ((led f h c).next ≡ suc h.next) × ((led f h c).answered ≡ unanswered h.answered)
unfolding led
led-begin f h c is = (ap (λ a. (led f h a).next) is, ap (λ a. (led f h a).answered) is)

-- of a flight of as many drones as it has ways
module _ (f : Flight) (w : Routes) (is : IsFlight w) (steps : f.steps ≡ steps_of w) (crew : drones f ≡ length w.show) where
  ups : drones f ≡ length w.up
  ups = crew ∙ sym is.ups

  -- a step begins
  knows-begun : (xs : List Event) (s : State) (e : Event) → after f (start f) xs ≡ s → Knows f (xs ++ e ∷ []) s.next (heard f s e).answered → choice f s e ≡ Begin →
      Knows f (xs ++ e ∷ []) (suc s.next) (unanswered (heard f s e).answered)
  knows-begun xs s e there k begins = record {
    long = length-map (heard f s e).answered (λ (b : Bool). false) ∙ k.long;
    asked = λ one. (let none : s.next ≡ 0 = omega (arith, one) in record { earlier = xs; asking = e; between = []; are = refl; told = λ d l. asks none d l });
    some = λ one d h. absurd (nobody (heard f s e).answered d h);
    each = λ many d l. by_next (eqb s.next 1) refl many d l;
  } where
    m : MayBegin f s e
    m = begin-may f s e begins

    at : slice_get (steps_of w) s.next ≡ Some m.step
    at = sym (ap (λ (zs : List Step). slice_get zs s.next) steps) ∙ m.is_next

    asks : s.next ≡ 0 → (d : ℕ) → d < drones f → Contains (orders_to d (says f (after f (start f) xs) e)) order.Group
    asks none d l =
        let step : slice_get f.steps s.next ≡ Some (group_step (map legs_of w.up)) =
        ap (λ (zs : List Step). slice_get zs s.next) steps ∙ (ap (λ n. slice_get (steps_of w) n) none ∙ group-first w) in
        let told : orders_to d (says f s e) ≡ order.Group ∷ [] =
        told-by_step f s e d (group_step (map legs_of w.up)) begins step ∙ group-told w d (omega (arith, l, ups)) in
        subst (λ t. Contains (orders_to d (says f t e)) order.Group) (sym there) (subst (λ os. Contains os order.Group) (sym told) (0, omega arith, refl))

    by_next : (b : Bool) → eqb s.next 1 ≡ b → 2 ≤ suc s.next → (d : ℕ) → d < drones f → HasJoined f (xs ++ e ∷ []) d
    by_next true q many d l =
        let one = eqb-true s.next 1 q in
        let waits = second-waits w (legs-some w is (omega (arith, l, ups))) m.step (sym (ap (λ n. slice_get (steps_of w) n) one) ∙ at) in
        let b = some-answer (heard f s e).answered d (let long = k.long in omega (arith, l, long)) in
        k.some one d (b.1 ∙ ap Some (m.answered waits d b.0 b.1))
    by_next false q many d l = let other = eqb-false s.next 1 q in k.each (omega (arith, many, other)) d l

  -- and any event passes
  knows-event : (xs : List Event) (s : State) (e : Event) → after f (start f) xs ≡ s → Knows f xs s.next s.answered → Knows f (xs ++ e ∷ []) (happens f s e).next (happens f s e).answered
  unfolding happens heard
  knows-event xs s e there k = elim (led-same f (heard f s e) (choice f s e)) [
    | inl same ↦ subst (λ n. Knows f (xs ++ e ∷ []) n (happens f s e).answered) (sym same.0) (subst (λ bs. Knows f (xs ++ e ∷ []) s.next bs) (sym same.1) heard_it)
    | inr begins ↦ let to = led-begin f (heard f s e) (choice f s e) begins in
        subst (λ n. Knows f (xs ++ e ∷ []) n (happens f s e).answered) (sym to.0)
        (subst (λ bs. Knows f (xs ++ e ∷ []) (suc s.next) bs) (sym to.1) (knows-begun xs s e there heard_it begins))
  ] where
    heard_it : Knows f (xs ++ e ∷ []) s.next (answered_after s.answered e)
    heard_it = knows-heard f xs s.next s.answered e k

  -- nothing onward goes out with the group
  not_first : (s : State) (e : Event) (d : ℕ) (o : Order) → IsOnward o → choice f s e ≡ Begin → s.next ≡ 0 → Contains (orders_to d (says f s e)) o → ⊥
  not_first s e d o on begins none has = by_way (slice_get w.up d) refl where
    step : slice_get f.steps s.next ≡ Some (group_step (map legs_of w.up))
    step = ap (λ (zs : List Step). slice_get zs s.next) steps ∙ (ap (λ n. slice_get (steps_of w) n) none ∙ group-first w)

    told : order_in (group_step (map legs_of w.up)).orders d ≡ Some (Some o)
    told = ordered-step f s e d o (group_step (map legs_of w.up)) begins step has

    no_group : IsOnward order.Group → ⊥
    no_group h = elim h [ ]

    by_way : (t : Option Traj) → slice_get w.up d ≡ t → ⊥
    by_way None same = let out : None ≡ Some (Some o) = sym (get-none (λ legs. Some order.Group) w.up d same) ∙ told in absurd (cc)
    by_way (Some t) same =
        let one : Some (Some order.Group) ≡ Some (Some o) = sym (get-leg (λ legs. Some order.Group) w.up d t same) ∙ told in
        let group : order.Group ≡ o = cc in
        no_group (subst IsOnward (sym group) on)

  run : (d : ℕ) (o : Order) → IsOnward o → (k : ℕ) → k < drones f → (es xs : List Event) (s : State) → after f (start f) xs ≡ s → Knows f xs s.next s.answered →
      Contains (orders_to d (sent f s es)) o → HasJoined f (xs ++ es) k
  run d o on k l [] xs s there knows has = absurd (contains-nil o has)
  run d o on k l (e ∷ es) xs s there knows has =
      subst (λ ys. HasJoined f ys k) (append_assoc xs (e ∷ []) es)
      (elim (Contains-append_cases (orders_to d (says f s e)) (orders_to d (sent f (happens f s e) es)) o
      (subst (λ os. Contains os o) (orders_to-append d (says f s e) (sent f (happens f s e) es)) has)) [
        | inl first ↦ more-joined f (xs ++ e ∷ []) es k (now first)
        | inr later ↦ run d o on k l es (xs ++ e ∷ []) (happens f s e) (after-append f (start f) xs (e ∷ []) ∙ ap (λ t. happens f t e) there) known later
      ]) where
        known : Knows f (xs ++ e ∷ []) (happens f s e).next (happens f s e).answered
        known = knows-event xs s e there knows

        now : Contains (orders_to d (says f s e)) o → HasJoined f (xs ++ e ∷ []) k
        now h =
            let begins = onward-begins f (heard f s e) d o (choice f s e) on (subst (λ os. Contains os o) (orders_to-says d f s e) h) in
            let next = happens-next f s e begins in
            by_first (eqb s.next 0) refl begins next where
              by_first : (b : Bool) → eqb s.next 0 ≡ b → choice f s e ≡ Begin → (happens f s e).next ≡ suc s.next → HasJoined f (xs ++ e ∷ []) k
              by_first true q begins next = absurd (not_first s e d o on begins (eqb-true s.next 0 q) h)
              by_first false q begins next = let other = eqb-false s.next 0 q in known.each (omega (arith, other, next)) k l

  all-joined : (events : List Event) (d : ℕ) (o : Order) → IsOnward o → Contains (orders_to d (sent f (start f) events)) o → (k : ℕ) → k < drones f → HasJoined f events k
  all-joined events d o on has k l = run d o on k l events [] (start f) refl begin has where
    begin : Knows f [] 0 (replicate (drones f) false)
    begin = record {
      long = length-same (drones f);
      asked = λ one. absurd (omega (arith, one));
      some = λ one. absurd (omega (arith, one));
      each = λ many. absurd (omega (arith, many));
    }

pub ours_law : OursLaw
ours_law = record {
  joined = all-joined;
  ours = starts-own;
  strangers = λ f events x none calm. stays-all x none (sent f (start f) events) calm;
}

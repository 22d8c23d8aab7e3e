-- When a step begins, and what it may order.
use Rattle.flight_model.proofs.Prelude.{◌≡◌, ◌∙◌, ◌⊎◌, ◌<◌, ◌∷◌, ◌||◌, ◌&&◌, [], List, Bool, true, false, not, refl, sym, subst, None, Some, Option, ℕ, zero, suc, inl, inr, leb, ltb, arith, ℤ, pos, int_le, slice_get, Contains, ◌≤ℤ◌, ◌+ℤ◌, ◌-ℤ◌, and_parts, not-true, leb-true, ltb-true, ltb-false, ints, Order, Sample, Event, Clock, Seen, Answered, Said, Condition, Step, Flight, square, is_short, is_fit, is_at, stands_at, Phase, Steps, Landing, Off, Halted, Ended, Track, State, Choice, Rest, Begin, Descend, Cut, Quit, Finish, chosen, is_fault, is_go, land_order, has_risen, drones, next_step, is_due_step, all_fit, all_answered, orders_to, only_if, IsFit, StandsAt, MayBegin, IsOnward, DueLaw, Wait}
use Rattle.flight_model.specs.declared.events.Order.TheVariants as order
use Rattle.flight_model.specs.declared.events.Signal.TheVariants as signal
unfoldable use Rattle.flight_model.specs.Samples.{is_fit_by}
unfoldable use Rattle.flight_model.specs.Directors.{heard, is_due, choice, done, led, happens, says}
use Rattle.flight_model.proofs.OrdersTo.{orders_to-landing, orders_to-no_landing}
use Rattle.flight_model.proofs.Choices.{steps-has, landing-has, off-has, halted-has}
use Rattle.flight_model.proofs.Telling.{orders_to-says}

-- ---- a drone that is fit

int_le-true : (a b : ℤ) → int_le a b ≡ true → a ≤ℤ b
int_le-true a b h = omega (arith, ints, h)

short-true : (most : ℕ) (x y z : ℤ) → is_short most x y z ≡ true → (square x +ℤ square y +ℤ square z) ≤ℤ square (pos most)
short-true most x y z h = int_le-true (square x +ℤ square y +ℤ square z) (square (pos most)) h

pub implied : (a b : Bool) → (not a || b) ≡ true → a ≡ true → b ≡ true
implied true b h e = h
implied false b h e = absurd (cc)

pub stands-true : (height : ℤ) (x : Sample) → stands_at height x ≡ true → StandsAt height x
stands-true height x h =
    let p = and_parts x.down (int_le x.z (height +ℤ pos 120) && int_le height (x.z +ℤ pos 120)) h in
    let q = and_parts (int_le x.z (height +ℤ pos 120)) (int_le height (x.z +ℤ pos 120)) p.1 in
    record { down = p.0; low = int_le-true x.z (height +ℤ pos 120) q.0; high = int_le-true height (x.z +ℤ pos 120) q.1 }

pub fit-true : (silence : ℕ) (w : Condition) (x : Sample) → is_fit_by silence w x ≡ true → IsFit silence w x
unfolding is_fit_by
fit-true silence w x h =
    let fresh = leb x.age silence in
    let there = is_at w.bound w.position x in
    let sure = x.sure in
    let kept = not x.lost in
    let ready = not w.ready || x.ready in
    let armed = not w.armed || x.armed in
    let stands = stands_at w.position.z x in
    let o = and_parts (((((fresh && there) && sure) && kept) && ready) && armed) (not w.down || (stands && not x.flying)) h in
    let p = and_parts ((((fresh && there) && sure) && kept) && ready) armed o.0 in
    let q = and_parts (((fresh && there) && sure) && kept) ready p.0 in
    let r = and_parts ((fresh && there) && sure) kept q.0 in
    let t = and_parts (fresh && there) sure r.0 in
    let s = and_parts fresh there t.0 in
    record {
      fresh = leb-true x.age silence s.0;
      near = short-true w.bound (x.x -ℤ w.position.x) (x.y -ℤ w.position.y) (x.z -ℤ w.position.z) s.1;
      sure = t.1;
      not_lost = not-true x.lost r.1;
      ready = implied w.ready x.ready q.1;
      armed = implied w.armed x.armed p.1;
      down = λ is. stands-true w.position.z x (and_parts stands (not x.flying) (implied w.down (stands && not x.flying) o.1 is)).0;
      still = λ is. not-true x.flying (and_parts stands (not x.flying) (implied w.down (stands && not x.flying) o.1 is)).1;
    }

-- the track of a drone that is fit
abbrev FitTrack : ℕ → Condition → Track → Type 0
FitTrack silence w t = (x : Sample) × (t.seen ≡ Some x) × IsFit silence w x

fit_track : (silence : ℕ) (w : Condition) (t : Track) (o : Option Sample) → t.seen ≡ o → is_fit silence w o ≡ true → FitTrack silence w t
fit_track silence w t None e h = absurd (cc)
fit_track silence w t (Some x) e h = (x, e, fit-true silence w x h)

all_fit-each : (silence : ℕ) (ws : List Condition) (ts : List Track) → all_fit silence ws ts ≡ true → (d : ℕ) (w : Condition) → slice_get ws d ≡ Some w →
    (t : Track) × (x : Sample) × (slice_get ts d ≡ Some t) × (t.seen ≡ Some x) × IsFit silence w x
all_fit-each silence [] ts h d w e = absurd (cc)
all_fit-each silence (v ∷ ws) [] h d w e = absurd (cc)
all_fit-each silence (v ∷ ws) (t ∷ ts) h zero w e =
    let same : v ≡ w = cc in
    let p = and_parts (is_fit silence v t.seen) (all_fit silence ws ts) h in
    let f = fit_track silence w t t.seen refl (subst (λ u. is_fit silence u t.seen ≡ true) same p.0) in
    (t, f.0, refl, f.1, f.2)
all_fit-each silence (v ∷ ws) (t ∷ ts) h (suc d) w e =
    all_fit-each silence ws ts (and_parts (is_fit silence v t.seen) (all_fit silence ws ts) h).1 d w e

-- who has answered, where all have
pub each_answered : (answered : List Bool) → all_answered answered ≡ true → (d : ℕ) (b : Bool) → slice_get answered d ≡ Some b → b ≡ true
each_answered [] h d b e = absurd (cc)
each_answered (a ∷ rest) h zero b e = let same : a ≡ b = cc in sym same ∙ (and_parts a (all_answered rest) h).0
each_answered (a ∷ rest) h (suc d) b e = each_answered rest (and_parts a (all_answered rest) h).1 d b e

-- ---- a step that is due

go-true : (e : Event) → is_go e ≡ true → e ≡ Said signal.Go
go-true (Said signal.Go) h = refl
go-true (Said signal.Land) h = absurd (cc)
go-true (Said signal.Stop) h = absurd (cc)
go-true (Clock ms) h = absurd (cc)
go-true (Seen d x) h = absurd (cc)
go-true (Answered d status) h = absurd (cc)

due-may : (f : Flight) (s : State) (e : Event) → s.phase ≡ Steps → is_due f (heard f s e) e ≡ true → MayBegin f s e
unfolding is_due heard
due-may f s e flying due = by_step (next_step f s) refl due where
  by_step : (o : Option Step) → slice_get f.steps s.next ≡ o → is_due_step f (heard f s e) e o ≡ true → MayBegin f s e
  by_step None same h = absurd (cc)
  by_step (Some step) same h =
      let asked = not step.asked || is_go e in
      let time = leb step.after (heard f s e).waited in
      let settled = leb step.settle (heard f s e).steady in
      let fit = all_fit f.silence step.conditions (heard f s e).tracks in
      let answers = not step.answered || all_answered (heard f s e).answered in
      let o = and_parts (((asked && time) && settled) && fit) answers h in
      let p = and_parts ((asked && time) && settled) fit o.0 in
      let q = and_parts (asked && time) settled p.0 in
      let r = and_parts asked time q.0 in
      record {
        flying = flying;
        step = step;
        is_next = same;
        asked = λ a. go-true e (implied step.asked (is_go e) r.0 a);
        time = leb-true step.after (heard f s e).waited r.1;
        settled = leb-true step.settle (heard f s e).steady q.1;
        fit = all_fit-each f.silence step.conditions (heard f s e).tracks p.1;
        answered = λ a. each_answered (heard f s e).answered (implied step.answered (all_answered (heard f s e).answered) o.1 a);
      }

-- ---- only a step that begins orders what is onward

pub contains-nil : (o : Order) → Contains [] o → ⊥
contains-nil o c = omega (arith, c.1)

pub contains-one : (a o : Order) → Contains (a ∷ []) o → a ≡ o
contains-one a o c = by_place c.0 c.1 c.2 where
  by_place : (k : ℕ) → k < 1 → Rattle.std.specs.Prelude.slice_index_or (a ∷ []) k o ≡ o → a ≡ o
  by_place zero l e = e
  by_place (suc k) l e = absurd (omega arith)

not_land : (z : ℤ) (ms : ℕ) → IsOnward (order.Land z ms) → ⊥
not_land z ms h = elim h [ ]

not_halt : IsOnward order.Halt → ⊥
not_halt h = elim h [ ]

not_disarm : IsOnward order.Disarm → ⊥
not_disarm h = elim h [ ]

-- what an event tells a drone, where it is onward, comes of a step
pub onward-begins : (f : Flight) (h : State) (d : ℕ) (o : Order) (c : Choice) → IsOnward o → Contains (orders_to d (done f h c)) o → c ≡ Begin
unfolding done
onward-begins f h d o Rest on has = absurd (contains-nil o has)
onward-begins f h d o Begin on has = refl
onward-begins f h d o Descend on has = by_drone (ltb d (drones f)) refl where
  by_told : (b : Bool) → Contains (only_if b (land_order f)) o → Descend ≡ Begin
  by_told true l = absurd (not_land f.floor f.descent (subst IsOnward (sym (contains-one (land_order f) o l)) on))
  by_told false l = absurd (contains-nil o l)

  by_drone : (b : Bool) → ltb d (drones f) ≡ b → Descend ≡ Begin
  by_drone true e = by_told (has_risen f h.next d) (subst (λ xs. Contains xs o) (orders_to-landing f h.next d (ltb-true d (drones f) e)) has)
  by_drone false e = absurd (contains-nil o (subst (λ xs. Contains xs o) (orders_to-no_landing f h.next d (ltb-false d (drones f) e)) has))
onward-begins f h d o Cut on has = absurd (not_halt (subst IsOnward (sym (contains-one order.Halt o has)) on))
onward-begins f h d o Wait on has = absurd (contains-nil o has)
onward-begins f h d o Quit on has = absurd (not_disarm (subst IsOnward (sym (contains-one order.Disarm o has)) on))
onward-begins f h d o Finish on has = absurd (contains-nil o has)

-- a step begins only on the way, and where it is due
chosen-begin : (f : Flight) (h : State) (e : Event) (fault : Bool) (p : Phase) → chosen f h e fault p ≡ Begin → (p ≡ Steps) × (is_due f h e ≡ true)
chosen-begin f h e fault Steps same =
    steps-has (λ c. c ≡ Begin → (Steps ≡ Steps) × (is_due f h e ≡ true)) f h e fault
    (λ stop b. absurd (cc)) (λ go land may b. absurd (cc)) (λ go land no first b. absurd (cc)) (λ go on due b. (refl, due)) (λ b. absurd (cc)) same
chosen-begin f h e fault Landing same =
    landing-has (λ c. c ≡ Begin → (Landing ≡ Steps) × (is_due f h e ≡ true)) f h e fault
    (λ stop b. absurd (cc)) (λ go b. absurd (cc)) (λ go b. absurd (cc)) same
chosen-begin f h e fault Off same =
    off-has (λ c. c ≡ Begin → (Off ≡ Steps) × (is_due f h e ≡ true)) f h e fault
    (λ stop b. absurd (cc)) (λ go b. absurd (cc)) (λ go b. absurd (cc)) same
chosen-begin f h e fault Halted same =
    halted-has (λ c. c ≡ Begin → (Halted ≡ Steps) × (is_due f h e ≡ true)) f h e fault (λ b. absurd (cc)) (λ b. absurd (cc)) same
chosen-begin f h e fault Ended same = absurd (cc)

pub begin-may : (f : Flight) (s : State) (e : Event) → choice f s e ≡ Begin → MayBegin f s e
unfolding choice
begin-may f s e same =
    let b = chosen-begin f (heard f s e) e (is_fault f s e) s.phase same in
    due-may f s e b.0 b.1

onward-may : (f : Flight) (s : State) (e : Event) (d : ℕ) (o : Order) → IsOnward o → Contains (orders_to d (says f s e)) o → MayBegin f s e
onward-may f s e d o on has =
    begin-may f s e
    (onward-begins f (heard f s e) d o (choice f s e) on (subst (λ xs. Contains xs o) (orders_to-says d f s e) has))

next-same : (f : Flight) (h : State) (c : Choice) → ((led f h c).next ≡ h.next) ⊎ (c ≡ Begin)
unfolding led
next-same f h Rest = inl refl
next-same f h Begin = inr refl
next-same f h Descend = inl refl
next-same f h Wait = inl refl
next-same f h Cut = inl refl
next-same f h Quit = inl refl
next-same f h Finish = inl refl

step-may : (f : Flight) (s : State) (e : Event) → ((happens f s e).next ≡ s.next) ⊎ MayBegin f s e
unfolding happens heard
step-may f s e = elim (next-same f (heard f s e) (choice f s e)) [ inl same ↦ inl same | inr b ↦ inr (begin-may f s e b) ]

pub due_law : DueLaw
due_law = record { orders = onward-may; steps = step-may }

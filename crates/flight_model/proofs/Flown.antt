-- A flight that is said to be flown was flown.
use Rattle.flight_model.proofs.Prelude.{◌≡◌, ◌⊎◌, ◌<◌, ◌&&◌, ◌∷◌, ◌++◌, ◌∙◌, [], List, Bool, true, false, cond, refl, sym, ap, subst, None, Some, Option, ℕ, suc, inl, inr, take, length, eqb, arith, eqb-true, eqb-false, and_parts, append-nil, append_assoc, take_all, All-nil, All-cons, All-contains, Contains-append_cases, slice_get_within, map, slice_get, All, Contains, Order, Note, Event, Frame, To, ToAll, Noted, Over, Orders, Each, Step, Flight, Phase, Steps, Landing, Off, Halted, Ended, State, Choice, Rest, Begin, Descend, Cut, Quit, Finish, start, sent, chosen, is_fault, notes, order_in, frames_from, frames_of, frames_of_step, landings, next_step, is_due_step, is_flown, is_off_phase, orders_to, in_step, ordered, OverLaw, Wait, awaited}
use Rattle.flight_model.specs.declared.events.Order.TheVariants as order
use Rattle.flight_model.specs.declared.flights.Orders.TheVariants.{All as ToEach}
unfoldable use Rattle.flight_model.specs.Directors.{heard, is_due, choice, done, led, happens, says}
use Rattle.flight_model.proofs.OrdersTo.{orders_to-append, orders_to-of_step, ordered-next}
use Rattle.flight_model.proofs.Choices.{steps-has, landing-has, off-has, halted-has}
use Rattle.flight_model.proofs.Telling.{orders_to-says, as_phase}
use Rattle.flight_model.proofs.Ending.{is_stopped, stopped-all}

-- ---- only the end says so

abbrev pub NoOver : Frame → Type 0
NoOver x = (flown kept : Bool) → x ≡ Over flown kept → ⊥

pub no_over-notes : (ns : List Note) → All NoOver (map Noted ns)
no_over-notes [] = All-nil NoOver
no_over-notes (n ∷ ns) = All-cons NoOver (Noted n) (map Noted ns) (λ a b e. cc) (no_over-notes ns)

pub no_over-from : (d : ℕ) (os : List (Option Order)) → All NoOver (frames_from d os)
no_over-from d [] = All-nil NoOver
no_over-from d (None ∷ os) = no_over-from (suc d) os
no_over-from d (Some o ∷ os) = All-cons NoOver (To d o) (frames_from (suc d) os) (λ a b e. cc) (no_over-from (suc d) os)

pub no_over-all : (o : Order) → All NoOver (ToAll o ∷ [])
no_over-all o = All-cons NoOver (ToAll o) [] (λ a b e. cc) (All-nil NoOver)

no_over-orders : (orders : Orders) → All NoOver (frames_of orders)
no_over-orders (Each os) = no_over-from 0 os
no_over-orders (ToEach o) = no_over-all o

pub no_over-step : (o : Option Step) → All NoOver (frames_of_step o)
no_over-step None = All-nil NoOver
no_over-step (Some step) = no_over-orders step.orders

pub over-not : (xs : List Frame) (flown kept : Bool) → All NoOver xs → Contains xs (Over flown kept) → ⊥
over-not xs flown kept all has = All-contains NoOver xs (Over flown kept) all has flown kept refl

-- a choice that says that the flight was flown
pub over-finish : (f : Flight) (h : State) (c : Choice) (kept : Bool) → Contains (done f h c) (Over true kept) → (c ≡ Finish) × (is_flown f h ≡ true)
unfolding done
over-finish f h Rest kept has = absurd (over-not [] true kept (All-nil NoOver) has)
over-finish f h Begin kept has = absurd (over-not (frames_of_step (next_step f h)) true kept (no_over-step (next_step f h)) has)
over-finish f h Descend kept has = absurd (over-not (frames_from 0 (landings f h.next)) true kept (no_over-from 0 (landings f h.next)) has)
over-finish f h Wait kept has = absurd (over-not (Noted (awaited f) ∷ []) true kept (no_over-notes (awaited f ∷ [])) has)
over-finish f h Cut kept has = absurd (over-not (ToAll order.Halt ∷ []) true kept (no_over-all order.Halt) has)
over-finish f h Quit kept has = absurd (over-not (ToAll order.Disarm ∷ []) true kept (no_over-all order.Disarm) has)
over-finish f h Finish kept has = (refl, by_flown (is_flown f h) has) where
  by_flown : (b : Bool) → Contains (Over b (b && h.kept) ∷ []) (Over true kept) → b ≡ true
  by_flown true has = refl
  by_flown false has =
      let e : Over true kept ≡ Over false false =
      All-contains (λ x. x ≡ Over false false) (Over false false ∷ []) (Over true kept)
      (All-cons (λ x. x ≡ Over false false) (Over false false) [] refl (All-nil (λ x. x ≡ Over false false))) has in
      cc

-- ---- how much of the way was flown

abbrev FlownIn : Flight → ℕ → ℕ → List Order → Phase → Type 0
FlownIn f d n os Steps = (n < length f.steps) × (os ≡ ordered d (take n f.steps))
FlownIn f d n os Landing = n < length f.steps
FlownIn f d n os Off = (n < length f.steps) ⊎ (os ≡ ordered d f.steps)
FlownIn f d n os Halted = Unit {0}
FlownIn f d n os Ended = Unit {0}

abbrev NextFlown : Flight → ℕ → State → List Order → Phase → Choice → Type 0
NextFlown f d h os p c = FlownIn f d (led f (as_phase h p) c).next (os ++ orders_to d (done f (as_phase h p) c)) (led f (as_phase h p) c).phase

flown-rest : (f : Flight) (d : ℕ) (h : State) (os : List Order) (p : Phase) → FlownIn f d h.next os p → NextFlown f d h os p Rest
unfolding led done
flown-rest f d h os p t = subst (λ xs. FlownIn f d h.next xs p) (sym (append-nil os)) t

flown-begin : (f : Flight) (d : ℕ) (h : State) (e : Event) (os : List Order) → FlownIn f d h.next os Steps → is_due f h e ≡ true → NextFlown f d h os Steps Begin
unfolding led done is_due
flown-begin f d h e os t due = by_step (next_step f h) refl due where
  by_last : (step : Step) → slice_get f.steps h.next ≡ Some step → (b : Bool) → eqb (suc h.next) (length f.steps) ≡ b →
      FlownIn f d (suc h.next) (os ++ in_step (order_in step.orders d)) (cond b Off Steps)
  by_last step same true all =
      let whole : take (suc h.next) f.steps ≡ f.steps = take_all (suc h.next) f.steps (let l = eqb-true (suc h.next) (length f.steps) all in omega arith) in
      inr (ap (λ xs. xs ++ in_step (order_in step.orders d)) t.1 ∙ (sym (ordered-next d h.next f.steps step same) ∙ ap (λ xs. ordered d xs) whole))
  by_last step same false more =
      let other = eqb-false (suc h.next) (length f.steps) more in
      let inside = slice_get_within f.steps h.next step same in
      (omega arith, ap (λ xs. xs ++ in_step (order_in step.orders d)) t.1 ∙ sym (ordered-next d h.next f.steps step same))

  by_step : (o : Option Step) → slice_get f.steps h.next ≡ o → is_due_step f h e o ≡ true → NextFlown f d h os Steps Begin
  by_step None same due = absurd (cc)
  by_step (Some step) same due =
      rw same (rw (orders_to-of_step d step.orders) (by_last step same (eqb (suc h.next) (length f.steps)) refl))

flown-chosen : (f : Flight) (d : ℕ) (h : State) (e : Event) (fault : Bool) (os : List Order) (p : Phase) → FlownIn f d h.next os p →
    NextFlown f d h os p (chosen f (as_phase h p) e fault p)
unfolding led done
flown-chosen f d h e fault os Steps t =
    steps-has (NextFlown f d h os Steps) f (as_phase h Steps) e fault
    (λ stop. tt) (λ go land may. t.0) (λ go land no first. flown-rest f d h os Steps t) (λ go on due. flown-begin f d (as_phase h Steps) e os t due) (flown-rest f d h os Steps t)
flown-chosen f d h e fault os Landing t =
    landing-has (NextFlown f d h os Landing) f (as_phase h Landing) e fault (λ stop. tt) (λ go. inl t) (λ go. t)
flown-chosen f d h e fault os Off t =
    off-has (NextFlown f d h os Off) f (as_phase h Off) e fault (λ stop. tt) (λ go. tt) (λ go. flown-rest f d h os Off t)
flown-chosen f d h e fault os Halted t =
    halted-has (NextFlown f d h os Halted) f (as_phase h Halted) e fault tt tt
flown-chosen f d h e fault os Ended t = tt

flown-event : (f : Flight) (d : ℕ) (s : State) (e : Event) (os : List Order) → FlownIn f d s.next os s.phase →
    FlownIn f d (happens f s e).next (os ++ orders_to d (says f s e)) (happens f s e).phase
unfolding happens choice heard
flown-event f d s e os t = rw (orders_to-says d f s e) (flown-chosen f d (heard f s e) e (is_fault f s e) os s.phase t)

-- ---- the end

flown-all : (f : Flight) (d n : ℕ) (os : List Order) (p : Phase) → FlownIn f d n os p → is_off_phase p ≡ true → eqb n (length f.steps) ≡ true → os ≡ ordered d f.steps
flown-all f d n os Steps t off all = absurd (cc)
flown-all f d n os Landing t off all = absurd (cc)
flown-all f d n os Off (inl less) off all = let e = eqb-true n (length f.steps) all in absurd (omega arith)
flown-all f d n os Off (inr same) off all = same
flown-all f d n os Halted t off all = absurd (cc)
flown-all f d n os Ended t off all = absurd (cc)

finish-ends : (f : Flight) (h : State) (c : Choice) → c ≡ Finish → (is_stopped (led f h c).phase ≡ true) × ((d : ℕ) → orders_to d (done f h c) ≡ [])
unfolding led done
finish-ends f h c same = rw same (refl, λ d. refl)

-- the event that says that the flight was flown
record SaysFlown (f : Flight) (s : State) (e : Event) (d : ℕ) (os : List Order) : Type 0 where
  all : os ≡ ordered d f.steps
  nothing : orders_to d (says f s e) ≡ []
  over : is_stopped (happens f s e).phase ≡ true

says-flown : (f : Flight) (s : State) (e : Event) (d : ℕ) (os : List Order) (kept : Bool) → FlownIn f d s.next os s.phase →
    Contains (says f s e) (Over true kept) → SaysFlown f s e d os
unfolding says happens heard
says-flown f s e d os kept t has =
    elim (Contains-append_cases (map Noted (notes f s e)) (done f (heard f s e) (choice f s e)) (Over true kept) has) [
      | inl noted ↦ absurd (over-not (map Noted (notes f s e)) true kept (no_over-notes (notes f s e)) noted)
      | inr here ↦
          let c = over-finish f (heard f s e) (choice f s e) kept here in
          let at_end = and_parts (is_off_phase s.phase) (eqb s.next (length f.steps)) c.1 in
          let fin = finish-ends f (heard f s e) (choice f s e) c.0 in
          record {
            all = flown-all f d s.next os s.phase t at_end.0 at_end.1;
            nothing = orders_to-says d f s e ∙ fin.1 d;
            over = fin.0;
          }
    ]

over-all : (f : Flight) (s : State) (events : List Event) (d : ℕ) (os : List Order) (kept : Bool) → FlownIn f d s.next os s.phase →
    Contains (sent f s events) (Over true kept) → os ++ orders_to d (sent f s events) ≡ ordered d f.steps
over-all f s [] d os kept t has = absurd (over-not [] true kept (All-nil NoOver) has)
over-all f s (e ∷ es) d os kept t has =
    let rest = sent f (happens f s e) es in
    elim (Contains-append_cases (says f s e) rest (Over true kept) has) [
      | inl now ↦
          let here = says-flown f s e d os kept t now in
          let later = stopped-all f (happens f s e) here.over es d in
          ap (λ xs. os ++ xs) (orders_to-append d (says f s e) rest ∙ rw (here.nothing, later) refl) ∙ (append-nil os ∙ here.all)
      | inr later ↦
          ap (λ xs. os ++ xs) (orders_to-append d (says f s e) rest)
          ∙ (sym (append_assoc os (orders_to d (says f s e)) (orders_to d rest))
          ∙ over-all f (happens f s e) es d (os ++ orders_to d (says f s e)) kept (flown-event f d s e os t) later)
    ]

pub over_law : OverLaw
over_law f some events kept has d = over-all f (start f) events d [] kept (omega arith, refl) has

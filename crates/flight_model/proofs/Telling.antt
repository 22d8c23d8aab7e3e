-- The orders to a drone are those of the first steps, then possibly the landing, disarm and halt.
use Rattle.flight_model.proofs.Prelude.{◌≡◌, ◌∷◌, ◌++◌, ◌∙◌, [], List, Bool, true, false, cond, refl, sym, ap, subst, None, Some, Option, ℕ, suc, take, length, eqb, append-nil, append_assoc, ltb-true, ltb-false, ltb, map, slice_get, Order, Event, Noted, Step, Flight, Phase, Steps, Landing, Off, Halted, Ended, State, Choice, Rest, Begin, Descend, start, sent, after, chosen, is_fault, notes, order_in, frames_from, landings, land_order, has_risen, drones, next_step, is_due_step, orders_to, in_step, ordered, only_if, OnlyOrders, OnlyLaw}
use Rattle.flight_model.specs.declared.events.Order.TheVariants as order
unfoldable use Rattle.flight_model.specs.Directors.{heard, is_due, choice, done, led, happens, says}
use Rattle.flight_model.proofs.OrdersTo.{orders_to-append, orders_to-notes, orders_to-of_step, orders_to-landing, orders_to-no_landing, ordered-next}
use Rattle.flight_model.proofs.Choices.{steps-has, landing-has, off-has, halted-has}

-- the orders of the first n steps and then these three
abbrev pub all_orders : Flight → ℕ → ℕ → Bool → Bool → Bool → List Order
all_orders f d n landed disarmed halted =
    ordered d (take n f.steps) ++ (only_if landed (land_order f) ++ (only_if disarmed order.Disarm ++ only_if halted order.Halt))

-- What was told so far: on the way no more than the steps; in the air no disarm; and no halt before one is chosen.
pub record Told (f : Flight) (d n : ℕ) (orders : List Order) (may_land may_disarm may_halt : Bool) : Type 0 where
  pub landed : Bool
  pub disarmed : Bool
  pub halted : Bool
  pub are : orders ≡ all_orders f d n landed disarmed halted
  pub no_landing : may_land ≡ false → landed ≡ false
  pub no_disarm : may_disarm ≡ false → disarmed ≡ false
  pub no_halt : may_halt ≡ false → halted ≡ false

abbrev pub ToldIn : Flight → ℕ → ℕ → List Order → Phase → Type 0
ToldIn f d n orders Steps = Told f d n orders false false false
ToldIn f d n orders Landing = Told f d n orders true false false
ToldIn f d n orders Off = Told f d n orders true true false
ToldIn f d n orders Halted = Told f d n orders true true true
ToldIn f d n orders Ended = Told f d n orders true true true

-- ---- one thing more

told-nothing : (f : Flight) (d n : ℕ) (os : List Order) (p : Phase) → ToldIn f d n os p → ToldIn f d n (os ++ []) p
told-nothing f d n os p t = subst (λ xs. ToldIn f d n xs p) (sym (append-nil os)) t

told-weaker : (f : Flight) (d n : ℕ) (os : List Order) (a b c : Bool) → Told f d n os a b c → Told f d n os true true true
told-weaker f d n os a b c t = record {
  landed = t.landed;
  disarmed = t.disarmed;
  halted = t.halted;
  are = t.are;
  no_landing = λ e. absurd (cc);
  no_disarm = λ e. absurd (cc);
  no_halt = λ e. absurd (cc);
}

told-off : (f : Flight) (d n : ℕ) (os : List Order) (a b : Bool) → Told f d n os a b false → Told f d n os true true false
told-off f d n os a b t = record {
  landed = t.landed;
  disarmed = t.disarmed;
  halted = t.halted;
  are = t.are;
  no_landing = λ e. absurd (cc);
  no_disarm = λ e. absurd (cc);
  no_halt = t.no_halt;
}

-- what was told, with no halt; with no disarm either; with nothing but steps
are-running : (f : Flight) (d n : ℕ) (os : List Order) (a b : Bool) (t : Told f d n os a b false) → os ≡ all_orders f d n t.landed t.disarmed false
are-running f d n os a b t = subst (λ x. os ≡ all_orders f d n t.landed t.disarmed x) (t.no_halt refl) t.are

are-flying : (f : Flight) (d n : ℕ) (os : List Order) (a : Bool) (t : Told f d n os a false false) → os ≡ all_orders f d n t.landed false false
are-flying f d n os a t = subst (λ x. os ≡ all_orders f d n t.landed x false) (t.no_disarm refl) (are-running f d n os a false t)

are-steps : (f : Flight) (d n : ℕ) (os : List Order) (t : Told f d n os false false false) → os ≡ ordered d (take n f.steps)
are-steps f d n os t =
    subst (λ x. os ≡ all_orders f d n x false false) (t.no_landing refl) (are-flying f d n os false t) ∙ append-nil (ordered d (take n f.steps))

told-halt : (f : Flight) (d n : ℕ) (os : List Order) (a b : Bool) → Told f d n os a b false → Told f d n (os ++ order.Halt ∷ []) true true true
told-halt f d n os a b t = record {
  landed = t.landed;
  disarmed = t.disarmed;
  halted = true;
  are = ap (λ xs. xs ++ order.Halt ∷ []) (are-running f d n os a b t)
      ∙ more (ordered d (take n f.steps)) (only_if t.landed (land_order f)) (only_if t.disarmed order.Disarm);
  no_landing = λ e. absurd (cc);
  no_disarm = λ e. absurd (cc);
  no_halt = λ e. absurd (cc);
} where
  more : (x y z : List Order) → (x ++ (y ++ (z ++ []))) ++ order.Halt ∷ [] ≡ x ++ (y ++ (z ++ order.Halt ∷ []))
  more x y z = simp (append_assoc, append-nil)

told-disarm : (f : Flight) (d n : ℕ) (os : List Order) (a : Bool) → Told f d n os a false false → Told f d n (os ++ order.Disarm ∷ []) true true false
told-disarm f d n os a t = record {
  landed = t.landed;
  disarmed = true;
  halted = false;
  are = ap (λ xs. xs ++ order.Disarm ∷ []) (are-flying f d n os a t)
      ∙ more (ordered d (take n f.steps)) (only_if t.landed (land_order f));
  no_landing = λ e. absurd (cc);
  no_disarm = λ e. absurd (cc);
  no_halt = λ e. refl;
} where
  more : (x y : List Order) → (x ++ (y ++ [])) ++ order.Disarm ∷ [] ≡ x ++ (y ++ order.Disarm ∷ [])
  more x y = simp (append_assoc, append-nil)

told-land : (f : Flight) (d n : ℕ) (os : List Order) (b : Bool) → Told f d n os false false false → Told f d n (os ++ only_if b (land_order f)) true false false
told-land f d n os b t = record {
  landed = b;
  disarmed = false;
  halted = false;
  are = ap (λ xs. xs ++ only_if b (land_order f)) (are-steps f d n os t)
      ∙ ap (λ xs. ordered d (take n f.steps) ++ xs) (sym (append-nil (only_if b (land_order f))));
  no_landing = λ e. absurd (cc);
  no_disarm = λ e. refl;
  no_halt = λ e. refl;
}

told-step : (f : Flight) (d n : ℕ) (os : List Order) (step : Step) → Told f d n os false false false → slice_get f.steps n ≡ Some step →
    Told f d (suc n) (os ++ in_step (order_in step.orders d)) false false false
told-step f d n os step t e = record {
  landed = false;
  disarmed = false;
  halted = false;
  are = ap (λ xs. xs ++ in_step (order_in step.orders d)) (are-steps f d n os t)
      ∙ (sym (ordered-next d n f.steps step e) ∙ sym (append-nil (ordered d (take (suc n) f.steps))));
  no_landing = λ e. refl;
  no_disarm = λ e. refl;
  no_halt = λ e. refl;
}

-- ---- one choice

abbrev pub as_phase : State → Phase → State
as_phase h p = record h { phase = p }

-- what is told after a choice of a state that heard an event, in this phase
abbrev Next : Flight → ℕ → State → List Order → Phase → Choice → Type 0
Next f d h os p c = ToldIn f d (led f (as_phase h p) c).next (os ++ orders_to d (done f (as_phase h p) c)) (led f (as_phase h p) c).phase

next-rest : (f : Flight) (d : ℕ) (h : State) (os : List Order) (p : Phase) → ToldIn f d h.next os p → Next f d h os p Rest
unfolding led done
next-rest f d h os p t = told-nothing f d h.next os p t

next-descend : (f : Flight) (d : ℕ) (h : State) (os : List Order) → ToldIn f d h.next os Steps → Next f d h os Steps Descend
unfolding led done
next-descend f d h os t = by_drone (ltb d (drones f)) refl where
  by_drone : (b : Bool) → ltb d (drones f) ≡ b → Told f d h.next (os ++ orders_to d (frames_from 0 (landings f h.next))) true false false
  by_drone true e = rw (orders_to-landing f h.next d (ltb-true d (drones f) e)) (told-land f d h.next os (has_risen f h.next d) t)
  by_drone false e = rw (orders_to-no_landing f h.next d (ltb-false d (drones f) e)) (told-land f d h.next os false t)

next-begin : (f : Flight) (d : ℕ) (h : State) (e : Event) (os : List Order) → ToldIn f d h.next os Steps → is_due f h e ≡ true → Next f d h os Steps Begin
unfolding led done is_due
next-begin f d h e os t due = by_step (next_step f h) refl due where
  by_last : (step : Step) → (b : Bool) → Told f d (suc h.next) (os ++ in_step (order_in step.orders d)) false false false →
      ToldIn f d (suc h.next) (os ++ in_step (order_in step.orders d)) (cond b Off Steps)
  by_last step true u = told-off f d (suc h.next) (os ++ in_step (order_in step.orders d)) false false u
  by_last step false u = u

  by_step : (o : Option Step) → slice_get f.steps h.next ≡ o → is_due_step f h e o ≡ true → Next f d h os Steps Begin
  by_step None same due = absurd (cc)
  by_step (Some step) same due =
      rw same
      (rw (orders_to-of_step d step.orders)
      (by_last step (eqb (suc h.next) (length f.steps)) (told-step f d h.next os step t same)))

next-chosen : (f : Flight) (d : ℕ) (h : State) (e : Event) (fault : Bool) (os : List Order) (p : Phase) → ToldIn f d h.next os p →
    Next f d h os p (chosen f (as_phase h p) e fault p)
unfolding led done
next-chosen f d h e fault os Steps t =
    steps-has (Next f d h os Steps) f (as_phase h Steps) e fault
    (λ stop. told-halt f d h.next os false false t) (λ go land may. next-descend f d h os t) (λ go land no first. next-rest f d h os Steps t)
    (λ go on due. next-begin f d (as_phase h Steps) e os t due) (next-rest f d h os Steps t)
next-chosen f d h e fault os Landing t =
    landing-has (Next f d h os Landing) f (as_phase h Landing) e fault
    (λ stop. told-halt f d h.next os true false t) (λ go. told-disarm f d h.next os true t) (λ go. next-rest f d h os Landing t)
next-chosen f d h e fault os Off t =
    off-has (Next f d h os Off) f (as_phase h Off) e fault
    (λ stop. told-halt f d h.next os true true t)
    (λ go. told-nothing f d h.next os Ended (told-weaker f d h.next os true true false t)) (λ go. next-rest f d h os Off t)
next-chosen f d h e fault os Halted t =
    halted-has (Next f d h os Halted) f (as_phase h Halted) e fault (told-nothing f d h.next os Ended t) (next-rest f d h os Halted t)
next-chosen f d h e fault os Ended t = next-rest f d h os Ended t

-- ---- one event, and all

pub orders_to-says : (d : ℕ) (f : Flight) (s : State) (e : Event) → orders_to d (says f s e) ≡ orders_to d (done f (heard f s e) (choice f s e))
unfolding says
orders_to-says d f s e =
    orders_to-append d (map Noted (notes f s e)) (done f (heard f s e) (choice f s e))
    ∙ ap (λ xs. xs ++ orders_to d (done f (heard f s e) (choice f s e))) (orders_to-notes d (notes f s e))

pub told-event : (f : Flight) (d : ℕ) (s : State) (e : Event) (os : List Order) → ToldIn f d s.next os s.phase →
    ToldIn f d (happens f s e).next (os ++ orders_to d (says f s e)) (happens f s e).phase
unfolding happens choice heard
told-event f d s e os t =
    rw (orders_to-says d f s e) (next-chosen f d (heard f s e) e (is_fault f s e) os s.phase t)

pub told-all : (f : Flight) (d : ℕ) (s : State) (events : List Event) (os : List Order) → ToldIn f d s.next os s.phase →
    ToldIn f d (after f s events).next (os ++ orders_to d (sent f s events)) (after f s events).phase
told-all f d s [] os t = told-nothing f d s.next os s.phase t
told-all f d s (e ∷ es) os t =
    let one = told-all f d (happens f s e) es (os ++ orders_to d (says f s e)) (told-event f d s e os t) in
    let join : (os ++ orders_to d (says f s e)) ++ orders_to d (sent f (happens f s e) es) ≡ os ++ orders_to d (says f s e ++ sent f (happens f s e) es) =
    append_assoc os (orders_to d (says f s e)) (orders_to d (sent f (happens f s e) es))
    ∙ ap (λ xs. os ++ xs) (sym (orders_to-append d (says f s e) (sent f (happens f s e) es))) in
    subst (λ xs. ToldIn f d (after f (happens f s e) es).next xs (after f (happens f s e) es).phase) join one

only-told : (f : Flight) (d n : ℕ) (os : List Order) (a b c : Bool) → Told f d n os a b c → OnlyOrders f d os
only-told f d n os a b c t = record { n = n; landed = t.landed; disarmed = t.disarmed; halted = t.halted; are = t.are }

only-in : (f : Flight) (d n : ℕ) (os : List Order) (p : Phase) → ToldIn f d n os p → OnlyOrders f d os
only-in f d n os Steps t = only-told f d n os false false false t
only-in f d n os Landing t = only-told f d n os true false false t
only-in f d n os Off t = only-told f d n os true true false t
only-in f d n os Halted t = only-told f d n os true true true t
only-in f d n os Ended t = only-told f d n os true true true t

pub told-none : (f : Flight) (d : ℕ) → Told f d 0 [] false false false
told-none f d = record {
  landed = false;
  disarmed = false;
  halted = false;
  are = refl;
  no_landing = λ e. refl;
  no_disarm = λ e. refl;
  no_halt = λ e. refl;
}

pub only_law : OnlyLaw
only_law f events d =
    only-in f d (after f (start f) events).next (orders_to d (sent f (start f) events)) (after f (start f) events).phase
    (told-all f d (start f) events [] (told-none f d))

-- Each landing is covered, and one that is wanted goes out at the first event at which all may land.
use Rattle.flight_model.proofs.Prelude.{◌≡◌, ◌≢◌, ◌⊎◌, ◌∷◌, ◌∙◌, ◌||◌, [], List, Bool, true, false, cond, refl, sym, subst, None, ℕ, suc, inl, inr, eqb, length, ℤ, Contains, Event, Clock, Seen, Answered, Said, Flight, Phase, Steps, Landing, Off, Halted, Ended, State, Choice, Rest, Begin, Descend, Wait, Cut, Quit, Finish, start, sent, after, chosen, is_land, is_fault, says, orders_to, Lands, LandsOrWaits, MayBegin, MayLand}
use Rattle.flight_model.specs.declared.events.Order.TheVariants as order
use Rattle.flight_model.specs.declared.events.Signal.TheVariants as signal
unfoldable use Rattle.flight_model.specs.Directors.{heard, may_land, choice, done, led, happens}
use Rattle.flight_model.specs.Wanted.{CoveredLaw, IsWanted, NoneMay, WantedLaw}
use Rattle.flight_model.proofs.OrdersTo.{orders_to-append}
use Rattle.flight_model.proofs.Choices.{steps-has, landing-has, off-has, halted-has}
use Rattle.flight_model.proofs.Telling.{orders_to-says}
use Rattle.flight_model.proofs.Beginning.{begin-may, contains-nil, contains-one}
use Rattle.flight_model.proofs.Hears.{may-true, may-not}
use Rattle.flight_model.proofs.Ending.{no_stop, still-wanted, wanted-heard, phase-heard, next-heard}

-- ---- what is chosen

-- all land only where they may
descend-in : (f : Flight) (h : State) (e : Event) (fault : Bool) (p : Phase) → chosen f h e fault p ≡ Descend → may_land f h ≡ true
descend-in f h e fault Steps same =
    steps-has (λ c. c ≡ Descend → may_land f h ≡ true) f h e fault
    (λ stop is. absurd (cc)) (λ go land may is. may) (λ go land no first is. absurd (cc)) (λ go on due is. absurd (cc)) (λ is. absurd (cc)) same
descend-in f h e fault Landing same =
    landing-has (λ c. c ≡ Descend → may_land f h ≡ true) f h e fault (λ stop is. absurd (cc)) (λ go is. absurd (cc)) (λ go is. absurd (cc)) same
descend-in f h e fault Off same =
    off-has (λ c. c ≡ Descend → may_land f h ≡ true) f h e fault (λ stop is. absurd (cc)) (λ go is. absurd (cc)) (λ go is. absurd (cc)) same
descend-in f h e fault Halted same =
    halted-has (λ c. c ≡ Descend → may_land f h ≡ true) f h e fault (λ is. absurd (cc)) (λ is. absurd (cc)) same
descend-in f h e fault Ended same = absurd (cc)

descend-may : (f : Flight) (s : State) (e : Event) → choice f s e ≡ Descend → MayLand f (heard f s e)
unfolding choice
descend-may f s e same = may-true f (heard f s e) (descend-in f (heard f s e) e (is_fault f s e) s.phase same)

-- a step begins only where no landing is wanted
begin-in : (f : Flight) (h : State) (e : Event) (fault : Bool) (p : Phase) → chosen f h e fault p ≡ Begin → h.wanted ≡ false
begin-in f h e fault Steps same =
    steps-has (λ c. c ≡ Begin → h.wanted ≡ false) f h e fault
    (λ stop is. absurd (cc)) (λ go land may is. absurd (cc)) (λ go land no first is. absurd (cc)) (λ go on due is. (or-parts h.wanted (is_land e || fault) on).0)
    (λ is. absurd (cc)) same where
      or-parts : (a b : Bool) → a || b ≡ false → (a ≡ false) × (b ≡ false)
      or-parts true b h = absurd (cc)
      or-parts false b h = (refl, h)
begin-in f h e fault Landing same =
    landing-has (λ c. c ≡ Begin → h.wanted ≡ false) f h e fault (λ stop is. absurd (cc)) (λ go is. absurd (cc)) (λ go is. absurd (cc)) same
begin-in f h e fault Off same =
    off-has (λ c. c ≡ Begin → h.wanted ≡ false) f h e fault (λ stop is. absurd (cc)) (λ go is. absurd (cc)) (λ go is. absurd (cc)) same
begin-in f h e fault Halted same =
    halted-has (λ c. c ≡ Begin → h.wanted ≡ false) f h e fault (λ is. absurd (cc)) (λ is. absurd (cc)) same
begin-in f h e fault Ended same = absurd (cc)

begin-calm : (f : Flight) (s : State) (e : Event) → choice f s e ≡ Begin → s.wanted ≡ false
unfolding choice
begin-calm f s e same = sym (wanted-heard f s e) ∙ begin-in f (heard f s e) e (is_fault f s e) s.phase same

-- a landing is waited for where it is wanted, and all may not land
record WaitsFor (f : Flight) (h : State) (e : Event) (fault : Bool) : Type 0 where
  wants : h.wanted || (is_land e || fault) ≡ true
  none : may_land f h ≡ false

wait-in : (f : Flight) (h : State) (e : Event) (fault : Bool) (p : Phase) → chosen f h e fault p ≡ Wait → WaitsFor f h e fault
wait-in f h e fault Steps same =
    steps-has (λ c. c ≡ Wait → WaitsFor f h e fault) f h e fault
    (λ stop is. absurd (cc)) (λ go land may is. absurd (cc)) (λ go land no first is. record { wants = land; none = no }) (λ go on due is. absurd (cc)) (λ is. absurd (cc)) same
wait-in f h e fault Landing same =
    landing-has (λ c. c ≡ Wait → WaitsFor f h e fault) f h e fault (λ stop is. absurd (cc)) (λ go is. absurd (cc)) (λ go is. absurd (cc)) same
wait-in f h e fault Off same =
    off-has (λ c. c ≡ Wait → WaitsFor f h e fault) f h e fault (λ stop is. absurd (cc)) (λ go is. absurd (cc)) (λ go is. absurd (cc)) same
wait-in f h e fault Halted same =
    halted-has (λ c. c ≡ Wait → WaitsFor f h e fault) f h e fault (λ is. absurd (cc)) (λ is. absurd (cc)) same
wait-in f h e fault Ended same = absurd (cc)

wait-for : (f : Flight) (s : State) (e : Event) → choice f s e ≡ Wait → WaitsFor f (heard f s e) e (is_fault f s e)
unfolding choice
wait-for f s e same = wait-in f (heard f s e) e (is_fault f s e) s.phase same

-- ---- each landing is covered

land-by : (f : Flight) (s : State) (e : Event) (d : ℕ) (z : ℤ) (ms : ℕ) (c : Choice) → choice f s e ≡ c → Contains (orders_to d (done f (heard f s e) c)) (order.Land z ms) →
    MayBegin f s e ⊎ MayLand f (heard f s e)
unfolding done
land-by f s e d z ms Rest same has = absurd (contains-nil (order.Land z ms) has)
land-by f s e d z ms Begin same has = inl (begin-may f s e same)
land-by f s e d z ms Descend same has = inr (descend-may f s e same)
land-by f s e d z ms Wait same has = absurd (contains-nil (order.Land z ms) has)
land-by f s e d z ms Cut same has = let is = contains-one order.Halt (order.Land z ms) has in absurd (cc)
land-by f s e d z ms Quit same has = let is = contains-one order.Disarm (order.Land z ms) has in absurd (cc)
land-by f s e d z ms Finish same has = absurd (contains-nil (order.Land z ms) has)

landing-order : (f : Flight) (s : State) (e : Event) (d : ℕ) (z : ℤ) (ms : ℕ) → Contains (orders_to d (says f s e)) (order.Land z ms) → MayBegin f s e ⊎ MayLand f (heard f s e)
landing-order f s e d z ms has =
    land-by f s e d z ms (choice f s e) refl (subst (λ os. Contains os (order.Land z ms)) (orders_to-says d f s e) has)

led-landing : (f : Flight) (h : State) (c : Choice) → h.phase ≡ Steps → (led f h c).phase ≡ Landing → c ≡ Descend
unfolding led
led-landing f h Rest p q = let no : Steps ≡ Landing = sym p ∙ q in absurd (cc)
led-landing f h Begin p q = absurd (by_last (eqb (suc h.next) (length f.steps)) q) where
  by_last : (b : Bool) → cond b Off Steps ≡ Landing → ⊥
  by_last true e = cc
  by_last false e = cc
led-landing f h Descend p q = refl
led-landing f h Wait p q = let no : Steps ≡ Landing = sym p ∙ q in absurd (cc)
led-landing f h Cut p q = absurd (cc)
led-landing f h Quit p q = absurd (cc)
led-landing f h Finish p q = absurd (cc)

leaves : (f : Flight) (s : State) (e : Event) → s.phase ≡ Steps → (happens f s e).phase ≡ Landing → MayLand f (heard f s e)
unfolding happens
leaves f s e p q = descend-may f s e (led-landing f (heard f s e) (choice f s e) (phase-heard f s e ∙ p) q)

pub covered_law : CoveredLaw
covered_law = record { orders = landing-order; leaves = leaves }

-- ---- a landing that is wanted

led-wanted : (f : Flight) (h : State) (c : Choice) → h.wanted ≡ false → (led f h c).wanted ≡ true → c ≡ Wait
unfolding led
led-wanted f h Rest calm w = let no : false ≡ true = sym calm ∙ w in absurd (cc)
led-wanted f h Begin calm w = let no : false ≡ true = sym calm ∙ w in absurd (cc)
led-wanted f h Descend calm w = absurd (cc)
led-wanted f h Wait calm w = refl
led-wanted f h Cut calm w = absurd (cc)
led-wanted f h Quit calm w = absurd (cc)
led-wanted f h Finish calm w = absurd (cc)

waits-now : (f : Flight) (s : State) (e : Event) → s.wanted ≡ false → (happens f s e).wanted ≡ true → choice f s e ≡ Wait
unfolding happens
waits-now f s e calm w = led-wanted f (heard f s e) (choice f s e) (wanted-heard f s e ∙ calm) w

land-true : (e : Event) → is_land e ≡ true → e ≡ Said signal.Land
land-true (Said signal.Go) h = absurd (cc)
land-true (Said signal.Land) h = refl
land-true (Said signal.Stop) h = absurd (cc)
land-true (Clock ms) h = absurd (cc)
land-true (Seen d x) h = absurd (cc)
land-true (Answered d status) h = absurd (cc)

begins : (f : Flight) (s : State) (e : Event) → s.wanted ≡ false → (happens f s e).wanted ≡ true → ((e ≡ Said signal.Land) ⊎ (is_fault f s e ≡ true)) × (MayLand f (heard f s e) → ⊥)
begins f s e calm w =
    let for = wait-for f s e (waits-now f s e calm w) in
    (by_parts (heard f s e).wanted (is_land e) (is_fault f s e) (wanted-heard f s e ∙ calm) refl for.wants, λ may. may-not f (heard f s e) for.none may) where
      by_parts : (a b c : Bool) → a ≡ false → is_land e ≡ b → a || (b || c) ≡ true → (e ≡ Said signal.Land) ⊎ (c ≡ true)
      by_parts true b c calm is h = absurd (cc)
      by_parts false true c calm is h = inl (land-true e is)
      by_parts false false c calm is h = inr h

led-next : (f : Flight) (h : State) (c : Choice) → (c ≡ Begin → ⊥) → (led f h c).next ≡ h.next
unfolding led
led-next f h Rest n = refl
led-next f h Begin n = absurd (n refl)
led-next f h Descend n = refl
led-next f h Wait n = refl
led-next f h Cut n = refl
led-next f h Quit n = refl
led-next f h Finish n = refl

no_step : (f : Flight) (s : State) (e : Event) → s.wanted ≡ true → (happens f s e).next ≡ s.next
unfolding happens
no_step f s e w = led-next f (heard f s e) (choice f s e) (λ same. never (sym w ∙ begin-calm f s e same)) ∙ next-heard f s e where
  never : true ≡ false → ⊥
  never e = cc

goes_on : (f : Flight) (s : State) (e : Event) → IsWanted s → e ≢ Said signal.Stop → LandsOrWaits f s e
goes_on f s e w go = still-wanted f s e w.phase (no_stop e go) w.wanted

first : (f : Flight) (s : State) (events : List Event) (e : Event) → IsWanted s → NoneMay f s events → e ≢ Said signal.Stop → MayLand f (heard f (after f s events) e) →
    ((d : ℕ) → orders_to d (sent f s events) ≡ []) × Lands f (after f s events) e
first f s [] e w none go may = (λ d. refl, (goes_on f s e w go).lands may)
first f s (a ∷ es) e w none go may =
    let waits = (goes_on f s a w none.0).waits none.1 in
    let rest = first f (happens f s a) es e (record { phase = waits.phase; wanted = waits.wanted }) none.2 go may in (
      λ d. (let now = waits.nothing d in
          let later = rest.0 d in
          orders_to-append d (says f s a) (sent f (happens f s a) es) ∙ rw (now, later) refl),
      rest.1,
    )

never-event : (f : Flight) (s : State) (e : Event) → f.windows ≡ None → s.wanted ≡ false → (happens f s e).wanted ≡ false
never-event f s e none calm = by_test (happens f s e).wanted refl where
  by_test : (b : Bool) → (happens f s e).wanted ≡ b → (happens f s e).wanted ≡ false
  by_test false h = h
  by_test true h = absurd ((begins f s e calm h).1 (inl none))

never : (f : Flight) (s : State) (events : List Event) → f.windows ≡ None → s.wanted ≡ false → (after f s events).wanted ≡ false
never f s [] none calm = calm
never f s (e ∷ es) none calm = never f (happens f s e) es none (never-event f s e none calm)

pub wanted_law : WantedLaw
wanted_law = record { begins = begins; no_step = no_step; goes_on = goes_on; first = first; never = λ f events none. never f (start f) events none refl }

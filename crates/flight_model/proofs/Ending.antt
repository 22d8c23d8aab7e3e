-- Land, fault and stop; and what is said of the show.
use Rattle.flight_model.proofs.Prelude.{arith, ◌≡◌, ◌≢◌, ◌⊎◌, ◌<◌, ◌∷◌, ◌∙◌, ◌||◌, ◌&&◌, [], List, Bool, true, false, not, refl, sym, ap, subst, ℕ, inl, inr, All-append, All-nil, All-cons, and_assoc, All, Order, Event, Clock, Seen, Answered, Said, Flight, Phase, Steps, Landing, Off, Halted, Ended, State, Choice, Rest, Begin, Descend, Cut, Quit, Finish, sent, after, chosen, is_fault, is_stop, is_land, harms, frames_from, landings, land_order, has_risen, drones, orders_to, only_if, Lands, IsLast, LandLaw, FaultLaw, HaltLaw, cond, Wait, Noted, awaited, on_landing, notes, map, Contains, Contains-append_right, Waits, LandsOrWaits}
use Rattle.flight_model.specs.declared.events.Order.TheVariants as order
use Rattle.flight_model.specs.declared.events.Signal.TheVariants as signal
unfoldable use Rattle.flight_model.specs.Directors.{heard, is_due, choice, done, led, happens, says}
use Rattle.flight_model.proofs.OrdersTo.{orders_to-append, orders_to-landing}
use Rattle.flight_model.proofs.Choices.{landing-has, off-has, halted-has}
use Rattle.flight_model.proofs.Telling.{orders_to-says}
use Rattle.flight_model.proofs.Hears.{may-is, not-may}

-- ---- at once

lands-where : (f : Flight) (s : State) (e : Event) → choice f s e ≡ Descend → Lands f s e
unfolding says happens done led heard
lands-where f s e same = rw same (refl, refl)

pub wanted-heard : (f : Flight) (s : State) (e : Event) → (heard f s e).wanted ≡ s.wanted
unfolding heard
wanted-heard f s e = refl

pub phase-heard : (f : Flight) (s : State) (e : Event) → (heard f s e).phase ≡ s.phase
unfolding heard
phase-heard f s e = refl

pub next-heard : (f : Flight) (s : State) (e : Event) → (heard f s e).next ≡ s.next
unfolding heard
next-heard f s e = refl

wants-in : (f : Flight) (h : State) (e : Event) (fault : Bool) (p : Phase) → p ≡ Steps → is_stop e ≡ false → h.wanted || (is_land e || fault) ≡ true → chosen f h e fault p ≡ on_landing f h
wants-in f h e fault p same go land = subst (λ q. chosen f h e fault q ≡ on_landing f h) (sym same) (rw (go, land) refl)

wants : (f : Flight) (s : State) (e : Event) → s.phase ≡ Steps → is_stop e ≡ false → s.wanted || (is_land e || is_fault f s e) ≡ true → choice f s e ≡ on_landing f (heard f s e)
unfolding choice
wants f s e p go land =
    wants-in f (heard f s e) e (is_fault f s e) s.phase p go (ap (λ b. b || (is_land e || is_fault f s e)) (wanted-heard f s e) ∙ land)

-- where nothing is done, and where a landing is waited for
pub rest-leads : (f : Flight) (s : State) (e : Event) → choice f s e ≡ Rest → happens f s e ≡ record (heard f s e) { wanted = s.wanted }
unfolding happens led heard
rest-leads f s e same = rw same refl

pub wait-leads : (f : Flight) (s : State) (e : Event) → choice f s e ≡ Wait → happens f s e ≡ record (heard f s e) { wanted = true }
unfolding happens led
wait-leads f s e same = rw same refl

pub rest-told : (f : Flight) (s : State) (e : Event) (d : ℕ) → choice f s e ≡ Rest → orders_to d (says f s e) ≡ []
unfolding done
rest-told f s e d same = orders_to-says d f s e ∙ rw same refl

pub wait-told : (f : Flight) (s : State) (e : Event) (d : ℕ) → choice f s e ≡ Wait → orders_to d (says f s e) ≡ []
unfolding done
wait-told f s e d same = orders_to-says d f s e ∙ rw same refl

wait-noted : (f : Flight) (s : State) (e : Event) → choice f s e ≡ Wait → Contains (says f s e) (Noted (awaited f))
unfolding says done
wait-noted f s e same =
    Contains-append_right (map Noted (notes f s e)) (done f (heard f s e) (choice f s e)) (Noted (awaited f))
    (subst (λ c. Contains (done f (heard f s e) c) (Noted (awaited f))) (sym same) (0, omega arith, refl))

rest-waits : (f : Flight) (s : State) (e : Event) → s.phase ≡ Steps → s.wanted ≡ true → choice f s e ≡ Rest → Waits f s e
rest-waits f s e p w same =
    let is = rest-leads f s e same in
    record {
      nothing = λ d. rest-told f s e d same;
      phase = ap (λ (t : State). t.phase) is ∙ (phase-heard f s e ∙ p);
      next = ap (λ (t : State). t.next) is ∙ next-heard f s e;
      wanted = ap (λ (t : State). t.wanted) is ∙ w;
      noted = λ first. (let no : true ≡ false = sym w ∙ first in absurd (cc));
    }

wait-waits : (f : Flight) (s : State) (e : Event) → s.phase ≡ Steps → choice f s e ≡ Wait → Waits f s e
wait-waits f s e p same =
    let is = wait-leads f s e same in
    record {
      nothing = λ d. wait-told f s e d same;
      phase = ap (λ (t : State). t.phase) is ∙ (phase-heard f s e ∙ p);
      next = ap (λ (t : State). t.next) is ∙ next-heard f s e;
      wanted = ap (λ (t : State). t.wanted) is;
      noted = λ first. wait-noted f s e same;
    }

-- a landing that is wanted goes out, or is waited for
pub lands-or-waits : (f : Flight) (s : State) (e : Event) → s.phase ≡ Steps → is_stop e ≡ false → s.wanted || (is_land e || is_fault f s e) ≡ true → LandsOrWaits f s e
lands-or-waits f s e p go land = record {
  lands = λ may. lands-where f s e (is ∙ ap (λ b. cond b Descend (cond (heard f s e).wanted Rest Wait)) (may-is f (heard f s e) may));
  waits = λ no. by_wanted s.wanted refl
      (is ∙ (ap (λ b. cond b Descend (cond (heard f s e).wanted Rest Wait)) (not-may f (heard f s e) no) ∙ ap (λ b. cond b Rest Wait) (wanted-heard f s e)));
} where
  is : choice f s e ≡ on_landing f (heard f s e)
  is = wants f s e p go land

  by_wanted : (b : Bool) → s.wanted ≡ b → choice f s e ≡ cond s.wanted Rest Wait → Waits f s e
  by_wanted true w same = rest-waits f s e p w (same ∙ ap (λ b. cond b Rest Wait) w)
  by_wanted false w same = wait-waits f s e p (same ∙ ap (λ b. cond b Rest Wait) w)

or-right : (a b : Bool) → b ≡ true → a || b ≡ true
or-right true b e = refl
or-right false b e = e

or-left : (a b : Bool) → a ≡ true → a || b ≡ true
or-left true b e = refl
or-left false b e = absurd (cc)

-- one that was wanted before
pub still-wanted : (f : Flight) (s : State) (e : Event) → s.phase ≡ Steps → is_stop e ≡ false → s.wanted ≡ true → LandsOrWaits f s e
still-wanted f s e p go w = lands-or-waits f s e p go (or-left s.wanted (is_land e || is_fault f s e) w)

land-now : (f : Flight) (s : State) → s.phase ≡ Steps → LandsOrWaits f s (Said signal.Land)
land-now f s p = lands-or-waits f s (Said signal.Land) p refl (or-right s.wanted (true || is_fault f s (Said signal.Land)) refl)

pub no_stop : (e : Event) → e ≢ Said signal.Stop → is_stop e ≡ false
no_stop (Said signal.Go) h = refl
no_stop (Said signal.Land) h = refl
no_stop (Said signal.Stop) h = absurd (h refl)
no_stop (Clock ms) h = refl
no_stop (Seen d x) h = refl
no_stop (Answered d status) h = refl

pub fault_law : FaultLaw
fault_law f s e p h fault =
    lands-or-waits f s e p (no_stop e h) (or-right s.wanted (is_land e || is_fault f s e) (or-right (is_land e) (is_fault f s e) fault))

-- ---- off the way

-- what may be done in a phase that isn't on the way, and where it leads
pub record Off_the_way (f : Flight) (h : State) (d : ℕ) (c : Choice) : Type 0 where
  pub last : All IsLast (orders_to d (done f h c))
  pub leads : (led f h c).phase ≢ Steps

last-one : (o : Order) → IsLast o → All IsLast (o ∷ [])
last-one o h = All-cons IsLast o [] h (All-nil IsLast)

off-rest : (f : Flight) (h : State) (d : ℕ) → h.phase ≢ Steps → Off_the_way f h d Rest
unfolding done led
off-rest f h d n = record { last = All-nil IsLast; leads = n }

off-cut : (f : Flight) (h : State) (d : ℕ) → Off_the_way f h d Cut
unfolding done led
off-cut f h d = record { last = last-one order.Halt (inr refl); leads = λ e. cc }

off-quit : (f : Flight) (h : State) (d : ℕ) → Off_the_way f h d Quit
unfolding done led
off-quit f h d = record { last = last-one order.Disarm (inl refl); leads = λ e. cc }

off-finish : (f : Flight) (h : State) (d : ℕ) → Off_the_way f h d Finish
unfolding done led
off-finish f h d = record { last = All-nil IsLast; leads = λ e. cc }

off-chosen : (f : Flight) (h : State) (e : Event) (fault : Bool) (d : ℕ) (p : Phase) → h.phase ≡ p → p ≢ Steps → Off_the_way f h d (chosen f h e fault p)
off-chosen f h e fault d Steps same n = absurd (n refl)
off-chosen f h e fault d Landing same n =
    landing-has (Off_the_way f h d) f h e fault (λ s. off-cut f h d) (λ s. off-quit f h d) (λ s. off-rest f h d (λ q. n (sym same ∙ q)))
off-chosen f h e fault d Off same n =
    off-has (Off_the_way f h d) f h e fault (λ s. off-cut f h d) (λ s. off-finish f h d) (λ s. off-rest f h d (λ q. n (sym same ∙ q)))
off-chosen f h e fault d Halted same n =
    halted-has (Off_the_way f h d) f h e fault (off-finish f h d) (off-rest f h d (λ q. n (sym same ∙ q)))
off-chosen f h e fault d Ended same n = off-rest f h d (λ q. n (sym same ∙ q))

pub off-event : (f : Flight) (s : State) (e : Event) (d : ℕ) → s.phase ≢ Steps → Off_the_way f (heard f s e) d (choice f s e)
unfolding choice heard
off-event f s e d n = off-chosen f (heard f s e) e (is_fault f s e) d s.phase refl n

land-afterwards : (f : Flight) (s : State) → s.phase ≢ Steps → (events : List Event) (d : ℕ) → All IsLast (orders_to d (sent f s events))
unfolding happens
land-afterwards f s n [] d = All-nil IsLast
land-afterwards f s n (e ∷ es) d =
    let one = off-event f s e d n in
    rw (orders_to-append d (says f s e) (sent f (happens f s e) es))
    (All-append IsLast (orders_to d (says f s e)) (orders_to d (sent f (happens f s e) es))
    (rw (orders_to-says d f s e) one.last) (land-afterwards f (happens f s e) one.leads es d))

land-each : (f : Flight) (n d : ℕ) → has_risen f n d ≡ true → d < drones f → orders_to d (frames_from 0 (landings f n)) ≡ land_order f ∷ []
land-each f n d up l = orders_to-landing f n d l ∙ ap (λ b. only_if b (land_order f)) up

pub land_law : LandLaw
land_law = record { now = land-now; afterwards = land-afterwards; each = land-each }

-- ---- halt

halt-told : (f : Flight) (s : State) (d : ℕ) → choice f s (Said signal.Stop) ≡ Cut → orders_to d (says f s (Said signal.Stop)) ≡ order.Halt ∷ []
unfolding done
halt-told f s d same = rw (orders_to-says d f s (Said signal.Stop), same) refl

cuts : (f : Flight) (s : State) → (s.phase ≡ Steps) ⊎ ((s.phase ≡ Landing) ⊎ (s.phase ≡ Off)) → choice f s (Said signal.Stop) ≡ Cut
unfolding choice
cuts f s (inl p) = rw p refl
cuts f s (inr (inl p)) = rw p refl
cuts f s (inr (inr p)) = rw p refl

-- halted, or ended
abbrev pub is_stopped : Phase → Bool
is_stopped Halted = true
is_stopped Ended = true
is_stopped p = false

record Stopped (f : Flight) (h : State) (d : ℕ) (c : Choice) : Type 0 where
  silent : orders_to d (done f h c) ≡ []
  leads : is_stopped (led f h c).phase ≡ true

stopped-chosen : (f : Flight) (h : State) (e : Event) (fault : Bool) (d : ℕ) (p : Phase) → h.phase ≡ p → is_stopped p ≡ true → Stopped f h d (chosen f h e fault p)
unfolding done led
stopped-chosen f h e fault d Steps same n = absurd (cc)
stopped-chosen f h e fault d Landing same n = absurd (cc)
stopped-chosen f h e fault d Off same n = absurd (cc)
stopped-chosen f h e fault d Halted same n =
    halted-has (Stopped f h d) f h e fault (record { silent = refl; leads = refl }) (record { silent = refl; leads = ap is_stopped same })
stopped-chosen f h e fault d Ended same n = record { silent = refl; leads = ap is_stopped same }

stopped-event : (f : Flight) (s : State) (e : Event) (d : ℕ) → is_stopped s.phase ≡ true → Stopped f (heard f s e) d (choice f s e)
unfolding choice heard
stopped-event f s e d n = stopped-chosen f (heard f s e) e (is_fault f s e) d s.phase refl n

pub stopped-all : (f : Flight) (s : State) → is_stopped s.phase ≡ true → (events : List Event) (d : ℕ) → orders_to d (sent f s events) ≡ []
unfolding happens
stopped-all f s n [] d = refl
stopped-all f s n (e ∷ es) d =
    let one = stopped-event f s e d n in
    let rest = stopped-all f (happens f s e) one.leads es d in
    let now : orders_to d (says f s e) ≡ [] = orders_to-says d f s e ∙ one.silent in
    orders_to-append d (says f s e) (sent f (happens f s e) es) ∙ rw (now, rest) refl

stop-leads : (f : Flight) (h : State) (fault : Bool) (p : Phase) → h.phase ≡ p → is_stopped (led f h (chosen f h (Said signal.Stop) fault p)).phase ≡ true
unfolding led
stop-leads f h fault Steps same = refl
stop-leads f h fault Landing same = refl
stop-leads f h fault Off same = refl
stop-leads f h fault Halted same =
    halted-has (λ c. is_stopped (led f h c).phase ≡ true) f h (Said signal.Stop) fault refl (ap is_stopped same)
stop-leads f h fault Ended same = ap is_stopped same

stop-stopped : (f : Flight) (s : State) → is_stopped (happens f s (Said signal.Stop)).phase ≡ true
unfolding happens choice heard
stop-stopped f s = stop-leads f (heard f s (Said signal.Stop)) (is_fault f s (Said signal.Stop)) s.phase refl

pub halt_law : HaltLaw
halt_law = record {
  now = λ f s p d. halt-told f s d (cuts f s p);
  afterwards = λ f s events d. stopped-all f (happens f s (Said signal.Stop)) (stop-stopped f s) events d;
}

-- ---- kept

kept-led : (f : Flight) (h : State) (c : Choice) → (led f h c).kept ≡ h.kept
unfolding led
kept-led f h Rest = refl
kept-led f h Begin = refl
kept-led f h Descend = refl
kept-led f h Wait = refl
kept-led f h Cut = refl
kept-led f h Quit = refl
kept-led f h Finish = refl

pub kept-event : (f : Flight) (s : State) (e : Event) → (happens f s e).kept ≡ (s.kept && not (harms f s e))
unfolding happens heard
kept-event f s e = kept-led f (heard f s e) (choice f s e)

-- no event of these harms the show
abbrev pub none_harms : Flight → State → List Event → Bool
none_harms f s [] = true
none_harms f s (e ∷ es) = not (harms f s e) && none_harms f (happens f s e) es

pub kept-all : (f : Flight) (s : State) (events : List Event) → (after f s events).kept ≡ (s.kept && none_harms f s events)
kept-all f s [] = by_kept s.kept where
  by_kept : (b : Bool) → b ≡ (b && true)
  by_kept true = refl
  by_kept false = refl
kept-all f s (e ∷ es) =
    kept-all f (happens f s e) es
    ∙ (ap (λ b. b && none_harms f (happens f s e) es) (kept-event f s e)
    ∙ and_assoc s.kept (not (harms f s e)) (none_harms f (happens f s e) es))

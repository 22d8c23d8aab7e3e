-- What goes out is what the director says, and a flight that ends with 0 was told to each drone.
use Rattle.flight_link.proofs.Prelude.{◌≡◌, ◌⊎◌, inl, inr, ℕ, suc, ◌≤◌, true, false, List, [], ◌∷◌, ◌++◌, length, Some, refl, sym, ◌∙◌, arith, ◌==◌, Contains, Event, Frame, Flight, sent, start, ended, end_in, sent_over, BeginsWith, FlightFails, FlightGives, dialogue_of, item_limit, To, ToAll, Noted, Over, ends_zero}
use Rattle.link_frames.specs.Frames.{end_frame}
use Rattle.flight_model.specs.Law.{OverLaw}
use Rattle.flight_link.specs.Orders.{OrdersLaw, Says, SaysWhole}
use Rattle.flight_link.proofs.EventLemmas.{longer}
use Rattle.link_dialogue.proofs.ItemLemmas.{less_or_not}
use Rattle.flight_link.proofs.StatusLemmas.{same_status}

abbrev says_ended : (f : Flight) (bytes : List ℕ) (status : ℕ) (output : List ℕ) → FlightGives f bytes status output → Says f bytes status output
says_ended f bytes status output g = record { events = g.items; each = g.takes.each; stand = (g.rest, g.takes.cut); said = g.sends }

says_failed : (f : Flight) (taken output : List ℕ) → FlightFails f taken output → Says f taken 6 output
says_failed f taken output g = record { events = g.items; each = g.takes.each; stand = (g.rest, g.takes.cut); said = g.sends }

-- of two fronts of one list one begins the other
fronts : (a b c d : List ℕ) → a ++ b ≡ c ++ d → BeginsWith a c ⊎ BeginsWith c a
fronts a b c d is = elim (less_or_not (length a) (length c)) [
  | inl l ↦ inl (longer a b c d (omega (arith, l)) is)
  | inr l ↦ inr (longer c d a b l (sym is))
]

says_cut : (f : Flight) (bytes : List ℕ) (status : ℕ) (output part : List ℕ) (s : Says f bytes status output) → BeginsWith part output →
    BeginsWith part (sent_over f s.events) ⊎ BeginsWith (sent_over f s.events) part
says_cut f bytes status output part s begins = fronts part begins.0 (sent_over f s.events) (end_frame status) (sym begins.1 ∙ s.said)

-- ---- status 0

later : (x : Frame) (frames : List Frame) (y : Frame) → Contains frames y → Contains (x ∷ frames) y
later x frames y c = (suc c.0, omega (arith, c.1), c.2)

-- the end that gives 0 is that of a flight that was flown and kept
flown_in : (frames : List Frame) → end_in frames ≡ Some 0 → Contains frames (Over true true)
flown_in [] is = absurd (cc)
flown_in (To d o ∷ frames) is = later (To d o) frames (Over true true) (flown_in frames is)
flown_in (ToAll o ∷ frames) is = later (ToAll o) frames (Over true true) (flown_in frames is)
flown_in (Noted n ∷ frames) is = later (Noted n) frames (Over true true) (flown_in frames is)
flown_in (Over true true ∷ frames) is = (0, omega arith, refl)
flown_in (Over true false ∷ frames) is = absurd (let e = same_status 20 0 is in omega (arith, e))
flown_in (Over false kept ∷ frames) is = absurd (let e = same_status 20 0 is in omega (arith, e))

pub zero_said : (f : Flight) (events : List Event) → ended f events ≡ Some 0 → Contains (sent f (start f) events) (Over true true)
unfolding ended
zero_said f events is = flown_in (sent f (start f) events) is

says_whole : OverLaw → (f : Flight) (bytes output : List ℕ) → 1 ≤ length f.steps → FlightGives f bytes 0 output → SaysWhole f bytes output
says_whole law f bytes output some g = record {
  says = says_ended f bytes 0 output g;
  told = law f some g.items true (zero_said f g.items (ends_zero (dialogue_of f) (ended f g.items) (length g.items == item_limit) g.rest g.ends));
}

pub orders_law : OverLaw → OrdersLaw
orders_law law = record { ended = says_ended; failed = says_failed; cut = says_cut; whole = says_whole law }

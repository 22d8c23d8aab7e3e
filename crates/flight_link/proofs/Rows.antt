-- What a flight sends and how it ends: small flights, written out by hand from docs/PROMISES.md, "Its frames".
use Rattle.flight_link.proofs.Prelude.{◌≡◌, ◌<◌, ℕ, true, zero, suc, [], ◌∷◌, List, None, take, refl, arith, Clock, Event, FrameLaw, IsEvent, Said, drones, ended, sent_over, FlightGives, dialogue_of, one}
use Rattle.std.proofs.lemmas.List.Elements.{All-cons, All-nil}
use Rattle.flight_model.specs.declared.events.Signal.TheVariants as signal
unfoldable use Rattle.flight_model.specs.Legs.{steps_of}
unfoldable use Rattle.flight_model.specs.Samples.{is_fit_by, is_kept}
unfoldable use Rattle.flight_model.specs.Directors.{tracks_after, heard, is_due, notes, is_fault, choice, done, led, happens, says}
unfoldable use Rattle.flight_model.specs.Example.{flight}
use Rattle.flight_link.proofs.FlightLemmas.{is_dialogue}

-- no byte: the flight goes on, and nothing was said
nothing : FlightGives (flight true) [] 8 (0x45 ∷ 8 ∷ [])
unfolding ended sent_over
nothing = record {
  items = [];
  rest = [];
  takes = record { cut = refl; each = All-nil (IsEvent (drones (flight true))); few = omega arith; going = λ n below. absurd (omega (arith, below)) };
  ends = refl;
  sends = refl;
}

-- the operator says stop, five seconds pass, and what comes after that isn't judged
abbrev stopped : List Event
stopped = Said signal.Stop ∷ Clock 5000 ∷ []

abbrev bytes : List ℕ
bytes = 4 ∷ 2 ∷ 1 ∷ 0x88 ∷ 0x13 ∷ 9 ∷ []

-- all motors off, and the end of a flight that wasn't flown
abbrev output : List ℕ
output = 2 ∷ 5 ∷ 4 ∷ 0 ∷ 0x45 ∷ 20 ∷ []

row : FlightGives (flight true) bytes 20 output
unfolding ended sent_over flight steps_of tracks_after heard is_due notes is_fault choice done led happens says is_fit_by is_kept
row = record {
  items = stopped;
  rest = 9 ∷ [];
  takes = record { cut = refl; each = All-cons (IsEvent 2) (Said signal.Stop) (Clock 5000 ∷ []) tt (All-cons (IsEvent 2) (Clock 5000) [] (omega arith) (All-nil (IsEvent 2))); few = omega arith; going = before };
  ends = refl;
  sends = refl;
}
  where
    before : (n : ℕ) → n < 2 → ended (flight true) (take n stopped) ≡ None
    before zero below = refl
    before (suc zero) below = refl
    before (suc (suc n)) below = absurd (omega (arith, below))

-- so it doesn't end with 0, whatever it sends
not_zero : FrameLaw → (others : List ℕ) → FlightGives (flight true) bytes 0 others → ⊥
not_zero law others g = let same = (one (dialogue_of (flight true)) (is_dialogue law (flight true)) bytes 20 0 output others row g).0 in omega (arith, same)

-- nor does it send the end alone
not_short : FrameLaw → (status : ℕ) → FlightGives (flight true) bytes status (4 ∷ 0 ∷ 0x45 ∷ 20 ∷ []) → ⊥
not_short law status g = let same = (one (dialogue_of (flight true)) (is_dialogue law (flight true)) bytes 20 status output _ row g).1 in cc

-- Three shows are flown, or are no flight.
use Rattle.show_direct.proofs.Prelude.{◌≡◌, ◌≢◌, inl, inr, ℕ, ◌+◌, ◌≤◌, Bool, List, [], ◌∷◌, ◌++◌, Contains, drop, length, length-append, Option, Some, None, Ok, Err, ap, refl, sym, subst, arith, All-cons, All-contains, All-nil, PlainShow, buffer_bytes, Flight, FlightFault, StepsError, RunGives, dialogue_of, Held, Told, Wrote, Span, outcome, FlightOptions, fault_of, flight_of, exchange_by, flight_exchange, no_flight_byte, no_flight_bytes, Carries, FlightMade, FlightRead, coming, direct_statuses, left_of, since, unflown_by}
use Rattle.flight_steps.specs.declared.faults.FlightFault.TheVariants as cause
use Rattle.flight_steps.specs.declared.faults.StepsError.TheVariants as error
use Rattle.show_direct.proofs.CarryLemmas.{carried_end, carried_memory}
use Rattle.show_direct.proofs.FlightLemmas.{are_flight}

-- the statuses of a flight are among those of `direct`, and none is 1
abbrev IsAmong : ℕ → Type 0
IsAmong status = Contains direct_statuses status × (status ≢ 1)

among_of : (status : ℕ) → Contains (0 ∷ 6 ∷ 7 ∷ 8 ∷ 11 ∷ 13 ∷ 20 ∷ []) status → IsAmong status
among_of status known = All-contains IsAmong (0 ∷ 6 ∷ 7 ∷ 8 ∷ 11 ∷ 13 ∷ 20 ∷ []) status
    (All-cons IsAmong 0 (6 ∷ 7 ∷ 8 ∷ 11 ∷ 13 ∷ 20 ∷ []) ((0, omega arith, refl), λ e. omega (arith, e))
    (All-cons IsAmong 6 (7 ∷ 8 ∷ 11 ∷ 13 ∷ 20 ∷ []) ((5, omega arith, refl), λ e. omega (arith, e))
    (All-cons IsAmong 7 (8 ∷ 11 ∷ 13 ∷ 20 ∷ []) ((6, omega arith, refl), λ e. omega (arith, e))
    (All-cons IsAmong 8 (11 ∷ 13 ∷ 20 ∷ []) ((7, omega arith, refl), λ e. omega (arith, e))
    (All-cons IsAmong 11 (13 ∷ 20 ∷ []) ((10, omega arith, refl), λ e. omega (arith, e))
    (All-cons IsAmong 13 (20 ∷ []) ((12, omega arith, refl), λ e. omega (arith, e))
    (All-cons IsAmong 20 [] ((18, omega arith, refl), λ e. omega (arith, e)) (All-nil IsAmong))))))))
    known

-- What a flight through frames says of the bytes that came.
pub record Flown (f : Flight) (bytes left : List ℕ) (ended : Bool) (m : Span) (status : ℕ) : Type 0 where
  pub gives : RunGives (dialogue_of f) (Some bytes) (Some left) ended m.told.faults m.tells.faults m.writes_failed m.writes_failed_after m.written m.written_after status
  pub known : Contains (0 ∷ 6 ∷ 7 ∷ 8 ∷ 11 ∷ 13 ∷ 20 ∷ []) status
  pub reads_later : m.told.faults ≤ m.tells.faults
  pub writes_later : m.writes_failed ≤ m.writes_failed_after

-- a flight was flown
flown : (o : FlightOptions) (up show down : PlainShow) (bytes left : List ℕ) (ended : Bool) (m : Span) (status : ℕ) → fault_of o up show down ≡ None →
    Flown (flight_of o up show down) bytes left ended m status → Carries (exchange_by o up show down None) bytes left ended m status
flown o up show down bytes left ended m status none f = record {
  gives = λ j. (let it = f.gives.ends j.1 j.2 in (outcome status it.0, it.1, refl, it.2));
  one = λ one. absurd ((among_of status f.known).1 one);
  six = λ six.
      (let it = f.gives.six six in
      (it.2.1, record { rose = it.0; unmet = it.1; taken = it.2.0; is = it.2.2; stops = it.2.3 }, it.2.4));
  seven = λ seven.
      (let it = f.gives.seven seven in (
        it.0,
        (
          it.1.0,
          it.1.1,
          elim it.1.2 [
            | inl gives ↦ inl (outcome gives.0 it.1.0, gives.1, refl)
            | inr failed ↦ inr (record { rose = failed.0; unmet = failed.1; taken = failed.2.0; is = failed.2.1; stops = failed.2.2 })
          ],
        ),
      ));
  prompt = λ seven taken sent before split old new. f.gives.prompt bytes left before taken sent refl refl split old new;
  ends = λ j. f.gives.stops;
  begun = λ began. are_flight o up show down none;
  known = (among_of status f.known).0;
  reads_later = f.reads_later;
  writes_later = f.writes_later;
}

pub carried_flight : (o : FlightOptions) (up show down : PlainShow) (f : Flight) (bytes left : List ℕ) (ended : Bool) (m : Span) (status : ℕ) →
    (f ≡ flight_of o up show down) × (fault_of o up show down ≡ None) → Flown f bytes left ended m status → Carries (flight_exchange o up show down) bytes left ended m status
carried_flight o up show down f bytes left ended m status made is =
    subst (λ (why : Option FlightFault). Carries (exchange_by o up show down why) bytes left ended m status) (sym made.1)
    (flown o up show down bytes left ended m status made.1 (subst (λ (g : Flight). Flown g bytes left ended m status) made.0 is))

-- a cause's frame begins with its own byte
frame_begins : (f : FlightFault) → no_flight_bytes f ≡ no_flight_byte ∷ drop 1 (no_flight_bytes f)
frame_begins (cause.OtherDrone w d) = refl
frame_begins (cause.Gap s d) = refl
frame_begins (cause.Restless w d cue) = refl
frame_begins (cause.Still w d) = refl
frame_begins (cause.Slanted w d) = refl
frame_begins (cause.Narrow near stray) = refl
frame_begins (cause.OtherEllipsoid w) = refl

-- The first cause and the end frame of 19 were written, and nothing was read.
carried_fault : (o : FlightOptions) (up show down : PlainShow) (fault : FlightFault) (bytes left : List ℕ) (ended : Bool) (m : Span) (status : ℕ) → fault_of o up show down ≡ Some fault →
    length bytes ≤ length left + buffer_bytes → m.told.faults ≤ m.tells.faults → Wrote 19 (no_flight_bytes fault) m.written m.written_after m.writes_failed m.writes_failed_after status →
    Carries (flight_exchange o up show down) bytes left ended m status
carried_fault o up show down fault bytes left ended m status made few later wrote =
    subst (λ (why : Option FlightFault). Carries (exchange_by o up show down why) bytes left ended m status) (sym made)
    (carried_end (exchange_by o up show down (Some fault)) bytes left ended m 19 no_flight_byte (drop 1 (no_flight_bytes fault)) status (ap (outcome 19) (sym (frame_begins fault))) (inr refl)
    (17, omega arith, refl) ((λ e. omega (arith, e)), (λ e. omega (arith, e)), (λ e. omega (arith, e))) (λ e. omega (arith, e)) few (λ taken sent split. tt) later
    (subst (λ (out : List ℕ). Wrote 19 out m.written m.written_after m.writes_failed m.writes_failed_after status) (frame_begins fault) wrote))

-- where nothing was read, a reader holds few of the bytes that came
pub few_unread : (waiting left : List ℕ) → length waiting ≤ buffer_bytes → length (waiting ++ left) ≤ length left + buffer_bytes
few_unread waiting left few = omega (arith, few, length-append waiting left)

-- Three shows are a flight, and no more was read.
pub flight_read : (o : FlightOptions) (up show down : PlainShow) (all : List ℕ) (holds : Held) (u : Told) (f : Flight) → FlightMade o up show down (Ok f) →
    FlightRead o all (flight_exchange o up show down) holds u holds u (Ok f)
flight_read o up show down all holds u f made = (up, show, down, made.0, made.1, λ left m status c. c)

-- They are none.
pub no_flight_read : (o : FlightOptions) (up show down : PlainShow) (all : List ℕ) (holds : Held) (u : Told) (e : StepsError) → length holds.waiting ≤ buffer_bytes → FlightMade o up show down (Err e) →
    FlightRead o all (flight_exchange o up show down) holds u holds u (Err (unflown_by e))
no_flight_read o up show down all holds u (error.Fault fault) few made m status wrote =
    carried_fault o up show down fault (coming holds all u) (left_of all u) holds.ended (since u (record m { tells = u })) status made (few_unread holds.waiting (left_of all u) few) (omega arith) wrote
no_flight_read o up show down all holds u error.Memory few made m status wrote =
    carried_memory (flight_exchange o up show down) (coming holds all u) (left_of all u) holds.ended (since u (record m { tells = u })) status (omega arith) wrote.0 wrote.1 wrote.2

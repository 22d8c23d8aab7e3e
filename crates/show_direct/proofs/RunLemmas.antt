-- What a run of `direct` is, from the exchange that was carried.
use Rattle.show_direct.proofs.Prelude.{◌≡◌, ◌⊎◌, inl, inr, ℕ, zero, suc, ◌+◌, ◌<◌, ◌≤◌, Bool, true, false, List, [], ◌++◌, length, Option, Some, None, refl, sym, ap, subst, ◌∙◌, arith, Appends, part_of, rest_of, ShowLaw, PlainShow, IsInput-now, comes, of_source, takes_at_most, takes_front, Held, buffer_bytes, TakesFront, Gives, MayGive, Told, Went, most_text, behaves_of, outcomes, IsOutcomeOf, IsSafe, IsVerb, OutcomeLaw, cut_of, IsJudged, IsSafeShow, Outcome, Run, Span, run_of, FlightOptions, FlightFault, AreFlight, fault_of, Exchange, FlyAsOne, HasBegun, direct_verb, exchange_by, show_exchange, up_exchange, Carries, IsCut, coming, left_of}
use Rattle.show_judge.specs.Runs.{Behaves, Does, IsStopped, Runs, TakesLittle}
use Rattle.show_direct.proofs.ExchangeLemmas.{led_on}
use Rattle.show_direct.proofs.ReadingLemmas.{of_some}

-- the run in which these bytes came, and these are left
abbrev pub run_over : List ℕ → List ℕ → Span → Run
run_over bytes left m =
    run_of (Some bytes) (Some left) m.told.faults m.tells.faults m.written m.written_after m.writes_failed m.writes_failed_after

-- ---- outcomes

-- an outcome of the exchange is one of the command, which differs from it in its headline
as_direct : (o : FlightOptions) (bytes : List ℕ) (p : Outcome) → (up_exchange o).gives bytes p → IsOutcomeOf (direct_verb o) (cut_of bytes) p
as_direct o bytes p (inl refused) = inl refused
as_direct o bytes p (inr comes) = inr (record { s = comes.s; short = comes.short; stands = comes.stands; gives = comes.gives })

-- with status 0 the show is safe
safe_direct : ShowLaw → (o : FlightOptions) (bytes : List ℕ) (p : Outcome) → (up_exchange o).gives bytes p → p.status ≡ 0 → (up_exchange o).begun bytes → IsSafe (direct_verb o) (cut_of bytes) p
safe_direct law o bytes p gives done begun =
    let led = led_on o.depth (λ u. show_exchange o u) bytes p gives done in
    let safe : IsSafeShow led.s = subst IsSafeShow (law.one (part_of bytes) begun.s led.s begun.accepts.stands led.accepts.stands) begun.safe in
    record {
      s = led.s;
      stands = led.accepts.stands;
      near = safe.near;
      promised = record { apart = safe.apart; uploads = safe.uploads };
      accepted = led.accepts.accepted;
      gives = led.gives;
      done = done;
    }

stopped : (o : FlightOptions) (bytes left : List ℕ) (m : Span) (output : List ℕ) → IsCut (up_exchange o) bytes left false m output → IsStopped (direct_verb o) (run_over bytes left m) output
stopped o bytes left m output cut = (cut.taken, left, cut.is, refl, cut.stops)

-- a status that is no failure is judged, or the program was out of memory
judged_or : (n : ℕ) → (n ≡ 6 → ⊥) → (n ≡ 7 → ⊥) → (n ≡ 1) ⊎ IsJudged n
judged_or zero six seven = inr ((λ e. omega (arith, e)), six, seven)
judged_or (suc zero) six seven = inl refl
judged_or (suc (suc n)) six seven = inr ((λ e. omega (arith, e)), six, seven)

-- ---- the run

pub runs_direct : ShowLaw → (o : FlightOptions) → IsVerb (direct_verb o) → (bytes left : List ℕ) (m : Span) (status : ℕ) → TakesFront (Some bytes) (Some left) →
    Carries (up_exchange o) bytes left false m status → Runs (direct_verb o) (run_over bytes left m) status
runs_direct law o is bytes left m status taken c =
    let one : OutcomeLaw (direct_verb o) = outcomes law (direct_verb o) is in
    record {
      outcome = λ j. (let it = c.gives j in (it.0, as_direct o bytes it.0 it.1, it.2, it.3));
      exact = λ quiet p is_p.
          elim (judged_or status (λ six. quiet.0 (c.six six).1.rose) (λ seven. quiet.1 (c.seven seven).0)) [
            | inl memory ↦ inr memory
            | inr j ↦
                let it = c.gives j in
                let same : it.0 ≡ p = one.one (cut_of bytes) it.0 p (as_direct o bytes it.0 it.1) is_p in
                inl (it.2 ∙ ap (λ (q : Outcome). q.status) same, subst (λ (q : Outcome). Appends m.written m.written_after q.output) same it.3)
          ];
      safe = λ zero.
          (let it = c.gives ((λ e. omega (arith, e, zero)), (λ e. omega (arith, e, zero)), (λ e. omega (arith, e, zero))) in
          (it.0, safe_direct law o bytes it.0 it.1 (sym it.2 ∙ zero) (c.begun (inr zero)), it.3));
      whole = λ zero all. absurd (cc);
      one = c.one;
      always = λ output none. absurd (cc);
      six = λ six. ((c.six six).1.rose, refl);
      stopped = λ six. (let it = c.six six in (it.0, stopped o bytes left m it.0 it.1, it.2));
      seven = λ seven.
          (let it = c.seven seven in (
            it.0,
            (
              it.1.0,
              elim it.1.2 [
                | inl gives ↦ inl (gives.0, as_direct o bytes gives.0 gives.1, gives.2)
                | inr cut ↦ inr (cut.rose, stopped o bytes left m it.1.0 cut)
              ],
              it.1.1,
            ),
          ));
      prompt = λ seven others sent carried.
          c.prompt seven others sent carried.old
          (of_some bytes (others ++ carried.later) carried.left ∙ ap (λ (xs : List ℕ). others ++ xs) (sym (of_some left carried.later carried.left_after)))
          carried.written carried.written_after;
      unread = λ none. absurd (cc);
      known = c.known;
      taken = taken;
      reads_later = c.reads_later;
      writes_later = c.writes_later;
    }

-- All that holds of the run.
pub behaves_direct : ShowLaw → (o : FlightOptions) → IsVerb (direct_verb o) → (bytes left : List ℕ) (m : Span) (status : ℕ) → TakesFront (Some bytes) (Some left) →
    Carries (up_exchange o) bytes left false m status → TakesLittle (direct_verb o) (run_over bytes left m) → Behaves (direct_verb o) (run_over bytes left m) status
behaves_direct law o is bytes left m status taken c little =
    behaves_of law (direct_verb o) is (run_over bytes left m) status (runs_direct law o is bytes left m status taken c) little (λ alone reads judged. absurd (cc)) (λ j. c.ends j)

flight_begun : (o : FlightOptions) (up show down : PlainShow) (why : Option FlightFault) (bytes : List ℕ) → (exchange_by o up show down why).begun bytes → AreFlight o up show down
flight_begun o up show down None bytes begun = begun
flight_begun o up show down (Some fault) bytes begun = absurd begun

-- What holds of the texts once the flight began.
pub fly_as_one : (o : FlightOptions) (bytes : List ℕ) → (up_exchange o).begun bytes → FlyAsOne o bytes
fly_as_one o bytes up =
    let show = up.begun in
    let down = show.begun in
    record {
      up = record { s = up.s; stands = up.accepts.stands; near = up.safe.near; apart = up.safe.apart };
      show = record { s = show.s; stands = show.accepts.stands; near = show.safe.near; apart = show.safe.apart };
      down = record { s = down.s; stands = down.accepts.stands; near = down.safe.near; apart = down.safe.apart };
      flight = flight_begun o up.s show.s down.s (fault_of o up.s show.s down.s) (rest_of (rest_of (rest_of bytes))) down.begun;
    }

-- ---- of whatever source

-- a reader that holds nothing yet
abbrev pub held_new : Held
held_new = record { waiting = []; sound = true; ended = false; lines = true; at_line = true }

-- what was carried from such a reader on was carried from its source on
begins_new : (x : Exchange) (held : Held) (all : List ℕ) (t : Told) (left : List ℕ) (m : Span) (status : ℕ) → held ≡ held_new →
    Carries x (coming held all t) left held.ended m status → Carries x (left_of all t) left false m status
begins_new x held all t left m status new c = subst (λ (h : Held). Carries x (coming h all t) left h.ended m status) new c

little_direct : (o : FlightOptions) (held : Held) (met : Bool) (m : Span) (all : List ℕ) → held ≡ held_new → Gives m.told m.tells → MayGive met m.tells all →
    (most_text < length (part_of (coming held all m.told)) → length m.tells.given ≤ length m.told.given + (most_text + 4 + buffer_bytes)) →
    TakesLittle (direct_verb o) (run_over (left_of all m.told) (left_of all m.tells) m)
little_direct o held met m all new gives may few (inl alone) = absurd (cc)
little_direct o held met m all new gives may few (inr long) =
    takes_at_most met m.told m.tells all (most_text + 4 + buffer_bytes) gives may
    (few (subst (λ (h : Held). most_text < length (part_of (coming h all m.told))) (sym new) long))

-- Carried from a new reader on, it is what the command does.
pub does_direct : ShowLaw → (o : FlightOptions) → IsVerb (direct_verb o) → (held : Held) (met : Bool) (m : Span) (status : ℕ) → held ≡ held_new → Went held.ended met m.told m.tells →
    ((all : List ℕ) → MayGive met m.tells all → Carries (up_exchange o) (coming held all m.told) (left_of all m.tells) held.ended m status) →
    ((all : List ℕ) → MayGive met m.tells all → most_text < length (part_of (coming held all m.told)) → length m.tells.given ≤ length m.told.given + (most_text + 4 + buffer_bytes)) →
    Does (direct_verb o) m status
does_direct law o is held met m status new went carries few = record {
  gives = went.gives;
  behaves = λ all input.
      (let may = of_source met m.tells all went.at_end input in
      behaves_direct law o is (left_of all m.told) (left_of all m.tells) m status (takes_front met m.told m.tells all went.gives may)
      (begins_new (up_exchange o) held all m.told (left_of all m.tells) m status new (carries all may)) (little_direct o held met m all new went.gives may (few all may)));
}

-- And where the flight began, or ended with 0, the texts that the source gave are those of one flight.
pub begun_direct : (o : FlightOptions) (held : Held) (met : Bool) (m : Span) (status : ℕ) (given : List ℕ) → held ≡ held_new → Went held.ended met m.told m.tells →
    ((all : List ℕ) → MayGive met m.tells all → Carries (up_exchange o) (coming held all m.told) (left_of all m.tells) held.ended m status) →
    m.tells.given ≡ m.told.given ++ given → HasBegun m.written m.written_after ⊎ (status ≡ 0) → FlyAsOne o given
begun_direct o held met m status given new went carries is began =
    let all = m.tells.given in
    let may = of_source met m.tells all went.at_end (IsInput-now m.tells) in
    let c = begins_new (up_exchange o) held all m.told (left_of all m.tells) m status new (carries all may) in
    subst (FlyAsOne o) (comes m.told all given is) (fly_as_one o (left_of all m.told) (c.begun began))

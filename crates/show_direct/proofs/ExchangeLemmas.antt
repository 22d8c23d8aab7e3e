-- The laws of exchanges, and of the commands that they are.
use Rattle.show_direct.proofs.Prelude.{◌≡◌, ◌==◌, inl, inr, ℕ, List, [], ◌++◌, length, Option, Some, None, refl, sym, ap, subst, ◌∙◌, arith, All-nil, option_map, part_of, rest_of, ShowLaw, PlainShow, end_frame, Refusal, FlightFault, EndsWith, item_limit, FlightGives, FlightLinkLaw, dialogue_of, ended, sent_over, refused_some, flies_text, outcomes, IsOutcomeOf, IsVerb, OutcomeLaw, ShowGives, said, show_refusal, text_refusal, cut_of, Outcome, outcome, FlightOptions, flight_of, no_flight_bytes, Accepts, Exchange, IsExchange, text_exchange, text_verb, text_ways, exchange_by}

-- outcomes of one status and one output are one
outcome_by : (o p : Outcome) → o.status ≡ p.status → o.output ≡ p.output → o ≡ p
outcome_by o p status output = ap (λ (n : ℕ). outcome n o.output) status ∙ ap (outcome p.status) output

-- ---- a text, and what it leads to

-- a command that begins with a text has its laws where what a show leads to has them
pub is_text_verb : (depth : ℕ) (next : PlainShow → Exchange) → ((s : PlainShow) → IsExchange (next s)) → IsVerb (text_verb depth next)
is_text_verb depth next is = record {
  one = λ s cut o p first second. (is s).one cut.frames o p first second;
  some = λ s cut known. (is s).some cut.frames;
  done = λ s cut o gives succeeds. (is s).done cut.frames o gives succeeds;
  apart = λ d s cut searched apart. apart;
  headline = λ input o old new safe appended. flies_text (text_verb depth next) input o safe safe.promised;
}

-- and so has its exchange
pub is_text_exchange : ShowLaw → (depth : ℕ) (next : PlainShow → Exchange) → ((s : PlainShow) → IsExchange (next s)) → IsExchange (text_exchange depth next)
is_text_exchange show depth next is =
    let law : OutcomeLaw (text_verb depth next) = outcomes show (text_verb depth next) (is_text_verb depth next is) in
    record {
      one = λ bytes o p first second. law.one (cut_of bytes) o p first second;
      some = λ bytes. law.some (cut_of bytes) (λ s stands accepted. tt);
      done = λ bytes o gives succeeds. law.complete (cut_of bytes) o succeeds gives;
    }

-- ---- status 0

-- What a text led to with status 0: its show was accepted, and led to that.
pub record LedOn (depth : ℕ) (next : PlainShow → Exchange) (bytes : List ℕ) (o : Outcome) : Type 0 where
  pub s : PlainShow
  pub accepts : Accepts depth bytes s
  pub gives : (next s).gives (rest_of bytes) o

-- what is said of a refusal has another status
never_said : (depth : ℕ) (next : PlainShow → Exchange) (r : Option Refusal) (o : Outcome) → option_map (said (text_verb depth next)) r ≡ Some o → o.status ≡ 0 → ⊥
never_said depth next None o is done = absurd (cc)
never_said depth next (Some r) o is done =
    let same : said (text_verb depth next) r ≡ o = cc in
    refused_some r (ap (λ (p : Outcome). p.status) same ∙ done)

led_by : (depth : ℕ) (next : PlainShow → Exchange) (bytes : List ℕ) (o : Outcome) (s : PlainShow) (r : Option Refusal) → show_refusal (text_ways depth) (cut_of bytes) s ≡ r →
    ShowGives (text_verb depth next) r s (cut_of bytes) o → o.status ≡ 0 → (show_refusal (text_ways depth) (cut_of bytes) s ≡ None) × (next s).gives (rest_of bytes) o
led_by depth next bytes o s None is gives done = (is, gives)
led_by depth next bytes o s (Some r) is gives done = absurd (refused_some r (sym (ap (λ (p : Outcome). p.status) gives) ∙ done))

pub led_on : (depth : ℕ) (next : PlainShow → Exchange) (bytes : List ℕ) (o : Outcome) → IsOutcomeOf (text_verb depth next) (cut_of bytes) o → o.status ≡ 0 → LedOn depth next bytes o
led_on depth next bytes o (inl refused) done = absurd (never_said depth next (text_refusal (part_of bytes)) o refused done)
led_on depth next bytes o (inr comes) done =
    let led = led_by depth next bytes o comes.s (show_refusal (text_ways depth) (cut_of bytes) comes.s) refl comes.gives done in
    record { s = comes.s; accepts = record { short = comes.short; stands = comes.stands; accepted = led.0 }; gives = led.1 }

-- ---- the flight

flight_done : FlightLinkLaw → (o : FlightOptions) (up show down : PlainShow) (bytes : List ℕ) (p : Outcome) → (exchange_by o up show down None).gives bytes p →
    (exchange_by o up show down None).succeeds bytes → p.status ≡ 0
flight_done law o up show down bytes p gives (events, rest, takes, over) =
    let f = flight_of o up show down in
    let ends : EndsWith (dialogue_of f) (ended f events) (length events == item_limit) rest 0 = rw over refl in
    let wanted : FlightGives f bytes 0 (sent_over f events ++ end_frame 0) =
    record { items = events; rest = rest; takes = takes; ends = ends; sends = refl } in
    (law.one f bytes p.status 0 p.output (sent_over f events ++ end_frame 0) gives wanted).0

-- three shows have one exchange, whether or not they are a flight
pub is_exchange_by : FlightLinkLaw → (o : FlightOptions) (up show down : PlainShow) (why : Option FlightFault) → IsExchange (exchange_by o up show down why)
is_exchange_by law o up show down None = record {
  one = λ bytes p q first second. (let same = law.one (flight_of o up show down) bytes p.status q.status p.output q.output first second in outcome_by p q same.0 same.1);
  some = λ bytes.
      (let some = law.some (flight_of o up show down) bytes bytes [] (record { cut = refl; each = All-nil _; few = omega arith; going = λ n under. absurd (omega (arith, under)) }) in
      (record { status = some.0; output = some.1 }, some.2));
  done = λ bytes p gives succeeds. flight_done law o up show down bytes p gives succeeds;
}
is_exchange_by law o up show down (Some fault) = record {
  one = λ bytes p q first second. first ∙ sym second;
  some = λ bytes. (outcome 19 (no_flight_bytes fault), refl);
  done = λ bytes p gives succeeds. absurd succeeds;
}

-- with status 0 nothing kept the three from being a flight
pub flown_by : (o : FlightOptions) (up show down : PlainShow) (why : Option FlightFault) (bytes : List ℕ) (p : Outcome) → (exchange_by o up show down why).gives bytes p → p.status ≡ 0 →
    (why ≡ None) × FlightGives (flight_of o up show down) bytes 0 p.output
flown_by o up show down None bytes p gives done = (refl, subst (λ (n : ℕ). FlightGives (flight_of o up show down) bytes n p.output) done gives)
flown_by o up show down (Some fault) bytes p gives done = absurd (omega (arith, ap (λ (q : Outcome). q.status) gives, done))

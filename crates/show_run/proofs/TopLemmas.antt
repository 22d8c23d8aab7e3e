-- A run of the program, from that of its command.
use Rattle.show_run.proofs.Prelude.{◌≡◌, ◌⊎◌, inl, inr, ℕ, ◌≤◌, ◌==◌, nat_le, Bool, true, not, Contains, Option, Some, None, ap, refl, subst, arith, All-contains, Command, Direct, FlightOptions, Behaves, Does, Run, Span, verb_of}
use Rattle.std.proofs.lemmas.Bool.Decides.{nat_tests}
use Rattle.std.proofs.lemmas.List.Sums.{AllPass-from_list_all}
use Rattle.std.specs.List.{list_all}
use Rattle.byte_streams.specs.Causes.{Rose}
use Rattle.show_judge.proofs.RunLemmas.{statuses}

-- a count that never rises doesn't rise
pub never_rose : Rose 0 0 → ⊥
never_rose rose = elim rose [
  | inl more ↦ omega (arith, more)
  | inr last ↦ omega (arith, last)
]

-- where no read fails, no run ends with 6
pub never_six : (words : Option Command) (r : Run) (status : ℕ) → (words ≡ None → (status ≡ 2) ⊎ (status ≡ 7)) → ((c : Command) → words ≡ Some c → Behaves (verb_of c) r status) →
    (Rose r.reads_failed r.reads_failed_after → ⊥) → status ≡ 6 → ⊥
never_six None r status usage runs quiet six = elim (usage refl) [
  | inl e ↦ omega (arith, e, six)
  | inr e ↦ omega (arith, e, six)
]
never_six (Some c) r status usage runs quiet six = quiet ((runs c refl).runs.six six).0

-- where no write fails, no run ends with 7
pub never_seven : (words : Option Command) (r : Run) (status : ℕ) → (words ≡ None → status ≡ 7 → Rose r.writes_failed r.writes_failed_after) → ((c : Command) → words ≡ Some c → Behaves (verb_of c) r status) →
    (Rose r.writes_failed r.writes_failed_after → ⊥) → status ≡ 7 → ⊥
never_seven None r status usage runs quiet seven = quiet (usage refl seven)
never_seven (Some c) r status usage runs quiet seven = quiet ((runs c refl).runs.seven seven).0

-- a test that each status of a command passes is passed by one among them
passes : (test : ℕ → Bool) (n : ℕ) → list_all test statuses ≡ true → Contains statuses n → test n ≡ true
passes test n each among = All-contains (λ (k : ℕ). test k ≡ true) statuses n (AllPass-from_list_all test statuses each) among

-- no status is above 20
pub known_small : (n : ℕ) → Contains statuses n → n ≤ 20
known_small n among = let few : nat_le n 20 ≡ true = passes (λ k. nat_le k 20) n refl among in grind (arith, nat_tests)

-- no command ends with a number that is none of the statuses
pub never : (k n : ℕ) → list_all (λ s. not (s == k)) statuses ≡ true → Contains statuses n → n ≡ k → ⊥
never k n each among is = let other : not (n == k) ≡ true = passes (λ s. not (s == k)) n each among in grind (arith, nat_tests)

-- a run of a command is one of the same command by another name
pub behaves_as : (c d : Command) (r : Run) (status : ℕ) → c ≡ d → Behaves (verb_of c) r status → Behaves (verb_of d) r status
behaves_as c d r status same behaves = subst (λ (e : Command). Behaves (verb_of e) r status) same behaves

pub does_as : (c d : Command) (m : Span) (status : ℕ) → c ≡ d → Does (verb_of c) m status → Does (verb_of d) m status
does_as c d m status same does = subst (λ (e : Command). Does (verb_of e) m status) same does

-- what a flight is allowed by its command; of another command nothing
abbrev pub options_in : Command → FlightOptions → FlightOptions
options_in (Direct options) o = options
options_in c o = o

-- what holds of a flight by one name of its command holds of it by another
pub flight_as : (P : FlightOptions → Type 0) (o p : FlightOptions) → Direct o ≡ Direct p → P o → P p
flight_as P o p same holds = subst P (ap (λ (d : Command). options_in d o) same) holds

-- words are one command
pub one_command : (words : Option Command) (c d : Command) → words ≡ Some c → words ≡ Some d → c ≡ d
one_command words c d first second = cc

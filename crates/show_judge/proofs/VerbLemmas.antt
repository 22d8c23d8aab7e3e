-- An input gives a command one outcome, from the command's own laws.
use Rattle.show_judge.proofs.Prelude.{common_steps, ◌≡◌, inl, inr, ℕ, ◌≤◌, Bool, false, cond, nat_lt, List, length, Option, Some, None, Result, Ok, Err, refl, sym, ap, subst, ◌∙◌, option_map, option_or, nat_tests, arith, fault, StandsFor, ShowLaw, PlainShow, Refusal, IsComplete, IsOutcomeOf, IsVerb, OutcomeLaw, ShowGives, said, faulty, show_refusal, text_refusal, most_text, Cut, Outcome, Verb, faulty_line, second_refusal}
use Rattle.refusals.specs.declared.refusal.Refusal.TheVariants as refusal
use Rattle.show_judge.proofs.TextLemmas.{none_said, stands_unrefused}

show_one : (v : Verb) → IsVerb v → (r : Option Refusal) (s : PlainShow) (cut : Cut) (o p : Outcome) → ShowGives v r s cut o → ShowGives v r s cut p → o ≡ p
show_one v is (Some r) s cut o p first second = first ∙ sym second
show_one v is None s cut o p first second = is.one s cut o p first second

one_alone : ShowLaw → (v : Verb) → IsVerb v → (cut : Cut) (o p : Outcome) → IsOutcomeOf v cut o → IsOutcomeOf v cut p → o ≡ p
one_alone show v is cut o p (inl first) (inl second) = grind (arith, common_steps)
one_alone show v is cut o p (inl refused) (inr comes) =
    absurd (none_said v (text_refusal cut.show) o (stands_unrefused show cut.show comes.s comes.short comes.stands) refused)
one_alone show v is cut o p (inr comes) (inl refused) =
    absurd (none_said v (text_refusal cut.show) p (stands_unrefused show cut.show comes.s comes.short comes.stands) refused)
one_alone show v is cut o p (inr first) (inr second) =
    show_one v is (show_refusal v.ways cut first.s) first.s cut o p first.gives
    (subst (λ (s : PlainShow). ShowGives v (show_refusal v.ways cut s) s cut p) (show.one cut.show second.s first.s second.stands first.stands) second.gives)

-- a test that refuses nothing, with what it stands for
pub within_limit : (limit n : ℕ) (r : Refusal) (more : Option Refusal) → cond (nat_lt limit n) (Some r) more ≡ None → (n ≤ limit) × (more ≡ None)
within_limit limit n r more none = grind (arith, common_steps, nat_lt, nat_tests, cond)

-- what gives nothing comes of nothing
pub none_mapped : {A : Type 0} (f : A → Refusal) (o : Option A) → option_map f o ≡ None → o ≡ None
none_mapped f None none = refl
none_mapped f (Some a) none = absurd (cc)

-- what was read of a second text without a faulty line
pub read_given : {E : Type 0} (given : Result (List E) ℕ) → faulty_line given ≡ None → (read : List E) × (given ≡ Ok read)
read_given (Ok read) none = (read, refl)
read_given (Err line) none = absurd (cc)

-- where it was read, it is refused as one without a faulty line
pub refused_as : {E : Type 0} (limit : ℕ) (given : Result (List E) ℕ) (read : List E) (cut : Cut) → given ≡ Ok read → second_refusal limit None cut ≡ None →
    second_refusal limit (faulty_line given) cut ≡ None
refused_as limit given read cut is none = rw is none

-- one that is short, without a faulty line and unmarked isn't refused
pub nothing_refused : (too_long marked : Bool) (r q : Refusal) (line : Option ℕ) → too_long ≡ false → line ≡ None → marked ≡ false →
    cond too_long (Some r) (option_or (option_map (λ (n : ℕ). refusal.SecondLine n) line) (cond marked (Some q) None)) ≡ None
nothing_refused too_long marked r q line short fine unmarked = rw short (rw fine (rw unmarked refl))

show_some : (v : Verb) → IsVerb v → (r : Option Refusal) (s : PlainShow) (cut : Cut) → (r ≡ None → v.known s cut) → (o : Outcome) × ShowGives v r s cut o
show_some v is (Some r) s cut known = (_, refl)
show_some v is None s cut known = is.some s cut (known refl)

some_there : ShowLaw → (v : Verb) → IsVerb v → (cut : Cut) → ((s : PlainShow) → StandsFor cut.show s → show_refusal v.ways cut s ≡ None → v.known s cut) → (o : Outcome) × IsOutcomeOf v cut o
some_there show v is cut known = by_refusal (text_refusal cut.show) refl
  where
    by_refusal : (r : Option Refusal) → text_refusal cut.show ≡ r → (o : Outcome) × IsOutcomeOf v cut o
    by_refusal (Some r) e = (said v r, inl (ap (option_map (said v)) e))
    by_refusal None e =
        let parts = within_limit most_text (length cut.show) _ _ e in
        let found = (show.faultless cut.show).1 (none_mapped faulty (fault cut.show) parts.1) in
        let given = show_some v is (show_refusal v.ways cut found.0) found.0 cut (λ none. known found.0 found.1 none) in
        (given.0, inr (record { s = found.0; short = parts.0; stands = found.1; gives = given.1 }))

complete_done : ShowLaw → (v : Verb) → IsVerb v → (cut : Cut) (o : Outcome) → IsComplete v cut → IsOutcomeOf v cut o → o.status ≡ 0
complete_done show v is cut o (sound, succeeds) (inl refused) =
    absurd (none_said v (text_refusal cut.show) o (stands_unrefused show cut.show sound.s sound.short sound.stands) refused)
complete_done show v is cut o (sound, succeeds) (inr comes) =
    let same : sound.s ≡ comes.s = show.one cut.show sound.s comes.s sound.stands comes.stands in
    let none : show_refusal v.ways cut comes.s ≡ None = subst (λ (s : PlainShow). show_refusal v.ways cut s ≡ None) same sound.accepted in
    let given : v.gives comes.s cut o = subst (λ (r : Option Refusal). ShowGives v r comes.s cut o) none comes.gives in
    is.done comes.s cut o given (subst (λ (s : PlainShow). v.succeeds s cut) same succeeds)

pub outcomes : ShowLaw → (v : Verb) → IsVerb v → OutcomeLaw v
outcomes show v is = record { one = one_alone show v is; some = some_there show v is; complete = complete_done show v is }

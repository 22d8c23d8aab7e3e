-- A run of a command that reads nothing.
use Rattle.show_judge.proofs.Prelude.{common_steps, ◌≡◌, inl, inr, ℕ, List, Option, Some, None, Result, Ok, Err, IfOk, refl, sym, ap, subst, ◌∙◌, arith, Appends, ShowLaw, PlainShow, Answer, Failure, Read, Memory, IsSaid, Responds, Wrote, outcome_of, IsOutcomeOf, IsSafe, IsVerb, OutcomeLaw, TakesOneText, Behaves, Runs, cut_of, Outcome, Run, nothing, of_nothing, of_own, outcome, run_of}
use Rattle.byte_streams.proofs.TakenLemmas.{TakesFront-none}
use Rattle.show_judge.proofs.HeadlineLemmas.{behaves_of, headlines, says_of}
use Rattle.show_judge.proofs.RunLemmas.{answer_among, answer_judged, completes, runs_failed, runs_memory}
use Rattle.show_judge.proofs.VerbLemmas.{outcomes}

-- at most so much was taken of what was left
few_taken : (left : Option (List ℕ)) → TakesOneText left left
few_taken None = tt
few_taken (Some bytes) = omega arith

-- ---- one that judges nothing

-- it keeps the laws of a command
pub nothing_verb : (bytes : List ℕ) → IsVerb (of_nothing bytes)
nothing_verb bytes = grind (arith, common_steps)

same_bytes : (a b : List ℕ) → nothing a ≡ nothing b → a ≡ b
same_bytes a b same = cc

runs_nothing : (bytes : List ℕ) (left : Option (List ℕ)) (faults : ℕ) (old new : Option (List ℕ)) (before after status : ℕ) → Wrote 0 bytes old new before after status →
    Runs (of_nothing bytes) (run_of left left faults faults old new before after) status
runs_nothing bytes left faults old new before after status wrote = elim wrote [
  | inl (e, appends, later) ↦ grind (arith, common_steps, same_bytes, TakesFront-none)
  | inr (e, rose, front, later) ↦
      runs_failed (of_nothing bytes) (run_of left left faults faults old new before after) status bytes e rose (inl (outcome 0 bytes, refl, refl)) front tt (λ none. (refl, refl)) (TakesFront-none left) (omega arith) later
]

-- What was written of it.
pub nothing_behaves : ShowLaw → (bytes : List ℕ) (left : Option (List ℕ)) (faults : ℕ) (old new : Option (List ℕ)) (before after status : ℕ) → Wrote 0 bytes old new before after status →
    Behaves (of_nothing bytes) (run_of left left faults faults old new before after) status
nothing_behaves law bytes left faults old new before after status wrote =
    let r : Run = run_of left left faults faults old new before after in
    let runs = runs_nothing bytes left faults old new before after status wrote in
    grind (arith, common_steps, few_taken, completes, outcomes, nothing_verb, headlines)

-- ---- one that judges a text of its own

-- it keeps the laws of a command
pub own_verb : (depth : ℕ) (own : List ℕ) (text : PlainShow → List ℕ) → IsVerb (of_own depth own text)
own_verb depth own text = record {
  one = λ s cut o p first second. first ∙ sym second;
  some = λ s cut known. (outcome 0 (text s), refl);
  done = λ s cut o gives succeeds. ap (λ (o : Outcome). o.status) gives;
  apart = λ d s cut searched apart. apart;
  headline = λ input o old new safe appended. says_of (of_own depth own text) text own o old new refl safe safe.promised safe.gives appended;
}

runs_own : ShowLaw → (depth : ℕ) (own : List ℕ) (text : PlainShow → List ℕ) (result : Result Answer Failure) (left : Option (List ℕ)) (faults : ℕ) (old new : Option (List ℕ)) (before after status : ℕ) →
    IfOk result (λ a. IsOutcomeOf (of_own depth own text) (cut_of own) (outcome_of a)) →
    IfOk result (λ a. (outcome_of a).status ≡ 0 → IsSafe (of_own depth own text) (cut_of own) (outcome_of a)) → IfOk result IsSaid → (result ≡ Err Read → ⊥) →
    Responds result old new before after status → Runs (of_own depth own text) (run_of left left faults faults old new before after) status
runs_own show depth own text (Err Read) left faults old new before after status is safe said read wrote = absurd (read refl)
runs_own show depth own text (Err Memory) left faults old new before after status is safe said read wrote =
    runs_memory (of_own depth own text) (run_of left left faults faults old new before after) status (λ output is. absurd (cc)) (λ r. tt) wrote.0 wrote.1 wrote.2 (λ none. (refl, refl)) (TakesFront-none left) (omega arith)
runs_own show depth own text (Ok a) left faults old new before after status is safe said read wrote =
    let law : OutcomeLaw (of_own depth own text) = outcomes show (of_own depth own text) (own_verb depth own text) in
    elim wrote [
      | inl (e, appends, later) ↦ record {
        outcome = λ judged. (outcome_of a, is, e, appends);
        exact = λ quiet p is_p.
            let same : outcome_of a ≡ p = law.one (cut_of own) (outcome_of a) p is is_p in
            inl (e ∙ ap (λ (q : Outcome). q.status) same, subst (λ (q : Outcome). Appends old new q.output) same appends);
        safe = λ done. (outcome_of a, safe (sym e ∙ done), appends);
        whole = λ done all. absurd (cc);
        one = λ one. absurd ((answer_judged a said).0 (sym e ∙ one));
        always = λ output is. absurd (cc);
        six = λ six. absurd ((answer_judged a said).1 (sym e ∙ six));
        stopped = λ six. absurd ((answer_judged a said).1 (sym e ∙ six));
        seven = λ seven. absurd ((answer_judged a said).2 (sym e ∙ seven));
        prompt = λ seven. tt;
        unread = λ none. (refl, refl);
        known = rw e (answer_among a said);
        taken = TakesFront-none left;
        reads_later = omega arith;
        writes_later = later;
      }
      | inr (e, rose, front, later) ↦
          runs_failed (of_own depth own text) (run_of left left faults faults old new before after) status (outcome_of a).output e rose (inl (outcome_of a, is, refl)) front tt
          (λ none. (refl, refl)) (TakesFront-none left) (omega arith) later
    ]

-- What was answered for it and written.
pub own_behaves : ShowLaw → (depth : ℕ) (own : List ℕ) (text : PlainShow → List ℕ) (result : Result Answer Failure) (left : Option (List ℕ)) (faults : ℕ) (old new : Option (List ℕ)) (before after status : ℕ) →
    IfOk result (λ a. IsOutcomeOf (of_own depth own text) (cut_of own) (outcome_of a)) →
    IfOk result (λ a. (outcome_of a).status ≡ 0 → IsSafe (of_own depth own text) (cut_of own) (outcome_of a)) → IfOk result IsSaid → (result ≡ Err Read → ⊥) →
    Responds result old new before after status → Behaves (of_own depth own text) (run_of left left faults faults old new before after) status
own_behaves show depth own text result left faults old new before after status is safe said read wrote =
    let r : Run = run_of left left faults faults old new before after in
    behaves_of show (of_own depth own text) (own_verb depth own text) r status (runs_own show depth own text result left faults old new before after status is safe said read wrote) (λ wanted. few_taken left)
    (λ alone reads judged. absurd (cc)) tt

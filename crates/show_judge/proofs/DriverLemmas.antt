-- What a run of a command does that answers for a show, or for a show and a second text.
use Rattle.show_judge.proofs.Prelude.{Option, ◌≡◌, ◌⊎◌, inl, inr, ℕ, List, Result, Err, IfOk, refl, sym, ◌∙◌, ap, ◌<◌, IfSome, length, true, false, ShowLaw, PlainShow, Rose, TakesFewAfter, TakesFront, ◌≤◌, Answer, Failure, Read, AnswersInput, Responds, IsReadBoth, TakesOneText, part_of, Ways, most_text, Behaves, IsAny, IsTwo, Outcome, Run, Verb, of_show, outcome, IsVerb}
use Rattle.show_judge.proofs.HeadlineLemmas.{behaves_of, says_of}
use Rattle.show_judge.proofs.ReadLemmas.{judged_answer}
use Rattle.show_judge.proofs.RunLemmas.{IsPlain, runs_answer}
use Rattle.show_judge.proofs.VerbLemmas.{outcomes}

-- ---- a show that fits

pub any_plain : (v : Verb) → IsAny v → IsPlain v
any_plain v is = record { reads = is.reads; judges = is.judges; stops = is.stops; prompt = is.prompt }

pub any_behaves : ShowLaw → (v : Verb) (r : Run) (result : Result Answer Failure) (status : ℕ) → IsVerb v → IsAny v → AnswersInput v r.left r.left_after result →
    Responds result r.written r.written_after r.writes_failed r.writes_failed_after status → (result ≡ Err Read → Rose r.reads_failed r.reads_failed_after) →
    TakesFront r.left r.left_after → r.reads_failed ≤ r.reads_failed_after → TakesOneText r.left r.left_after → IfOk result (λ _. TakesFewAfter r.left r.left_after) →
    Behaves v r status
any_behaves law v r result status is any answers wrote failed taken later few after =
    behaves_of law v is r status (runs_answer v r result status (any_plain v any) (outcomes law v is) answers wrote failed taken later) (λ wanted. few)
    (λ alone reads judged. judged_answer result r.written r.written_after r.writes_failed r.writes_failed_after status _ wrote after judged) (any.reading r status)

-- ---- a show that is written as one text

-- it keeps the laws of a command
pub show_verb : (depth : ℕ) (text : PlainShow → List ℕ) → IsVerb (of_show depth text)
show_verb depth text = record {
  one = λ s cut o p first second. first ∙ sym second;
  some = λ s cut known. (outcome 0 (text s), refl);
  done = λ s cut o gives succeeds. ap (λ (o : Outcome). o.status) gives;
  apart = λ d s cut searched apart. apart;
  headline = λ input o old new safe appended. says_of (of_show depth text) text input o old new refl safe safe.promised safe.gives appended;
}

pub show_any : (depth : ℕ) (text : PlainShow → List ℕ) → IsAny (of_show depth text)
show_any depth text = record { reads = refl; alone = refl; lines = refl; judges = refl; stops = λ taken. refl; prompt = λ r. tt; reading = λ r status. tt }

pub show_plain : (depth : ℕ) (text : PlainShow → List ℕ) → IsPlain (of_show depth text)
show_plain depth text = any_plain (of_show depth text) (show_any depth text)

-- ---- two texts

pub two_plain : (depth : Option ℕ) (limit : ℕ) (v : Verb) → IsTwo depth limit v → IsPlain v
two_plain depth limit v is = record { reads = ap (λ (w : Ways). w.reads) is.ways; judges = is.judges; stops = is.stops; prompt = is.prompt }

-- it wants a second text
wants : (depth : Option ℕ) (limit : ℕ) (v : Verb) → IsTwo depth limit v → v.ways.has_second ≡ false → ⊥
wants depth limit v is alone = let e : true ≡ false = sym (ap (λ (w : Ways). w.has_second) is.ways) ∙ alone in absurd (cc)

-- what follows of a text that is too long
few_of_two : {P Q : Type 0} → (depth : Option ℕ) (limit : ℕ) (v : Verb) → IsTwo depth limit v → (P → Q) → (v.ways.has_second ≡ false) ⊎ P → Q
few_of_two depth limit v two few (inl alone) = absurd (wants depth limit v two alone)
few_of_two depth limit v two few (inr long) = few long

-- What was answered for the two texts of a source and written.
pub two_behaves : ShowLaw → (depth : Option ℕ) (limit : ℕ) (v : Verb) (r : Run) (result : Result Answer Failure) (status : ℕ) → IsVerb v → IsTwo depth limit v → AnswersInput v r.left r.left_after result →
    Responds result r.written r.written_after r.writes_failed r.writes_failed_after status → (result ≡ Err Read → Rose r.reads_failed r.reads_failed_after) →
    TakesFront r.left r.left_after → r.reads_failed ≤ r.reads_failed_after →
    (IfSome r.left (λ all. most_text < length (part_of all)) → TakesOneText r.left r.left_after) → IfOk result (λ _. IsReadBoth limit r.left r.left_after) → Behaves v r status
two_behaves law depth limit v r result status is two answers wrote failed taken later few both =
    behaves_of law v is r status (runs_answer v r result status (two_plain depth limit v two) (outcomes law v is) answers wrote failed taken later) (few_of_two depth limit v two few)
    (λ alone reads judged. absurd (wants depth limit v two alone))
    (two.reading r status (λ judged. judged_answer result r.written r.written_after r.writes_failed r.writes_failed_after status _ wrote both judged))

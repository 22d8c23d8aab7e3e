-- The laws of `speed`, of `dynamics` and of `explain`.
use Rattle.show_studies.proofs.Prelude.{◌≡◌, ℕ, Bool, List, Option, Some, None, refl, sym, ap, subst, ◌∙◌, Appends, Refusal, IsSafe, IsVerb, cut_of, names_of, sent_of, Outcome, outcome, refused_some, whole_input, KeepsDynamics, dynamics_of, dynamics_verb, excess_in, limits_of, TellsTouches, explain_verb, KeepsSpeeds, speed_text, speed_verb, refused_or, too_fast}
use Rattle.choreo_reader.specs.Grammar.{StandsFor}
use Rattle.show_studies.proofs.BlockedLemmas.{explained_one}

-- outcomes of one status and one output are one
outcome_by : (o p : Outcome) → o.status ≡ p.status → o.output ≡ p.output → o ≡ p
outcome_by o p status output = ap (λ (n : ℕ). outcome n o.output) status ∙ ap (outcome p.status) output

-- ---- `speed`

status_of_outcome : (o p : Outcome) → o ≡ p → o.status ≡ 0 → p.status ≡ 0
status_of_outcome o p same done = sym (ap (λ (q : Outcome). q.status) same) ∙ done

-- what is written where nothing is refused
text_written : (refused : Option Refusal) (text : List ℕ) (o : Outcome) → o ≡ refused_or refused text → o.status ≡ 0 → o.output ≡ text
text_written (Some r) text o ends done = absurd (refused_some r (status_of_outcome o _ ends done))
text_written None text o ends done = ap (λ (q : Outcome). q.output) ends

speeds : (limit : Option ℕ) (depth : ℕ) (input : List ℕ) (old new : Option (List ℕ)) (o : Outcome) → IsSafe (speed_verb depth limit) (cut_of input) o → Appends old new o.output →
    KeepsSpeeds limit depth input old new
speeds limit depth input old new o safe appended = record {
  s = safe.s;
  stands = subst (λ (text : List ℕ). StandsFor text safe.s) (whole_input (speed_verb depth limit).ways input safe.s refl safe.accepted) safe.stands;
  keeps = safe.promised;
  written = subst (λ (output : List ℕ). Appends old new output)
      (text_written (too_fast limit depth safe.s) (speed_text depth (sent_of safe.s) (names_of safe.s)) o safe.gives safe.done) appended;
}

pub speed_laws : (depth : ℕ) (limit : Option ℕ) → IsVerb (speed_verb depth limit)
speed_laws depth limit = record {
  one = λ s cut o p first second. first ∙ sym second;
  some = λ s cut known. (refused_or (too_fast limit depth s) (speed_text depth (sent_of s) (names_of s)), refl);
  done = λ s cut o gives succeeds. ap (λ (p : Outcome). p.status) gives ∙ ap (λ (r : Option Refusal). (refused_or r (speed_text depth (sent_of s) (names_of s))).status) succeeds;
  apart = λ d s cut searched apart. absurd (cc);
  headline = λ input o old new safe appended. speeds limit depth input old new o safe appended;
}

-- ---- `dynamics`

motions : (depth : ℕ) (accel jump : Option ℕ) (input : List ℕ) (old new : Option (List ℕ)) (o : Outcome) → IsSafe (dynamics_verb depth accel jump) (cut_of input) o → Appends old new o.output →
    KeepsDynamics depth accel jump input old new
motions depth accel jump input old new o safe appended = record {
  s = safe.s;
  stands = subst (λ (text : List ℕ). StandsFor text safe.s) (whole_input (dynamics_verb depth accel jump).ways input safe.s refl safe.accepted) safe.stands;
  keeps = safe.promised;
  written = subst (λ (output : List ℕ). Appends old new output)
      (text_written (excess_in (limits_of accel jump) depth safe.s) (dynamics_of depth safe.s) o safe.gives safe.done) appended;
}

pub dynamics_laws : (depth : ℕ) (accel jump : Option ℕ) → IsVerb (dynamics_verb depth accel jump)
dynamics_laws depth accel jump = record {
  one = λ s cut o p first second. first ∙ sym second;
  some = λ s cut known. (refused_or (excess_in (limits_of accel jump) depth s) (dynamics_of depth s), refl);
  done = λ s cut o gives succeeds. ap (λ (p : Outcome). p.status) gives ∙ ap (λ (r : Option Refusal). (refused_or r (dynamics_of depth s)).status) succeeds;
  apart = λ d s cut searched apart. absurd (cc);
  headline = λ input o old new safe appended. motions depth accel jump input old new o safe appended;
}

-- ---- `explain`

touches : (depth fine : ℕ) (all : Bool) (input : List ℕ) (old new : Option (List ℕ)) (o : Outcome) → IsSafe (explain_verb depth fine all) (cut_of input) o → Appends old new o.output →
    TellsTouches depth fine all input old new
touches depth fine all input old new o safe appended = record {
  s = safe.s;
  text = o.output;
  stands = subst (λ (text : List ℕ). StandsFor text safe.s) (whole_input (explain_verb depth fine all).ways input safe.s refl safe.accepted) safe.stands;
  explains = safe.gives.1;
  apart = safe.promised;
  written = appended;
}

pub explain_laws : (depth fine : ℕ) (all : Bool) → IsVerb (explain_verb depth fine all)
explain_laws depth fine all = record {
  one = λ s cut o p first second. outcome_by o p (first.0 ∙ sym second.0) (explained_one depth fine all s o.output p.output first.1 second.1);
  some = λ s cut known. known;
  done = λ s cut o gives succeeds. gives.0;
  apart = λ d s cut searched apart. absurd (cc);
  headline = λ input o old new safe appended. touches depth fine all input old new o safe appended;
}

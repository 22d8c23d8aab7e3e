-- What the program gives, as an outcome.
use Rattle.std.specs.Prelude.{◌≡◌, ◌⊎◌, ℕ, ◌≤◌, false, List, Option, Some, None, Result, Ok, Err, IfOk, IfSome, length}
use Rattle.std.specs.Io.KnownBytes.{Appends}
use Rattle.std.specs.declared.alloc.AllocError.{AllocError}
use Rattle.choreo_reader.specs.Grammar.{StandsFor}
use Rattle.choreo_show.specs.Plain.{PlainShow}
use Rattle.cue_grid.specs.Cues.{grid_of}
use Rattle.byte_streams.specs.Causes.{Rose}
use Rattle.byte_streams.specs.Taken.{AppendsFront}
use Rattle.show_judge.specs.declared.ways.Ways.{Ways}
use Rattle.refusals.specs.declared.refusal.Refusal.{Refusal}
use Rattle.refusals.specs.Lines.{read_line}
use Rattle.show_plan.specs.declared.fitted.Fitted.{Fitted}
use Rattle.show_plan.specs.Fitting.{IsFitted, IsValidFitted}
use Rattle.show_plan.specs.Flight.{KeepsNearShow}
use Rattle.show_plan.specs.Separation.{FlyApart}
use Rattle.show_plan.specs.Uploading.{Uploads}
use Rattle.show_judge.specs.declared.ends.Answer.{Answer}
use Rattle.show_judge.specs.declared.ends.Answer.TheVariants.{Done, Refused}
use Rattle.show_judge.specs.declared.ends.Failure.{Failure}
use Rattle.show_judge.specs.declared.ends.Failure.TheVariants.{Read, Memory}
use Rattle.show_judge.specs.declared.ends.Output.{Output}
use Rattle.show_judge.specs.declared.ends.Output.TheVariants.{Line, Text as Lines, Bytes}
use Rattle.show_judge.specs.declared.input.Text.{Text}
use Rattle.show_judge.specs.declared.input.Input.{Input}
use Rattle.show_judge.specs.declared.judging.Accepted.{Accepted}
use Rattle.show_judge.specs.declared.judging.Judged.{Judged}
use Rattle.show_judge.specs.declared.judging.Judged.TheVariants as judged
use Rattle.show_judge.specs.declared.judging.Planned.{Planned}
use Rattle.show_judge.specs.declared.judging.Planned.TheVariants as planned
use Rattle.whole_numbers.specs.Limits.{most_text}
use Rattle.show_judge.specs.Shows.{Cut, cut_of, nodes_of, sent_of}
use Rattle.show_judge.specs.Refused.{IsOfInput, blocked_by, show_refusal, text_refusal}
use Rattle.show_judge.specs.Input.{AreTexts, IsReadWhole, IsShowText, IsUnmarked, IsWholeText}
use Rattle.show_judge.specs.Outcome.{IsOutcomeOf, IsSafe, refused}
use Rattle.show_judge.specs.Verb.{IsSafeShow, Outcome, Verb, outcome}

-- ---- an answer

abbrev pub output_of : Output → List ℕ
output_of (Line line) = line
output_of (Lines lines) = lines
output_of (Bytes bytes) = bytes.items

abbrev pub outcome_of : Answer → Outcome
outcome_of (Done output) = outcome 0 (output_of output)
outcome_of (Refused r) = refused r

-- a refusal among the answers is one of an input
abbrev pub IsSaid : Answer → Type 0
IsSaid (Done output) = Unit {0}
IsSaid (Refused r) = IsOfInput r

-- ---- a show's text, judged

-- a command refuses the show's text of an input that is cut so
abbrev pub IsRefusedBy : Ways → Cut → Refusal → Type 0
IsRefusedBy c cut r =
    (text_refusal cut.show ≡ Some r)
    ⊎ ((s : PlainShow) × (length cut.show ≤ most_text) × StandsFor cut.show s × (show_refusal c cut s ≡ Some r))

-- The show's text stands for a show that fits, as which it is given, and of which nothing is left to refuse but that
-- two drones aren't kept apart.
pub record Fits (c : Ways) (cut : Cut) (f : Fitted) : Type 0 where
  pub s : PlainShow
  pub short : length cut.show ≤ most_text
  pub stands : StandsFor cut.show s
  pub left : show_refusal c cut s ≡ blocked_by c.depth s
  pub fitted : IsFitted f s
  pub near : KeepsNearShow (grid_of s) (sent_of s)
  pub uploads : FlyApart s.settings (sent_of s) → Uploads (grid_of s) s.settings (sent_of s)

-- The show's text stands for a show that fits and that nothing refuses; it is given with the number of nodes of its
-- certificate.
pub record IsAccepted (c : Ways) (depth : ℕ) (cut : Cut) (a : Accepted) : Type 0 where
  pub searched : c.depth ≡ Some depth
  pub s : PlainShow
  pub short : length cut.show ≤ most_text
  pub stands : StandsFor cut.show s
  pub accepted : show_refusal c cut s ≡ None
  pub fitted : IsFitted a.fitted s
  pub safe : IsSafeShow s
  pub nodes : a.nodes ≡ nodes_of s depth

abbrev pub PlanGives : Ways → Cut → Planned → Type 0
PlanGives c cut (planned.Fits f) = Fits c cut f
PlanGives c cut (planned.Refused r) = IsRefusedBy c cut r

-- what fits is valid, and a refusal is one of an input
abbrev pub IsSoundPlan : Planned → Type 0
IsSoundPlan (planned.Fits f) = IsValidFitted f
IsSoundPlan (planned.Refused r) = IsOfInput r

-- where a show fits, its text isn't too large, and no marker line stands where none may
abbrev pub EndsWell : Ways → Text → Planned → Type 0
EndsWell c text (planned.Fits f) = IsWholeText text × (c.has_second ≡ false → IsUnmarked text)
EndsWell c text (planned.Refused r) = Unit {0}

abbrev pub JudgedGives : Ways → ℕ → Cut → Judged → Type 0
JudgedGives c depth cut (judged.Accepted a) = IsAccepted c depth cut a
JudgedGives c depth cut (judged.Refused r) = IsRefusedBy c cut r

abbrev pub IsSoundJudged : Judged → Type 0
IsSoundJudged (judged.Accepted a) = IsValidFitted a.fitted
IsSoundJudged (judged.Refused r) = IsOfInput r

abbrev pub EndsJudged : Ways → Text → Judged → Type 0
EndsJudged c text (judged.Accepted a) = IsWholeText text × (c.has_second ≡ false → IsUnmarked text)
EndsJudged c text (judged.Refused r) = Unit {0}

-- ---- what a command gives

-- for a show's text
pub record AnswersText (c : Verb) (text : Text) (result : Result Answer AllocError) : Type 0 where
  pub gives : (cut : Cut) → IsShowText text cut → IfOk result (λ a. IsOutcomeOf c cut (outcome_of a))
  pub safe : (cut : Cut) → IsShowText text cut →
      IfOk result (λ a. (outcome_of a).status ≡ 0 → IsSafe c cut (outcome_of a))
  pub whole : IfOk result (λ a. (outcome_of a).status ≡ 0 → IsUnmarked text)
  pub said : IfOk result IsSaid

-- for a show's text and a second one of at most this many bytes
pub record AnswersTwo (c : Verb) (limit : ℕ) (input : Input) (result : Result Answer AllocError) : Type 0 where
  pub gives : (cut : Cut) → AreTexts limit input cut → IfOk result (λ a. IsOutcomeOf c cut (outcome_of a))
  pub safe : (cut : Cut) → AreTexts limit input cut →
      IfOk result (λ a. (outcome_of a).status ≡ 0 → IsSafe c cut (outcome_of a))
  pub whole : IfOk result (λ a. (outcome_of a).status ≡ 0 → IsWholeText input.show × IsUnmarked input.second)
  pub said : IfOk result IsSaid

-- for the input of a source
pub record AnswersInput (c : Verb) (left left_after : Option (List ℕ)) (result : Result Answer Failure) : Type 0 where
  pub gives : IfSome left (λ input. IfOk result (λ a. IsOutcomeOf c (cut_of input) (outcome_of a)))
  pub safe : IfSome left
      (λ input. IfOk result (λ a. (outcome_of a).status ≡ 0 → IsSafe c (cut_of input) (outcome_of a)))
  pub whole : IfOk result (λ a. (outcome_of a).status ≡ 0 → IsReadWhole left left_after)
  pub said : IfOk result IsSaid

-- what a command judges of the input of a source; where a show is accepted, the input was read to its end
abbrev pub EndsRead : Option (List ℕ) → Option (List ℕ) → Judged → Type 0
EndsRead left left_after (judged.Accepted a) = IsReadWhole left left_after
EndsRead left left_after (judged.Refused r) = Unit {0}

pub record JudgesInput (c : Ways) (depth : ℕ) (left left_after : Option (List ℕ)) (result : Result Judged Failure) :
    Type 0 where
  pub gives : IfSome left (λ input. IfOk result (JudgedGives c depth (cut_of input)))
  pub whole : IfOk result (EndsRead left left_after)

-- ---- what is written

-- These bytes were written, and this is the status; or the sink failed after a prefix of them.
abbrev pub Wrote : ℕ → List ℕ → Option (List ℕ) → Option (List ℕ) → ℕ → ℕ → ℕ → Type 0
Wrote wanted bytes old new before after status =
    ((status ≡ wanted) × Appends old new bytes × (before ≤ after))
    ⊎ ((status ≡ 7) × Rose before after × AppendsFront old new bytes × (before ≤ after))

-- What was written for an answer, or for a failed read; nothing where the program is out of memory.
abbrev pub Responds : Result Answer Failure → Option (List ℕ) → Option (List ℕ) → ℕ → ℕ → ℕ → Type 0
Responds (Ok a) old new before after status =
    Wrote (outcome_of a).status (outcome_of a).output old new before after status
Responds (Err Read) old new before after status = Wrote 6 read_line old new before after status
Responds (Err Memory) old new before after status = (status ≡ 1) × (new ≡ old) × (after ≡ before)

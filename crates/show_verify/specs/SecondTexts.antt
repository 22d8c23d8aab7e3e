-- A certificate's text that is judged as it is taken, piece by piece. Only private functions of `verify` use it.
use Rattle.std.specs.Prelude.{◌≡◌, ℕ, ◌<◌, ◌≤◌, Bool, true, false, List, ◌++◌, length, Option, Some, None, IfSome}
use Rattle.std.specs.Io.KnownBytes.{IsAtEnd}
use Rattle.std.specs.Str.Lines.{lines}
use Rattle.text_lines.specs.Lines.{between_feeds}
use Rattle.text_lines.specs.Marker.{has_marker, part_of, rest_of}
use Rattle.byte_streams.specs.PartBytes.{is_marked_left, part_left, rest_left}
use Rattle.byte_streams.specs.Parts.{TakesFewAfter}
use Rattle.choreo_show.specs.Name.{Name}
use Rattle.choreo_show.specs.Plain.{PlainShow}
use Rattle.fleet_curves.specs.Raised.{Raised}
use Rattle.sep_certificate.specs.Texts.{bad_line}
use Rattle.certificate_checker.specs.declared.verdict.Verdict.{Verdict}
use Rattle.certificate_checker.specs.declared.verdict.Verdict.TheVariants as verdict
use Rattle.certificate_checker.specs.Bytes.{HasRead, Seen}
use Rattle.refusals.specs.declared.refusal.Refusal.TheVariants as refusal
use Rattle.show_plan.specs.declared.fitted.Fitted.{Fitted}
use Rattle.show_plan.specs.Fitting.{IsFitted}
use Rattle.show_verify.specs.declared.verifying.Taken.{Taken}
use Rattle.show_verify.specs.declared.verifying.Taken.TheVariants.{TooLarge, Whole}
use Rattle.show_verify.specs.Verify.{CertificateGives, certificate_limit, not_valid, valid_line}
use Rattle.show_judge.specs.Verb.{Outcome, outcome}
use Rattle.show_judge.specs.Outcome.{refused}
use Rattle.show_judge.specs.Refused.{second_refusal}
use Rattle.show_judge.specs.Shows.{Cut, marker_number}

-- a marker line of this number stands after a text, or none does
abbrev pub IsMarkedBy : List ℕ → Option ℕ → Bool → Type 0
IsMarkedBy text None is_marked = is_marked ≡ false
IsMarkedBy text (Some number) is_marked = (is_marked ≡ true) × (number ≡ marker_number text)

-- Of the part of the bytes that were to come these were taken, and what is left of it is still to come, where a line
-- begins or not.
pub record IsFed (all : List ℕ) (at_line : Bool) (now : Option (List ℕ)) (fed : List ℕ) : Type 0 where
  pub rest : List ℕ
  pub now_is : now ≡ Some rest
  pub part : fed ++ part_left at_line rest ≡ part_of all
  pub marked : is_marked_left at_line rest ≡ has_marker (between_feeds all)
  pub after : rest_left at_line rest ≡ rest_of all

-- A checker has read n bytes of the part, and the next line has this number.
pub record Feeds (curves : Raised) (coming : Option (List ℕ)) (n : ℕ) (c : Seen) (at_line : Bool)
    (now : Option (List ℕ)) (number : ℕ) : Type 0 where
  pub fed : List ℕ
  pub count : length fed ≡ n
  pub has_read : HasRead c curves fed
  pub number_is : number ≡ marker_number fed
  pub is_fed : IfSome coming (λ all. IsFed all at_line now fed)

-- what a checker has read of the bytes that were to come, where their part isn't too large
abbrev pub TakenGives : Raised → Option (List ℕ) → Seen → Taken → Type 0
TakenGives curves coming c TooLarge = IfSome coming (λ all. certificate_limit < length (part_of all))
TakenGives curves coming c (Whole marker) =
    (fed : List ℕ) × (length fed ≤ certificate_limit) × HasRead c curves fed
    × IfSome coming (λ all. (part_of all ≡ fed) × IsMarkedBy fed marker (has_marker (between_feeds all)))

-- Of a part these many bytes were taken.
pub record Skips (coming : Option (List ℕ)) (n : ℕ) (at_line : Bool) (now : Option (List ℕ)) : Type 0 where
  pub fed : List ℕ
  pub count : length fed ≡ n
  pub is_fed : IfSome coming (λ all. IsFed all at_line now fed)

-- a part that isn't too long was taken whole: at most 4,096 bytes were taken of what stands after it and its marker
-- line, and where no marker line ends it, it was taken to the end of the input
abbrev pub IsTakenWhole : Option (List ℕ) → Option (List ℕ) → Type 0
IsTakenWhole coming left =
    IfSome coming (λ all. length (part_of all)
    ≤ certificate_limit → (has_marker (between_feeds all) ≡ false → IsAtEnd left) × TakesFewAfter (Some all) left)

-- a part that no marker line ends was taken to the end of the input
abbrev pub IsTakenToEnd : Option (List ℕ) → Taken → Type 0
IsTakenToEnd left TooLarge = Unit {0}
IsTakenToEnd left (Whole None) = IsAtEnd left
IsTakenToEnd left (Whole (Some number)) = Unit {0}

-- of what stands after a part that isn't too long and its marker line at most 4,096 bytes were taken
abbrev pub IsFewTaken : Option (List ℕ) → Option (List ℕ) → Taken → Type 0
IsFewTaken coming left TooLarge = Unit {0}
IsFewTaken coming left (Whole marker) = TakesFewAfter coming left

-- what a verdict on a certificate's text is said as, with no marker line after it or one of this number
abbrev pub unless_marked : Option ℕ → Outcome → Outcome
unless_marked None o = o
unless_marked (Some number) o = refused (refusal.SecondLine number)

abbrev pub verdict_outcome : List Name → Option ℕ → Verdict → Outcome
verdict_outcome names marker (verdict.Line line) = refused (refusal.SecondLine line)
verdict_outcome names marker (verdict.Valid depth trees) = unless_marked marker (outcome 0 (valid_line depth trees))
verdict_outcome names marker (verdict.Refused version fault) =
    unless_marked marker (refused (not_valid names version fault))

-- what is given for a show that fits, where these bytes are to come after its marker line
abbrev pub GivesSecond : Fitted → List ℕ → Outcome → Type 0
GivesSecond f all o =
    (s : PlainShow) (cut : Cut) → IsFitted f s → cut.second ≡ part_of all →
    cut.is_second_marked ≡ has_marker (between_feeds all) →
    CertificateGives (second_refusal certificate_limit (bad_line (lines cut.second)) cut) s cut o

-- What the reading of a run's texts says of its source, in one record for a show's text and in one for two texts.
use Rattle.std.specs.Prelude.{◌≡◌, ℕ, ◌<◌, List, length, Option, Some, Result, Err, IfOk, IfSome}
use Rattle.byte_streams.specs.Causes.{Rose}
use Rattle.byte_streams.specs.Parts.{TakesFewAfter}
use Rattle.byte_streams.specs.Told.{Gives, IsInput, Told, to_come}
use Rattle.whole_numbers.specs.Limits.{most_text}
use Rattle.text_lines.specs.Marker.{part_of, rest_of}
use Rattle.show_judge.specs.declared.ends.Failure.{Failure}
use Rattle.show_judge.specs.declared.ends.Failure.TheVariants.{Read}
use Rattle.show_judge.specs.declared.input.Input.{Input}
use Rattle.show_judge.specs.Input.{IsWholeText, TakesOneText}

-- A call read a show's text and gave this result. The source exposed `old` before the call, and exposes `new` after it.
-- `Fact` is about the bytes that were to come before the call and those that are to come after it.
pub record OneTextRead {T : Type 0} (Fact : Option (List ℕ) → Option (List ℕ) → Type 0) (old new : Told)
    (result : Result T Failure) : Type 0 where
  -- The fact holds for each input that the source may have.
  pub fact : (all : List ℕ) → IsInput new all → Fact (to_come all old) (to_come all new)
  -- The error `Read` comes only where the count of faults rose.
  pub failed : result ≡ Err Read → Rose old.faults new.faults
  -- No more was taken than the longest text of a show, its marker line and one buffer.
  pub few : (all : List ℕ) → IsInput new all → TakesOneText (to_come all old) (to_come all new)
  -- Where the result is `Ok`, at most 4,096 bytes were taken after the marker line.
  pub after : (all : List ℕ) → IsInput new all → IfOk result (λ _. TakesFewAfter (to_come all old) (to_come all new))
  -- The source only gave bytes: none of its counts fell.
  pub gives : Gives old new

-- Where neither text is too large, at most 4,096 bytes were taken after the second one and its marker line.
abbrev pub IsPastTwo : Input → Option (List ℕ) → Option (List ℕ) → Type 0
IsPastTwo input left left_after =
    IsWholeText input.show → IsWholeText input.second →
    IfSome left (λ all. TakesFewAfter (Some (rest_of all)) left_after)

-- A call read a show's text and a second text, and gave this result. `old`, `new` and `Fact` are those of one text.
-- `Past` is a fact about a value that is `Ok`, and about the bytes to come before and after the call.
pub record TwoTextsRead {T : Type 0} (Fact : Option (List ℕ) → Option (List ℕ) → Type 0)
    (Past : T → Option (List ℕ) → Option (List ℕ) → Type 0) (old new : Told) (result : Result T Failure) : Type 0 where
  -- The fact holds for each input that the source may have.
  pub fact : (all : List ℕ) → IsInput new all → Fact (to_come all old) (to_come all new)
  -- Where the result is `Ok`, this much was read of the second text and taken past it.
  pub past : (all : List ℕ) → IsInput new all → IfOk result (λ value. Past value (to_come all old) (to_come all new))
  -- The error `Read` comes only where the count of faults rose.
  pub failed : result ≡ Err Read → Rose old.faults new.faults
  -- After a show's text that is too long, no more was taken than for one text.
  pub few : (all : List ℕ) → IsInput new all → IfSome (to_come all old) (λ comes. most_text < length (part_of comes)) →
      TakesOneText (to_come all old) (to_come all new)
  -- The source only gave bytes: none of its counts fell.
  pub gives : Gives old new

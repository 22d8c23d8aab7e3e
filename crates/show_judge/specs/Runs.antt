-- What a run ends with, reads and writes.
use Rattle.std.specs.Prelude.{◌≡◌, ◌⊎◌, ℕ, ◌<◌, ◌≤◌, Bool, true, false, ◌&&◌, not, List, [], ◌∷◌, ◌++◌, Contains}
use Rattle.std.specs.Prelude.{length, Option, Some, IfSome, if◌then◌else◌}
use Rattle.std.specs.Io.KnownBytes.{Appends}
use Rattle.text_lines.specs.Marker.{part_of}
use Rattle.byte_streams.specs.Causes.{Rose}
use Rattle.byte_streams.specs.Parts.{TakesFewAfter}
use Rattle.byte_streams.specs.Taken.{AppendsFront, TakesFront}
use Rattle.byte_streams.specs.Told.{Gives, IsInput}
use Rattle.show_judge.specs.Input.{TakesOneText}
use Rattle.whole_numbers.specs.Limits.{most_text}
use Rattle.show_judge.specs.Shows.{cut_of}
use Rattle.show_judge.specs.Outcome.{IsComplete, IsOutcome, IsSafeOutcome, judged_text}
use Rattle.show_judge.specs.Verb.{IsJudged, Outcome, Run, Span, Verb, nothing, run_on}

abbrev pub IsQuiet : Run → Type 0
IsQuiet r = (Rose r.reads_failed r.reads_failed_after → ⊥) × (Rose r.writes_failed r.writes_failed_after → ⊥)

abbrev pub reads : Verb → Bool
reads c = c.ways.reads

-- it reads it to the end, where it gives 0
abbrev pub reads_all : Verb → Bool
reads_all c = c.ways.reads && not c.ways.by_frames

-- the input of a run, where it is known; a command that reads nothing needs none
abbrev pub told : Verb → Run → Option (List ℕ)
told c r = if reads c then r.left else Some []

-- These bytes were taken from the source, and those given to the sink; both are known.
pub record Carried (r : Run) (taken sent : List ℕ) : Type 0 where
  pub later : List ℕ
  pub old : List ℕ
  pub left : r.left ≡ Some (taken ++ later)
  pub left_after : r.left_after ≡ Some later
  pub written : r.written ≡ Some old
  pub written_after : r.written_after ≡ Some (old ++ sent)

-- ---- status 6

-- The output of a run whose read failed, where it is known what was taken.
abbrev pub IsStopped : Verb → Run → List ℕ → Type 0
IsStopped c r output =
    IfSome r.left
    (λ input. (taken later : List ℕ) × (input ≡ taken ++ later) × (r.left_after ≡ Some later) × c.stops taken output)

-- ---- status 7

-- What would have been written: the output of an outcome of the input, where it is known; or, where the source's count
-- of faults rose too, that of a failed read.
abbrev pub IsOutput : Verb → Run → List ℕ → Type 0
IsOutput c r output =
    IfSome (told c r) (λ input. (o : Outcome) × IsOutcome c input o × (output ≡ o.output))
    ⊎ (Rose r.reads_failed r.reads_failed_after × IsStopped c r output)

-- ---- a run of a command

pub record Runs (c : Verb) (r : Run) (status : ℕ) : Type 0 where
  -- Every status but 1, 6 and 7 is that of an outcome of the input, whose output was written whole, whether or not a
  -- fault was counted.
  pub outcome : IsJudged status → IfSome (told c r)
      (λ input. (o : Outcome) × IsOutcome c input o × (status ≡ o.status) × Appends r.written r.written_after o.output)
  -- With no fault counted the outcome of the input, of which there is one alone, is what comes, whole; or 1, out of
  -- memory.
  pub exact : IsQuiet r → IfSome (told c r) (λ input. (o : Outcome) →
      IsOutcome c input o → ((status ≡ o.status) × Appends r.written r.written_after o.output) ⊎ (status ≡ 1))
  -- 0: the show is safe, and what the command gives for it was written; the input was read to its end.
  pub safe : status ≡ 0 →
      IfSome (told c r) (λ input. (o : Outcome) × IsSafeOutcome c input o × Appends r.written r.written_after o.output)
  pub whole : status ≡ 0 → reads_all c ≡ true → IfSome r.left (λ _. r.left_after ≡ Some [])
  -- 1: out of memory, and nothing was written.
  pub one : status ≡ 1 → (r.written_after ≡ r.written) × (r.writes_failed_after ≡ r.writes_failed)
  -- A command that judges nothing takes no memory: it ends with 0 and its lines, or with 7.
  pub always : (output : List ℕ) →
      c.judges ≡ nothing output → (status ≡ 7) ⊎ ((status ≡ 0) × Appends r.written r.written_after output)
  -- 6: the source failed, and what was written is that of a failed read.
  pub six : status ≡ 6 → Rose r.reads_failed r.reads_failed_after × (reads c ≡ true)
  pub stopped : status ≡ 6 →
      IfSome r.left (λ _. (output : List ℕ) × IsStopped c r output × Appends r.written r.written_after output)
  -- 7: the sink failed, and a prefix of the output went out.
  pub seven : status ≡ 7 → Rose r.writes_failed r.writes_failed_after
      × ((output : List ℕ) × IsOutput c r output × AppendsFront r.written r.written_after output)
  pub prompt : status ≡ 7 → c.prompt r
  -- Some read nothing.
  pub unread : reads c ≡ false → (r.left_after ≡ r.left) × (r.reads_failed_after ≡ r.reads_failed)
  -- There is no other status; 2 is none of a command.
  pub known : Contains (0 ∷ 1 ∷ 3 ∷ 4 ∷ 5 ∷ 6 ∷ 7 ∷ 8 ∷ 9 ∷ 10 ∷ 11 ∷ 12 ∷ 13 ∷ 14 ∷ 15 ∷ 16 ∷ 18 ∷ 19 ∷ 20 ∷ []) status
  pub taken : TakesFront r.left r.left_after
  pub reads_later : r.reads_failed ≤ r.reads_failed_after
  pub writes_later : r.writes_failed ≤ r.writes_failed_after

-- ---- how much is read

-- A command that wants nothing after a marker line takes no more of its input; nor does one that wants a second text,
-- where the show's is too long.
abbrev pub TakesLittle : Verb → Run → Type 0
TakesLittle c r = (c.ways.has_second ≡ false) ⊎ IfSome r.left (λ input. most_text < length (part_of input)) →
    TakesOneText r.left r.left_after

-- A command that wants nothing after a marker line takes at most 4,096 bytes after it, where it judges its input.
abbrev pub StopsAtMarker : Verb → Run → ℕ → Type 0
StopsAtMarker c r status =
    c.ways.has_second ≡ false → reads c ≡ true → IsJudged status → TakesFewAfter r.left r.left_after

-- ---- completeness

-- With no fault counted, an input that lacks nothing gives 0, or the program is out of memory. A command that judges
-- nothing needs none.
abbrev pub Completes : Verb → Run → ℕ → Type 0
Completes c r status =
    IsQuiet r → IfSome (told c r)
    (λ input. IfSome (judged_text c.judges input) (λ text. IsComplete c (cut_of text)) → (status ≡ 0) ⊎ (status ≡ 1))

-- ---- all of it

-- All that holds of a run of a command.
pub record Behaves (c : Verb) (r : Run) (status : ℕ) : Type 0 where
  pub runs : Runs c r status
  pub few : TakesLittle c r
  pub marker : StopsAtMarker c r status
  pub reading : c.reading r status
  pub complete : Completes c r status
  pub headline : status ≡ 0 → IfSome (told c r) (λ input. c.headline input r.written r.written_after)

-- The same of any source and any sink: the command behaves so on every input `all` that the source may have. That is
-- what it gave until now and any bytes after that, or none where its last read met the end. With `all` as what it gave
-- until now, `Behaves` speaks of the bytes that were read; with others it says that no byte after those could have
-- changed the outcome.
pub record Does (c : Verb) (m : Span) (status : ℕ) : Type 0 where
  pub gives : Gives m.told m.tells
  pub behaves : (all : List ℕ) → IsInput m.tells all → Behaves c (run_on m all) status

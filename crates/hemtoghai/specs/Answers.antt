-- What a call answers.
use Rattle.std.specs.Prelude.{◌≡◌, ℕ, List, [], ◌++◌, length, take, drop, nat_le, slice_get, Some, if◌then◌else◌}
use Rattle.show_judge.specs.Runs.{Behaves}
use Rattle.show_judge.specs.Verb.{Verb, run_of}

-- the first of these words
abbrev pub IsNamed : List (List ℕ) → List ℕ → Type 0
IsNamed words name = slice_get words 0 ≡ Some name

-- what stands in the caller's room once these bytes are put there: as many of them as it has room for, and after them
-- what stood there before
abbrev pub put_in : List ℕ → List ℕ → List ℕ
put_in room bytes = take (length room) bytes ++ drop (length bytes) room

-- the status where the room takes all of these bytes, and else 7
abbrev pub said_in : List ℕ → List ℕ → ℕ → ℕ
said_in room bytes status = if nat_le (length bytes) (length room) then status else 7

-- what a sink holds that keeps all that is written
pub record WholeOut : Type 0 where
  -- the bytes that were written
  pub written : List ℕ
  -- how many writes failed
  pub faults : ℕ

-- The command was run over this input, and over ends that never fail: it wrote `whole`, and ended with `status`.
pub record RunsOver (v : Verb) (input whole : List ℕ) (status : ℕ) : Type 0 where
  pub left : List ℕ
  pub behaves : Behaves v (run_of (Some input) (Some left) 0 0 (Some []) (Some whole) 0 0) status

-- The command was run so. The caller gets as much of what it wrote as there is room for, its size, and the status, or 7
-- where the room doesn't take all.
pub record Answered (v : Verb) (input room room_after : List ℕ) (size result : ℕ) : Type 0 where
  pub whole : List ℕ
  pub status : ℕ
  pub runs : RunsOver v input whole status
  pub holds : room_after ≡ put_in room whole
  pub sized : size ≡ length whole
  pub says : result ≡ said_in room whole status

-- What a source exposes of itself, and what it may still give.
use Rattle.std.specs.Prelude.{◌≡◌, ℕ, ◌<◌, ◌≤◌, List, [], ◌++◌, length, take, drop, Bool, Option, Some, Result, Ok, Err}
use Rattle.std.specs.Prelude.{IfOk, OnErr, IsTrue}
use Rattle.std.specs.Io.KnownBytes.{Consumes, IsAtEnd}
use Rattle.byte_streams.specs.Causes.{Rose}

-- what a source exposes at one moment
pub record Told : Type 0 where
  -- all bytes that its reads have given so far
  pub given : List ℕ
  -- its last read met the end: no bytes stand after those that it gave, unless it goes on later, as a terminal does
  pub ended : Bool
  -- the bytes still to come, where the source exposes them
  pub left : Option (List ℕ)
  -- how many of its reads failed
  pub faults : ℕ

-- the bytes that a read gave into a buffer
abbrev pub gave : {E : Type 0} → Result ℕ E → List ℕ → List ℕ
gave (Ok n) buf = take n buf
gave (Err e) buf = []

-- One read, which left these bytes in the buffer.
pub record Reads {E : Type 0} (old new : Told) (result : Result ℕ E) (buf : List ℕ) : Type 0 where
  -- It gave the first bytes of the buffer, and none where it failed.
  pub given : new.given ≡ old.given ++ gave result buf
  -- Where the bytes to come are known, those are the first of them.
  pub left : Consumes old.left new.left (gave result buf)
  -- No byte for a non-empty buffer is the end.
  pub ended : IfOk result (λ n. n ≡ 0 → 0 < length buf → IsTrue new.ended)
  -- At the end no bytes are known to come.
  pub at_end : IsTrue new.ended → IsAtEnd new.left
  -- The count of faults never falls, and rises with each failure.
  pub later : old.faults ≤ new.faults
  pub failed : OnErr result (Rose old.faults new.faults)

-- What a source did from one moment to a later one: it gave these bytes.
pub record Gives (old new : Told) : Type 0 where
  pub bytes : List ℕ
  pub given : new.given ≡ old.given ++ bytes
  pub left : Consumes old.left new.left bytes
  pub at_end : (IsTrue old.ended → IsAtEnd old.left) → IsTrue new.ended → IsAtEnd new.left
  pub later : old.faults ≤ new.faults

-- What a source did for a reader, of which `met` and `meets` say whether it had met the end and has met it now. A
-- reader that has met the end never reads again, whether or not the source could go on.
pub record Went (met meets : Bool) (old new : Told) : Type 0 where
  pub gives : Gives old new
  pub at_end : IsTrue meets → IsTrue new.ended
  pub stays : IsTrue met → IsTrue meets × (new ≡ old)

-- `all` may be all bytes that a source ever gives to a reader: those that it gave, and any others after them, but none
-- where the reader has met the end.
pub record MayGive (met : Bool) (t : Told) (all : List ℕ) : Type 0 where
  pub rest : List ℕ
  pub is : all ≡ t.given ++ rest
  pub none : IsTrue met → rest ≡ []

-- `all` may be all bytes that a source ever gives: those that it gave, and any others after them, but none where its
-- last read met the end. So the bytes that it gave until now are such an input, and after the end they are the only
-- one.
abbrev pub IsInput : Told → List ℕ → Type 0
IsInput t all = MayGive t.ended t all

-- the bytes still to come, where `all` is the whole input
abbrev pub to_come : List ℕ → Told → Option (List ℕ)
to_come all t = Some (drop (length t.given) all)

-- Of the bytes that waited and those that were read after them, these were taken, and the others wait.
pub record Took (waited waits : List ℕ) (old new : Told) (bytes : List ℕ) : Type 0 where
  pub read : List ℕ
  pub given : new.given ≡ old.given ++ read
  pub wait : waited ++ read ≡ bytes ++ waits

-- Sources and sinks over memory: what one holds, and what a call makes of it.
use Rattle.std.specs.Prelude.{Option, Some, ℕ, List, ◌++◌, Bool, ◌||◌, ◌&&◌, ◌==◌, nat_lt, nat_le, length, take, drop}
use Rattle.std.specs.List.{list_any}
use Rattle.byte_streams.specs.Causes.{counted}
use Rattle.byte_streams.specs.Told.{Told}

abbrev pub is_listed : List ℕ → ℕ → Bool
is_listed numbers n = list_any (λ m. m == n) numbers

-- what a source over memory holds
pub record MemoryIn : Type 0 where
  -- the bytes that it has given
  pub given : List ℕ
  -- the bytes still to come
  pub left : List ℕ
  -- the most bytes that a call gives
  pub cut : ℕ
  -- the numbers of the calls that fail, counted from 1
  pub fails : List ℕ
  -- how many calls there were
  pub calls : ℕ
  -- how many of them failed
  pub faults : ℕ

-- the next call is one of those that fail
abbrev pub read_fails : MemoryIn → Bool
read_fails s = is_listed s.fails (counted s.calls)

-- after a call that failed
abbrev pub read_failed : MemoryIn → MemoryIn
read_failed s =
    record {
      given = s.given;
      left = s.left;
      cut = s.cut;
      fails = s.fails;
      calls = counted s.calls;
      faults = counted s.faults;
    }

-- after a call that gave n bytes
abbrev pub read_gave : MemoryIn → ℕ → MemoryIn
read_gave s n =
    record {
      given = s.given ++ take n s.left;
      left = drop n s.left;
      cut = s.cut;
      fails = s.fails;
      calls = counted s.calls;
      faults = s.faults;
    }

-- what a sink over memory holds
pub record MemoryOut : Type 0 where
  -- the bytes that were taken
  pub written : List ℕ
  -- the most bytes that it keeps
  pub room : ℕ
  -- the most bytes that a call takes
  pub cut : ℕ
  -- the numbers of the calls that fail, counted from 1
  pub fails : List ℕ
  -- how many calls there were
  pub calls : ℕ
  -- how many of them failed
  pub faults : ℕ

-- the next call with these bytes fails: its number is one of those, or there are bytes and the room is full
abbrev pub write_fails : MemoryOut → List ℕ → Bool
write_fails s bytes =
    is_listed s.fails (counted s.calls) || (nat_lt 0 (length bytes) && nat_le s.room (length s.written))

-- after a call that failed
abbrev pub write_failed : MemoryOut → MemoryOut
write_failed s =
    record {
      written = s.written;
      room = s.room;
      cut = s.cut;
      fails = s.fails;
      calls = counted s.calls;
      faults = counted s.faults;
    }

-- after a call that took the first n of these bytes
abbrev pub write_took : MemoryOut → List ℕ → ℕ → MemoryOut
write_took s bytes n =
    record {
      written = s.written ++ take n bytes;
      room = s.room;
      cut = s.cut;
      fails = s.fails;
      calls = counted s.calls;
      faults = s.faults;
    }

-- what a sink that never fails holds
pub record SureOut : Type 0 where
  -- the first bytes that were written
  pub kept : List ℕ
  -- the most bytes that it keeps
  pub room : ℕ

-- after a call with these bytes
abbrev pub sure_took : SureOut → List ℕ → SureOut
sure_took s bytes = record { kept = take s.room (s.kept ++ bytes); room = s.room }

-- a source over a reader of std
pub record StdIn : Type 0 where
  -- the bytes that it has given
  pub given : List ℕ
  -- the last call met the reader's end
  pub ended : Bool
  -- the bytes that the reader says are still to come
  pub remaining : Option (List ℕ)
  -- how many reads failed
  pub faults : ℕ

-- a sink over a writer of std
pub record StdOut : Type 0 where
  -- the bytes that the writer took
  pub written : List ℕ
  -- the bytes that the writer says it holds
  pub contents : Option (List ℕ)
  -- how many writes failed
  pub faults : ℕ

-- ---- what they expose

abbrev pub told_std : StdIn → Told
told_std s = record { given = s.given; ended = s.ended; left = s.remaining; faults = s.faults }

abbrev pub told_memory : MemoryIn → Told
told_memory s = record { given = s.given; ended = length s.left == 0; left = Some s.left; faults = s.faults }

-- a source over memory that never fails
pub record SureIn : Type 0 where
  -- the bytes that it has given
  pub given : List ℕ
  -- the bytes still to come
  pub left : List ℕ

abbrev pub told_sure : SureIn → Told
told_sure s = record { given = s.given; ended = length s.left == 0; left = Some s.left; faults = 0 }

-- after a call that had room for n bytes
abbrev pub sure_gave : SureIn → ℕ → SureIn
sure_gave s n = record { given = s.given ++ take n s.left; left = drop n s.left }

-- What a reader of parts holds, and how it asks its source.
use Rattle.std.specs.Prelude.{◌≡◌, ℕ, ◌≤◌, List, [], ◌∷◌, ◌++◌, length, Bool, false, Option, Some, None, Result, Ok}
use Rattle.std.specs.Prelude.{Err}
use Rattle.std.specs.Io.KnownBytes.{prepend_known}
use Rattle.byte_streams.specs.Told.{Told}
use Rattle.text_lines.specs.Lines.{between_feeds}
use Rattle.text_lines.specs.Marker.{has_marker}

-- the most bytes that a reader of parts holds
abbrev pub buffer_bytes : ℕ
buffer_bytes = 4096

-- the greatest limit of a part that is read whole, in bytes
abbrev pub text_limit : ℕ
text_limit = 80000000

-- what a reader of parts holds
pub record Held : Type 0 where
  -- taken from the source, and not yet in a part
  pub waiting : List ℕ
  -- no call was refused
  pub sound : Bool
  -- a call met the source's end
  pub ended : Bool
  -- `byte` was never called
  pub lines : Bool
  -- the next byte of the part begins a line
  pub at_line : Bool

-- the bytes still to come of the reader, where those of its source are known
abbrev pub stream : Held → Option (List ℕ) → Option (List ℕ)
stream held left = prepend_known held.waiting left

-- all pieces but the last
abbrev pub without_last : List (List ℕ) → List (List ℕ)
without_last [] = []
without_last (piece ∷ []) = []
without_last (piece ∷ next ∷ rest) = piece ∷ without_last (next ∷ rest)

-- a marker line stands among these bytes, with its line feed
abbrev pub has_whole_marker : List ℕ → Bool
has_whole_marker bytes = has_marker (without_last (between_feeds bytes))

-- A call that began with these waiting bytes read from its source, and before each read what it held had no whole
-- marker line: `before` is what it had read when it asked last, and `last` is what it got then.
pub record Asked (waiting : List ℕ) (old new : Told) : Type 0 where
  pub before : List ℕ
  pub last : List ℕ
  pub taken : new.given ≡ old.given ++ (before ++ last)
  pub most : length last ≤ buffer_bytes
  pub unmarked : has_whole_marker (waiting ++ before) ≡ false

-- the byte that a call returned, if it returned one
abbrev pub byte_of : {E : Type 0} → Result (Option ℕ) E → List ℕ
byte_of (Ok (Some byte)) = byte ∷ []
byte_of (Ok None) = []
byte_of (Err e) = []

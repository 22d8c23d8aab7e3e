-- What goes out through a buffer.
use Rattle.std.specs.Prelude.{◌≡◌, ℕ, List, ◌++◌, Option}
use Rattle.std.specs.Io.KnownBytes.{Appends}

-- These bytes follow those that waited: some are appended to what was written, and what is left waits.
pub record Passes (old : Option (List ℕ)) (waiting : List ℕ) (new : Option (List ℕ)) (left bytes : List ℕ) : Type 0
  where
    pub sent : List ℕ
    pub appended : Appends old new sent
    pub all : waiting ++ bytes ≡ sent ++ left

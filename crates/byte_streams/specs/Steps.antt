-- What each step of a reader of parts keeps.
use Rattle.std.specs.Prelude.{◌≡◌, ℕ, List, [], ◌∷◌, ◌++◌}
use Rattle.text_lines.specs.Lines.{between_feeds}
use Rattle.byte_streams.specs.Held.{Held}
use Rattle.byte_streams.specs.Told.{Told, Went}

-- A reader went from the old state to the new one, and its source too.
pub record Goes (old new : Held) (told tells : Told) : Type 0 where
  pub went : Went old.ended new.ended told tells
  pub sound : new.sound ≡ old.sound
  pub lines : new.lines ≡ old.lines

-- A byte and a run of those that waited were put after some bytes. The run has no line feed.
pub record Runs (waited waits before after : List ℕ) (byte : ℕ) : Type 0 where
  pub run : List ℕ
  pub wait : waited ≡ run ++ waits
  pub put : after ≡ before ++ byte ∷ run
  pub whole : between_feeds run ≡ run ∷ []

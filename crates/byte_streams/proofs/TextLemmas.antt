-- A text that grows keeps what it had.
use Rattle.byte_streams.proofs.Prelude.{◌≡◌, ℕ, ◌≤◌, List, length, take}

-- The text begins with the old one.
pub record Keeps (old text : List ℕ) : Type 0 where
  pub longer : length old ≤ length text
  pub front : take (length old) text ≡ old

-- What a part is of the bytes to come.
use Rattle.std.specs.Prelude.{◌≡◌, ℕ, ◌+◌, ◌≤◌, List, ◌++◌, length, Bool, true, Option, Some, IfSome}
use Rattle.text_lines.specs.Lines.{between_feeds}
use Rattle.text_lines.specs.Marker.{has_marker, part_of, rest_of}
use Rattle.byte_streams.specs.Held.{buffer_bytes, has_whole_marker}
use Rattle.byte_streams.specs.Told.{Told, Took}

-- Of the bytes to come, where they are known, this part was taken, with the marker line after it if there is one.
pub record TakesPart (old new : Option (List ℕ)) (bytes : List ℕ) (is_marked : Bool) : Type 0 where
  pub part : IfSome old (λ all. bytes ≡ part_of all)
  pub marker : IfSome old (λ all. is_marked ≡ has_marker (between_feeds all))
  pub rest : IfSome old (λ all. new ≡ Some (rest_of all))

-- Bytes were taken in which a marker line stands with its line feed.
abbrev pub TookMarked : List ℕ → List ℕ → Told → Told → Type 0
TookMarked waited waits old new = (taken : List ℕ) × Took waited waits old new taken × (has_whole_marker taken ≡ true)

-- Of what stands after the part and its marker line a source has given at most 4,096 bytes, where both are known.
abbrev pub TakesFewAfter : Option (List ℕ) → Option (List ℕ) → Type 0
TakesFewAfter old left = IfSome old (λ all. IfSome left (λ rest. length (rest_of all) ≤ length rest + buffer_bytes))

-- A text in which a marker line stands with its line feed has the same part, whatever comes after it, and what comes
-- after it comes after its rest.
abbrev pub MarkerLaw : Type 0
MarkerLaw =
    (text more : List ℕ) → has_whole_marker text ≡ true →
    (part_of (text ++ more) ≡ part_of text) × (rest_of (text ++ more) ≡ rest_of text ++ more)
    × (has_marker (between_feeds (text ++ more)) ≡ true)

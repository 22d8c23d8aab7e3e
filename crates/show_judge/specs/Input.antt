-- What the program has read of its input.
use Rattle.std.specs.Prelude.{◌≡◌, ℕ, ◌<◌, ◌+◌, ◌≤◌, Bool, false, List, [], length, Option, Some, IfSome}
use Rattle.byte_streams.specs.Held.{buffer_bytes}
use Rattle.byte_streams.specs.Parts.{TakesFewAfter}
use Rattle.byte_streams.specs.Taken.{TakesAtMost}
use Rattle.text_lines.specs.Lines.{between_feeds}
use Rattle.text_lines.specs.Marker.{has_marker, part_of, rest_of}
use Rattle.show_judge.specs.declared.input.Text.{Text}
use Rattle.show_judge.specs.declared.input.Text.TheVariants.{TooLarge, Whole}
use Rattle.show_judge.specs.declared.input.Input.{Input}
use Rattle.whole_numbers.specs.Limits.{most_text}
use Rattle.show_judge.specs.Shows.{Cut, cut_of}

-- A text that was read is these bytes, of which there are at most this many, with a marker line after them or none; it
-- is too large where there are more.
abbrev pub IsText : ℕ → Text → List ℕ → Bool → Type 0
IsText limit TooLarge bytes is_marked = limit < length bytes
IsText limit (Whole part) bytes is_marked = (part.bytes.items ≡ bytes) × (part.marker ≡ is_marked)
    × (length bytes ≤ limit)

-- the text is the first one of these bytes to come, where they are known
abbrev pub IsNextText : ℕ → Text → Option (List ℕ) → Type 0
IsNextText limit text coming = IfSome coming (λ all. IsText limit text (part_of all) (has_marker (between_feeds all)))

-- the text isn't too large
abbrev pub IsWholeText : Text → Type 0
IsWholeText TooLarge = ⊥
IsWholeText (Whole part) = Unit {0}

-- the text isn't too large, and no marker line stands after it
abbrev pub IsUnmarked : Text → Type 0
IsUnmarked TooLarge = ⊥
IsUnmarked (Whole part) = part.marker ≡ false

-- a text that isn't too large has at most this many bytes
abbrev pub IsWithin : ℕ → Text → Type 0
IsWithin limit TooLarge = Unit {0}
IsWithin limit (Whole part) = length part.bytes.items ≤ limit

-- after a text that was read whole, these bytes are still to come
abbrev pub GoesOn : Text → Option (List ℕ) → Option (List ℕ) → Type 0
GoesOn TooLarge old new = Unit {0}
GoesOn (Whole part) old new = IfSome old (λ all. new ≡ Some (rest_of all))

-- The input was read to its end.
abbrev pub IsReadWhole : Option (List ℕ) → Option (List ℕ) → Type 0
IsReadWhole input left = IfSome input (λ _. left ≡ Some [])

-- Both texts were read before either was judged. Where neither is too long, at most 4,096 bytes were taken of what
-- stands after the second one and its marker line; where no marker line stands there, the input was read to its end.
abbrev pub IsReadBoth : ℕ → Option (List ℕ) → Option (List ℕ) → Type 0
IsReadBoth limit left left_after =
    IfSome left (λ all. length (part_of all) ≤ most_text → length (part_of (rest_of all)) ≤ limit →
    (has_marker (between_feeds (rest_of all)) ≡ false → left_after ≡ Some [])
    × TakesFewAfter (Some (rest_of all)) left_after)

-- The show's text is the first one of the input that is cut so.
abbrev pub IsShowText : Text → Cut → Type 0
IsShowText text cut = IsText most_text text cut.show cut.is_marked

-- The two texts are those of the input that is cut so, the second of at most this many bytes; nothing is wanted after a
-- show's text that is too large.
pub record AreTexts (limit : ℕ) (input : Input) (cut : Cut) : Type 0 where
  pub show : IsShowText input.show cut
  pub second : IsWholeText input.show → IsText limit input.second cut.second cut.is_second_marked

-- The show's text was read: it is that of the input, and where no marker line stands after it, the input was read to
-- its end.
pub record ReadsShow (left left_after : Option (List ℕ)) (text : Text) : Type 0 where
  pub show : IfSome left (λ all. IsShowText text (cut_of all))
  pub short : IsWithin most_text text
  pub whole : IsUnmarked text → IsReadWhole left left_after

-- The show's text and a second one were read.
pub record ReadsTwo (limit : ℕ) (left left_after : Option (List ℕ)) (input : Input) : Type 0 where
  pub texts : IfSome left (λ all. AreTexts limit input (cut_of all))
  pub short : IsWithin most_text input.show
  pub second : IsWithin limit input.second
  pub whole : IsWholeText input.show → IsUnmarked input.second → IsReadWhole left left_after

-- At most the bytes of the longest show's text were taken, those of a marker line, and 4,096 that were asked for at
-- once.
abbrev pub TakesOneText : Option (List ℕ) → Option (List ℕ) → Type 0
TakesOneText left left_after = TakesAtMost (most_text + 4 + buffer_bytes) left left_after

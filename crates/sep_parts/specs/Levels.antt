-- Places of a cue and their halves, and the parts of curves that wait there.
use Rattle.std.specs.Prelude.{◌≡◌, ℕ, ◌+◌, ◌*◌, ◌≤◌, List, [], ◌∷◌, length, map}
use Rattle.whole_numbers.specs.Bernstein.{at}
use Rattle.bezier_core.specs.declared.Bez.{Bez}
use Rattle.bezier_core.specs.Along.{controls}
use Rattle.bezier_core.specs.Raised.{eight}
use Rattle.bezier_core.specs.declared.halves.Place.{Place}
use Rattle.bezier_core.specs.Part.{part_value}
use Rattle.bezier_core.specs.Places.{IsPlace}
use Rattle.sep_parts.specs.declared.stack.Level.{Level}

-- the whole cue
abbrev pub root : Place
root = record { depth = 0; index = 0 }

-- the first half of a place
abbrev pub left_half : Place → Place
left_half p = record { depth = p.depth + 1; index = 2 * p.index }

-- the second half of a place
abbrev pub right_half : Place → Place
right_half p = record { depth = p.depth + 1; index = 2 * p.index + 1 }

-- the level has the parts of the three curves at its place
pub record IsLevel (diff : List (Bez 8)) (level : Level) : Type 0 where
  pub place : IsPlace level.place.depth level.place.index
  pub axes : length level.part ≡ 3
  pub part : (axis : ℕ) → axis ≤ 2 →
      controls level.part axis ≡ eight (part_value level.place.depth level.place.index (at (controls diff axis)))

-- each level has the parts at its place, and fewer stand below it than it is deep
abbrev pub IsStack : List (Bez 8) → List Level → Type 0
IsStack diff [] = Unit {0}
IsStack diff (level ∷ rest) = (length rest ≤ level.place.depth) × IsLevel diff level × IsStack diff rest

abbrev pub places_of : List Level → List Place
places_of levels = map (λ (l : Level). l.place) levels

-- What the definition of a show's text says of short texts.
use Rattle.std.specs.Prelude.{ℕ, List, [], ◌∷◌, ◌++◌, codes}
use Rattle.choreo_show.specs.Plain as plain
use Rattle.choreo_show.specs.Plain.{PlainShow}
use Rattle.choreo_reader.specs.Grammar.{StandsFor}

-- these bytes and a line feed
abbrev pub line_of : List ℕ → List ℕ
line_of bytes = bytes ++ 10 ∷ []

-- a show of no drone and no cue, with this lateness
abbrev pub nobody : ℕ → PlainShow
nobody late = record {
  settings = record { memory_id = 2; offset = 0; trajectory_id = 0; r = 120; h = 300; stray = 0; late = late };
  drones = [];
  formations = [];
  figures = [];
  body = plain.Done;
}

-- `late 3` after the header is the text of a show with a lateness of 3, and not of one with 4. Without the header, with
-- one of another version, with no line at all, and with a byte that may not stand there, a text is that of no show.
pub record StandsRows : Type 0 where
  pub late : StandsFor (line_of (codes "choreo 1") ++ line_of (codes "late 3")) (nobody 3)
  pub later : StandsFor (line_of (codes "choreo 1") ++ line_of (codes "late 3")) (nobody 4) → ⊥
  pub no_header : (s : PlainShow) → StandsFor (line_of (codes "late 3")) s → ⊥
  pub other_header : (s : PlainShow) → StandsFor (line_of (codes "choreo 3")) s → ⊥
  pub no_line : (s : PlainShow) → StandsFor [] s → ⊥
  pub forbidden_byte : (s : PlainShow) → StandsFor (line_of (codes "choreo 1") ++ line_of (7 ∷ [])) s → ⊥

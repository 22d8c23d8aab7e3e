-- What the definitions of a show's shape say of small bodies.
use Rattle.std.specs.Prelude.{◌≡◌, ℕ, zero, suc, ◌+◌, pos, true, false, List, [], ◌∷◌, codes}
use Rattle.choreo_show.specs.Name.{Name}
use Rattle.choreo_show.specs.declared.parts.Act.TheVariants as act
use Rattle.choreo_show.specs.declared.parts.Mirror.TheVariants as mirror
use Rattle.choreo_show.specs.Plain as plain
use Rattle.choreo_show.specs.Plain.{Body, PlainFigure, PlainShow}
use Rattle.choreo_show.specs.Shape.{depth, fits_figure, is_filled}
use Rattle.choreo_show.specs.Valid.{FitFigures, IsValid}
use Rattle.choreo_show.specs.declared.show.ActLine.{ActLine}
use Rattle.choreo_show.specs.declared.show.ActLine.TheVariants as on

abbrev pub called : List ℕ → Name
called bytes = record { items = bytes }

-- a cue of ten milliseconds with these lines, and blocks after it
abbrev pub cue : List ActLine → Body → Body
cue acts rest = plain.Cue 3 10 acts rest

-- a cue without a line
abbrev pub one_cue : Body
one_cue = cue [] plain.Done

-- these blocks twice, and blocks after them
abbrev pub twice : Body → Body → Body
twice inside rest = plain.Repeat 2 2 inside rest

-- figure `g`, performed by drone a, and blocks after it
abbrev pub performed : Body → Body
performed rest =
    plain.Perform 4 (called (codes "g"))
    (record { mirror = mirror.None; turns = 0; dx = pos 0; dy = pos 0; dz = pos 0 })
    (called (codes "a") ∷ []) rest

-- the line of one drone or role, and a line that forms all
abbrev pub one_line : ActLine
one_line = on.One 4 (called (codes "a")) act.Hold

abbrev pub form_line : ActLine
form_line = on.Form 5 (called (codes "f")) true

-- this many repeats around a cue, one inside the other, from this line on
abbrev pub nested : ℕ → ℕ → Body
nested line zero = plain.Cue line 10 [] plain.Done
nested line (suc n) = plain.Repeat line 2 (nested (line + 1) n) plain.Done

-- figure `g` of one role, with these blocks
abbrev pub figure_of : Body → PlainFigure
figure_of body = record { line = 1; name = called (codes "g"); roles = called (codes "a") ∷ []; body = body }

-- a show of these figures and blocks, without drones
abbrev pub show_of : List PlainFigure → Body → PlainShow
show_of figures body = record {
  settings = record { memory_id = 2; offset = 0; trajectory_id = 0; r = 120; h = 300; stray = 0; late = 0 };
  drones = [];
  formations = [];
  figures = figures;
  body = body;
}

-- A repeat around a cue is filled. An empty one isn't, wherever it stands: alone, inside another, or after a cue, a
-- repeat or a perform.
pub record FilledRows : Type 0 where
  pub nothing : is_filled plain.Done ≡ true
  pub around_a_cue : is_filled (twice one_cue plain.Done) ≡ true
  pub empty : is_filled (twice plain.Done plain.Done) ≡ false
  pub inside : is_filled (twice (twice plain.Done plain.Done) plain.Done) ≡ false
  pub beside_a_cue : is_filled (twice (cue [] (twice plain.Done plain.Done)) plain.Done) ≡ false
  pub after_a_cue : is_filled (cue [] (twice plain.Done plain.Done)) ≡ false
  pub after_a_repeat : is_filled (twice one_cue (twice plain.Done plain.Done)) ≡ false
  pub after_a_perform : is_filled (performed (twice plain.Done plain.Done)) ≡ false
  pub invalid : IsValid (show_of [] (twice plain.Done plain.Done)) → ⊥
  pub figure : FitFigures (figure_of (twice one_cue plain.Done) ∷ [])
  pub empty_in_a_figure : FitFigures (figure_of (twice plain.Done plain.Done) ∷ []) → ⊥
  pub empty_figure : FitFigures (figure_of plain.Done ∷ []) → ⊥

-- The lines of single roles fit a figure. A `form` line doesn't, nor a perform, wherever they stand.
pub record FigureRows : Type 0 where
  pub one : fits_figure (cue (one_line ∷ []) plain.Done) ≡ true
  pub form : fits_figure (cue (form_line ∷ []) plain.Done) ≡ false
  pub form_after_one : fits_figure (cue (one_line ∷ form_line ∷ []) plain.Done) ≡ false
  pub form_in_a_later_cue : fits_figure (cue (one_line ∷ []) (cue (form_line ∷ []) plain.Done)) ≡ false
  pub form_in_a_repeat : fits_figure (twice (cue (form_line ∷ []) plain.Done) plain.Done) ≡ false
  pub form_after_a_repeat : fits_figure (twice one_cue (cue (form_line ∷ []) plain.Done)) ≡ false
  pub perform : fits_figure (performed plain.Done) ≡ false
  pub perform_after_a_cue : fits_figure (cue [] (performed plain.Done)) ≡ false
  pub perform_in_a_repeat : fits_figure (twice (performed plain.Done) plain.Done) ≡ false
  pub valid : FitFigures (figure_of (cue (one_line ∷ []) plain.Done) ∷ [])
  pub formed : FitFigures (figure_of (cue (form_line ∷ []) plain.Done) ∷ []) → ⊥
  pub performing : FitFigures (figure_of (cue (one_line ∷ []) (performed plain.Done)) ∷ []) → ⊥
  pub later_figure : FitFigures (figure_of one_cue ∷ figure_of (performed plain.Done) ∷ []) → ⊥

-- Repeats are counted where they stand inside each other: one around a cue is one deep, and one after another is no
-- deeper than either. Eight fit a figure, and nine don't, nor are they valid in a show.
pub record NestingRows : Type 0 where
  pub none : depth (cue [] (performed plain.Done)) ≡ 0
  pub one : depth (nested 1 1) ≡ 1
  pub nine : depth (nested 1 9) ≡ 9
  pub later : depth (twice one_cue (nested 4 3)) ≡ 3
  pub earlier : depth (twice (nested 3 3) (nested 9 1)) ≡ 4
  pub after_a_cue : depth (cue [] (nested 4 2)) ≡ 2
  pub after_a_perform : depth (performed (nested 5 2)) ≡ 2
  pub eight_in_a_figure : FitFigures (figure_of (nested 2 8) ∷ [])
  pub nine_in_a_figure : FitFigures (figure_of (nested 2 9) ∷ []) → ⊥
  pub invalid : IsValid (show_of [] (nested 1 9)) → ⊥

-- A show without where it lies in memory.
use Rattle.std.specs.Prelude.{ℕ, Bool, true, false, List, [], ◌∷◌, map}
use Rattle.choreo_show.specs.Name.{Name}
use Rattle.choreo_show.specs.declared.show.Block.{Block, Block-F, fold-Block}
use Rattle.choreo_show.specs.declared.show.Block.TheOpen as layer
use Rattle.choreo_show.specs.declared.show.ActLine.{ActLine}
use Rattle.choreo_show.specs.declared.show.DroneLine.{DroneLine}
use Rattle.choreo_show.specs.declared.show.Formation.{Formation}
use Rattle.choreo_show.specs.declared.show.Figure.{Figure}
use Rattle.choreo_show.specs.declared.parts.Frame.{Frame}
use Rattle.choreo_show.specs.declared.show.Settings.{Settings}
use Rattle.choreo_show.specs.declared.show.Show.{Show}

-- how many repeats may stand inside each other
abbrev pub most_nested : ℕ
most_nested = 8

-- blocks one after another; each constructor but the first is one block and the blocks after it
pub data Body : Type 0 where
  Done : Body
  Cue : (line ms : ℕ) (acts : List ActLine) (rest : Body) → Body
  Repeat : (line times : ℕ) (inside rest : Body) → Body
  Perform : (line : ℕ) (figure : Name) (frame : Frame) (drones : List Name) (rest : Body) → Body

-- the blocks of two bodies, one after the other
infixl 10 ◌⨾◌
abbrev pub ◌⨾◌ : Body → Body → Body
Done ⨾ c = c
(Cue line ms acts rest) ⨾ c = Cue line ms acts (rest ⨾ c)
(Repeat line times inside rest) ⨾ c = Repeat line times inside (rest ⨾ c)
(Perform line figure frame drones rest) ⨾ c = Perform line figure frame drones (rest ⨾ c)

-- whether there is a block
abbrev pub has_block : Body → Bool
has_block Done = false
has_block _ = true

-- a figure
pub record PlainFigure : Type 0 where
  pub line : ℕ
  pub name : Name
  pub roles : List Name
  pub body : Body

-- a show
pub record PlainShow : Type 0 where
  pub settings : Settings
  pub drones : List DroneLine
  pub formations : List Formation
  pub figures : List PlainFigure
  pub body : Body

-- a block with the blocks after it
abbrev pub blocks_then : List (Body → Body) → Body → Body
blocks_then [] rest = rest
blocks_then (b ∷ bs) rest = b (blocks_then bs rest)

-- a block whose inner blocks are bodies already
abbrev pub block_step : Block-F (Body → Body) → Body → Body
block_step (layer.Cue line ms acts) rest = Cue line ms acts rest
block_step (layer.Repeat line times body) rest = Repeat line times (blocks_then body.items Done) rest
block_step (layer.Perform line figure frame drones) rest = Perform line figure frame drones rest

-- a block, as one that stands before others
abbrev pub block_of : Block → Body → Body
block_of = fold-Block (Body → Body) block_step

-- these blocks
abbrev pub body_of : List Block → Body
body_of bs = blocks_then (map block_of bs) Done

-- a figure without where it lies in memory
abbrev pub figure_of : Figure → PlainFigure
figure_of f = record { line = f.line; name = f.name; roles = f.roles; body = body_of f.body.items }

-- a show without where it lies in memory
abbrev pub plain : Show → PlainShow
plain s = record {
  settings = s.settings;
  drones = s.drones;
  formations = s.formations;
  figures = map figure_of s.figures;
  body = body_of s.body.items;
}

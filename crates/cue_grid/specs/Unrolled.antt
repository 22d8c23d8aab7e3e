-- What unrolling a show gives.
use Rattle.std.specs.Prelude.{◌≡◌, Some, None, Result, Ok, Err}
use Rattle.choreo_show.specs.Plain.{PlainShow}
use Rattle.cue_grid.specs.Cues.{grid_of}
use Rattle.cue_grid.specs.Faults.{grid_fault}
use Rattle.cue_grid.specs.declared.grid.Grid.{Grid}
use Rattle.cue_grid.specs.declared.grid.UnrollError.{UnrollError}
use Rattle.cue_grid.specs.declared.grid.UnrollError.TheVariants as error

-- A grid comes only without a fault, and is that of the show. A fault is the first one of the show. Out of memory says
-- nothing.
abbrev pub GridGives : Result Grid UnrollError → PlainShow → Type 0
GridGives (Ok g) show = (grid_fault show ≡ None) × (g ≡ grid_of show)
GridGives (Err (error.Fault f)) show = grid_fault show ≡ Some f
GridGives (Err error.Memory) show = Unit {0}

-- How blocks stand in one another.
use Rattle.std.specs.Prelude.{ℕ, ◌+◌, max, Bool, true, false, ◌&&◌}
use Rattle.std.specs.List.{list_all}
use Rattle.choreo_show.specs.Plain as plain
use Rattle.choreo_show.specs.Plain.{Body, has_block}
use Rattle.choreo_show.specs.declared.show.ActLine.{ActLine}
use Rattle.choreo_show.specs.declared.show.ActLine.TheVariants as on

-- how deep repeats stand inside each other
abbrev pub depth : Body → ℕ
depth plain.Done = 0
depth (plain.Cue line ms acts rest) = depth rest
depth (plain.Repeat line times inside rest) = max (depth inside + 1) (depth rest)
depth (plain.Perform line figure frame drones rest) = depth rest

-- no repeat is empty
abbrev pub is_filled : Body → Bool
is_filled plain.Done = true
is_filled (plain.Cue line ms acts rest) = is_filled rest
is_filled (plain.Repeat line times inside rest) = has_block inside && is_filled inside && is_filled rest
is_filled (plain.Perform line figure frame drones rest) = is_filled rest

-- an act line of one drone
abbrev pub names_one : ActLine → Bool
names_one (on.One line name a) = true
names_one (on.Form line formation smooth) = false

-- no perform stands in a figure, and no `form`
abbrev pub fits_figure : Body → Bool
fits_figure plain.Done = true
fits_figure (plain.Cue line ms acts rest) = list_all names_one acts && fits_figure rest
fits_figure (plain.Repeat line times inside rest) = fits_figure inside && fits_figure rest
fits_figure (plain.Perform line figure frame drones rest) = false

-- What the proofs of this crate cite from elsewhere, passed on from one place. Declares nothing.
pub use Rattle.std.proofs.Common.{Bool, Bor, FitsSigned, List, MatchOption, None, Option, Some, [], add-one, ap, append_assoc, arith, cond, drop, drop-cons, false, get_or, inl, inr, is_some, length, map, of_z, option_map, position, refl, set, slice_get, subst, suc, sym, take, to_z, true, vec_items, zero, ℕ, ℤ, ◌*◌, ◌++◌, ◌+ℤ◌, ◌+◌, ◌-◌, ◌<◌, ◌^◌, ◌∙◌, ◌∷◌, ◌≡◌, ◌≤◌, ◌⊎◌}
pub use Rattle.std.proofs.lemmas.Bool.{cases_Bool, cases_lt}
pub use Rattle.std.proofs.lemmas.Bool.Decides.{nat_tests}
pub use Rattle.std.proofs.lemmas.Grind.{common_steps, get_or-set_at}
pub use Rattle.std.proofs.lemmas.List.{append-nil, drop_all, get_or-set_other, length-append, length-map, length-set, length-take-le, map-append, take-map, take_all, take_more}
pub use Rattle.std.proofs.lemmas.Slice.Eq.{bytes_eq-Decides}
pub use Rattle.std.specs.List.{All, position_or_len}
pub use Rattle.std.specs.Map.{lookup}
pub use Rattle.std.specs.Option.{option_copied}
pub use Rattle.std.specs.Prelude.{IfSome, IsTrue, Vec, min, nat_lt, neg_ℤ, not, pos, ◌&&◌, ◌==◌, ◌||◌, ◌≤ℤ◌}
pub use Rattle.std.specs.declared.alloc.Global.{Global}
pub use Rattle.choreo_show.proofs.Blocks.{block_then, blocks_none, body_push, repeat_is}
pub use Rattle.choreo_show.specs.Name.{Name}
pub use Rattle.choreo_show.specs.Plain.{Body, PlainFigure, PlainShow, block_of, body_of, figure_of, has_block, plain, ◌⨾◌}
pub use Rattle.choreo_show.specs.Valid.{AllAbove, FitActLines, FitDroneLines, FitFigures, FitFormations, FitsAct, FitsActLine, FitsBody, FitsCoordinate, FitsFrame, FitsPoint, IsName, IsValid, act_lines, body_lines, drone_lines, figure_lines, formation_lines}
pub use Rattle.choreo_show.specs.declared.parts.Act.{Act}
pub use Rattle.choreo_show.specs.declared.parts.Frame.{Frame}
pub use Rattle.choreo_show.specs.declared.parts.Point.{Point}
pub use Rattle.choreo_show.specs.declared.show.ActLine.{ActLine}
pub use Rattle.choreo_show.specs.declared.show.Block.{Block}
pub use Rattle.choreo_show.specs.declared.show.DroneLine.{DroneLine}
pub use Rattle.choreo_show.specs.declared.show.Figure.{Figure}
pub use Rattle.choreo_show.specs.declared.show.Formation.{Formation}
pub use Rattle.whole_numbers.specs.Limits.{most_cues, most_drones}
pub use Rattle.indexmap.specs.IndexSet.{insert_key}
pub use Rattle.cue_grid.specs.Counts.{body_count, count_in, count_of_figure, figure_count, line_if_over, none_performed, over_at, perform_count}
pub use Rattle.cue_grid.specs.Cues.{Playing, cue_of, cues_in, cues_of, cues_of_figure, grid_of, job_of, player, times_over}
pub use Rattle.cue_grid.specs.Faults.{act_faults, act_line_faults, acted_by, body_faults, drone_faults, drones_faults, earlier_of, earliest, fault_if, figure_faults, figures_faults, form_faults, formation_faults, formations_faults, grid_fault, line_of, many_cues, many_drones, name_faults, no_cue, no_drone, or_else, perform_faults, place_faults, show_faults, too_many}
pub use Rattle.cue_grid.specs.Frames.{IsUpTo, no_frame}
pub use Rattle.cue_grid.specs.Grids.{FitCues, FitJobs, FitsJob, IsGrid}
pub use Rattle.cue_grid.specs.Marks.{AllPlaced, ArePlaced, HasNumbers, IsActed, IsPlaced, Keeps, has_act, has_mark, marked, number_in}
pub use Rattle.cue_grid.specs.Names.{figure_named, formation_named, has_double, has_name, has_some, names_of, place_named, places_in, same_name}
pub use Rattle.cue_grid.specs.Numbers.{IsNoted, IsNumbered, figure_names, formation_names, number_from, number_or}
pub use Rattle.cue_grid.specs.Shown.{HaveActs, place_names, played, shown}
pub use Rattle.cue_grid.specs.Steps.{act_by, act_if, act_line_number, as_written, figure_cues, first_of, gives, job_or, lines_after, name_fault, nothing_performed, performed_cues, put_acts, put_line_of, stands_at, way_if, way_to}
pub use Rattle.cue_grid.specs.declared.grid.Cue.{Cue}
pub use Rattle.cue_grid.specs.declared.grid.Grid.{Grid}
pub use Rattle.cue_grid.specs.declared.grid.GridFault.{GridFault}
pub use Rattle.cue_grid.specs.declared.grid.GridFault.TheVariants.{DoubleAct, DoubleName, NoDrone}
pub use Rattle.cue_grid.specs.declared.grid.Job.{Job}

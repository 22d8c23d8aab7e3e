-- Words of private steps. No public clause cites them.
use Rattle.std.specs.Prelude.{ℕ, List, map, Option, Result}
use Rattle.std.specs.List.{All}
use Rattle.std.specs.Option.{option_map}
use Rattle.cue_grid.specs.declared.grid.Grid.{Grid}
use Rattle.traj_codec.specs.declared.traj.Traj.{Traj}
use Rattle.figure_expand.specs.Expanded.{pieces_from}
use Rattle.figure_expand.specs.Flown.{start_of, StartsWell, RoundsWell}
use Rattle.show_plan.specs.Trajectories.{trajectory_of}
use Rattle.sep_parts.specs.declared.clearance.Clearance.{Clearance}
use Rattle.sep_parts.specs.declared.slot.Slot.{Slot}
use Rattle.fleet_curves.specs.Raised.{Raised}
use Rattle.sep_parts.specs.Slots.{slots}
use Rattle.sep_parts.specs.declared.node.Node.{Node}
use Rattle.pair_search.specs.Search.{blocked_place}
use Rattle.pair_search.specs.Fleets.{nodes_in}
use Rattle.pair_search.specs.declared.fleet.SearchFault.{SearchFault}
use Rattle.pair_search.specs.declared.fleet.SearchFault.TheVariants as search
use Rattle.show_plan.specs.declared.separation.BlockedPart.{BlockedPart}
use Rattle.show_plan.specs.declared.separation.SeparationFault.{SeparationFault}
use Rattle.show_plan.specs.declared.separation.SeparationFault.TheVariants as fault
use Rattle.show_plan.specs.Separation.{Finds, direction_at, blocked_at, blocked_in, best_nodes, measure_of}

abbrev pub flight : Grid → ℕ → Traj
flight g d = trajectory_of (start_of g d) (pieces_from (start_of g d) d g.cues)

-- a trajectory can hold each number of a drone
pub record FitsDrone (g : Grid) (d : ℕ) : Type 0 where
  pub start : StartsWell (start_of g d)
  pub pieces : All RoundsWell (pieces_from (start_of g d) d g.cues)

-- the first part of a slot's cue, of this depth, that no direction separates
abbrev pub blocked_slot : Clearance → ℕ → Raised → Slot → Option BlockedPart
blocked_slot c depth curves slot = option_map (blocked_at slot) (blocked_place (direction_at c curves slot) depth)

abbrev pub FindsTrees : Clearance → ℕ → Raised → Result (List (List Node)) SeparationFault → Type 0
FindsTrees c depth curves result =
    Finds (blocked_in c depth curves (slots curves.drones curves.cues))
    (map (best_nodes c depth curves) (slots curves.drones curves.cues)) result

abbrev pub FindsNodes : Clearance → ℕ → Raised → Result ℕ SeparationFault → Type 0
FindsNodes c depth curves result =
    Finds (blocked_in c depth curves (slots curves.drones curves.cues))
    (nodes_in (measure_of c) depth curves (slots curves.drones curves.cues)) result

abbrev pub separation_fault : SearchFault → SeparationFault
separation_fault (search.Blocked slot index) = fault.Blocked (blocked_at slot index)
separation_fault search.Memory = fault.Memory

-- What keeps the drones of a show apart: a certificate with the largest possible leaves, or the first part of a cue in
-- which no direction separates two drones.
use Rattle.std.specs.Prelude.{◌≡◌, ℕ, ℤ, List, [], ◌∷◌, length, map, Option, Some, None, Result, Ok, Err}
use Rattle.std.specs.List.{All, sum}
use Rattle.bezier_core.specs.declared.halves.Place.{Place}
use Rattle.traj_codec.specs.declared.traj.Traj.{Traj}
use Rattle.sep_parts.specs.declared.clearance.Clearance.{Clearance}
use Rattle.sep_parts.specs.declared.slot.Slot.{Slot}
use Rattle.sep_parts.specs.Apart as apart
use Rattle.fleet_curves.specs.Raised.{Raised, difference, raised_of}
use Rattle.sep_parts.specs.Rulers.{Measure}
use Rattle.sep_parts.specs.Slots.{slots}
use Rattle.sep_parts.specs.Versions.{table_of}
use Rattle.sep_parts.specs.declared.node.Node.{Node}
use Rattle.speed_bound.specs.Reach.{reach_of}
use Rattle.sep_certificate.specs.declared.certificate.Certificate.{Certificate}
use Rattle.pair_search.specs.Fleets as fleet
use Rattle.pair_search.specs.Search.{IsClear}
use Rattle.choreo_show.specs.declared.show.Settings.{Settings}
use Rattle.show_plan.specs.declared.separation.BlockedPart.{BlockedPart}
use Rattle.show_plan.specs.declared.separation.SeparationFault.{SeparationFault}
use Rattle.show_plan.specs.declared.separation.SeparationFault.TheVariants as fault

-- the directions that are searched: the 98 of version 2
abbrev pub searched : List (List ℤ)
searched = table_of 2

-- by parts of which depth speeds are bounded, for how far drones move while they are late
abbrev pub reach_depth : ℕ
reach_depth = 6

-- What is kept clear around the drones of a show: what its settings say, and how far its trajectories move in the time
-- by which a drone may be late.
unfoldable pub clearance_of : Settings → List Traj → Clearance
clearance_of e trajs = record {
  r = e.r;
  h = e.h;
  stray = e.stray;
  late = e.late;
  reach = reach_of reach_depth e.late trajs 0 ∷ reach_of reach_depth e.late trajs 1
      ∷ reach_of reach_depth e.late trajs 2 ∷ [];
}

unfoldable pub measure_of : Clearance → Measure
measure_of c = record { directions = searched; clearance = c }

-- the first direction of the table that separates the pair of a slot in a place of its cue
abbrev pub direction_at : Clearance → Raised → Slot → Place → Option ℕ
direction_at c curves slot = fleet.direction_at (measure_of c) curves slot

abbrev pub blocked_at : Slot → ℕ → BlockedPart
blocked_at slot index = record { slot = slot; index = index }

-- the first part of the depth, slot by slot, that no direction separates
abbrev pub blocked_in : Clearance → ℕ → Raised → List Slot → Option BlockedPart
blocked_in c depth curves = fleet.blocked_in blocked_at (measure_of c) depth curves

-- the slots of trajectories of one show: each pair in each cue
abbrev pub slots_of : List Traj → List Slot
slots_of trajs = slots (raised_of trajs).drones (raised_of trajs).cues

-- the first part of the depth, in the order pair, cue, part, in which no direction separates two of these trajectories
abbrev pub blocked_part : Settings → ℕ → List Traj → Option BlockedPart
blocked_part e depth trajs = blocked_in (clearance_of e trajs) depth (raised_of trajs) (slots_of trajs)

-- the nodes of the tree with the largest possible leaves, each with its first separating direction
abbrev pub best_nodes : Clearance → ℕ → Raised → Slot → List Node
best_nodes c depth curves slot = fleet.best_nodes (measure_of c) depth curves slot

-- the certificate with the largest possible leaves, for trajectories of which no part of the depth is blocked
abbrev pub best_certificate : Settings → ℕ → List Traj → Certificate
best_certificate e depth trajs =
    record {
      version = 2;
      depth = depth;
      trees = map (best_nodes (clearance_of e trajs) depth (raised_of trajs)) (slots_of trajs);
    }

abbrev pub node_count : Certificate → ℕ
node_count cert = sum (map length cert.trees)

-- Why nothing is found: this part is blocked, the first one. Out of memory says nothing.
abbrev pub FailsBy : Option BlockedPart → SeparationFault → Type 0
FailsBy blocked (fault.Blocked part) = blocked ≡ Some part
FailsBy blocked fault.Memory = Unit {0}

-- What is wanted, where no part is blocked; else the part that is.
abbrev pub Finds : {A : Type 0} → Option BlockedPart → A → Result A SeparationFault → Type 0
Finds blocked wanted (Ok found) = (blocked ≡ None) × (found ≡ wanted)
Finds blocked wanted (Err f) = FailsBy blocked f

-- The certificate with the largest leaves, where no part is blocked; else the first part that is.
abbrev pub CertificateGives : Settings → ℕ → List Traj → Result Certificate SeparationFault → Type 0
CertificateGives e depth trajs result = Finds (blocked_part e depth trajs) (best_certificate e depth trajs) result

-- How many nodes that certificate has, where no part is blocked; else the first part that is.
abbrev pub CountGives : Settings → ℕ → List Traj → Result ℕ SeparationFault → Type 0
CountGives e depth trajs result =
    Finds (blocked_part e depth trajs) (node_count (best_certificate e depth trajs)) result

-- each part of the depth of the pair's cue has a separating direction
abbrev pub IsSlotClear : Clearance → ℕ → Raised → Slot → Type 0
IsSlotClear c depth curves slot = IsClear c (difference curves slot.a slot.b slot.cue) searched depth

-- each part of the depth has a separating direction, for each pair in each cue
abbrev pub IsShowClear : Settings → ℕ → List Traj → Type 0
IsShowClear e depth trajs = All (IsSlotClear (clearance_of e trajs) depth (raised_of trajs)) (slots_of trajs)

-- The ellipsoids around any two different drones share no point, wherever the drones stray to and however late they are
-- against one another, by what the settings allow: for all points where the two may be, at all instants of the show
-- that are so near to one another.
abbrev pub FlyApart : Settings → List Traj → Type 0
FlyApart e trajs = apart.FlyApart e.r e.h e.stray e.late trajs

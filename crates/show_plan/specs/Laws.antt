-- What the words of the separation of a show mean.
use Rattle.std.specs.Prelude.{◌≡◌, ◌↔◌, ℕ, List, ◌∷◌, ◌++◌, Some, None}
use Rattle.std.specs.List.{All}
use Rattle.traj_codec.specs.declared.traj.Traj.{Traj}
use Rattle.sep_parts.specs.declared.clearance.Clearance.{Clearance}
use Rattle.sep_parts.specs.declared.slot.Slot.{Slot}
use Rattle.fleet_curves.specs.Raised.{Raised, difference, raised_of}
use Rattle.pair_search.specs.Laws.{IsFirstBlocked}
use Rattle.choreo_show.specs.declared.show.Settings.{Settings}
use Rattle.show_plan.specs.Separation.{IsShowClear, IsSlotClear, blocked_at, blocked_part, clearance_of, searched}
use Rattle.show_plan.specs.Separation.{slots_of}

-- The part with this index of the cue of a slot is the first of these slots, in their order, in which no direction
-- separates two drones: each slot before its own is clear, and in its own it is the first part without a direction.
pub record IsFirstIn (c : Clearance) (depth : ℕ) (curves : Raised) (all : List Slot) (slot : Slot) (index : ℕ) : Type 0
  where
    pub earlier : List Slot
    pub later : List Slot
    pub slots : all ≡ earlier ++ slot ∷ later
    pub clear : All (IsSlotClear c depth curves) earlier
    pub blocked : IsFirstBlocked c (difference curves slot.a slot.b slot.cue) searched depth index

-- it is the first of a show, in the order pair, cue, part
abbrev pub IsFirstPart : Settings → ℕ → List Traj → Slot → ℕ → Type 0
IsFirstPart e depth trajs slot index =
    IsFirstIn (clearance_of e trajs) depth (raised_of trajs) (slots_of trajs) slot index

-- What the first part that no direction separates is: there is none exactly where each part of each cue has a direction
-- for each pair; else it is the first.
pub record SeparationLaw : Type 0 where
  pub clear : (e : Settings) (depth : ℕ) (trajs : List Traj) → (blocked_part e depth trajs ≡ None)
      ↔ IsShowClear e depth trajs
  pub blocked : (e : Settings) (depth : ℕ) (trajs : List Traj) (slot : Slot) (index : ℕ) →
      (blocked_part e depth trajs ≡ Some (blocked_at slot index)) ↔ IsFirstPart e depth trajs slot index

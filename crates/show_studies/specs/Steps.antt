-- What steps of these commands hand on, which no public contract cites.
use Rattle.std.specs.Prelude.{◌≡◌, ℕ, ◌<◌, List, ◌++◌, length, Option, Some, None, IfSome, MatchOption}
use Rattle.std.specs.Option.{option_map}
use Rattle.choreo_show.specs.Plain.{PlainShow}
use Rattle.fleet_curves.specs.Raised.{Raised, cues_in, raised_of}
use Rattle.sep_parts.specs.Rulers.{Measure}
use Rattle.sep_parts.specs.Slots.{IsSlot}
use Rattle.sep_parts.specs.declared.slot.Slot.{Slot}
use Rattle.pair_search.specs.Fleets as fleet
use Rattle.pair_search.specs.Search.{blocked_place}
use Rattle.keepout_boxes.specs.declared.judging.Judged.{Judged as JudgedRegions}
use Rattle.keepout_boxes.specs.declared.region.Region.{Region}
use Rattle.keepout_boxes.specs.Kept.{JudgeGives}
use Rattle.show_plan.specs.declared.fitted.Fitted.{Fitted}
use Rattle.show_plan.specs.declared.separation.BlockedPart.{BlockedPart}
use Rattle.show_plan.specs.Separation.{FlyApart, blocked_at, blocked_part}
use Rattle.touch_witness.specs.declared.site.Closest.{Closest}
use Rattle.touch_witness.specs.declared.site.Touch.{Touch}
use Rattle.touch_witness.specs.Sites.{IsClosest, IsFirstTouch, NoTouch, site_of}
use Rattle.show_judge.specs.Shows.{names_of, trajectories_of}
use Rattle.show_judge.specs.Verb.{Outcome}
use Rattle.show_studies.specs.Boxes.{aside_of, regions_end, upwards_of}
use Rattle.show_studies.specs.Explained.{BlockedLines, SaysBlocked, with_part}
use Rattle.show_studies.specs.declared.findings.Findings.{Findings}

-- what `boxes` ends with for the regions that were read
pub record EndsRegions (s : PlainShow) (depth : ℕ) (regions : List Region) (o : Outcome) : Type 0 where
  pub judged : JudgedRegions
  pub gives : JudgeGives (raised_of (trajectories_of s)) (aside_of s.settings) (upwards_of s.settings) depth regions
      judged
  pub is : o ≡ regions_end (names_of s) depth (length regions) judged

-- a part that is blocked names drones among this many
abbrev pub IsBlockedAmong : ℕ → Option BlockedPart → Type 0
IsBlockedAmong drones blocked = IfSome blocked (λ part. (part.slot.a < drones) × (part.slot.b < drones))

-- both drones of an instant are among this many
abbrev pub IsSiteAmong : ℕ → Touch → Type 0
IsSiteAmong drones site = (site.a < drones) × (site.b < drones)

abbrev pub IsTouchAmong : ℕ → Option Touch → Type 0
IsTouchAmong drones touch = IfSome touch (IsSiteAmong drones)

abbrev pub IsClosestAmong : ℕ → Option Closest → Type 0
IsClosestAmong drones closest = IfSome closest (λ c. IsSiteAmong drones (site_of c))

-- what is found of a show that fits
pub record IsFound (depth fine : ℕ) (f : Fitted) (found : Findings) : Type 0 where
  pub blocked : found.blocked ≡ blocked_part f.settings depth f.trajs
  pub apart : found.blocked ≡ None → FlyApart f.settings f.sent
  pub closest : MatchOption found.closest (length f.trajs ≡ 1) (IsClosest f.trajs f.settings.r f.settings.h fine)
  pub touch : MatchOption found.touch (NoTouch f.trajs f.settings.r f.settings.h fine)
      (IsFirstTouch f.trajs f.settings.r f.settings.h fine)

-- ---- all that is blocked
-- what a line says of a blocked part of a show that fits
abbrev pub SaysOf : Fitted → ℕ → ℕ → BlockedPart → List ℕ → Type 0
SaysOf f depth fine part text = SaysBlocked f.names f.settings f.trajs depth fine part text

-- a part is of a pair and a cue of these trajectories
abbrev pub IsPartOf : Fitted → BlockedPart → Type 0
IsPartOf f part = IsSlot (length f.trajs) (cues_in f.trajs) part.slot

-- the first part of a slot's cue, of this depth, that no direction of a ruler separates
abbrev pub part_in : Measure → ℕ → Raised → Slot → Option BlockedPart
part_in m depth curves slot = option_map (blocked_at slot) (blocked_place (fleet.direction_at m curves slot) depth)

-- Lines of some parts after a text, and what is the text with them.
abbrev pub Ends : (BlockedPart → List ℕ → Type 0) → ℕ → List BlockedPart → List ℕ → List ℕ → Type 0
Ends Says n parts old new = (lines : List ℕ) × BlockedLines Says n parts lines × (new ≡ old ++ lines)

-- One part more, where there is one, of at most n: whatever lines come next for at most as many as are left, they are
-- those of this part and the others. None is left where there was no room for the part.
abbrev pub NextGives : (BlockedPart → List ℕ → Type 0) → ℕ → Option BlockedPart → List ℕ → List ℕ → Option ℕ
    → Type 0
NextGives Says n part old new (Some left) =
    (others : List BlockedPart) (end : List ℕ) → Ends Says left others new end →
    Ends Says n (with_part part others) old end
NextGives Says n part old new None =
    (others : List BlockedPart) → Ends Says n (with_part part others) old new

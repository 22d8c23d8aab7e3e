-- What `boxes` gives: whether the drones of a show keep to regions.
use Rattle.std.specs.Prelude.{◌≡◌, ℕ, ◌+◌, List, length, Option, Some, None, Result, Ok, Err}
use Rattle.std.specs.Io.KnownBytes.{Appends}
use Rattle.text_lines.specs.Marker.{part_of, rest_of}
use Rattle.choreo_show.specs.Name.{Name}
use Rattle.choreo_reader.specs.Grammar.{StandsFor}
use Rattle.choreo_show.specs.Plain.{PlainShow}
use Rattle.choreo_show.specs.declared.show.Settings.{Settings}
use Rattle.fleet_curves.specs.Raised.{raised_of}
use Rattle.keepout_boxes.specs.declared.judging.Judged.{Judged}
use Rattle.keepout_boxes.specs.declared.judging.Judged.TheVariants.{Kept, Enters}
use Rattle.keepout_boxes.specs.declared.region.Region.{Region}
use Rattle.keepout_boxes.specs.Kept.{JudgeGives, KeepClear}
use Rattle.keepout_boxes.specs.Lines.{kept_line}
use Rattle.whole_numbers.specs.Limits.{most_text}
use Rattle.keepout_boxes.specs.Regions.{regions_of}
use Rattle.refusals.specs.declared.refusal.Refusal.{Refusal}
use Rattle.refusals.specs.declared.refusal.Refusal.TheVariants as refusal
use Rattle.show_judge.specs.Outcome.{IsVerb, refused}
use Rattle.show_judge.specs.Refused.{faulty_line, second_refusal}
use Rattle.show_judge.specs.Shows.{Cut, name_at, names_of, sent_of, trajectories_of}
use Rattle.show_judge.specs.Verb.{Outcome, Verb, of_two, outcome}

-- ---- how much a drone takes beside its curve

-- to the side and up and down, in millimetres: the half axis of its ellipsoid, and how far it strays
abbrev pub aside_of : Settings → ℕ
aside_of e = e.r + e.stray

abbrev pub upwards_of : Settings → ℕ
upwards_of e = e.h + e.stray

-- ---- what is given

-- how `boxes` ends, by how the drones are judged for this many regions
abbrev pub regions_end : List Name → ℕ → ℕ → Judged → Outcome
regions_end names depth regions Kept = outcome 0 (kept_line regions)
regions_end names depth regions (Enters region drone cue index) =
    refused (refusal.Enters region (name_at names drone) cue index depth)

-- what a text of regions gives: its refusal, or how the drones are judged for its regions
abbrev pub RegionsGive : Option Refusal → PlainShow → ℕ → Cut → Outcome → Type 0
RegionsGive (Some r) s depth cut o = o ≡ refused r
RegionsGive None s depth cut o =
    (regions : List Region) × (j : Judged) × (regions_of cut.second ≡ Ok regions)
    × JudgeGives (raised_of (trajectories_of s)) (aside_of s.settings) (upwards_of s.settings) depth regions j
    × (o ≡ regions_end (names_of s) depth (length regions) j)

abbrev pub BoxesGive : ℕ → PlainShow → Cut → Outcome → Type 0
BoxesGive depth s cut o = RegionsGive (second_refusal most_text (faulty_line (regions_of cut.second)) cut) s depth cut o

-- the second text says regions, to each of which each drone keeps at every instant
abbrev pub KeepsRegions : PlainShow → Cut → Type 0
KeepsRegions s cut = (regions : List Region) × (regions_of cut.second ≡ Ok regions)
    × KeepClear (aside_of s.settings) (upwards_of s.settings) regions (sent_of s)

-- the second text says regions, and each part of each drone's way is kept
abbrev pub BoxesSucceed : ℕ → PlainShow → Cut → Type 0
BoxesSucceed depth s cut =
    (regions : List Region) × (second_refusal most_text None cut ≡ None) × (regions_of cut.second ≡ Ok regions)
    × JudgeGives (raised_of (trajectories_of s)) (aside_of s.settings) (upwards_of s.settings) depth regions Kept

-- The first text of the input stands for a show, the second one says these regions, and their number was written. At
-- every instant of the show each drone's curve, with what it is sent, is outside of each closed keepout, widened by the
-- extents of its ellipsoid and by how far it may stray, and inside of each volume, narrowed by them.
pub record StaysInRegions (input : List ℕ) (old new : Option (List ℕ)) : Type 0 where
  pub s : PlainShow
  pub regions : List Region
  pub stands : StandsFor (part_of input) s
  pub says : regions_of (part_of (rest_of input)) ≡ Ok regions
  pub kept : KeepClear (aside_of s.settings) (upwards_of s.settings) regions (sent_of s)
  pub written : Appends old new (kept_line (length regions))

abbrev pub boxes_verb : ℕ → Verb
boxes_verb depth =
    of_two None most_text (λ s cut o. BoxesGive depth s cut o) (λ s cut. Unit {0}) (λ s cut. KeepsRegions s cut)
    (λ s cut. BoxesSucceed depth s cut)
    (λ input old new. StaysInRegions input old new)

-- the laws of the command
abbrev pub BoxesLaw : Type 0
BoxesLaw = (depth : ℕ) → IsVerb (boxes_verb depth)

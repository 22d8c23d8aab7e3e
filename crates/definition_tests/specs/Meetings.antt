-- What the definitions of touches, and of what explains a show, say of small flights.
use Rattle.std.specs.Prelude.{◌≡◌, ℕ, pos, Bool, false, List, [], ◌∷◌, ◌++◌, codes, Option, None, Some}
use Rattle.traj_codec.specs.declared.traj.Traj.{Traj}
use Rattle.sep_parts.specs.declared.slot.Slot.{Slot}
use Rattle.touch_witness.specs.declared.site.Closest.{Closest}
use Rattle.touch_witness.specs.declared.site.Touch.{Touch}
use Rattle.touch_witness.specs.Sites.{IsClosest, IsClosestIn, IsFirstTouch, NoTouch}
use Rattle.choreo_show.specs.Plain.{PlainShow}
use Rattle.choreo_reader.specs.Grammar.{StandsFor}
use Rattle.show_plan.specs.Separation.{FlyApart}
use Rattle.show_judge.specs.Shows.{sent_of}
use Rattle.show_studies.specs.Explained.{TellsTouches, blocked_of}
use Rattle.definition_tests.specs.Apart.{behind}
use Rattle.definition_tests.specs.Flights.{flight}
use Rattle.definition_tests.specs.Near.{spot}
use Rattle.definition_tests.specs.Stands.{line_of, nobody}

-- an instant of the only cue, of which this many parts have passed, and two drones
abbrev pub site : ℕ → ℕ → ℕ → Touch
site at a b = record { cue = 0; at = at; a = a; b = b }

-- the same of the first two drones, with a level
abbrev pub level_at : ℕ → ℕ → Closest
level_at at level = record { cue = 0; at = at; a = 0; b = 1; level = level }

-- two drones that fly towards one another, 20 mm apart at first and 1 mm in the end
abbrev pub meeting : List Traj
meeting = flight (pos 0) (pos 10) ∷ flight (pos 20) (pos 11) ∷ []

-- two that stay, 1 mm apart
abbrev pub close : List Traj
close = flight (pos 0) (pos 0) ∷ flight (pos 1) (pos 1) ∷ []

-- and two that stay, 2 mm apart
abbrev pub two_apart : List Traj
two_apart = flight (pos 0) (pos 0) ∷ flight (pos 2) (pos 2) ∷ []

-- the first two drones in the first cue
abbrev pub only_slot : Slot
only_slot = record { a = 0; b = 1; cue = 0 }

-- Half axes of 1 mm, and the two ends of a cue. Two drones that meet touch in the end, and not at the start; there the
-- left side is a quarter of the right one. Two that stay close touch at the start already. Two that are 7 mm apart
-- never touch. Two that stay 2 mm apart just touch: their left side is the right one. What is closest of all is so of
-- its pair in its cue, and of no other.
pub record MeetRows : Type 0 where
  pub first : IsFirstTouch meeting 1 1 0 (site 1 0 1)
  pub at_the_start : IsFirstTouch meeting 1 1 0 (site 0 0 1) → ⊥
  pub not_the_first : IsFirstTouch close 1 1 0 (site 1 0 1) → ⊥
  pub past_the_end : IsFirstTouch meeting 1 1 0 (site 2 0 1) → ⊥
  pub turned : IsFirstTouch meeting 1 1 0 (site 1 1 0) → ⊥
  pub some : NoTouch meeting 1 1 0 → ⊥
  pub none : NoTouch behind 1 1 0
  pub closest : IsClosest meeting 1 1 0 (level_at 1 250) × (IsClosest two_apart 1 1 0 (level_at 0 1001) → ⊥)
  pub lower : IsClosest meeting 1 1 0 (level_at 1 249) → ⊥
  pub higher : IsClosest meeting 1 1 0 (level_at 1 251) → ⊥
  pub farther : IsClosest meeting 1 1 0 (level_at 0 100000) → ⊥
  pub not_the_first_closest : IsClosest close 1 1 0 (level_at 1 250) → ⊥
  pub just_touching : IsClosest two_apart 1 1 0 (level_at 0 1000)
  pub below : IsClosest two_apart 1 1 0 (level_at 0 999) → ⊥
  pub in_cue : IsClosestIn meeting 1 1 0 only_slot (level_at 1 250)
  pub in_cue_lower : IsClosestIn meeting 1 1 0 only_slot (level_at 1 249) → ⊥
  pub in_cue_higher : IsClosestIn meeting 1 1 0 only_slot (level_at 1 251) → ⊥
  pub other_cue : IsClosestIn meeting 1 1 0 (record { a = 0; b = 1; cue = 1 }) (level_at 1 250) → ⊥

-- one drone, and no cue
abbrev pub solo_text : List ℕ
solo_text = line_of (codes "choreo 1") ++ line_of (codes "drone a 0 0 0 0")

abbrev pub solo : PlainShow
solo = record (nobody 0) {
  drones = record { line = 2; name = record { items = codes "a" }; at = spot (pos 0) (pos 0) (pos 0) (pos 0) } ∷ [];
}

-- A show of one drone is explained by one line, and by no other text. A text that isn't a show is not explained, nor
-- one of no drone. Where it is said that no part is blocked, the drones of the show fly apart.
pub record ExplainRows : Type 0 where
  pub alone : TellsTouches 6 5 false solo_text (Some []) (Some (line_of (codes "separated")))
  pub unwritten : TellsTouches 6 5 false solo_text (Some []) (Some []) → ⊥
  pub touching :
      TellsTouches 6 5 false solo_text (Some [])
      (Some (line_of (codes "separated") ++ line_of (codes "touch pair a a cue 1 at 0 of 32"))) → ⊥
  pub no_show : (old new : Option (List ℕ)) → TellsTouches 6 5 false [] old new → ⊥
  pub no_drone : (old new : Option (List ℕ)) → TellsTouches 6 5 false (line_of (codes "choreo 1")) old new → ⊥
  pub apart : (depth fine : ℕ) (all : Bool) (input : List ℕ) (s : PlainShow) (old new : Option (List ℕ)) →
      StandsFor input s → TellsTouches depth fine all input old new → blocked_of depth s ≡ None →
      FlyApart s.settings (sent_of s)

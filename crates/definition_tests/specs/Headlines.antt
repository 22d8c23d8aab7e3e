-- What the headline says of a small show and its plan.
use Rattle.std.specs.Prelude.{◌≡◌, ℕ, ℤ, pos, List, [], ◌∷◌, ◌++◌, codes, Option, Some}
use Rattle.traj_codec.specs.Joined.{hold}
use Rattle.traj_codec.specs.declared.traj.Traj.{Traj}
use Rattle.choreo_show.specs.Plain as plain
use Rattle.choreo_show.specs.Plain.{PlainShow}
use Rattle.choreo_show.specs.declared.show.Settings.{Settings}
use Rattle.show_plan.specs.Texts.{IsPlan, plan_text}
use Rattle.show_judge.specs.Shows.{names_of}
use Rattle.show_looks.specs.Compile.{Headline}
use Rattle.definition_tests.specs.Flights.{flight}
use Rattle.definition_tests.specs.Near.{spot}
use Rattle.definition_tests.specs.Stands.{line_of, nobody}
use Rattle.definition_tests.specs.Stored.{settings}

-- one drone, and one cue of ten milliseconds in which it stays
abbrev pub stay_text : List ℕ
stay_text =
    line_of (codes "choreo 1") ++ line_of (codes "drone a 0 0 0 0") ++ line_of (codes "cue 10") ++ line_of (codes "end")

abbrev pub stay : PlainShow
stay = record (nobody 0) {
  drones = record { line = 2; name = record { items = codes "a" }; at = spot (pos 0) (pos 0) (pos 0) (pos 0) } ∷ [];
  body = plain.Cue 3 10 [] plain.Done;
}

-- a drone that stays this far on x for ten milliseconds
abbrev pub staying : ℤ → Traj
staying x = record { start = x ∷ pos 0 ∷ pos 0 ∷ pos 0 ∷ []; segments = hold 10 ∷ [] }

-- its plan: a start, a segment that stays for ten milliseconds, and the ending
abbrev pub stay_plan : List ℕ
stay_plan =
    line_of (codes "plan 1") ++ line_of (codes "drone a bytes 14 pieces 1")
    ++ line_of (codes "data 00 00 00 00 00 00 00 00 00 0A 00 00 00 00")
    ++ line_of (codes "write 4E 02 00 00 00 00 00 00 00 00 00 00 00 00 00 0A 00 00 00 00")
    ++ line_of (codes "define 8C 06 00 01 01 00 00 00 00 01") ++ line_of (codes "start 8C 05 00 00 00 00 00 00 80 3F")
    ++ line_of (codes "end")

-- The headline holds of the text and its plan, whole. It doesn't where nothing was written, where the plan lacks its
-- first byte, or of a text that isn't a show. Nor does it of trajectories of the plan that aren't near to the show, as
-- one that stays a millimetre aside, or that touch.
pub record HeadlineRows : Type 0 where
  pub holds : Headline stay_text (Some []) (Some stay_plan)
  pub after_others : Headline stay_text (Some (1 ∷ 2 ∷ [])) (Some (1 ∷ 2 ∷ stay_plan))
  pub unwritten : Headline stay_text (Some []) (Some []) → ⊥
  pub cut : Headline stay_text (Some []) (Some (codes "lan 1")) → ⊥
  pub no_show : (old new : Option (List ℕ)) → Headline (line_of (codes "late 3")) old new → ⊥
  pub far : (input : List ℕ) (old new : Option (List ℕ)) (is : Headline input old new) → is.s ≡ stay →
      is.sent ≡ staying (pos 1) ∷ [] → ⊥
  pub touching : (input : List ℕ) (old new : Option (List ℕ)) (is : Headline input old new) →
      is.s.settings ≡ settings →
      is.sent ≡ flight (pos 50) (pos 50) ∷ flight (pos 51) (pos 51) ∷ [] → ⊥

-- The plan of the show's neighbour, whose drone stays a millimetre aside: x is another in the data and in the write.
abbrev pub aside_plan : List ℕ
aside_plan =
    line_of (codes "plan 1") ++ line_of (codes "drone a bytes 14 pieces 1")
    ++ line_of (codes "data 01 00 00 00 00 00 00 00 00 0A 00 00 00 00")
    ++ line_of (codes "write 4E 02 00 00 00 00 01 00 00 00 00 00 00 00 00 0A 00 00 00 00")
    ++ line_of (codes "define 8C 06 00 01 01 00 00 00 00 01") ++ line_of (codes "start 8C 05 00 00 00 00 00 00 80 3F")
    ++ line_of (codes "end")

-- the show's own plan, but by the second entry of the table, and at the second byte of the memory
abbrev pub second_entry : Settings
second_entry = record stay.settings { trajectory_id = 1 }

abbrev pub second_byte : Settings
second_byte = record stay.settings { offset = 1 }

-- the plan with these settings, of a drone of this name
abbrev pub plan_by : Settings → List ℕ → List ℕ
plan_by e name = plan_text e (record { items = name } ∷ []) (staying (pos 0) ∷ [])

-- what was written is no plan of the show, of trajectories that can be uploaded, one for each drone
abbrev pub IsNoPlan : List ℕ → Type 0
IsNoPlan written = (is : Headline stay_text (Some []) (Some written)) → IsPlan is.s.settings (names_of is.s) is.sent → ⊥

-- The headline refuses the plan of a neighbouring show, of another entry, of another place in the memory and of another
-- drone. The show's own it doesn't.
pub record WrittenRows : Type 0 where
  pub is_its_own : plan_by stay.settings (codes "a") ≡ stay_plan
  pub own : Headline stay_text (Some []) (Some (plan_by stay.settings (codes "a")))
  pub is_a_plan : plan_text stay.settings (record { items = codes "a" } ∷ []) (staying (pos 1) ∷ []) ≡ aside_plan
  pub aside : IsNoPlan aside_plan
  pub other_entry : IsNoPlan (plan_by second_entry (codes "a"))
  pub other_place : IsNoPlan (plan_by second_byte (codes "a"))
  pub other_drone : IsNoPlan (plan_by stay.settings (codes "b"))

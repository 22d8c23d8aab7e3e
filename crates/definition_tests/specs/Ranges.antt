-- What the definitions of names and of numbers in a show say at the ends of their ranges.
use Rattle.std.specs.Prelude.{◌≡◌, ℕ, zero, suc, ℤ, pos, negsuc, true, false, List, [], ◌∷◌, codes}
use Rattle.choreo_show.specs.Name.{Name, is_name}
use Rattle.choreo_show.specs.declared.parts.Act.TheVariants as act
use Rattle.choreo_show.specs.declared.parts.Frame.{Frame}
use Rattle.choreo_show.specs.declared.parts.Mirror.TheVariants as mirror
use Rattle.choreo_show.specs.declared.parts.Point.{Point}
use Rattle.choreo_show.specs.Valid.{FitDroneLines, FitFormations, FitsAct, FitsDuration, FitsFigure, FitsFrame, FitsPerform}
use Rattle.choreo_show.specs.Valid.{FitsPoint, FitsSettings, FitsTimes}
use Rattle.choreo_show.specs.declared.show.DroneLine.{DroneLine}
use Rattle.choreo_show.specs.declared.show.Formation.{Formation}
use Rattle.choreo_show.specs.declared.show.Settings.{Settings}
use Rattle.definition_tests.specs.Shapes.{called}

-- a point of these micrometres on x, y and z, and tenths of a degree
abbrev pub at : ℤ → ℤ → ℤ → ℤ → Point
at x y z yaw = record { x = x; y = y; z = z; yaw = yaw }

-- a drone, or a place of a formation, with these bytes as its name
abbrev pub drone : List ℕ → DroneLine
drone name = record { line = 2; name = called name; at = at (pos 0) (pos 0) (pos 0) (pos 0) }

-- this many names
abbrev pub roles : ℕ → List Name
roles zero = []
roles (suc n) = called (codes "a") ∷ roles n

-- a formation of these places
abbrev pub formation : List DroneLine → Formation
formation places = record { line = 1; name = called (codes "f"); places = places }

-- Sixteen bytes are a name, and seventeen aren't, nor is none. A name begins with a lower-case letter and has no other
-- bytes than these letters, digits and `_`. `form` and `end` are no names.
pub record NameRows : Type 0 where
  pub one : is_name (codes "z") ≡ true
  pub sixteen : is_name (codes "abcdefghijklmno9") ≡ true
  pub seventeen : is_name (codes "abcdefghijklmnop9") ≡ false
  pub nothing : is_name [] ≡ false
  pub each : is_name (codes "a_0z9") ≡ true
  pub digit_first : is_name (codes "9a") ≡ false
  pub line_first : is_name (codes "_a") ≡ false
  pub capital : is_name (codes "aB") ≡ false
  pub hyphen : is_name (codes "a-b") ≡ false
  pub form : is_name (codes "form") ≡ false
  pub forms : is_name (codes "forms") ≡ true
  pub last : is_name (codes "end") ≡ false
  pub ends : is_name (codes "ends") ≡ true
  pub drones : FitDroneLines (drone (codes "abcdefghijklmno9") ∷ drone (codes "b") ∷ [])
  pub long_drone : FitDroneLines (drone (codes "b") ∷ drone (codes "abcdefghijklmnop9") ∷ []) → ⊥
  pub nameless_drone : FitDroneLines (drone [] ∷ []) → ⊥
  pub long_role : FitsFigure (called (codes "g")) (called (codes "abcdefghijklmnop9") ∷ []) → ⊥
  pub long_figure : FitsFigure (called (codes "abcdefghijklmnop9")) (called (codes "a") ∷ []) → ⊥

-- settings but for the memory's number
abbrev pub settings : ℕ → ℕ → ℕ → ℕ → ℕ → ℕ → Settings
settings offset id r h stray late =
    record { memory_id = 2; offset = offset; trajectory_id = id; r = r; h = h; stray = stray; late = late }

-- Settings fit at both ends of their ranges, and no further.
pub record SettingRows : Type 0 where
  pub least : FitsSettings (settings 0 0 1 1 0 0)
  pub greatest : FitsSettings (settings 4095 9 2000 2000 1000 1000)
  pub offset : FitsSettings (settings 4096 9 2000 2000 1000 1000) → ⊥
  pub id : FitsSettings (settings 4095 10 2000 2000 1000 1000) → ⊥
  pub thin : FitsSettings (settings 0 0 0 1 0 0) → ⊥
  pub wide : FitsSettings (settings 4095 9 2001 2000 1000 1000) → ⊥
  pub flat : FitsSettings (settings 0 0 1 0 0 0) → ⊥
  pub high : FitsSettings (settings 4095 9 2000 2001 1000 1000) → ⊥
  pub stray : FitsSettings (settings 4095 9 2000 2000 1001 1000) → ⊥
  pub late : FitsSettings (settings 4095 9 2000 2000 1000 1001) → ⊥

-- a frame that is turned by this many quarters and shifted on x
abbrev pub frame : ℕ → ℤ → Frame
frame turns dx = record { mirror = mirror.None; turns = turns; dx = dx; dy = pos 0; dz = pos 0 }

-- Points, acts and frames fit up to 100 metres, and yaws up to what two bytes hold. Cues last 1 to 65,535 milliseconds,
-- repeats repeat 1 to 1,000,000,000 times, figures and performs have 1 to 32 roles, and formations a place at least.
pub record NumberRows : Type 0 where
  pub far : FitsPoint (at (pos 100000000) (negsuc 99999999) (pos 100000000) (pos 32767))
  pub turned : FitsPoint (at (pos 0) (pos 0) (pos 0) (negsuc 32767))
  pub x : FitsPoint (at (pos 100000001) (pos 0) (pos 0) (pos 0)) → ⊥
  pub y : FitsPoint (at (pos 0) (negsuc 100000000) (pos 0) (pos 0)) → ⊥
  pub z : FitsPoint (at (pos 0) (pos 0) (pos 100000001) (pos 0)) → ⊥
  pub yaw : FitsPoint (at (pos 0) (pos 0) (pos 0) (pos 32768)) → ⊥
  pub yaw_below : FitsPoint (at (pos 0) (pos 0) (pos 0) (negsuc 32768)) → ⊥
  pub turn : FitsAct (act.Turn (pos 32767))
  pub too_far_a_turn : FitsAct (act.Turn (pos 32768)) → ⊥
  pub move : FitsAct (act.Move (at (pos 0) (pos 0) (pos 0) (pos 0)))
  pub too_far_a_move : FitsAct (act.Move (at (pos 0) (pos 0) (negsuc 100000000) (pos 0))) → ⊥
  pub frames : FitsFrame (frame 3 (negsuc 99999999))
  pub full_turn : FitsFrame (frame 4 (pos 0)) → ⊥
  pub shift : FitsFrame (frame 0 (pos 100000001)) → ⊥
  pub short : FitsDuration 1
  pub long : FitsDuration 65535
  pub no_time : FitsDuration 0 → ⊥
  pub longer : FitsDuration 65536 → ⊥
  pub once : FitsTimes 1
  pub often : FitsTimes 1000000000
  pub never : FitsTimes 0 → ⊥
  pub oftener : FitsTimes 1000000001 → ⊥
  pub one_role : FitsFigure (called (codes "g")) (roles 1)
  pub no_role : FitsFigure (called (codes "g")) [] → ⊥
  pub many_roles : FitsFigure (called (codes "g")) (roles 33) → ⊥
  pub performed : FitsPerform (called (codes "g")) (frame 3 (pos 0)) (roles 32)
  pub by_nobody : FitsPerform (called (codes "g")) (frame 3 (pos 0)) [] → ⊥
  pub by_many : FitsPerform (called (codes "g")) (frame 3 (pos 0)) (roles 33) → ⊥
  pub turned_once_too_often : FitsPerform (called (codes "g")) (frame 4 (pos 0)) (roles 1) → ⊥
  pub one_place : FitFormations (formation (drone (codes "a") ∷ []) ∷ [])
  pub no_place : FitFormations (formation [] ∷ []) → ⊥

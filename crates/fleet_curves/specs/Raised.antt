-- The raised curves of a fleet, and the trajectories that they stand for.
use Rattle.std.specs.Prelude.{◌≡◌, ℕ, ◌+◌, ◌*◌, ◌^◌, ◌≤◌, ◌<◌, ℤ, ◌-ℤ◌, List, [], ◌∷◌, length, slice_index_or}
use Rattle.std.specs.Prelude.{slice_get, map, Some, All}
use Rattle.std.specs.List.{flat_map}
use Rattle.whole_numbers.specs.Bernstein.{at}
use Rattle.whole_numbers.specs.Limits.{most_cues, most_drones}
use Rattle.whole_numbers.specs.Numbers.{IsBelow}
use Rattle.bezier_core.specs.declared.Bez.{Bez}
use Rattle.bezier_core.specs.Along.{controls}
use Rattle.bezier_core.specs.Raised.{eight, raised}
use Rattle.traj_codec.specs.declared.traj.Element.{Element}
use Rattle.traj_codec.specs.declared.traj.Segment.{Segment}
use Rattle.traj_codec.specs.declared.traj.Traj.{Traj}
use Rattle.traj_codec.specs.Spelling.{stored}
use Rattle.traj_codec.specs.Positions.{durations, points, element_on, value_after}

-- What Curves are seen as: how many drones and cues they have, and the three raised curves of each drone and cue,
-- by drone and then by cue.
pub record Raised : Type 0 where
  pub drones : ℕ
  pub cues : ℕ
  pub curves : List (List (Bez 8))

-- the curves of rows of control values
abbrev pub curves_of : List (List ℤ) → List (Bez 8)
curves_of rows = map (λ row. record { b = row }) rows

-- the three raised curves of a drone in a cue
abbrev pub curves_at : Raised → ℕ → ℕ → List (Bez 8)
curves_at c drone cue = slice_index_or c.curves (drone * c.cues + cue) []

-- on one axis, the control values of the second curves less those of the first
abbrev pub less : List (Bez 8) → List (Bez 8) → ℕ → Bez 8
less second first axis = record { b = eight (λ k. at (controls second axis) k -ℤ at (controls first axis) k) }

-- the three raised curves of drone b less those of drone a, in a cue
unfoldable pub difference : Raised → ℕ → ℕ → ℕ → List (Bez 8)
difference c a b cue =
    less (curves_at c b cue) (curves_at c a cue) 0 ∷ less (curves_at c b cue) (curves_at c a cue) 1
    ∷ less (curves_at c b cue) (curves_at c a cue) 2 ∷ []

-- three curves of eight control values below 2^30, as differences of raised curves are
pub record AreRaised (curves : List (Bez 8)) : Type 0 where
  pub axes : length curves ≡ 3
  pub sizes : All (λ curve. length curve.b ≡ 8) curves
  pub values : All (λ curve. All (IsBelow (2 ^ 30)) curve.b) curves

-- ---- the trajectories
-- the three raised curves of a trajectory in a cue: those of its control points on x, y and z
abbrev pub raised_in : Traj → ℕ → List (Bez 8)
raised_in t cue =
    record { b = raised (points t cue 0) } ∷ record { b = raised (points t cue 1) }
    ∷ record { b = raised (points t cue 2) } ∷ []

-- Trajectories of one show: 1 to 32, each of the same 1 to 1,000 durations, none of them 0.
pub record AreOneShow (times : List ℕ) (trajs : List Traj) : Type 0 where
  pub some_drones : 1 ≤ length trajs
  pub few_drones : length trajs ≤ most_drones
  pub some_cues : 1 ≤ length times
  pub few_cues : length times ≤ most_cues
  pub lasting : All (λ ms. 1 ≤ ms) times
  pub same_times : All (λ (t : Traj). durations t.segments ≡ times) trajs

-- the trajectories are those of one show
abbrev pub IsOneShow : List Traj → Type 0
IsOneShow trajs = (times : List ℕ) × AreOneShow times trajs

-- on x, y and z a trajectory has at most eight control points in each cue, as each that the program holds
abbrev pub HasFewPoints : ℕ → Traj → Type 0
HasFewPoints cues t = (cue axis : ℕ) → cue < cues → axis ≤ 2 → length (points t cue axis) ≤ 8

-- The curves stand for the trajectories: these are of one show, and for each drone and cue the curves are those of the
-- trajectory's control points.
pub record CurvesStandFor (c : Raised) (trajs : List Traj) : Type 0 where
  pub times : List ℕ
  pub one_show : AreOneShow times trajs
  pub few_points : All (HasFewPoints (length times)) trajs
  pub drones : c.drones ≡ length trajs
  pub cues : c.cues ≡ length times
  pub curves : (drone cue : ℕ) (t : Traj) → slice_get trajs drone ≡ Some t → cue < length times →
      curves_at c drone cue ≡ raised_in t cue

-- ---- the curves of trajectories
-- the raised curve of an element, from the value before it
abbrev pub raised_element : ℤ → Element → Bez 8
raised_element first e = record { b = raised (first ∷ stored e) }

-- the raised curves of segments, from the three values before the first
abbrev pub raised_from : ℤ → ℤ → ℤ → List Segment → List (List (Bez 8))
raised_from x y z [] = []
raised_from x y z (s ∷ rest) =
    (raised_element x (element_on s 0) ∷ raised_element y (element_on s 1) ∷ raised_element z (element_on s 2) ∷ [])
    ∷ raised_from (value_after x (element_on s 0)) (value_after y (element_on s 1)) (value_after z (element_on s 2))
    rest

-- the raised curves of a trajectory, cue by cue
abbrev pub raised_traj : Traj → List (List (Bez 8))
raised_traj t = raised_from (at t.start 0) (at t.start 1) (at t.start 2) t.segments

-- how many segments the first of these trajectories has
abbrev pub cues_in : List Traj → ℕ
cues_in [] = 0
cues_in (t ∷ ts) = length t.segments

-- the raised curves of a fleet: those of its trajectories, one trajectory after another
unfoldable pub raised_of : List Traj → Raised
raised_of ts = record { drones = length ts; cues = cues_in ts; curves = flat_map raised_traj ts }

-- What a job does, in the show's own frame, and the control points of arcs.
use Rattle.std.specs.Prelude.{ℕ, zero, suc, Bool, not, List, [], ◌∷◌, map, ℤ, pos, neg_ℤ, ◌+ℤ◌, ◌-ℤ◌, ◌*ℤ◌}
use Rattle.std.specs.Prelude.{if◌then◌else◌}
use Rattle.std.specs.Int.{int_div_euclid}
use Rattle.whole_numbers.specs.Bernstein.{at}
use Rattle.choreo_show.specs.declared.parts.Point.{Point}
use Rattle.choreo_show.specs.declared.parts.Frame.{Frame}
use Rattle.choreo_show.specs.declared.parts.Mirror.{Mirror}
use Rattle.choreo_show.specs.declared.parts.Mirror.TheVariants as mirror
use Rattle.choreo_show.specs.declared.parts.Ease.{Ease}
use Rattle.choreo_show.specs.declared.parts.Ease.TheVariants as ease
use Rattle.choreo_show.specs.declared.parts.Act.{Act}
use Rattle.choreo_show.specs.declared.parts.Act.TheVariants as act
use Rattle.cue_grid.specs.Frames.{applied}
use Rattle.cue_grid.specs.declared.grid.Job.{Job}

-- the number of a point on an axis, 0 to 3 for x, y, z and yaw
abbrev pub on_axis : Point → ℕ → ℤ
on_axis p axis = at (p.x ∷ p.y ∷ p.z ∷ p.yaw ∷ []) axis

-- a mirror exchanges counter-clockwise and clockwise
abbrev pub sense_in : Mirror → Bool → Bool
sense_in mirror.None ccw = ccw
sense_in mirror.X ccw = not ccw
sense_in mirror.Y ccw = not ccw

-- a control point of a curve in the show's frame: its numbers on x, y and z
abbrev pub control_in : Frame → List ℤ → List ℤ
control_in f v = map (on_axis (applied f (record { x = at v 0; y = at v 1; z = at v 2; yaw = pos 0 }))) (0 ∷ 1 ∷ 2 ∷ [])

-- The act in the show's frame: the frame acts on the end points, curve points, centres and yaws that are written. Of a
-- point that isn't written whole the other numbers are 0, and of no interest.
abbrev pub act_in : Frame → Act → Act
act_in f act.Hold = act.Hold
act_in f (act.Line to) = act.Line (applied f to)
act_in f (act.Move to) = act.Move (applied f to)
act_in f (act.Turn yaw) = act.Turn (applied f (record { x = pos 0; y = pos 0; z = pos 0; yaw = yaw })).yaw
act_in f (act.Arc ccw cx cy yaw) =
    act.Arc (sense_in f.mirror ccw) (applied f (record { x = cx; y = cy; z = pos 0; yaw = yaw })).x
    (applied f (record { x = cx; y = cy; z = pos 0; yaw = yaw })).y
    (applied f (record { x = cx; y = cy; z = pos 0; yaw = yaw })).yaw
act_in f (act.Eased how ccw cx cy yaw) =
    act.Eased how (sense_in f.mirror ccw) (applied f (record { x = cx; y = cy; z = pos 0; yaw = yaw })).x
    (applied f (record { x = cx; y = cy; z = pos 0; yaw = yaw })).y
    (applied f (record { x = cx; y = cy; z = pos 0; yaw = yaw })).yaw
act_in f (act.Curve p1 p2 to) = act.Curve (control_in f p1) (control_in f p2) (applied f to)

-- the act of a job in the show's frame
abbrev pub act_of : Job → Act
act_of j = act_in j.frame j.act

-- ---- the quarter arc, a cubic whose handles are 0.552285 times the radius long

-- 0.552285 s, rounded to the nearest whole number
abbrev pub handle : ℤ → ℤ
handle s = int_div_euclid ((pos 552285 *ℤ s) +ℤ pos 500000) (pos 1000000)

-- the four control points of a quarter arc on one axis: from the present value, around the centre, with the way v from
-- the centre to the start and the way w from the centre to the end
abbrev pub arc_points : ℤ → ℤ → ℤ → ℤ → List ℤ
arc_points present centre v w =
    present ∷ (present +ℤ handle w) ∷ (centre +ℤ w +ℤ handle v) ∷ (centre +ℤ w) ∷ []

-- those on x, which is axis 0, and on y, around (cx, cy): counter-clockwise the way (vx, vy) turns to (-vy, vx), else
-- to (vy, -vx)
abbrev pub arc_on : Point → Bool → ℤ → ℤ → ℕ → List ℤ
arc_on p ccw cx cy zero = arc_points p.x cx (p.x -ℤ cx) (if ccw then neg_ℤ (p.y -ℤ cy) else p.y -ℤ cy)
arc_on p ccw cx cy (suc axis) = arc_points p.y cy (p.y -ℤ cy) (if ccw then p.x -ℤ cx else neg_ℤ (p.x -ℤ cx))

-- ---- the eased quarter arcs, of degree seven

-- r millionths of s, rounded to the nearest whole number
abbrev pub millionths : ℕ → ℤ → ℤ
millionths r s = int_div_euclid ((pos r *ℤ s) +ℤ pos 500000) (pos 1000000)

-- The table of docs/TRAJECTORY.md, "The eased quarter circles". By control point: how many millionths of the way from
-- the centre to the start are in it, and how many of the way from the centre to the end. `arc_out` is `arc_in`
-- backwards.
abbrev pub shares : Ease → List (ℕ × ℕ)
shares ease.InOut =
    (1000000, 0) ∷ (1000000, 0) ∷ (1000000, 0) ∷ (1063179, 696647) ∷ (696647, 1063179) ∷ (0, 1000000) ∷ (0, 1000000)
    ∷ (0, 1000000) ∷ []
shares ease.In =
    (1000000, 0) ∷ (1000000, 0) ∷ (1000144, 114406) ∷ (993507, 186897) ∷ (974935, 507934) ∷ (785073, 741519)
    ∷ (473387, 1000000) ∷ (0, 1000000) ∷ []
shares ease.Out =
    (1000000, 0) ∷ (1000000, 473387) ∷ (741519, 785073) ∷ (507934, 974935) ∷ (186897, 993507) ∷ (114406, 1000144)
    ∷ (0, 1000000) ∷ (0, 1000000) ∷ []

-- a control point on one axis, around the centre, with the way v from the centre to the start and the way w from the
-- centre to the end
abbrev pub eased_point : ℤ → ℤ → ℤ → ℕ × ℕ → ℤ
eased_point centre v w share = centre +ℤ millionths share.0 v +ℤ millionths share.1 w

-- the eight control points on one axis
abbrev pub eased_points : Ease → ℤ → ℤ → ℤ → List ℤ
eased_points how centre v w = map (eased_point centre v w) (shares how)

-- those on x, which is axis 0, and on y, around (cx, cy); the way to the end is that of `arc`
abbrev pub eased_on : Point → Ease → Bool → ℤ → ℤ → ℕ → List ℤ
eased_on p how ccw cx cy zero = eased_points how cx (p.x -ℤ cx) (if ccw then neg_ℤ (p.y -ℤ cy) else p.y -ℤ cy)
eased_on p how ccw cx cy (suc axis) = eased_points how cy (p.y -ℤ cy) (if ccw then p.x -ℤ cx else neg_ℤ (p.x -ℤ cx))

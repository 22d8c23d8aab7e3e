-- The written position: that of the Bézier curves whose control points the text says, in micrometres, and on yaw in
-- tenths of a degree.
use Rattle.std.specs.Prelude.{◌≡◌, ℕ, List, [], ◌∷◌, map, ℤ, pos, ◌+ℤ◌, ◌-ℤ◌, ◌*ℤ◌, ◌==◌, if◌then◌else◌}
use Rattle.std.specs.Int.{int_div_euclid}
use Rattle.whole_numbers.specs.Sums.{power}
use Rattle.whole_numbers.specs.Bernstein.{at}
use Rattle.whole_numbers.specs.Decoded.{last_value}
use Rattle.choreo_show.specs.declared.parts.Point.{Point}
use Rattle.choreo_show.specs.declared.parts.Ease.{Ease}
use Rattle.choreo_show.specs.declared.parts.Ease.TheVariants as ease
use Rattle.choreo_show.specs.declared.parts.Act.{Act}
use Rattle.choreo_show.specs.declared.parts.Act.TheVariants as act
use Rattle.mm_rounding.specs.Near.{position}
use Rattle.cue_grid.specs.declared.grid.Job.{Job}
use Rattle.figure_expand.specs.Acts.{act_of, arc_on, eased_on, on_axis}

-- from rest at A to rest at B: degree seven, and at each end no speed, acceleration or jerk
abbrev pub from_rest : ℤ → ℤ → List ℤ
from_rest A B = A ∷ A ∷ A ∷ A ∷ B ∷ B ∷ B ∷ B ∷ []

-- n forty-seconds of s, rounded to the nearest whole number
abbrev pub forty_seconds : ℕ → ℤ → ℤ
forty_seconds n s = int_div_euclid ((pos n *ℤ s) +ℤ pos 21) (pos 42)

-- the control points of u^2 in degree seven, k (k - 1) forty-seconds for k = 0 to 7
abbrev pub squares : List ℕ
squares = 0 ∷ 0 ∷ 2 ∷ 6 ∷ 12 ∷ 20 ∷ 30 ∷ 42 ∷ []

-- those of (1 - u)^2
abbrev pub squares_left : List ℕ
squares_left = 42 ∷ 30 ∷ 20 ∷ 12 ∷ 6 ∷ 2 ∷ 0 ∷ 0 ∷ []

-- a control point of the yaw D + (E - D) u^2, of which n forty-seconds are that of u^2
abbrev pub yaw_in : ℤ → ℤ → ℕ → ℤ
yaw_in D E n = D +ℤ forty_seconds n (E -ℤ D)

-- a control point of the yaw E - (E - D)(1 - u)^2, of which n forty-seconds are that of (1 - u)^2
abbrev pub yaw_out : ℤ → ℤ → ℕ → ℤ
yaw_out D E n = E -ℤ forty_seconds n (E -ℤ D)

-- the yaw of an eased arc from D to E
abbrev pub eased_yaw : Ease → ℤ → ℤ → List ℤ
eased_yaw ease.InOut D E = from_rest D E
eased_yaw ease.In D E = map (yaw_in D E) squares
eased_yaw ease.Out D E = map (yaw_out D E) squares_left

-- The control points of an act in the show's frame, from the present point, on an axis: 0 to 3 for x, y, z and yaw.
-- What stays has one, what goes evenly two, an arc and a curve four, an eased arc eight.
abbrev pub written_points : Point → Act → ℕ → List ℤ
written_points p act.Hold axis = on_axis p axis ∷ []
written_points p (act.Line to) axis = on_axis p axis ∷ on_axis to axis ∷ []
written_points p (act.Move to) axis = from_rest (on_axis p axis) (on_axis to axis)
written_points p (act.Turn yaw) axis = if axis == 3 then from_rest p.yaw yaw else on_axis p axis ∷ []
written_points p (act.Arc ccw cx cy yaw) axis =
    if axis == 3 then p.yaw ∷ yaw ∷ [] else if axis == 2 then p.z ∷ [] else arc_on p ccw cx cy axis
written_points p (act.Eased how ccw cx cy yaw) axis =
    if axis == 3 then eased_yaw how p.yaw yaw else if axis == 2 then p.z ∷ [] else eased_on p how ccw cx cy axis
written_points p (act.Curve p1 p2 to) axis =
    if axis == 3 then p.yaw ∷ to.yaw ∷ [] else on_axis p axis ∷ at p1 axis ∷ at p2 axis ∷ on_axis to axis ∷ []

-- where an act in the show's frame ends, from the present point: at its last control point on each axis
unfoldable pub end_of : Point → Act → Point
end_of p a = record {
  x = last_value (pos 0) (written_points p a 0);
  y = last_value (pos 0) (written_points p a 1);
  z = last_value (pos 0) (written_points p a 2);
  yaw = last_value (pos 0) (written_points p a 3);
}

-- where a drone is after these jobs
abbrev pub point_after : Point → List Job → Point
point_after p [] = p
point_after p (j ∷ jobs) = point_after (end_of p (act_of j)) jobs

-- In closed form, as numerators over c ^ 7: what stays, what goes evenly, and the way from rest to rest, which is
-- A + (B - A)(35 u^4 - 84 u^5 + 70 u^6 - 20 u^7) at u = a / c.
pub record ClosedForms : Type 0 where
  pub stays : (A : ℤ) (a c : ℕ) → position (A ∷ []) a c ≡ A *ℤ power (pos c) 7
  pub even : (A B : ℤ) (a c : ℕ) → position (A ∷ B ∷ []) a c ≡ (A *ℤ (pos c -ℤ pos a) +ℤ B *ℤ pos a) *ℤ power (pos c) 6
  pub rest : (A B : ℤ) (a c : ℕ) → position (from_rest A B) a c ≡ A *ℤ power (pos c) 7 +ℤ (B -ℤ A) *ℤ (
      pos 35 *ℤ (power (pos a) 4 *ℤ power (pos c) 3) -ℤ pos 84 *ℤ (power (pos a) 5 *ℤ power (pos c) 2)
      +ℤ pos 70 *ℤ (power (pos a) 6 *ℤ pos c) -ℤ pos 20 *ℤ power (pos a) 7)

-- What a sample says of its drone: that it meets a condition, and that it is on its curve.
use Rattle.std.specs.Prelude.{ℕ, ◌+◌, ◌-◌, ◌*◌, ◌/◌, Bool, false, not, ◌&&◌, ◌||◌, nat_le, List, slice_get, Option}
use Rattle.std.specs.Prelude.{Some, None, min, ℤ, pos, ◌+ℤ◌, ◌-ℤ◌, ◌*ℤ◌, int_le}
use Rattle.std.specs.List.{list_any, range_with_len}
use Rattle.whole_numbers.specs.Bernstein.{at}
use Rattle.traj_codec.specs.declared.traj.Traj.{Traj}
use Rattle.integer_player.specs.Played.{played}
use Rattle.flight_model.specs.declared.events.Sample.{Sample}
use Rattle.flight_model.specs.declared.flights.Course.{Course}
use Rattle.flight_model.specs.declared.flights.Flight.{Flight}
use Rattle.flight_model.specs.declared.flights.Stretch.{Stretch}
use Rattle.flight_model.specs.declared.flights.Stretch.TheVariants as stretch
use Rattle.flight_model.specs.declared.flights.Position.{Position}
use Rattle.flight_model.specs.declared.flights.Condition.{Condition}

-- ---- at a position

abbrev pub square : ℤ → ℤ
square z = z *ℤ z

-- the straight line that goes this far on each axis is at most this long
abbrev pub is_short : ℕ → ℤ → ℤ → ℤ → Bool
is_short most x y z = int_le (square x +ℤ square y +ℤ square z) (square (pos most))

-- the sample is at most `bound` mm from the position, in a straight line
abbrev pub is_at : ℕ → Position → Sample → Bool
is_at bound p x = is_short bound (x.x -ℤ p.x) (x.y -ℤ p.y) (x.z -ℤ p.z)

-- the height is at most 120 mm above or below this one
abbrev pub is_level : ℤ → ℤ → Bool
is_level height z = int_le z (height +ℤ pos 120) && int_le height (z +ℤ pos 120)

-- the sample says that its drone stands, and it is at this height
abbrev pub stands_at : ℤ → Sample → Bool
stands_at height x = x.down && is_level height x.z

-- The sample meets the condition: it is fresh, at the position and sure of that, not lost, and ready, armed and down
-- where the condition asks for that.
unfoldable pub is_fit_by : ℕ → Condition → Sample → Bool
is_fit_by silence w x =
    nat_le x.age silence && is_at w.bound w.position x && x.sure && not x.lost && (not w.ready || x.ready)
    && (not w.armed || x.armed) && (not w.down || (stands_at w.position.z x && not x.flying))

-- a drone's last sample meets it; without one the drone doesn't
abbrev pub is_fit : ℕ → Condition → Option Sample → Bool
is_fit silence w None = false
is_fit silence w (Some x) = is_fit_by silence w x

-- ---- on its curve

-- the sample is within `stray` mm of a point in micrometres, in a straight line
abbrev pub is_within : ℕ → List ℤ → Sample → Bool
is_within stray p x =
    is_short (1000 * stray) (pos 1000 *ℤ x.x -ℤ at p 0) (pos 1000 *ℤ x.y -ℤ at p 1) (pos 1000 *ℤ x.z -ℤ at p 2)

-- the instants of a show that are at most half of `late` from this one, in whole milliseconds
abbrev pub instants_near : (late total ms : ℕ) → List ℕ
instants_near late total ms = range_with_len (ms - late / 2) (min (ms + late / 2) total + 1 - (ms - late / 2))

-- The sample, taken at the instant `ms` of the show, is within `stray` of where the drone's curve is at some instant at
-- most half of `late` from that one: what the show's proof allows for (docs/SEPARATION.md, stray and late).
abbrev pub is_on_curve : Flight → Option Traj → ℕ → Sample → Bool
is_on_curve f None ms x = false
is_on_curve f (Some t) ms x = list_any (λ i. is_within f.stray (played t i) x) (instants_near f.late f.show_ms ms)

unfoldable pub is_kept : Flight → ℕ → ℕ → Sample → Bool
is_kept f d ms x = is_on_curve f (slice_get f.curves d) ms x

-- ---- on a way

-- The instants of a way that are at most `late` before this one, in whole milliseconds: an order reaches its drone
-- after its step. After the way's end this instant is the end.
abbrev pub instants_until : (late total ms : ℕ) → List ℕ
instants_until late total ms = range_with_len (min ms total - late) (min ms total + 1 - (min ms total - late))

-- the sample, taken at the instant `ms` of the way, is within `stray` of where the curve is at one of those instants
abbrev pub is_near_course : Course → Option Traj → ℕ → Sample → Bool
is_near_course c None ms x = false
is_near_course c (Some t) ms x = list_any (λ i. is_within c.stray (played t i) x) (instants_until c.late c.ms ms)

-- the sample of drone d, taken at this instant of a way
unfoldable pub is_on_course : Course → ℕ → ℕ → Sample → Bool
is_on_course c d ms x = is_near_course c (slice_get c.curves d) ms x

-- the sample of drone d, taken at this instant of a stretch; after the show that is its end
abbrev pub is_in_stretch : Flight → ℕ → Stretch → ℕ → Sample → Bool
is_in_stretch f d stretch.Up ms x = is_on_course f.up d ms x
is_in_stretch f d stretch.Show ms x = is_kept f d (min ms f.show_ms) x
is_in_stretch f d stretch.Down ms x = is_on_course f.down d ms x

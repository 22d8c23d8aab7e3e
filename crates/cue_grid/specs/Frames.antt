-- What a frame does to a point: its mirror, then its quarter turns, then its shift.
use Rattle.std.specs.Prelude.{◌≤ℤ◌, ℕ, zero, suc, ℤ, pos, neg_ℤ, ◌+ℤ◌, ◌-ℤ◌}
use Rattle.choreo_show.specs.declared.parts.Point.{Point}
use Rattle.choreo_show.specs.declared.parts.Frame.{Frame}
use Rattle.choreo_show.specs.declared.parts.Mirror.{Mirror}
use Rattle.choreo_show.specs.declared.parts.Mirror.TheVariants as mirror

-- the mirror `x` turns x round, and looks the other way along it (a half turn less the yaw); the mirror `y` turns y
-- round
abbrev pub mirrored : Mirror → Point → Point
mirrored mirror.None p = p
mirrored mirror.X p = record { x = neg_ℤ p.x; y = p.y; z = p.z; yaw = pos 1800 -ℤ p.yaw }
mirrored mirror.Y p = record { x = p.x; y = neg_ℤ p.y; z = p.z; yaw = neg_ℤ p.yaw }

-- a quarter turn to the left around the origin
abbrev pub turned_once : Point → Point
turned_once p = record { x = neg_ℤ p.y; y = p.x; z = p.z; yaw = p.yaw +ℤ pos 900 }

-- this many quarter turns
abbrev pub turned : ℕ → Point → Point
turned zero p = p
turned (suc n) p = turned_once (turned n p)

-- the shift of a frame; it leaves the yaw
abbrev pub shifted : Frame → Point → Point
shifted f p = record { x = p.x +ℤ f.dx; y = p.y +ℤ f.dy; z = p.z +ℤ f.dz; yaw = p.yaw }

-- where a frame puts a point
abbrev pub applied : Frame → Point → Point
applied f p = shifted f (turned f.turns (mirrored f.mirror p))

-- the frame that changes nothing
abbrev pub no_frame : Frame
no_frame = record { mirror = mirror.None; turns = 0; dx = pos 0; dy = pos 0; dz = pos 0 }

-- a number from -n to n
abbrev pub IsUpTo : ℕ → ℤ → Type 0
IsUpTo n v = (neg_ℤ (pos n) ≤ℤ v) × (v ≤ℤ pos n)

-- each number of the point is from -n to n
pub record IsPointUpTo (n : ℕ) (p : Point) : Type 0 where
  pub x : IsUpTo n p.x
  pub y : IsUpTo n p.y
  pub z : IsUpTo n p.z
  pub yaw : IsUpTo n p.yaw

-- each number of the shift is from -n to n
pub record IsShiftUpTo (n : ℕ) (f : Frame) : Type 0 where
  pub dx : IsUpTo n f.dx
  pub dy : IsUpTo n f.dy
  pub dz : IsUpTo n f.dz

-- Words of private steps: a quarter circle on one axis. No public clause cites them.
use Rattle.std.specs.Prelude.{ℕ, zero, suc, Bool, ◌^◌, ℤ, neg_ℤ, ◌-ℤ◌, if◌then◌else◌}
use Rattle.choreo_show.specs.declared.parts.Point.{Point}
use Rattle.cue_grid.specs.Frames.{IsUpTo}
use Rattle.figure_expand.specs.declared.shapes.Quarter.{Quarter}

-- on x, which is axis 0, and on y, around (cx, cy)
abbrev pub quarter_on : Point → Bool → ℤ → ℤ → ℕ → Quarter
quarter_on p ccw cx cy zero =
    record { present = p.x; centre = cx; first = p.x -ℤ cx; last = if ccw then neg_ℤ (p.y -ℤ cy) else p.y -ℤ cy }
quarter_on p ccw cx cy (suc axis) =
    record { present = p.y; centre = cy; first = p.y -ℤ cy; last = if ccw then p.x -ℤ cx else neg_ℤ (p.x -ℤ cx) }

-- so small that no sum leaves 64 bits
pub record IsQuarterSmall (q : Quarter) : Type 0 where
  pub present : IsUpTo (2 ^ 40) q.present
  pub centre : IsUpTo (2 ^ 28) q.centre
  pub first : IsUpTo (2 ^ 41) q.first
  pub last : IsUpTo (2 ^ 41) q.last

-- Small trajectories.
use Rattle.std.specs.Prelude.{ℤ, pos, [], ◌∷◌}
use Rattle.traj_codec.specs.declared.traj.Element.TheVariants.{Constant, Linear}
use Rattle.traj_codec.specs.declared.traj.Traj.{Traj}

-- ten milliseconds on x, evenly from one number of millimetres to another; y, z and yaw stay 0
abbrev pub flight : ℤ → ℤ → Traj
flight from to = record {
  start = from ∷ pos 0 ∷ pos 0 ∷ pos 0 ∷ [];
  segments = record { ms = 10; elements = Linear to ∷ Constant ∷ Constant ∷ Constant ∷ [] } ∷ [];
}

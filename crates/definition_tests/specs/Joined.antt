-- What the definition of joined holds says of short ones.
use Rattle.std.specs.Prelude.{[], ◌∷◌}
use Rattle.traj_codec.specs.Joined.{IsJoined, hold}

-- Two holds become one, and may not stay two; where they last longer together than a segment can, they stay two.
pub record JoinedRows : Type 0 where
  pub one : IsJoined (hold 1 ∷ hold 2 ∷ []) (hold 3 ∷ [])
  pub apart : IsJoined (hold 1 ∷ hold 2 ∷ []) (hold 1 ∷ hold 2 ∷ []) → ⊥
  pub longest : IsJoined (hold 65534 ∷ hold 1 ∷ []) (hold 65535 ∷ [])
  pub too_long : IsJoined (hold 65535 ∷ hold 1 ∷ []) (hold 65536 ∷ []) → ⊥

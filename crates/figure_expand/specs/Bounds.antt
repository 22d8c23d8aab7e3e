-- How large the numbers of points and acts are, so that no sum leaves 64 bits.
use Rattle.std.specs.Prelude.{ℕ, ◌≤◌, ◌^◌, ◌+◌, ◌*◌, List, [], ◌∷◌, ℤ}
use Rattle.std.specs.List.{All}
use Rattle.choreo_show.specs.declared.parts.Point.{Point}
use Rattle.choreo_show.specs.declared.parts.Act.{Act}
use Rattle.choreo_show.specs.declared.parts.Act.TheVariants as act
use Rattle.cue_grid.specs.Frames.{IsUpTo, IsPointUpTo}

-- three numbers from -n to n
abbrev pub IsTripleUpTo : ℕ → List ℤ → Type 0
IsTripleUpTo n (x ∷ y ∷ z ∷ []) = IsUpTo n x × IsUpTo n y × IsUpTo n z
IsTripleUpTo n v = ⊥

-- each number of an act in the show's frame is from -n to n
abbrev pub IsActUpTo : ℕ → Act → Type 0
IsActUpTo n act.Hold = Unit {0}
IsActUpTo n (act.Line to) = IsPointUpTo n to
IsActUpTo n (act.Move to) = IsPointUpTo n to
IsActUpTo n (act.Turn yaw) = IsUpTo n yaw
IsActUpTo n (act.Arc ccw cx cy yaw) = IsUpTo n cx × IsUpTo n cy × IsUpTo n yaw
IsActUpTo n (act.Eased how ccw cx cy yaw) = IsUpTo n cx × IsUpTo n cy × IsUpTo n yaw
IsActUpTo n (act.Curve p1 p2 to) = IsTripleUpTo n p1 × IsTripleUpTo n p2 × IsPointUpTo n to

-- two shares of at most 2,000,000 millionths each
abbrev pub AreSmall : ℕ × ℕ → Type 0
AreSmall share = (share.0 ≤ 2000000) × (share.1 ≤ 2000000)

-- how far away a drone can be after this many cues: each takes it at most 2 ^ 30 further
abbrev pub reach : ℕ → ℕ
reach cues = 2 ^ 30 * (cues + 1)

-- points within reach after this many cues
abbrev pub AreInReach : ℕ → List Point → Type 0
AreInReach cues points = All (IsPointUpTo (reach cues)) points

-- Rulers: a table of directions, and how far apart drones must be along each.
use Rattle.std.specs.Prelude.{◌≡◌, ℕ, ◌≤◌, ℤ, List, length, map, All}
use Rattle.sep_parts.specs.declared.clearance.Clearance.{Clearance}
use Rattle.sep_parts.specs.Directions.{AreSmall, IsClearance, threshold}
use Rattle.sep_parts.specs.declared.rules.Rules.{Rules}

-- What a ruler is seen as: its directions and the clearance, which determine the thresholds.
pub record Measure : Type 0 where
  pub directions : List (List ℤ)
  pub clearance : Clearance

-- the rules of a ruler that cuts cues down to a depth
abbrev pub rules_by : Measure → ℕ → Rules
rules_by m depth = record { clearance = m.clearance; depth = depth }

-- What a ruler keeps: at most 98 directions with small entries, the threshold of each, and a clearance as shows have
-- it.
pub record IsRuler (directions : List (List ℤ)) (thresholds : List ℤ) (c : Clearance) : Type 0 where
  pub few : length directions ≤ 98
  pub entries : All AreSmall directions
  pub reached : thresholds ≡ map (threshold c) directions
  pub clear : IsClearance c

-- The line that says that a show keeps to its regions.
use Rattle.std.specs.Prelude.{ℕ, List, [], ◌∷◌, codes, decimal}
use Rattle.byte_streams.specs.Words.{line}

-- each drone keeps to each of this many regions
abbrev pub kept_line : ℕ → List ℕ
kept_line regions = line (codes "kept") (codes "regions" ∷ decimal regions ∷ [])

-- The versions of certificates: each has its table of directions, and its words for them.
use Rattle.std.specs.Prelude.{◌≡◌, ◌⊎◌, ℕ, ◌+◌, ◌/◌, ◌%◌, ◌==◌, ℤ, List, [], ◌∷◌, if◌then◌else◌}
use Rattle.sep_parts.specs.declared.directions.TheConstants.{DIRECTIONS, WIDE}

-- there are two
abbrev pub IsVersion : ℕ → Type 0
IsVersion version = (version ≡ 1) ⊎ (version ≡ 2)

-- the directions that a version names by number
unfoldable pub table_of : ℕ → List (List ℤ)
table_of version = if version == 1 then DIRECTIONS.n else WIDE.n

-- how many they are
abbrev pub known_in : ℕ → ℕ
known_in version = if version == 1 then 26 else 98

-- a direction: a letter from `a` on in version 1, two digits in version 2
abbrev pub direction_word : ℕ → ℕ → List ℕ
direction_word version dir = if version == 1 then (97 + dir) ∷ [] else (48 + dir / 10) ∷ (48 + dir % 10) ∷ []

-- how many lines stand in front of the trees: version 1 says its depth alone
abbrev pub head_count : ℕ → ℕ
head_count version = if version == 1 then 1 else 2

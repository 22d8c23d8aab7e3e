-- Names with their numbers: which place in a list is the first one that has the name.
use Rattle.std.specs.Prelude.{◌≡◌, ℕ, ◌+◌, Bool, List, [], ◌∷◌, map, Option, Some, None, if◌then◌else◌}
use Rattle.std.specs.Map.{lookup}
use Rattle.choreo_show.specs.Name.{Name}
use Rattle.choreo_show.specs.declared.show.Formation.{Formation}
use Rattle.choreo_show.specs.declared.show.Figure.{Figure}
use Rattle.cue_grid.specs.Names.{same_name}

-- the number of a name among names that are counted from a number on
abbrev pub number_from : ℕ → List Name → Name → Option ℕ
number_from k [] n = None
number_from k (m ∷ ms) n = if same_name n m then Some k else number_from (k + 1) ms n

-- a number that stands, or this one where the name is the same
abbrev pub number_or : Option ℕ → Bool → ℕ → Option ℕ
number_or (Some j) same i = Some j
number_or None same i = if same then Some i else None

-- the entries of a map give these names their numbers
abbrev pub IsNumbered : List Name → List (Name × ℕ) → Type 0
IsNumbered names entries = (n : Name) → lookup (same_name n) entries ≡ number_from 0 names n

-- one more name has a number, if it had none
abbrev pub IsNoted : List (Name × ℕ) → List (Name × ℕ) → Name → ℕ → Type 0
IsNoted old new name i = (n : Name) →
    lookup (same_name n) new ≡ number_or (lookup (same_name n) old) (same_name n name) i

-- the names of formations
abbrev pub formation_names : List Formation → List Name
formation_names fs = map (λ f. f.name) fs

-- the names of figures
abbrev pub figure_names : List Figure → List Name
figure_names fs = map (λ f. f.name) fs

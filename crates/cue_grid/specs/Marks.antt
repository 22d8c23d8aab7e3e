-- Who has an act in a cue, as the steps keep it: the names on `at` lines have numbers and are marked by them, other
-- names are kept by themselves.
use Rattle.std.specs.Prelude.{◌≡◌, ℕ, Bool, true, false, ◌||◌, List, [], ◌∷◌, length, map, get_or, set, Option, Some}
use Rattle.std.specs.Prelude.{None}
use Rattle.choreo_show.specs.Name.{Name}
use Rattle.choreo_show.specs.declared.show.Formation.{Formation}
use Rattle.cue_grid.specs.Names.{has_name, names_of}
use Rattle.cue_grid.specs.Numbers.{number_from}

-- the number of a name: the place of the first of these names that is equal to it
abbrev pub number_in : List Name → Name → Option ℕ
number_in keys n = number_from 0 keys n

-- names that have numbers keep them
abbrev pub Keeps : List Name → List Name → Type 0
Keeps old new = (n : Name) (k : ℕ) → number_in old n ≡ Some k → number_in new n ≡ Some k

-- these are the numbers of these names
abbrev pub HasNumbers : List Name → List Name → List ℕ → Type 0
HasNumbers keys [] [] = Unit {0}
HasNumbers keys [] (k ∷ ks) = ⊥
HasNumbers keys (n ∷ ns) [] = ⊥
HasNumbers keys (n ∷ ns) (k ∷ ks) = (number_in keys n ≡ Some k) × HasNumbers keys ns ks

-- these are the numbers of the names on the `at` lines of a formation
abbrev pub IsPlaced : List Name → Option Formation → List ℕ → Type 0
IsPlaced keys None ks = ⊥
IsPlaced keys (Some f) ks = HasNumbers keys (names_of f.places) ks

-- each formation has the numbers of the names on its `at` lines
abbrev pub ArePlaced : {V : Type 0} → (V → List ℕ) → List Name → List Formation → List V → Type 0
ArePlaced items keys [] [] = Unit {0}
ArePlaced items keys [] (v ∷ vs) = ⊥
ArePlaced items keys (f ∷ fs) [] = ⊥
ArePlaced items keys (f ∷ fs) (v ∷ vs) = HasNumbers keys (names_of f.places) (items v) × ArePlaced items keys fs vs

-- the same as an equation
abbrev pub AllPlaced : {V : Type 0} → (V → List ℕ) → List Name → List Formation → List V → Type 0
AllPlaced items keys fs vs =
    map (λ f. map (number_in keys) (names_of f.places)) fs ≡ map (λ v. map (λ k. Some k) (items v)) vs

-- whether a name has an act: by the mark of its number, or among the other names where it has none
abbrev pub has_act : Option ℕ → List Bool → List Name → Name → Bool
has_act (Some k) marks others n = get_or marks k false
has_act None marks others n = has_name others n

-- whether one of these numbers has a mark
abbrev pub has_mark : List Bool → List ℕ → Bool
has_mark marks [] = false
has_mark marks (k ∷ ks) = get_or marks k false || has_mark marks ks

-- the marks, with one more for each of these numbers
abbrev pub marked : List Bool → List ℕ → List Bool
marked marks [] = marks
marked marks (k ∷ ks) = marked (set marks k true) ks

-- the names that have an act are these, where the numbers of some names are marked and other names are kept
abbrev pub IsActed : List Name → List Bool → List Name → List Name → Type 0
IsActed keys marks others names =
    (length marks ≡ length keys) × ((n : Name) → has_name names n ≡ has_act (number_in keys n) marks others n)

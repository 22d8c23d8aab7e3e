-- The names of a show, and what has a name.
use Rattle.std.specs.Prelude.{Bool, false, ◌||◌, List, [], ◌∷◌, map, Option, Some, None, bytes_eq, if◌then◌else◌}
use Rattle.std.specs.List.{list_all, list_any}
use Rattle.choreo_show.specs.Name.{Name}
use Rattle.choreo_show.specs.Plain.{PlainFigure}
use Rattle.choreo_show.specs.declared.show.DroneLine.{DroneLine}
use Rattle.choreo_show.specs.declared.show.Formation.{Formation}
use Rattle.choreo_show.specs.declared.parts.Point.{Point}

-- whether two names have the same bytes
abbrev pub same_name : Name → Name → Bool
same_name a b = bytes_eq a.items b.items

-- whether a name is one of these
abbrev pub has_name : List Name → Name → Bool
has_name ns n = list_any (same_name n) ns

-- whether each of the second names is one of the first
abbrev pub has_each : List Name → List Name → Bool
has_each ns ms = list_all (has_name ns) ms

-- whether some of the second names is one of the first
abbrev pub has_some : List Name → List Name → Bool
has_some ns [] = false
has_some ns (m ∷ ms) = has_name ns m || has_some ns ms

-- whether two of the names are equal
abbrev pub has_double : List Name → Bool
has_double [] = false
has_double (n ∷ ns) = has_name ns n || has_double ns

-- the names on the lines of drones, or on the `at` lines of a formation
abbrev pub names_of : List DroneLine → List Name
names_of ds = map (λ d. d.name) ds

-- the first formation of a name
abbrev pub formation_named : List Formation → Name → Option Formation
formation_named [] n = None
formation_named (f ∷ fs) n = if same_name n f.name then Some f else formation_named fs n

-- the first figure of a name
abbrev pub figure_named : List PlainFigure → Name → Option PlainFigure
figure_named [] n = None
figure_named (f ∷ fs) n = if same_name n f.name then Some f else figure_named fs n

-- the `at` lines of a formation, if there is one
abbrev pub places_in : Option Formation → List DroneLine
places_in None = []
places_in (Some f) = f.places

-- where the first `at` line of a drone puts it
abbrev pub place_named : List DroneLine → Name → Option Point
place_named [] n = None
place_named (p ∷ ps) n = if same_name n p.name then Some p.at else place_named ps n

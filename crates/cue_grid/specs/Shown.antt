-- What the values that the steps hand on stand for.
use Rattle.choreo_show.specs.Plain.{PlainShow, plain}
use Rattle.cue_grid.specs.Cues.{Playing}
use Rattle.std.specs.Prelude.{◌≡◌, List, false}
use Rattle.choreo_show.specs.Name.{Name}
use Rattle.cue_grid.specs.Marks.{IsActed}
use Rattle.cue_grid.specs.Names.{has_double, names_of}
use Rattle.cue_grid.specs.declared.acted.Acted.{Acted}
use Rattle.cue_grid.specs.declared.lookup.Lookup.{Lookup}
use Rattle.cue_grid.specs.declared.cues.Cast.{Cast}

-- the show after its tables of names
abbrev pub shown : Lookup → PlainShow
shown l = plain l.show.now

-- the frame, the roles and the drones of a cast
abbrev pub played : Cast → Playing
played c = record { frame = c.frame; roles = c.roles.now; drones = c.drones.now }

-- the names on the `at` lines of a show, by their numbers
abbrev pub place_names : Lookup → List Name
place_names l = l.names.keys

-- the names that have an act are these
abbrev pub HaveActs : List Name → Acted → List Name → Type 0
HaveActs keys a names = IsActed keys a.marks.items a.others.keys names

-- no two drones of a show have one name
abbrev pub AreDistinct : Lookup → Type 0
AreDistinct l = has_double (names_of (shown l).drones) ≡ false

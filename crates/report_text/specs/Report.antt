-- The report on a show.
use Rattle.std.specs.Prelude.{ℕ, List, [], ◌∷◌, ◌++◌, codes}
use Rattle.serde_json.specs.Data.{Data, Items, array, item, member, no_items, no_members, number, object, string}
use Rattle.serde_json.specs.Data.{unsigned}
use Rattle.serde_json.specs.Written.{compact_text}

-- numbers, and names, as lists of JSON
abbrev pub number_items : List ℕ → Items
number_items [] = no_items
number_items (n ∷ ns) = item (number (unsigned n)) (number_items ns)

abbrev pub name_items : List (List ℕ) → Items
name_items [] = no_items
name_items (name ∷ names) = item (string name) (name_items names)

-- What is reported: how many bytes each drone's trajectory has, how many cues the show, the drones' names, how many
-- milliseconds the show lasts, how many nodes its certificate has, and how many packets each drone is sent before the
-- start.
pub record Report : Type 0 where
  pub bytes : List ℕ
  pub cues : ℕ
  pub drones : List (List ℕ)
  pub duration_ms : ℕ
  pub nodes : ℕ
  pub packets : List ℕ

-- as JSON
abbrev pub report_data : Report → Data
report_data r =
    object (member (codes "bytes") (array (number_items r.bytes))
    (member (codes "cues") (number (unsigned r.cues))
    (member (codes "drones") (array (name_items r.drones))
    (member (codes "duration_ms") (number (unsigned r.duration_ms))
    (member (codes "nodes") (number (unsigned r.nodes))
    (member (codes "packets") (array (number_items r.packets))
    no_members))))))

-- its compact text, and a line feed
unfoldable pub report_text : Report → List ℕ
report_text r = compact_text (report_data r) ++ 10 ∷ []

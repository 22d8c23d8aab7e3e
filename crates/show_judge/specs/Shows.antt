-- What a show is to the program: its names and its trajectories; and the input, cut at its marker lines.
use Rattle.std.specs.Prelude.{ℕ, suc, ◌==◌, Bool, List, [], ◌∷◌, length, map, slice_index_or, if◌then◌else◌}
use Rattle.text_lines.specs.Lines.{between_feeds}
use Rattle.text_lines.specs.Marker.{has_marker, part_of, rest_of}
use Rattle.choreo_show.specs.Name.{Name}
use Rattle.choreo_show.specs.Plain.{PlainShow}
use Rattle.cue_grid.specs.Cues.{grid_of}
use Rattle.cue_grid.specs.Names as drones
use Rattle.traj_codec.specs.declared.traj.Traj.{Traj}
use Rattle.show_plan.specs.Separation.{best_certificate, node_count}
use Rattle.show_plan.specs.Trajectories.{by_cue, sent}

-- ---- the input

-- The input, cut at its marker lines: the show's text, whether a marker line stands after it, and all bytes after that
-- line; and of these the second text, and whether a marker line stands after it.
pub record Cut : Type 0 where
  pub show : List ℕ
  pub is_marked : Bool
  pub frames : List ℕ
  pub second : List ℕ
  pub is_second_marked : Bool

abbrev pub cut_of : List ℕ → Cut
cut_of input = record {
  show = part_of input;
  is_marked = has_marker (between_feeds input);
  frames = rest_of input;
  second = part_of (rest_of input);
  is_second_marked = has_marker (between_feeds (rest_of input));
}

abbrev pub feeds : List ℕ → ℕ
feeds [] = 0
feeds (b ∷ bs) = if b == 10 then suc (feeds bs) else feeds bs

-- the number of the marker line after a text, which counts from 1: each line of the text ends with a line feed
abbrev pub marker_number : List ℕ → ℕ
marker_number text = suc (feeds text)

-- ---- the show

-- the names of a show's drones, and their bytes
abbrev pub names_of : PlainShow → List Name
names_of s = drones.names_of s.drones

abbrev pub words_of : PlainShow → List (List ℕ)
words_of s = map (λ (name : Name). name.items) (names_of s)

abbrev pub name_at : List Name → ℕ → Name
name_at names drone = slice_index_or names drone (record { items = [] })

-- the trajectories of a show's drones, one segment a cue
abbrev pub trajectories_of : PlainShow → List Traj
trajectories_of s = by_cue (grid_of s)

-- what a show's drones are sent: these with their holds joined
abbrev pub sent_of : PlainShow → List Traj
sent_of s = sent (grid_of s)

-- the number of a show's cues, repeats and figures written out
abbrev pub cues_in : PlainShow → ℕ
cues_in s = length (grid_of s).cues

-- the nodes of the certificate with the largest leaves
abbrev pub nodes_of : PlainShow → ℕ → ℕ
nodes_of s depth = node_count (best_certificate s.settings depth (trajectories_of s))

-- What is said of a show that is accepted, and its numbers.
use Rattle.std.specs.Prelude.{ℕ, ◌+◌, List, [], ◌∷◌, map, codes, decimal}
use Rattle.std.specs.List.{sum}
use Rattle.byte_streams.specs.Words.{line}
use Rattle.choreo_show.specs.Plain.{PlainShow}
use Rattle.cue_grid.specs.Cues.{grid_of}
use Rattle.crtp_packets.specs.Chunks.{chunk_count_of}
use Rattle.traj_codec.specs.declared.traj.Traj.{Traj}
use Rattle.report_text.specs.Report.{Report}
use Rattle.show_plan.specs.Fitting.{size}
use Rattle.show_plan.specs.Trajectories.{cue_times}
use Rattle.show_judge.specs.Shows.{cues_in, nodes_of, sent_of, words_of}

-- how long a show lasts, in milliseconds
abbrev pub duration_of : PlainShow → ℕ
duration_of s = sum (cue_times (grid_of s))

-- what is said of a show that is accepted: how many drones and cues it has, and how many milliseconds it lasts
unfoldable pub ok_line : ℕ → ℕ → ℕ → List ℕ
ok_line drones cues ms =
    line (codes "ok")
    (codes "drones" ∷ decimal drones ∷ codes "cues" ∷ decimal cues ∷ codes "duration_ms" ∷ decimal ms ∷ [])

-- the packets of a trajectory without its start: its writes and its define
abbrev pub packets_for : Traj → ℕ
packets_for t = chunk_count_of (size t) + 1

abbrev pub report_of : PlainShow → ℕ → Report
report_of s depth = record {
  bytes = map size (sent_of s);
  cues = cues_in s;
  drones = words_of s;
  duration_ms = duration_of s;
  nodes = nodes_of s depth;
  packets = map packets_for (sent_of s);
}

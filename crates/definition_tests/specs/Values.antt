-- Definitions of places, of lines and of packets, each at the value beside which a weaker one answers otherwise.
use Rattle.std.specs.Prelude.{◌≡◌, ℕ, ℤ, pos, negsuc, List, [], ◌∷◌, ◌++◌, map, take, codes, true, false}
use Rattle.std.specs.Prelude.{Some, None, Ok, replicate}
use Rattle.whole_numbers.specs.Bernstein.{at}
use Rattle.whole_numbers.specs.Moments.{Moment}
use Rattle.text_lines.specs.Marker.{rest_of}
use Rattle.text_lines.specs.Numbers.{is_digit}
use Rattle.text_lines.specs.Words.{visible}
use Rattle.text_lines.specs.declared.token.Comments.TheVariants.{FromHash}
use Rattle.byte_streams.specs.Parts.{TakesFewAfter}
use Rattle.byte_streams.specs.Told.{Gives}
use Rattle.bezier_core.specs.Steps.{IsWithin}
use Rattle.traj_codec.specs.Joined.{hold}
use Rattle.traj_codec.specs.Positions.{decoded}
use Rattle.traj_codec.specs.Spelling.{AreNumbers, HasDuration, IsElement}
use Rattle.traj_codec.specs.declared.traj.Element.TheVariants.{Seven}
use Rattle.traj_codec.specs.declared.traj.Traj.{Traj}
use Rattle.sep_parts.specs.Apart.{MayBeAt}
use Rattle.sep_parts.specs.Directions.{limit_along}
use Rattle.sep_parts.specs.Trees.{leaf, preorder, split}
use Rattle.sep_parts.specs.declared.node.Node.TheVariants.{Leaf, Split}
use Rattle.dynamics_bound.specs.Accelerations.{widest_bend_part}
use Rattle.dynamics_bound.specs.Edges.{KeepsTangents, first_step, last_step}
use Rattle.choreo_show.specs.Name.{Name, begins_lower}
use Rattle.choreo_show.specs.Plain as plain
use Rattle.choreo_show.specs.Plain.{PlainShow}
use Rattle.choreo_show.specs.declared.parts.Mirror.TheVariants as mirror
use Rattle.choreo_show.specs.declared.show.Settings.{Settings}
use Rattle.choreo_lines.specs.declared.line.LineKind.TheVariants as kind
use Rattle.choreo_reader.specs.Context.{fault_of_lines}
use Rattle.choreo_reader.specs.Text.{fault_at}
use Rattle.cue_grid.specs.Counts.{figure_count}
use Rattle.cue_grid.specs.Faults.{earlier_of, grid_fault}
use Rattle.cue_grid.specs.declared.grid.GridFault.TheVariants as fault
use Rattle.figure_expand.specs.Expanded.{cue_values, no_job}
use Rattle.figure_expand.specs.Written.{forty_seconds}
use Rattle.figure_expand.specs.declared.fault.AxisValue.{AxisValue}
use Rattle.touch_witness.specs.Lines.{more_blocked_line}
use Rattle.touch_witness.specs.Sites.{AreDisjoint, IsInEllipsoid, left_of, listed}
use Rattle.crtp_packets.specs.Packets.{port, write_answer_of}
use Rattle.crtp_packets.specs.Reading.{down_of}
use Rattle.crtp_packets.specs.declared.reading.Down.TheVariants.{Read}
use Rattle.upload_model.specs.Drones.{read_taken}
use Rattle.upload_model.specs.Sessions.{part_count}
use Rattle.show_plan.specs.declared.separation.BlockedPart.{BlockedPart}
use Rattle.show_judge.specs.Shows.{Cut}
use Rattle.show_judge.specs.Verb.{IsJudged, outcome, show_ways, unread_ways}
use Rattle.show_studies.specs.Explained.{BlockedLines, SaysBlocked, explain_text}
use Rattle.definition_tests.specs.Begins.{blank, session}
use Rattle.definition_tests.specs.Flights.{flight}
use Rattle.definition_tests.specs.Grids.{cue, figured, holds, performs, show, two}
use Rattle.definition_tests.specs.Near.{spot}
use Rattle.definition_tests.specs.Places.{place}
use Rattle.definition_tests.specs.Runs.{ended, shown}
use Rattle.definition_tests.specs.Shapes.{called}
use Rattle.definition_tests.specs.Stands.{line_of}

-- ten milliseconds at these millimetres on x, y and z
abbrev pub standing : ℕ → ℕ → ℕ → Traj
standing x y z = record { start = pos x ∷ pos y ∷ pos z ∷ pos 0 ∷ []; segments = hold 10 ∷ [] }

-- halfway through the first cue
abbrev pub halfway : Moment
halfway = record { cue = 0; a = 1; c = 2 }

pub record PlaceRows : Type 0 where
  -- halfway from 0 to 10 mm are 5, and 640 over 2^7
  pub half : decoded (flight (pos 0) (pos 10)) 0 halfway ≡ pos 640
  -- 20 forty-seconds are rounded down, and 21 up
  pub rounded : forty_seconds 2 (pos 10) ∷ forty_seconds 3 (pos 7) ∷ [] ≡ pos 0 ∷ pos 1 ∷ []
  -- 2^2 (1^2 + 2^2) + 3^2 3^2
  pub all_axes : left_of (standing 0 0 0) (standing 1 2 3) 3 2 (listed 0 0 0) ≡ pos 101
  -- ellipsoids of 1 mm share no point where one stands 3 mm above the other, and do at 2 mm
  pub above : AreDisjoint (standing 0 0 0) (standing 0 0 3) 1 1 0 1
  pub touching : AreDisjoint (standing 0 0 0) (standing 0 0 2) 1 1 0 1 → ⊥
  -- a point 1 mm aside is in the ellipsoid of 1 mm, and one 2 mm aside isn't, on any axis
  pub in_it : IsInEllipsoid (standing 4 0 7) 1 1 0 1 (pos 4) (pos 1) (pos 7) 1
  pub aside_x : IsInEllipsoid (standing 4 0 7) 1 1 0 1 (pos 6) (pos 0) (pos 7) 1 → ⊥
  pub aside_y : IsInEllipsoid (standing 4 0 7) 1 1 0 1 (pos 4) (pos 2) (pos 7) 1 → ⊥
  pub aside_z : IsInEllipsoid (standing 4 0 7) 1 1 0 1 (pos 4) (pos 0) (pos 9) 1 → ⊥
  -- a point 3 mm aside on any axis is no place of a drone that strays by 2
  pub far_x : MayBeAt 2 (flight (pos 0) (pos 0)) 0 1 (place (pos 3) (pos 0) (pos 0)) → ⊥
  pub far_y : MayBeAt 2 (flight (pos 0) (pos 0)) 0 1 (place (pos 0) (pos 3) (pos 0)) → ⊥
  pub far_z : MayBeAt 2 (flight (pos 0) (pos 0)) 0 1 (place (pos 0) (pos 0) (pos 3)) → ⊥
  -- both ends are within
  pub low_end : IsWithin (pos 1) (negsuc 0)
  pub high_end : IsWithin (pos 1) (pos 1)
  pub too_low : IsWithin (pos 1) (negsuc 1) → ⊥
  -- twice the first step, and twice the last one
  pub steps : first_step (pos 0 ∷ pos 1 ∷ pos 5 ∷ []) ∷ last_step (pos 0 ∷ pos 1 ∷ pos 5 ∷ []) ∷ [] ≡ pos 2 ∷ pos 8 ∷ []
  -- an even flight keeps to its line, without acceleration
  pub even : KeepsTangents (flight (pos 0) (pos 10)) 0 0 0 1 1
  -- The cubes bend by 6 to 36, evenly; 2^7 times a quarter of 36 is the most in halves.
  pub bends : widest_bend_part 1 (at (map pos (0 ∷ 1 ∷ 8 ∷ 27 ∷ 64 ∷ 125 ∷ 216 ∷ 343 ∷ []))) ≡ 1152
  -- 4 r^2 h^2 along x, of half axes of 2 and 3 mm
  pub limit : limit_along 2 3 (pos 1 ∷ pos 0 ∷ pos 0 ∷ []) ≡ pos 144
  pub no_time : HasDuration (hold 0) → ⊥
  pub some_time : HasDuration (hold 1)
  pub seven : (v : List ℤ) → IsElement (Seven v) → AreNumbers 7 v
  -- the values of two drones that hold, axis by axis
  pub held_axes : map (λ (v : AxisValue). v.axis) (cue_values (spot (pos 1) (pos 2) (pos 3) (pos 4)
      ∷ spot (pos 5) (pos 6) (pos 7) (pos 8) ∷ []) (no_job ∷ no_job ∷ [])) ≡ 0 ∷ 1 ∷ 2 ∷ 3 ∷ 0 ∷ 1 ∷ 2 ∷ 3 ∷ []
  pub held_values : map (λ (v : AxisValue). v.value) (cue_values (spot (pos 1) (pos 2) (pos 3) (pos 4)
      ∷ spot (pos 5) (pos 6) (pos 7) (pos 8) ∷ []) (no_job ∷ no_job ∷ []))
      ≡ pos 1 ∷ pos 2 ∷ pos 3 ∷ pos 4 ∷ pos 5 ∷ pos 6 ∷ pos 7 ∷ pos 8 ∷ []

-- part 0 of the first two drones in the first cue
abbrev pub first_part : BlockedPart
first_part = record { slot = record { a = 0; b = 1; cue = 0 }; index = 0 }

pub record WordRows : Type 0 where
  pub more : more_blocked_line ≡ line_of (codes "blocked more than 200")
  pub comment : visible FromHash (codes "a # b") ≡ codes "a "
  pub rest : rest_of (line_of (codes "%%") ++ line_of (codes "a") ++ codes "b") ≡ line_of (codes "a") ++ codes "b"
  pub letters : map begins_lower ((96 ∷ []) ∷ (97 ∷ []) ∷ (122 ∷ []) ∷ (123 ∷ []) ∷ [])
      ≡ false ∷ true ∷ true ∷ false ∷ []
  pub digits : map is_digit (47 ∷ 48 ∷ 57 ∷ 58 ∷ []) ≡ false ∷ true ∷ true ∷ false ∷ []
  -- a text without lines lacks its header, in line 1
  pub nothing : fault_of_lines [] ≡ Some (fault_at 1 kind.Header)
  pub tree : preorder (split (leaf 1) (leaf 2)) ≡ Split ∷ Leaf 1 ∷ Leaf 2 ∷ []
  -- where a part is blocked, the last line is of touches: 3 instants in each of 2 cues
  pub blocked : explain_text [] 2 1 (Some first_part) None None (7 ∷ []) ≡ 7 ∷ line_of (codes "no-touch instants 6")
  pub separated : explain_text [] 2 1 None None None (7 ∷ []) ≡ 7 ∷ []
  pub says_blocked : (names : List Name) (e : Settings) (trajs : List Traj) (depth fine : ℕ) (text : List ℕ) →
      SaysBlocked names e trajs depth fine first_part text → take 13 text ≡ codes "blocked pair "
  -- one line for the one part, and nothing after it
  pub one_line : BlockedLines (λ part text. text ≡ 1 ∷ []) 1 (first_part ∷ []) (1 ∷ [])
  pub two_lines : BlockedLines (λ part text. text ≡ 1 ∷ []) 1 (first_part ∷ []) (1 ∷ 1 ∷ []) → ⊥
  pub no_lines : BlockedLines (λ part text. text ≡ 1 ∷ []) 1 (first_part ∷ []) [] → ⊥
  -- of two faults of one line the first counts; a perform is one more cue, and what comes after it is judged
  pub same_line : earlier_of (Some (fault.NoDrone 1)) (Some (fault.NoCue 1)) ≡ Some (fault.NoDrone 1)
  pub performs_more : grid_fault (show two [] (figured (codes "p" ∷ []))
      (plain.Repeat 19 1000 (cue []) (performs (codes "a" ∷ [])))) ≡ Some (fault.TooManyCues 20)
  pub after_it : grid_fault (show two [] (figured (codes "p" ∷ [])) (plain.Perform 20 (called (codes "g"))
      (record { mirror = mirror.None; turns = 0; dx = pos 0; dy = pos 0; dz = pos 0 }) (called (codes "a") ∷ [])
      (plain.Cue 22 10 (holds 23 (codes "c") ∷ []) plain.Done))) ≡ Some (fault.UnknownName 23)
  pub none_counts : figure_count (performs (codes "a" ∷ [])) ≡ 0

pub record PacketRows : Type 0 where
  -- the port is in the upper four bits
  pub ports : map port (0x4D ∷ 0x80 ∷ 0x8F ∷ []) ≡ 4 ∷ 8 ∷ 8 ∷ []
  pub asked : down_of (0x4D ∷ 1 ∷ 2 ∷ 3 ∷ 4 ∷ 0 ∷ 20 ∷ []) ≡ Ok (Read 1 262914 20)
  pub answered : write_answer_of 1 258 5 ≡ 0x4E ∷ 1 ∷ 2 ∷ 1 ∷ 0 ∷ 0 ∷ 5 ∷ []
  -- a read of 1 to 20 bytes is answered
  pub read : map (λ (n : ℕ). (read_taken (blank 0) 0 0 n).answer) (0 ∷ 1 ∷ 21 ∷ [])
      ≡ Some (0x4D ∷ 0 ∷ 0 ∷ 0 ∷ 0 ∷ 0 ∷ 5 ∷ []) ∷ Some (0x4D ∷ 0 ∷ 0 ∷ 0 ∷ 0 ∷ 0 ∷ 0 ∷ 255 ∷ [])
      ∷ Some (0x4D ∷ 0 ∷ 0 ∷ 0 ∷ 0 ∷ 0 ∷ 5 ∷ []) ∷ []
  -- a load is read by twenty bytes
  pub parts : map
      (λ (n : ℕ). part_count (record session { loads = record { bytes = replicate n 7; pieces = 1 } ∷ [] }) 0)
      (0 ∷ 1 ∷ 20 ∷ 21 ∷ []) ≡ 0 ∷ 1 ∷ 1 ∷ 2 ∷ []
  -- a byte was given that still is to come
  pub not_gone : Gives (record (ended [] 0) { left = Some (1 ∷ 2 ∷ []) })
      (record (ended (1 ∷ []) 0) { left = Some (1 ∷ 2 ∷ []) }) → ⊥
  -- a byte after the marker line may have been read, up to 4,096 of them
  pub few : TakesFewAfter (Some (line_of (codes "%%") ++ 1 ∷ [])) (Some [])
  -- a command that reads a show, and one that reads nothing
  pub reads : show_ways 3 ≡ record { reads = true; has_second = false; by_frames = false; depth = Some 3 }
  pub reads_nothing : unread_ways (Some 3)
      ≡ record { reads = false; has_second = false; by_frames = false; depth = Some 3 }
  pub gives : (s : PlainShow) (cut : Cut) → shown.gives s cut (outcome 0 (7 ∷ []))
  -- want of memory, and a failed read or write, judge nothing
  pub judged : IsJudged 0
  pub no_memory : IsJudged 1 → ⊥
  pub no_read : IsJudged 6 → ⊥
  pub no_write : IsJudged 7 → ⊥

-- Small definitions, at the value beside which a weaker one answers otherwise.
use Rattle.std.specs.Prelude.{◌≡◌, ℕ, ◌≤◌, pos, List, [], ◌∷◌, ◌++◌, length, map, codes, nat_le, Option, Some, None, Ok}
use Rattle.std.specs.Prelude.{if◌then◌else◌, true, false}
use Rattle.whole_numbers.specs.Bernstein.{at}
use Rattle.text_lines.specs.Marker.{part_of}
use Rattle.text_lines.specs.Numbers.{digits_after}
use Rattle.bezier_core.specs.declared.Bez.{Bez}
use Rattle.bezier_core.specs.declared.halves.Place.{Place}
use Rattle.traj_codec.specs.Joined.{hold, joined}
use Rattle.traj_codec.specs.Spelling.{AreNumbers, IsTrajectory, header}
use Rattle.traj_codec.specs.declared.traj.Element.TheVariants.{Constant, Linear}
use Rattle.traj_codec.specs.declared.traj.Segment.{Segment}
use Rattle.traj_codec.specs.declared.traj.Traj.{Traj}
use Rattle.fleet_curves.specs.Raised.{curves_at, curves_of, difference}
use Rattle.choreo_show.specs.Name.{Name}
use Rattle.choreo_show.specs.declared.parts.Act.TheVariants.{Arc}
use Rattle.choreo_show.specs.declared.parts.Mirror.TheVariants as mirror
use Rattle.choreo_lines.specs.Table.{row_of}
use Rattle.choreo_lines.specs.declared.line.Keyword.TheVariants.{Ellipsoid, Late, Memory, Stray, Trajectory}
use Rattle.choreo_lines.specs.declared.line.LineKind.TheVariants.{BadByte}
use Rattle.choreo_reader.specs.Context.{Opened, Opening, fill, is_empty_block, open_fault, opens, outermost, repeats}
use Rattle.choreo_reader.specs.Context.Opened.{OpenCue, OpenRepeat}
use Rattle.choreo_reader.specs.Grammar.{StandsFor}
use Rattle.choreo_reader.specs.Text.{fault_at, forbidden}
use Rattle.figure_expand.specs.Acts.{control_in, millionths}
use Rattle.figure_expand.specs.Expanded.{no_job, start_values}
use Rattle.figure_expand.specs.Written.{written_points}
use Rattle.figure_expand.specs.declared.fault.AxisValue.{AxisValue}
use Rattle.sep_parts.specs.Directions.{root_reaching, stray_limit}
use Rattle.sep_parts.specs.Levels.{left_half, root}
use Rattle.speed_bound.specs.Speed.{KeepsSpeed, speed, speed_of}
use Rattle.dynamics_bound.specs.Edges.{IsGreatestJump, is_rest_at}
use Rattle.dynamics_bound.specs.Lines.{extremes_line, motion_line}
use Rattle.dynamics_bound.specs.Motions.{axes, motion, widest_jump}
use Rattle.dynamics_bound.specs.declared.jumping.Jump.{Jump}
use Rattle.pair_search.specs.Search.{blocked_place}
use Rattle.touch_witness.specs.Sites.{SharePoint}
use Rattle.crtp_packets.specs.declared.commands.Command.TheVariants.{Start}
use Rattle.upload_model.specs.Drones.{DroneState, command_taken}
use Rattle.upload_model.specs.Hosts.{progress}
use Rattle.upload_model.specs.Replies.{first_other}
use Rattle.upload_model.specs.Sessions.{Upload}
use Rattle.upload_model.specs.Theorem.{IsSafe, TakesStart}
use Rattle.upload_model.specs.Worlds.{World, happens, start_world}
use Rattle.upload_model.specs.declared.events.Progress.TheVariants.{Differs}
use Rattle.upload_model.specs.declared.events.WorldEvent.TheVariants.{Alter, Tick}
use Rattle.link_dialogue.specs.Dialogues.{Dialogue, StopsAtEnd}
use Rattle.show_plan.specs.Fitting.{send_fault, unsendable}
use Rattle.show_plan.specs.declared.fitted.PlanFault.TheVariants.{TooLong}
use Rattle.show_judge.specs.Outcome.{IsComplete}
use Rattle.show_judge.specs.Shows.{Cut}
use Rattle.show_studies.specs.Boxes.{StaysInRegions}
use Rattle.show_studies.specs.Dynamics.{motion_lines}
use Rattle.show_studies.specs.Speeds.{KeepsBounds}
use Rattle.definition_tests.specs.Begins.{blank, listed, session}
use Rattle.definition_tests.specs.Depths.{near}
use Rattle.definition_tests.specs.Flights.{flight}
use Rattle.definition_tests.specs.Forms.{the_drone}
use Rattle.definition_tests.specs.Headlines.{stay}
use Rattle.definition_tests.specs.Motion.{parabola}
use Rattle.definition_tests.specs.Near.{spot}
use Rattle.definition_tests.specs.Runs.{says}
use Rattle.definition_tests.specs.Stands.{line_of}

-- a direction for the two places of depth one, and for none beside them
abbrev pub of_two : Place → Option ℕ
of_two p = if nat_le p.index 1 then Some 0 else None

-- a dialogue of single bytes, which is over before the first
abbrev pub over : Dialogue
over = record {
  Item = ℕ;
  IsItem = λ byte. Unit {0};
  bytes = λ byte. byte ∷ [];
  IsBegun = λ begun. Unit {0};
  ended = λ items. Some 0;
  sent = λ items. [];
}

-- three curves that begin at 5, 6 and this
abbrev pub rows_to : ℕ → List (Bez 8)
rows_to last = curves_of ((pos 5 ∷ []) ∷ (pos 6 ∷ []) ∷ (pos last ∷ []) ∷ [])

-- a block of this kind in which no line stands
abbrev pub opening : Opened → Opening
opening kind = record { kind = kind; line = 1; filled = false }

pub record SmallRows : Type 0 where
  -- past its end a list of numbers has zeros
  pub past_the_end : at (pos 5 ∷ []) 1 ≡ pos 0
  -- a digit, read
  pub digit : digits_after 0 (codes "7") ≡ Some 7
  -- four elements that stay have a header of zeros
  pub still : header (Constant ∷ Constant ∷ Constant ∷ Constant ∷ []) ≡ 0
  -- the first half of the whole, and no part without a direction where both halves have one
  pub half : left_half root ≡ record { depth = 1; index = 0 }
  pub two_parts : blocked_place of_two 1 ≡ None
  -- the least numbers whose squares are at least 0, 2 and 4
  pub root_of_none : root_reaching (pos 0) ≡ 0
  pub root_of_two : root_reaching (pos 2) ≡ 2
  pub root_of_four : root_reaching (pos 4) ≡ 2
  -- a frame that changes nothing
  pub point : control_in (record { mirror = mirror.None; turns = 0; dx = pos 0; dy = pos 0; dz = pos 0 })
      (pos 1 ∷ pos 2 ∷ pos 3 ∷ []) ≡ pos 1 ∷ pos 2 ∷ pos 3 ∷ []
  -- no setting stands before the first line after the header
  pub no_setting : map (open_fault outermost) (Memory ∷ Trajectory ∷ Ellipsoid ∷ Stray ∷ Late ∷ [])
      ≡ None ∷ None ∷ None ∷ None ∷ None ∷ []
  -- the first bytes differ
  pub first_byte : first_other (1 ∷ []) (2 ∷ []) ≡ Some 0
  -- a time scale of 1.0 starts the drone
  pub scale : (command_taken (listed 0) [] (Ok (Start 0 0 0 0 (0 ∷ 0 ∷ 0x80 ∷ 0x3F ∷ [])))).drone.started ≡ Some 0
  -- a trajectory of 16 bytes has room in 16
  pub just_fits : send_fault 16 0 (flight (pos 0) (pos 0)) ≡ None
  -- a line for each of two drones, in their order
  pub both_lines : (depth : ℕ) (t : Traj) (a b : Name) → motion_lines depth [] (t ∷ t ∷ []) (a ∷ b ∷ [])
      ≡ motion_line a.items (motion depth [] t) ++ (motion_line b.items (motion depth [] t) ++ [])
  -- after the end a source may have given 4,096 bytes, and no more
  pub buffered : (bytes : List ℕ) → length bytes ≡ 4096 → StopsAtEnd over (Some bytes) (Some [])
  pub read_on : (bytes : List ℕ) → length bytes ≡ 4097 → StopsAtEnd over (Some bytes) (Some []) → ⊥
  -- the values of two starts, each with its line
  pub both_starts : map (λ (v : AxisValue). v.line) (start_values (the_drone ∷ record the_drone { line = 9 } ∷ []))
      ≡ 2 ∷ 2 ∷ 2 ∷ 2 ∷ 9 ∷ 9 ∷ 9 ∷ 9 ∷ []
  -- the greatest jump is at an edge of the trajectory
  pub inside : (t : Traj) (axis : ℕ) (j : Jump) → IsGreatestJump t axis j → j.segment ≤ length t.segments
  -- bounds on x, y and z are enough
  pub enough : (depth : ℕ) (t : Traj) → ((axis : ℕ) → axis ≤ 2 → KeepsSpeed t axis (speed depth t axis)) →
      KeepsBounds None depth t
  -- a plan of 14 bytes has no room in the last 6 bytes of a memory, and drone 0 is the first without room
  pub no_room : unsendable (record stay { settings = record (stay.settings) { offset = 4090 } }) ≡ Some (TooLong 0 14 6)
  -- x, y and z in their order, and a line of six of them
  pub three : axes (λ (axis : ℕ). axis) ≡ record { x = 0; y = 1; z = 2 }
  pub greatest : extremes_line (record {
    accelerations = record { x = 1; y = 2; z = 3 };
    jumps = record { x = 4; y = 5; z = 6 };
  }) ≡ line_of (codes "greatest acceleration 1 2 3 jump 4 5 6")
  -- a point that two drones share has a denominator
  pub shared : (t u : Traj) (r h p q : ℕ) (s : SharePoint t u r h p q) → 1 ≤ s.d
  -- what stays in regions is a show; and a command that never succeeds lacks something on each input
  pub regions : (input : List ℕ) (old new : Option (List ℕ)) (is : StaysInRegions input old new) →
      StandsFor (part_of input) is.s
  pub never : (cut : Cut) → IsComplete (record says { succeeds = λ s cut. ⊥ }) cut → ⊥
  -- the jump at the end counts
  pub widest : widest_jump parabola 0 ≡ 600000
  -- on halves of 10 ms: 5,040 times 2^7 times 5 mm
  pub half_speed : speed_of 1 10 3225600 ≡ 7000000
  -- the last curve of two drones and two cues; and each axis of two drones' difference is its own
  pub last_curve : curves_at (record { drones = 2; cues = 2; curves = [] ∷ [] ∷ [] ∷ rows_to 7 ∷ [] }) 1 1 ≡ rows_to 7
  pub own_axes : map (λ (curve : Bez 8). at curve.b 0)
      (difference (record { drones = 2; cues = 1; curves = [] ∷ rows_to 7 ∷ [] }) 0 1 0)
      ≡ pos 5 ∷ pos 6 ∷ pos 7 ∷ []
  -- a jump on z alone is no rest
  pub climbs : is_rest_at (record {
    start = pos 0 ∷ pos 0 ∷ pos 0 ∷ pos 0 ∷ [];
    segments = record { ms = 10; elements = Constant ∷ Constant ∷ Linear (pos 10) ∷ Constant ∷ [] } ∷ [];
  }) 0 ≡ false
  -- 4 stray^2 (w . w), of a stray and half axes of a millimetre
  pub strays : stray_limit (record near { stray = 1 }) (pos 1 ∷ pos 0 ∷ pos 0 ∷ []) ≡ pos 4
  -- just below a half is rounded down, and a half up
  pub rounds : millionths 499999 (pos 1) ∷ millionths 500000 (pos 1) ∷ [] ≡ pos 0 ∷ pos 1 ∷ []
  -- an arc's yaw; and no job is of no line
  pub arc_yaw : written_points (spot (pos 0) (pos 0) (pos 0) (pos 1)) (Arc true (pos 0) (pos 0) (pos 900)) 3
      ≡ pos 1 ∷ pos 900 ∷ []
  pub no_line : no_job.line ≡ 0
  -- a block with a line is filled, one that is opened isn't, a cue is no repeat, and lines count from 1
  pub fills : is_empty_block (fill (opening OpenRepeat ∷ [])) ≡ false
  pub opens_empty : is_empty_block (opens 2 [] (Some OpenRepeat)) ≡ true
  pub no_repeat : repeats (opening OpenCue ∷ []) ≡ 0
  pub first_line : forbidden (7 ∷ []) ≡ Some (fault_at 1 BadByte)
  pub no_names : (row_of Stray).names ≡ 0
  -- four numbers are the start; after it each read byte is the sent one; a tick is no start; and an alteration of a
  -- drone that isn't there changes nothing
  pub numbers : (t : Traj) → IsTrajectory t → AreNumbers 4 t.start
  pub same_bytes : (s : Upload) (start : ℕ → DroneState) (w : World) → IsSafe s start w → (d address byte got : ℕ) →
      progress s w.heard ≡ Differs d address byte got → ⊥
  pub no_start : (w : World) → TakesStart session w 0 Tick → ⊥
  pub not_there : (happens session (start_world session blank) (Alter 1 0 7)).drones 1 ≡ blank 1
  -- two holds of more than 65,535 ms together stay two
  pub stay_two : map (λ (s : Segment). s.ms) (joined (record {
    start = pos 0 ∷ pos 0 ∷ pos 0 ∷ pos 0 ∷ [];
    segments = hold 40000 ∷ hold 30000 ∷ [];
  })).segments ≡ 40000 ∷ 30000 ∷ []

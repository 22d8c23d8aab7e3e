-- Why a show, or the text after it, is refused.
use Rattle.std.specs.Prelude.{◌≢◌, ℕ, nat_lt, List, length, Option, Some, None, Result, Ok, Err, if◌then◌else◌}
use Rattle.std.specs.Option.{option_map, option_or}
use Rattle.choreo_show.specs.Name.{Name}
use Rattle.choreo_show.specs.Plain.{PlainShow}
use Rattle.choreo_reader.specs.Context.{fault}
use Rattle.choreo_reader.specs.Text.{Fault}
use Rattle.cue_grid.specs.Cues.{grid_of}
use Rattle.cue_grid.specs.Faults.{grid_fault}
use Rattle.figure_expand.specs.Expanded.{range_fault}
use Rattle.show_judge.specs.declared.ways.Ways.{Ways}
use Rattle.refusals.specs.declared.refusal.Pair.{Pair}
use Rattle.refusals.specs.declared.refusal.Refusal.{Refusal}
use Rattle.refusals.specs.declared.refusal.Refusal.TheVariants as refusal
use Rattle.refusals.specs.Refusals.{IsSayable, status_of}
use Rattle.show_plan.specs.declared.fitted.PlanFault.{PlanFault}
use Rattle.show_plan.specs.declared.fitted.PlanFault.TheVariants as plan
use Rattle.show_plan.specs.declared.separation.BlockedPart.{BlockedPart}
use Rattle.show_plan.specs.Fitting.{in_order, unsendable}
use Rattle.show_plan.specs.Separation.{blocked_part}
use Rattle.whole_numbers.specs.Limits.{most_text}
use Rattle.show_judge.specs.Shows.{Cut, marker_number, name_at, names_of, trajectories_of}

-- A refusal of an input: what it names can be said in a line, and it is neither that the words are no command nor that
-- a read failed.
pub record IsOfInput (r : Refusal) : Type 0 where
  pub sayable : IsSayable r
  pub command : status_of r ≢ 2
  pub read : status_of r ≢ 6

-- ---- the show's text

abbrev pub faulty : Fault → Refusal
faulty f = refusal.Line f.line f.kind

-- the refusal of a show's text: it is too long, or it has a first faulty line
abbrev pub text_refusal : List ℕ → Option Refusal
text_refusal text = if nat_lt most_text (length text) then Some refusal.TooLarge else option_map faulty (fault text)

-- ---- the show

abbrev pub pair_at : List Name → ℕ → ℕ → ℕ → Pair
pair_at names a b cue = record { first = name_at names a; second = name_at names b; cue = cue }

-- what keeps a show from having a plan, as a refusal
abbrev pub no_plan : List Name → PlanFault → Refusal
no_plan names (plan.Grid f) = refusal.Grid f
no_plan names (plan.OutOfRange v) = refusal.Range v.line v.axis v.value
no_plan names (plan.TooManySegments drone segments) = refusal.Segments (name_at names drone) segments
no_plan names (plan.TooLong drone bytes room) = refusal.Room (name_at names drone) bytes room

-- a blocked part, as a refusal of a search to this depth
abbrev pub blocked : List Name → ℕ → BlockedPart → Refusal
blocked names depth part = refusal.Blocked (pair_at names part.slot.a part.slot.b part.slot.cue) part.index depth

-- a marker line is refused by each command that wants nothing after it
abbrev pub marker_refusal : Ways → Cut → Option Refusal
marker_refusal c cut =
    if c.has_second then None
    else (if cut.is_marked then Some (refusal.SecondLine (marker_number cut.show)) else None)

-- the first part in which no direction separates two drones, for each command that searches
abbrev pub blocked_by : Option ℕ → PlainShow → Option Refusal
blocked_by None s = None
blocked_by (Some depth) s = option_map (blocked (names_of s) depth) (blocked_part s.settings depth (trajectories_of s))

-- The first refusal of a show: its names and cues, its numbers, a marker line, what can't be sent, separation.
abbrev pub show_refusal : Ways → Cut → PlainShow → Option Refusal
show_refusal c cut s =
    option_or (option_map (no_plan (names_of s)) (in_order (grid_fault s) (range_fault (grid_of s)) None))
    (option_or (marker_refusal c cut)
    (option_or (option_map (no_plan (names_of s)) (unsendable s))
    (blocked_by c.depth s)))

-- ---- the second text

-- The refusal of a second text of at most this many bytes, whose first faulty line is this: it is too long, has a
-- faulty line, or a marker line stands after it.
abbrev pub second_refusal : ℕ → Option ℕ → Cut → Option Refusal
second_refusal limit first cut =
    if nat_lt limit (length cut.second) then Some refusal.SecondTooLarge
    else option_or (option_map (λ (line : ℕ). refusal.SecondLine line) first)
    (if cut.is_second_marked then Some (refusal.SecondLine (marker_number cut.second)) else None)

-- the first faulty line of a second text, if there is one
abbrev pub faulty_line : {E : Type 0} → Result (List E) ℕ → Option ℕ
faulty_line (Ok read) = None
faulty_line (Err line) = Some line

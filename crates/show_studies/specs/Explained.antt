-- What `explain` gives: where two drones of a show come close.
use Rattle.std.specs.Prelude.{◌≡◌, ◌↔◌, ℕ, zero, suc, Bool, true, false, List, [], ◌∷◌, ◌++◌, length, Contains}
use Rattle.std.specs.Prelude.{Option, Some, None, MatchOption}
use Rattle.std.specs.Option.{option_map}
use Rattle.std.specs.Io.KnownBytes.{Appends}
use Rattle.choreo_show.specs.Name.{Name}
use Rattle.choreo_reader.specs.Grammar.{StandsFor}
use Rattle.choreo_show.specs.Plain.{PlainShow}
use Rattle.choreo_show.specs.declared.show.Settings.{Settings}
use Rattle.traj_codec.specs.declared.traj.Traj.{Traj}
use Rattle.fleet_curves.specs.Raised.{Raised, difference, raised_of}
use Rattle.sep_parts.specs.declared.clearance.Clearance.{Clearance}
use Rattle.sep_parts.specs.declared.slot.Slot.{Slot}
use Rattle.pair_search.specs.Laws.{IsFirstBlocked}
use Rattle.pair_search.specs.Search.{blocked_place}
use Rattle.show_plan.specs.declared.separation.BlockedPart.{BlockedPart}
use Rattle.show_plan.specs.Separation.{FlyApart, blocked_at, blocked_part, clearance_of, direction_at, searched}
use Rattle.show_plan.specs.Separation.{slots_of}
use Rattle.touch_witness.specs.declared.site.Closest.{Closest}
use Rattle.touch_witness.specs.declared.site.Touch.{Touch}
use Rattle.touch_witness.specs.Lines.{blocked_closest_line, blocked_pair_line, closest_line, more_blocked_line}
use Rattle.touch_witness.specs.Lines.{no_touch_line, separated_line, touch_line}
use Rattle.touch_witness.specs.Sites.{IsClosest, IsClosestIn, IsFirstTouch, NoTouch}
use Rattle.show_judge.specs.Shows.{cues_in, name_at, names_of, sent_of, trajectories_of}
use Rattle.show_judge.specs.Verb.{Outcome, Verb, of_any}

abbrev pub word_at : List Name → ℕ → List ℕ
word_at names drone = (name_at names drone).items

-- the first line: a part that is blocked, if there is one
abbrev pub separation_line : List Name → ℕ → Option BlockedPart → List ℕ
separation_line names depth None = separated_line
separation_line names depth (Some part) =
    blocked_pair_line (word_at names part.slot.a) (word_at names part.slot.b) part.slot.cue part.index depth

-- the second line, of two drones or more: where two of them are closest
abbrev pub nearest_line : List Name → ℕ → Option Closest → List ℕ
nearest_line names fine None = []
nearest_line names fine (Some closest) = closest_line (word_at names closest.a) (word_at names closest.b) fine closest

-- the last line: where two drones touch first, or that none do at this many instants
abbrev pub contact_line : List Name → ℕ → ℕ → Option Touch → List ℕ
contact_line names cues fine None = no_touch_line cues fine
contact_line names cues fine (Some touch) = touch_line (word_at names touch.a) (word_at names touch.b) fine touch

-- it is written where a part is blocked
abbrev pub contact_if : Option BlockedPart → List ℕ → List ℕ
contact_if None line = []
contact_if (Some part) line = line

-- ---- all that is blocked

-- a part, where there is one, before others
abbrev pub with_part : Option BlockedPart → List BlockedPart → List BlockedPart
with_part None others = others
with_part (Some part) others = part ∷ others

-- Of each of these slots that has a part that no direction separates the first such part, in the order of the slots.
abbrev pub blocked_among : Clearance → ℕ → Raised → List Slot → List BlockedPart
blocked_among c depth curves [] = []
blocked_among c depth curves (slot ∷ others) =
    with_part (option_map (blocked_at slot) (blocked_place (direction_at c curves slot) depth))
    (blocked_among c depth curves others)

-- of each pair and each cue that is blocked the first part that no direction separates, in the order pair, cue
abbrev pub blocked_parts : Settings → ℕ → List Traj → List BlockedPart
blocked_parts e depth trajs = blocked_among (clearance_of e trajs) depth (raised_of trajs) (slots_of trajs)

-- Each pair and cue that is blocked is among them, with its first part that is, and nothing else; there is one exactly
-- where `blocked_part` is one.
pub record BlockedLaw : Type 0 where
  pub each : (e : Settings) (depth : ℕ) (trajs : List Traj) (slot : Slot) (index : ℕ) →
      Contains (blocked_parts e depth trajs) (blocked_at slot index)
      ↔ (Contains (slots_of trajs) slot × IsFirstBlocked (clearance_of e trajs)
      (difference (raised_of trajs) slot.a slot.b slot.cue) searched depth index)
  pub none : (e : Settings) (depth : ℕ) (trajs : List Traj) →
      (blocked_parts e depth trajs ≡ []) ↔ (blocked_part e depth trajs ≡ None)

-- how many pairs and cues have a line at most
abbrev pub most_blocked : ℕ
most_blocked = 200

-- the line of a pair and a cue: the first part that is blocked, and where the two are closest in the cue
abbrev pub SaysBlocked : List Name → Settings → List Traj → ℕ → ℕ → BlockedPart → List ℕ → Type 0
SaysBlocked names e trajs depth fine part text =
    (c : Closest) × IsClosestIn trajs e.r e.h fine part.slot c
    × (text ≡ blocked_closest_line (word_at names part.slot.a) (word_at names part.slot.b) part.index depth fine c)

-- A line for each of at most n parts, by what one line says; where there are more, a last line says so.
abbrev pub BlockedLines : (BlockedPart → List ℕ → Type 0) → ℕ → List BlockedPart → List ℕ → Type 0
BlockedLines Says n [] text = text ≡ []
BlockedLines Says zero (part ∷ others) text = text ≡ more_blocked_line
BlockedLines Says (suc n) (part ∷ others) text =
    (first rest : List ℕ) × Says part first × BlockedLines Says n others rest × (text ≡ first ++ rest)

-- what stands before the other lines: the first line, or, with `all` and where a part is blocked, the lines of all
-- pairs and cues that are
abbrev pub SeparationSays : Bool → List Name → Settings → List Traj → ℕ → ℕ → Option BlockedPart → List ℕ → Type 0
SeparationSays false names e trajs depth fine blocked text = text ≡ separation_line names depth blocked
SeparationSays true names e trajs depth fine None text = text ≡ separated_line
SeparationSays true names e trajs depth fine (Some part) text =
    BlockedLines (SaysBlocked names e trajs depth fine) most_blocked (blocked_parts e depth trajs) text

-- The lines of `explain`, after those on separation.
abbrev pub explain_text : List Name → ℕ → ℕ → Option BlockedPart → Option Closest → Option Touch → List ℕ → List ℕ
explain_text names cues fine blocked closest touch separation =
    separation ++ nearest_line names fine closest ++ contact_if blocked (contact_line names cues fine touch)

-- the first part of the depth in which no direction separates two drones of the show
abbrev pub blocked_of : ℕ → PlainShow → Option BlockedPart
blocked_of depth s = blocked_part s.settings depth (trajectories_of s)

-- The text says where two drones of the show are closest and where they touch first, among the instants that cut each
-- cue into 2^fine parts: at a touch that is named the closed ellipsoids around the two share a point, and no two drones
-- touch at an earlier one of these instants; where none is named, any two drones are apart at each of them. One drone
-- alone is closest to none. With `all` it names each pair and each cue that are blocked, up to 200 of them, and says
-- where the pair is closest in the cue.
pub record Explains (depth fine : ℕ) (all : Bool) (s : PlainShow) (text : List ℕ) : Type 0 where
  pub closest : Option Closest
  pub touch : Option Touch
  pub separation : List ℕ
  pub is_closest : MatchOption closest (length (trajectories_of s) ≡ 1)
      (IsClosest (trajectories_of s) s.settings.r s.settings.h fine)
  pub is_first : MatchOption touch (NoTouch (trajectories_of s) s.settings.r s.settings.h fine)
      (IsFirstTouch (trajectories_of s) s.settings.r s.settings.h fine)
  pub says : SeparationSays all (names_of s) s.settings (trajectories_of s) depth fine (blocked_of depth s) separation
  pub is : text ≡ explain_text (names_of s) (cues_in s) fine (blocked_of depth s) closest touch separation

-- The input stands for a show, and this text was written, which explains it: a touch that it names is an instant at
-- which the closed ellipsoids around two drones that fly exactly share a point, and no earlier listed instant has one;
-- where it names none, any two of these are apart at each listed instant. Where it says that no part is blocked, any
-- two drones keep apart, however far they stray and however late they are by what the show's settings allow.
pub record TellsTouches (depth fine : ℕ) (all : Bool) (input : List ℕ) (old new : Option (List ℕ)) : Type 0 where
  pub s : PlainShow
  pub text : List ℕ
  pub stands : StandsFor input s
  pub explains : Explains depth fine all s text
  pub apart : blocked_of depth s ≡ None → FlyApart s.settings (sent_of s)
  pub written : Appends old new text

-- status 0, and a text that explains the show
abbrev pub ExplainGives : ℕ → ℕ → Bool → PlainShow → Outcome → Type 0
ExplainGives depth fine all s o = (o.status ≡ 0) × Explains depth fine all s o.output

abbrev pub explain_verb : ℕ → ℕ → Bool → Verb
explain_verb depth fine all =
    of_any None (λ s cut o. ExplainGives depth fine all s o)
    (λ s cut. (o : Outcome) × ExplainGives depth fine all s o)
    (λ s cut. blocked_of depth s ≡ None → FlyApart s.settings (sent_of s)) (λ s cut. Unit {0})
    (λ input old new. TellsTouches depth fine all input old new)

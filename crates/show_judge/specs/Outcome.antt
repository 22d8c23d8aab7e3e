-- What a command gives on an input: the status that it ends with, and what it writes.
use Rattle.std.specs.Prelude.{◌≡◌, ◌⊎◌, ℕ, ◌≤◌, List, length, Option, Some, None, if◌then◌else◌}
use Rattle.std.specs.Io.KnownBytes.{Appends}
use Rattle.std.specs.Option.{option_map}
use Rattle.choreo_show.specs.Plain.{PlainShow}
use Rattle.choreo_reader.specs.Grammar.{StandsFor}
use Rattle.cue_grid.specs.Cues.{grid_of}
use Rattle.refusals.specs.declared.refusal.Refusal.{Refusal}
use Rattle.refusals.specs.Refusals.{line_of, status_of}
use Rattle.link_frames.specs.Frames.{end_frame}
use Rattle.show_plan.specs.Flight.{KeepsNearShow}
use Rattle.show_judge.specs.Refused.{show_refusal, text_refusal}
use Rattle.whole_numbers.specs.Limits.{most_text}
use Rattle.show_judge.specs.Shows.{Cut, cut_of, sent_of}
use Rattle.show_judge.specs.Verb.{FliesApart, Judges, Outcome, Verb, nothing, outcome, own_text, the_input}

-- a refusal gives its status and its line
abbrev pub refused : Refusal → Outcome
refused r = outcome (status_of r) (line_of r)

-- how a command says a refusal: by its line, or where it writes frames by the end frame with the status
abbrev pub said : Verb → Refusal → Outcome
said v r = if v.ways.by_frames then outcome (status_of r) (end_frame (status_of r)) else refused r

-- what a show gives: its first refusal, or else what the command gives
abbrev pub ShowGives : Verb → Option Refusal → PlainShow → Cut → Outcome → Type 0
ShowGives v (Some r) s cut o = o ≡ said v r
ShowGives v None s cut o = v.gives s cut o

-- The show's text stands for this show, and it gives this outcome.
pub record IsOutcomeOfShow (v : Verb) (cut : Cut) (o : Outcome) : Type 0 where
  pub s : PlainShow
  pub short : length cut.show ≤ most_text
  pub stands : StandsFor cut.show s
  pub gives : ShowGives v (show_refusal v.ways cut s) s cut o

-- The outcome of a command on an input that is cut so: the show's text is refused, or it stands for a show, which gives
-- it.
abbrev pub IsOutcomeOf : Verb → Cut → Outcome → Type 0
IsOutcomeOf v cut o = (option_map (said v) (text_refusal cut.show) ≡ Some o) ⊎ IsOutcomeOfShow v cut o

abbrev pub judged_text : Judges → List ℕ → Option (List ℕ)
judged_text (nothing output) input = None
judged_text the_input input = Some input
judged_text (own_text text) input = Some text

abbrev pub IsOutcomeBy : Verb → Judges → List ℕ → Outcome → Type 0
IsOutcomeBy v (nothing output) input o = o ≡ outcome 0 output
IsOutcomeBy v the_input input o = IsOutcomeOf v (cut_of input) o
IsOutcomeBy v (own_text text) input o = IsOutcomeOf v (cut_of text) o

abbrev pub IsOutcome : Verb → List ℕ → Outcome → Type 0
IsOutcome v input o = IsOutcomeBy v v.judges input o

-- ---- what status 0 promises

-- The show's text stands for a show, and what its drones are sent keeps near to it at every instant, and to what the
-- command promises of it; nothing refuses the show, and this outcome, of status 0, is what the command gives for it.
pub record IsSafe (v : Verb) (cut : Cut) (o : Outcome) : Type 0 where
  pub s : PlainShow
  pub stands : StandsFor cut.show s
  pub near : KeepsNearShow (grid_of s) (sent_of s)
  pub promised : v.promises s cut
  pub accepted : show_refusal v.ways cut s ≡ None
  pub gives : v.gives s cut o
  pub done : o.status ≡ 0

abbrev pub IsSafeBy : Verb → Judges → List ℕ → Outcome → Type 0
IsSafeBy v (nothing output) input o = o ≡ outcome 0 output
IsSafeBy v the_input input o = IsSafe v (cut_of input) o
IsSafeBy v (own_text text) input o = IsSafe v (cut_of text) o

abbrev pub IsSafeOutcome : Verb → List ℕ → Outcome → Type 0
IsSafeOutcome v input o = IsSafeBy v v.judges input o

-- ---- the laws of a command

pub record IsVerb (v : Verb) : Type 0 where
  -- a show gives one outcome
  pub one : (s : PlainShow) (cut : Cut) (o p : Outcome) → v.gives s cut o → v.gives s cut p → o ≡ p
  -- it gives some
  pub some : (s : PlainShow) (cut : Cut) → v.known s cut → (o : Outcome) × v.gives s cut o
  -- one that lacks nothing gives 0
  pub done : (s : PlainShow) (cut : Cut) (o : Outcome) → v.gives s cut o → v.succeeds s cut → o.status ≡ 0
  -- what the search shows is what is promised
  pub apart : (depth : ℕ) (s : PlainShow) (cut : Cut) → v.ways.depth ≡ Some depth → FliesApart s → v.promises s cut
  -- where a show is safe and what the command gives for it was written, the headline holds
  pub headline : (input : List ℕ) (o : Outcome) (old new : Option (List ℕ)) → IsSafeOutcome v input o →
      Appends old new o.output → v.headline input old new

-- ---- inputs that lack nothing

-- The show's text stands for a show that nothing refuses.
pub record IsSound (v : Verb) (cut : Cut) : Type 0 where
  pub s : PlainShow
  pub short : length cut.show ≤ most_text
  pub stands : StandsFor cut.show s
  pub accepted : show_refusal v.ways cut s ≡ None

abbrev pub IsComplete : Verb → Cut → Type 0
IsComplete v cut = (sound : IsSound v cut) × v.succeeds sound.s cut

-- ---- the law

-- An input gives one outcome, and no other; an input that lacks nothing gives status 0.
pub record OutcomeLaw (v : Verb) : Type 0 where
  pub one : (cut : Cut) (o p : Outcome) → IsOutcomeOf v cut o → IsOutcomeOf v cut p → o ≡ p
  pub some : (cut : Cut) → ((s : PlainShow) → StandsFor cut.show s → show_refusal v.ways cut s ≡ None → v.known s cut)
      → (o : Outcome) × IsOutcomeOf v cut o
  pub complete : (cut : Cut) (o : Outcome) → IsComplete v cut → IsOutcomeOf v cut o → o.status ≡ 0

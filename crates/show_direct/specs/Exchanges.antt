-- What bytes to come lead to: an exchange; and the exchange that begins with a show's text, and goes on with what the
-- show leads to.
use Rattle.std.specs.Prelude.{◌≡◌, ℕ, ◌+◌, ◌≤◌, Bool, true, false, List, length, Some, None, IfSome}
use Rattle.text_lines.specs.Marker.{part_of, rest_of}
use Rattle.choreo_reader.specs.Grammar.{StandsFor}
use Rattle.choreo_show.specs.Plain.{PlainShow}
use Rattle.byte_streams.specs.Held.{buffer_bytes, has_whole_marker}
use Rattle.whole_numbers.specs.Limits.{most_text}
use Rattle.link_frames.specs.Frames.{end_frame}
use Rattle.show_judge.specs.declared.ways.Ways.{Ways}
use Rattle.show_judge.specs.Headline.{FliesText}
use Rattle.show_judge.specs.Outcome.{IsComplete, IsOutcomeOf}
use Rattle.show_judge.specs.Refused.{show_refusal}
use Rattle.show_judge.specs.Runs.{Carried}
use Rattle.show_judge.specs.Shows.{cut_of}
use Rattle.show_judge.specs.Verb.{FliesApart, IsJudged, IsSafeShow, Outcome, Verb, the_input}

-- ---- an exchange

pub record Exchange : Type 1 where
  -- the outcome to which bytes lead
  pub gives : List ℕ → Outcome → Type 0
  -- what was written where a read failed after these bytes
  pub stops : List ℕ → List ℕ → Type 0
  -- where these bytes were taken, no answer to them is missing from what was sent for want of further input
  pub prompt : List ℕ → List ℕ → Type 0
  -- how little is read of bytes that lead to an outcome; these are left
  pub ends : List ℕ → List ℕ → Type 0
  -- what holds of the bytes once anything but an end frame was written
  pub begun : List ℕ → Type 0
  -- the bytes lack nothing
  pub succeeds : List ℕ → Type 0

-- what holds of an exchange: bytes lead to one outcome, to some, and to status 0 where they lack nothing
pub record IsExchange (x : Exchange) : Type 0 where
  pub one : (bytes : List ℕ) (o p : Outcome) → x.gives bytes o → x.gives bytes p → o ≡ p
  pub some : (bytes : List ℕ) → (o : Outcome) × x.gives bytes o
  pub done : (bytes : List ℕ) (o : Outcome) → x.gives bytes o → x.succeeds bytes → o.status ≡ 0

-- ---- a text, and what comes after it

-- it reads a show's text, then more, and writes frames
abbrev pub text_ways : ℕ → Ways
text_ways depth = record { reads = true; has_second = true; by_frames = true; depth = Some depth }

-- The bytes begin with the text of this show, and nothing refuses it.
pub record Accepts (depth : ℕ) (bytes : List ℕ) (s : PlainShow) : Type 0 where
  pub short : length (part_of bytes) ≤ most_text
  pub stands : StandsFor (part_of bytes) s
  pub accepted : show_refusal (text_ways depth) (cut_of bytes) s ≡ None

-- What was written where a read failed. Without a whole marker line among the bytes that were taken it is the end frame
-- of 6. Else they begin with a show that is accepted, and what it leads to stopped after what stands behind the line.
abbrev pub TextStops : ℕ → (PlainShow → Exchange) → Bool → List ℕ → List ℕ → Type 0
TextStops depth next false taken output = output ≡ end_frame 6
TextStops depth next true taken output = (s : PlainShow) × Accepts depth taken s × (next s).stops (rest_of taken) output

-- Nothing waits for much further input, for a show that is accepted.
abbrev pub TextIsPrompt : ℕ → (PlainShow → Exchange) → List ℕ → List ℕ → Type 0
TextIsPrompt depth next taken sent =
    has_whole_marker taken ≡ true → (s : PlainShow) → Accepts depth taken s → (next s).prompt (rest_of taken) sent

-- How little is read. Where the show is accepted, what it leads to says it of the bytes after the marker line; else at
-- most 4,096 of these were taken.
pub record TextEnds (depth : ℕ) (next : PlainShow → Exchange) (bytes left : List ℕ) : Type 0 where
  pub accepted : (s : PlainShow) → Accepts depth bytes s → (next s).ends (rest_of bytes) left
  pub refused : ((s : PlainShow) → Accepts depth bytes s → ⊥) → length (rest_of bytes) ≤ length left + buffer_bytes

-- The bytes begin with the text of a show that is accepted and is safe, and what it leads to began.
pub record TextBegun (depth : ℕ) (next : PlainShow → Exchange) (bytes : List ℕ) : Type 0 where
  pub s : PlainShow
  pub accepts : Accepts depth bytes s
  pub safe : IsSafeShow s
  pub begun : (next s).begun (rest_of bytes)

-- A command that reads a show's text, accepts the show at this depth, and goes on with what it leads to.
abbrev pub text_verb : ℕ → (PlainShow → Exchange) → Verb
text_verb depth next = record {
  ways = text_ways depth;
  judges = the_input;
  gives = λ s cut o. (next s).gives cut.frames o;
  known = λ s cut. Unit {0};
  promises = λ s cut. FliesApart s;
  succeeds = λ s cut. (next s).succeeds cut.frames;
  stops = λ taken output. TextStops depth next (has_whole_marker taken) taken output;
  prompt = λ r. (taken sent : List ℕ) → Carried r taken sent → TextIsPrompt depth next taken sent;
  reading = λ r status. IsJudged status →
      IfSome r.left (λ input. IfSome r.left_after (λ left. TextEnds depth next input left));
  headline = λ input old new. FliesText (part_of input);
}

-- The exchange of such a command.
abbrev pub text_exchange : ℕ → (PlainShow → Exchange) → Exchange
text_exchange depth next = record {
  gives = λ bytes o. IsOutcomeOf (text_verb depth next) (cut_of bytes) o;
  stops = λ taken output. TextStops depth next (has_whole_marker taken) taken output;
  prompt = λ taken sent. TextIsPrompt depth next taken sent;
  ends = λ bytes left. TextEnds depth next bytes left;
  begun = λ bytes. TextBegun depth next bytes;
  succeeds = λ bytes. IsComplete (text_verb depth next) (cut_of bytes);
}

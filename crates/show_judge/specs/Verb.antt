-- A command, by what it reads, gives and promises. Each command has one value of it, in a file of its own.
use Rattle.std.specs.Prelude.{◌≡◌, ◌≢◌, ℕ, true, false, List, Option, Some, None}
use Rattle.std.specs.Io.KnownBytes.{Appends}
use Rattle.choreo_show.specs.Plain.{PlainShow}
use Rattle.cue_grid.specs.Cues.{grid_of}
use Rattle.byte_streams.specs.Told.{Told, to_come}
use Rattle.refusals.specs.Lines.{read_line}
use Rattle.show_plan.specs.Flight.{KeepsNearShow}
use Rattle.show_plan.specs.Separation.{FlyApart}
use Rattle.show_plan.specs.Uploading.{Uploads}
use Rattle.show_judge.specs.declared.ways.Ways.{Ways}
use Rattle.show_judge.specs.Headline.{SaysOf}
use Rattle.show_judge.specs.Input.{IsReadBoth}
use Rattle.show_judge.specs.Shows.{Cut, sent_of}

pub record Outcome : Type 0 where
  pub status : ℕ
  pub output : List ℕ

abbrev pub outcome : ℕ → List ℕ → Outcome
outcome status output = record { status = status; output = output }

-- What a source and a sink expose before and after a run: the bytes still to come and those that were taken, where they
-- are known, and how often each failed.
pub record Run : Type 0 where
  pub left : Option (List ℕ)
  pub left_after : Option (List ℕ)
  pub reads_failed : ℕ
  pub reads_failed_after : ℕ
  pub written : Option (List ℕ)
  pub written_after : Option (List ℕ)
  pub writes_failed : ℕ
  pub writes_failed_after : ℕ

abbrev pub run_of : Option (List ℕ) → Option (List ℕ) → ℕ → ℕ → Option (List ℕ) → Option (List ℕ) → ℕ → ℕ → Run
run_of left left_after reads reads_after written written_after writes writes_after = record {
  left = left;
  left_after = left_after;
  reads_failed = reads;
  reads_failed_after = reads_after;
  written = written;
  written_after = written_after;
  writes_failed = writes;
  writes_failed_after = writes_after;
}

-- What a source and a sink expose before a run and after it, all bytes that the source has given so far among it.
pub record Span : Type 0 where
  pub told : Told
  pub tells : Told
  pub written : Option (List ℕ)
  pub written_after : Option (List ℕ)
  pub writes_failed : ℕ
  pub writes_failed_after : ℕ

-- What was read and written between two states of a source and a sink, by the members that expose it.
abbrev pub during : {S K : Type 0} → (S → Told) → (K → Option (List ℕ)) → (K → ℕ) → S → S → K → K → Span
during told written writes source source_after sink sink_after = record {
  told = told source;
  tells = told source_after;
  written = written sink;
  written_after = written sink_after;
  writes_failed = writes sink;
  writes_failed_after = writes sink_after;
}

-- the run, where `all` is every byte that the source ever gives
abbrev pub run_on : Span → List ℕ → Run
run_on m all =
    run_of (to_come all m.told) (to_come all m.tells) m.told.faults m.tells.faults m.written m.written_after
    m.writes_failed m.writes_failed_after

-- the run of a source that exposes the bytes still to come
abbrev pub run_left : Span → Run
run_left m =
    run_of m.told.left m.tells.left m.told.faults m.tells.faults m.written m.written_after m.writes_failed
    m.writes_failed_after

-- the program wasn't out of memory, nor did a read or a write fail
abbrev pub IsJudged : ℕ → Type 0
IsJudged status = (status ≢ 1) × (status ≢ 6) × (status ≢ 7)

-- what a command judges: nothing, and it always writes these bytes; its input; or a text of its own
pub data Judges : Type 0 where
  nothing : List ℕ → Judges
  the_input : Judges
  own_text : List ℕ → Judges

pub record Verb : Type 1 where
  pub ways : Ways
  pub judges : Judges
  -- what it gives for a show that nothing refuses
  pub gives : PlainShow → Cut → Outcome → Type 0
  -- what is known of such a show, from which it gives an outcome
  pub known : PlainShow → Cut → Type 0
  -- what status 0 promises of such a show
  pub promises : PlainShow → Cut → Type 0
  -- what it asks for besides such a show, to give 0
  pub succeeds : PlainShow → Cut → Type 0
  -- what it has written where a read failed after these bytes
  pub stops : List ℕ → List ℕ → Type 0
  -- what holds of a run that the sink ended
  pub prompt : Run → Type 0
  -- how much it reads of an input that it judges, beyond what each command does
  pub reading : Run → ℕ → Type 0
  -- what status 0 says of an input, and of what was written before and after, in the fewest words
  pub headline : List ℕ → Option (List ℕ) → Option (List ℕ) → Type 0

-- any two drones keep apart at every instant with what they are sent, and each upload of that goes right and is stored
pub record FliesApart (s : PlainShow) : Type 0 where
  pub apart : FlyApart s.settings (sent_of s)
  pub uploads : Uploads (grid_of s) s.settings (sent_of s)

-- what the drones of the show are sent keeps near to it and keeps any two drones apart, at every instant; each upload
-- of that goes right and is stored
pub record IsSafeShow (s : PlainShow) : Type 0 where
  pub near : KeepsNearShow (grid_of s) (sent_of s)
  pub apart : FlyApart s.settings (sent_of s)
  pub uploads : Uploads (grid_of s) s.settings (sent_of s)

-- ---- kinds of commands

-- one that reads a show's text
abbrev pub show_ways : ℕ → Ways
show_ways depth = record { reads = true; has_second = false; by_frames = false; depth = Some depth }

-- A command that reads a show and writes one text of it, always.
abbrev pub of_show : ℕ → (PlainShow → List ℕ) → Verb
of_show depth text = record {
  ways = show_ways depth;
  judges = the_input;
  gives = λ s cut o. o ≡ outcome 0 (text s);
  known = λ s cut. Unit {0};
  promises = λ s cut. FliesApart s;
  succeeds = λ s cut. Unit {0};
  stops = λ taken output. output ≡ read_line;
  prompt = λ r. Unit {0};
  reading = λ r status. Unit {0};
  headline = λ input old new. SaysOf text input old new;
}

-- A command that reads a show, searches it to this depth or not at all, and writes lines at its end.
abbrev pub of_any : Option ℕ → (PlainShow → Cut → Outcome → Type 0) → (PlainShow → Cut → Type 0)
    → (PlainShow → Cut → Type 0) → (PlainShow → Cut → Type 0) →
    (List ℕ → Option (List ℕ) → Option (List ℕ) → Type 0) → Verb
of_any depth gives known promises succeeds headline = record {
  ways = record { reads = true; has_second = false; by_frames = false; depth = depth };
  judges = the_input;
  gives = gives;
  known = known;
  promises = promises;
  succeeds = succeeds;
  stops = λ taken output. output ≡ read_line;
  prompt = λ r. Unit {0};
  reading = λ r status. Unit {0};
  headline = headline;
}

-- The command is such a one.
pub record IsAny (v : Verb) : Type 0 where
  pub reads : v.ways.reads ≡ true
  pub alone : v.ways.has_second ≡ false
  pub lines : v.ways.by_frames ≡ false
  pub judges : v.judges ≡ the_input
  pub stops : (taken : List ℕ) → v.stops taken read_line
  pub prompt : (r : Run) → v.prompt r
  pub reading : (r : Run) (status : ℕ) → v.reading r status

-- one that reads a show's text and a second one
abbrev pub two_ways : Option ℕ → Ways
two_ways depth = record { reads = true; has_second = true; by_frames = false; depth = depth }

-- A command that reads a show's text and a second one of at most this many bytes, and writes lines at its end.
abbrev pub of_two : Option ℕ → ℕ → (PlainShow → Cut → Outcome → Type 0) → (PlainShow → Cut → Type 0)
    → (PlainShow → Cut → Type 0) → (PlainShow → Cut → Type 0) →
    (List ℕ → Option (List ℕ) → Option (List ℕ) → Type 0) → Verb
of_two depth limit gives known promises succeeds headline = record {
  ways = two_ways depth;
  judges = the_input;
  gives = gives;
  known = known;
  promises = promises;
  succeeds = succeeds;
  stops = λ taken output. output ≡ read_line;
  prompt = λ r. Unit {0};
  reading = λ r status. IsJudged status → IsReadBoth limit r.left r.left_after;
  headline = headline;
}

-- The command is such a one, at this depth or at none.
pub record IsTwo (depth : Option ℕ) (limit : ℕ) (v : Verb) : Type 0 where
  pub ways : v.ways ≡ two_ways depth
  pub judges : v.judges ≡ the_input
  pub stops : (taken : List ℕ) → v.stops taken read_line
  pub prompt : (r : Run) → v.prompt r
  pub reading : (r : Run) (status : ℕ) → (IsJudged status → IsReadBoth limit r.left r.left_after) → v.reading r status

-- ---- commands that read nothing

-- one that reads nothing, and searches to this depth or not at all
abbrev pub unread_ways : Option ℕ → Ways
unread_ways depth = record { reads = false; has_second = false; by_frames = false; depth = depth }

-- A command that judges nothing, and always writes these bytes.
abbrev pub of_nothing : List ℕ → Verb
of_nothing bytes = record {
  ways = unread_ways None;
  judges = nothing bytes;
  gives = λ s cut o. o ≡ outcome 0 bytes;
  known = λ s cut. Unit {0};
  promises = λ s cut. Unit {0};
  succeeds = λ s cut. Unit {0};
  stops = λ taken output. ⊥;
  prompt = λ r. Unit {0};
  reading = λ r status. Unit {0};
  headline = λ input old new. Appends old new bytes;
}

-- A command that judges a show's text of its own, at this depth, and writes one text of it.
abbrev pub of_own : ℕ → List ℕ → (PlainShow → List ℕ) → Verb
of_own depth own text = record {
  ways = unread_ways (Some depth);
  judges = own_text own;
  gives = λ s cut o. o ≡ outcome 0 (text s);
  known = λ s cut. Unit {0};
  promises = λ s cut. FliesApart s;
  succeeds = λ s cut. Unit {0};
  stops = λ taken output. ⊥;
  prompt = λ r. Unit {0};
  reading = λ r status. Unit {0};
  headline = λ input old new. SaysOf text own old new;
}

-- What the definitions of a run say of small ones.
use Rattle.std.specs.Prelude.{◌≡◌, ℕ, Bool, true, List, [], ◌∷◌, ◌++◌, codes, pos, Option, Some, None}
use Rattle.traj_codec.specs.declared.traj.Traj.{Traj}
use Rattle.choreo_show.specs.Plain.{PlainShow}
use Rattle.byte_streams.specs.Causes.{Rose}
use Rattle.byte_streams.specs.Parts.{TakesFewAfter}
use Rattle.byte_streams.specs.Taken.{AppendsFront, TakesAtMost, TakesFront}
use Rattle.byte_streams.specs.Told.{Gives, IsInput, Told}
use Rattle.show_judge.specs.Headline.{FliesText, SaysOf, UploadsText}
use Rattle.show_judge.specs.Input.{TakesOneText}
use Rattle.show_judge.specs.Outcome.{IsComplete, IsOutcome, IsSafeOutcome, IsSound, IsVerb, OutcomeLaw}
use Rattle.show_judge.specs.Runs.{Behaves, Completes, Does, Runs, StopsAtMarker, TakesLittle}
use Rattle.show_judge.specs.Shows.{Cut, sent_of}
use Rattle.show_judge.specs.Verb.{FliesApart, Outcome, Run, Span, Verb, of_nothing, of_show, outcome, run_of}
use Rattle.show_studies.specs.Explained.{ExplainGives}
use Rattle.show_studies.specs.Speeds.{KeepsBounds, KeepsSpeeds}
use Rattle.show_direct.specs.Direct.{HasBegun as FlightBegun}
use Rattle.show_uploads.specs.Upload.{HasBegun}
use Rattle.definition_tests.specs.Flights.{flight}
use Rattle.definition_tests.specs.Headlines.{stay, stay_text}
use Rattle.definition_tests.specs.Stored.{no_time, settings}
use Rattle.definition_tests.specs.Wholes.{no_text}

-- ---- what is taken and given

-- a source that gave these bytes and failed so often, whose last read met the end, and which exposes nothing to come
abbrev pub ended : List ℕ → ℕ → Told
ended bytes faults = record { given = bytes; ended = true; left = None; faults = faults }

-- A count of faults rose where it is greater, or at its last value, and not where it stayed. What was taken is the
-- front of what there was, and no more than so many bytes; what was written is the front of an output. A source gives
-- what comes after what it gave, and its count doesn't fall. After the end its input is what it gave and nothing more.
pub record TakenRows : Type 0 where
  pub rose : Rose 0 1
  pub stayed : Rose 1 1 → ⊥
  pub fell : Rose 2 1 → ⊥
  pub last : Rose 18446744073709551615 18446744073709551615
  pub took : TakesFront (Some (1 ∷ 2 ∷ [])) (Some (2 ∷ []))
  pub took_another : TakesFront (Some (1 ∷ [])) (Some (2 ∷ [])) → ⊥
  pub took_two : TakesAtMost 2 (Some (1 ∷ 2 ∷ [])) (Some [])
  pub took_more : TakesAtMost 1 (Some (1 ∷ 2 ∷ [])) (Some []) → ⊥
  pub wrote_front : AppendsFront (Some (5 ∷ [])) (Some (5 ∷ 7 ∷ [])) (7 ∷ 8 ∷ [])
  pub wrote_another : AppendsFront (Some []) (Some (8 ∷ [])) (7 ∷ 8 ∷ []) → ⊥
  pub gave : Gives (ended (1 ∷ []) 0) (ended (1 ∷ 2 ∷ []) 1)
  pub gave_another : Gives (ended (1 ∷ []) 0) (ended (2 ∷ []) 0) → ⊥
  pub fewer : Gives (ended [] 1) (ended [] 0) → ⊥
  pub all : IsInput (ended (1 ∷ []) 0) (1 ∷ [])
  pub all_and_more : IsInput (ended (1 ∷ []) 0) (1 ∷ 2 ∷ []) → ⊥
  pub others : IsInput (ended (1 ∷ []) 0) (2 ∷ []) → ⊥

-- An upload has begun with the first byte of a packet, and not with that of an end frame, nor before. A flight has with
-- any byte but that, and but that of a cause.
pub record BegunRows : Type 0 where
  pub packet : HasBegun (Some (7 ∷ [])) (Some (7 ∷ 0x50 ∷ 1 ∷ []))
  pub upload_ends : HasBegun (Some []) (Some (0x45 ∷ 9 ∷ [])) → ⊥
  pub nothing : HasBegun (Some []) (Some []) → ⊥
  pub order : FlightBegun (Some (7 ∷ [])) (Some (7 ∷ 1 ∷ 0 ∷ []))
  pub flight_ends : FlightBegun (Some []) (Some (0x45 ∷ 9 ∷ [])) → ⊥
  pub no_flight : FlightBegun (Some []) (Some (5 ∷ 1 ∷ [])) → ⊥
  pub nobody : FlightBegun (Some []) (Some []) → ⊥

-- ---- commands and runs

-- a command that judges nothing and writes a byte, and one that writes a byte of each show that it accepts
abbrev pub says : Verb
says = of_nothing (7 ∷ [])

abbrev pub shown : Verb
shown = of_show 6 (λ s. 7 ∷ [])

-- one that gives each outcome of a show
abbrev pub loose : Verb
loose = record shown { gives = λ s cut o. Unit {0} }

-- a run that took the whole of an input and wrote an output, without a fault
abbrev pub quiet : List ℕ → List ℕ → Run
quiet input output = run_of (Some input) (Some []) 0 0 (Some []) (Some output) 0 0

-- one whose source and sink expose their faults alone
abbrev pub blind : ℕ → ℕ → ℕ → ℕ → Run
blind reads reads_after writes writes_after = run_of None None reads reads_after None None writes writes_after

-- the status and the output of a command that judges nothing; a text that is that of no show has no safe outcome
pub record OutcomeRows : Type 0 where
  pub own : IsOutcome says [] (outcome 0 (7 ∷ []))
  pub other_status : IsOutcome says [] (outcome 3 (7 ∷ [])) → ⊥
  pub other_output : IsOutcome says [] (outcome 0 []) → ⊥
  pub safe : IsSafeOutcome says [] (outcome 0 (7 ∷ []))
  pub unsafe : IsSafeOutcome says [] (outcome 0 []) → ⊥
  pub no_safe_show : (o : Outcome) → IsSafeOutcome shown no_text o → ⊥

-- A command that gives two outcomes of a show, or none where it has to, or another status than 0 of what lacks nothing,
-- keeps no rules; nor does one whose promise doesn't hold of drones that keep apart, or whose shortest statement
-- doesn't hold of a run that is safe. No input has two outcomes, and one that lacks nothing gives 0.
pub record VerbRows : Type 0 where
  pub rules : IsVerb says
  pub two_outcomes : IsVerb loose → ⊥
  pub no_outcome : IsVerb (record shown { gives = λ s cut o. ⊥ }) → ⊥
  pub not_done : IsVerb (record shown { gives = λ s cut o. o ≡ outcome 3 [] }) → ⊥
  pub not_promised : FliesApart stay → IsVerb (record shown { promises = λ s cut. ⊥ }) → ⊥
  pub not_said : IsVerb (record says { headline = λ input old new. ⊥ }) → ⊥
  pub two_of_an_input : (cut : Cut) → OutcomeLaw loose → IsSound loose cut → ⊥
  pub not_complete : (cut : Cut) → OutcomeLaw loose → IsComplete loose cut → ⊥

-- What a run ends with is that of its input. With 0 its output is there and its show is one; with 1 nothing was written;
-- with 6 a read failed, and the line of it was written; with 7 a write failed, and what was written is the front of an
-- output. A command that reads nothing takes nothing; one that reads its input to the end leaves nothing. 2 and 17 are
-- no command's. Bytes are taken from the front, and counts don't fall.
pub record RunsRows : Type 0 where
  pub lines : Runs says (quiet [] (7 ∷ [])) 0
  pub unwritten : Runs says (quiet [] []) 0 → ⊥
  pub other_status : Runs says (quiet [] (7 ∷ [])) 3 → ⊥
  pub no_show : Runs shown (quiet no_text (7 ∷ [])) 0 → ⊥
  pub left : Runs shown (run_of (Some stay_text) (Some (10 ∷ [])) 0 0 None None 0 0) 0 → ⊥
  pub wrote : Runs shown (run_of None None 0 0 (Some []) (Some (7 ∷ [])) 0 0) 1 → ⊥
  pub read_well : Runs shown (blind 0 0 0 0) 6 → ⊥
  pub unstopped : Runs shown (run_of (Some []) (Some []) 0 1 (Some []) (Some []) 0 0) 6 → ⊥
  pub wrote_well : Runs shown (blind 0 0 0 0) 7 → ⊥
  pub cut : Runs says (run_of (Some []) (Some []) 0 0 (Some []) (Some (8 ∷ [])) 0 1) 7 → ⊥
  pub late : Runs (record shown { prompt = λ r. ⊥ }) (blind 0 0 0 1) 7 → ⊥
  pub read : Runs says (run_of (Some (1 ∷ [])) (Some []) 0 0 (Some []) (Some (7 ∷ [])) 0 0) 0 → ⊥
  pub usage : Runs shown (blind 0 0 0 0) 2 → ⊥
  pub arguments : Runs shown (blind 0 0 0 0) 17 → ⊥
  pub above : Runs shown (blind 0 0 0 0) 21 → ⊥
  pub other_bytes : Runs shown (run_of (Some (1 ∷ [])) (Some (2 ∷ [])) 0 0 None None 0 0) 1 → ⊥
  pub fewer_reads : Runs shown (blind 1 0 0 0) 3 → ⊥
  pub fewer_writes : Runs shown (blind 0 0 1 0) 3 → ⊥

-- a span in which a source that had met its end gave nothing, and a sink took these bytes
abbrev pub span : List ℕ → Span
span output = record {
  told = ended [] 0;
  tells = ended [] 0;
  written = Some [];
  written_after = Some output;
  writes_failed = 0;
  writes_failed_after = 0;
}

-- Of a run as a whole: it is one of those, reads as little as it should, ends with 0 where its input lacks nothing, and
-- keeps what its command says besides.
pub record BehavesRows : Type 0 where
  pub runs : Behaves says (quiet [] []) 0 → ⊥
  pub few : Behaves shown (run_of (Some (1 ∷ [])) (Some (1 ∷ [])) 0 0 None None 0 0) 1
      → TakesOneText (Some (1 ∷ [])) (Some (1 ∷ []))
  pub takes_little : (left after : Option (List ℕ)) → TakesLittle shown (run_of left after 0 0 None None 0 0) →
      TakesAtMost 1052676 left after
  pub marker : (left after : Option (List ℕ)) → StopsAtMarker shown (run_of left after 0 0 None None 0 0) 0 →
      TakesFewAfter left after
  pub reading : Behaves (record says { reading = λ r status. ⊥ }) (quiet [] (7 ∷ [])) 0 → ⊥
  pub complete : Completes says (quiet [] (7 ∷ [])) 3 → ⊥
  pub completes : Behaves says (quiet [] (7 ∷ [])) 3 → ⊥
  pub headline : Behaves (record says { headline = λ input old new. ⊥ }) (quiet [] (7 ∷ [])) 0 → ⊥
  pub does : Does says (span []) 0 → ⊥

-- ---- what status 0 says

-- A text that is no show's is nowhere accepted. What a command says has to be written, and of drones that keep apart.
-- Of trajectories that no bytes spell no upload goes right. A speed of 100 mm/s isn't within a bound of 99, and `speed`
-- promises that of no show of such a drone. `explain` ends with 0.
pub record SaysRows : Type 0 where
  pub no_show : (old new : Option (List ℕ)) → SaysOf (λ s. 7 ∷ []) no_text old new → ⊥
  pub unsaid : (text : List ℕ) → SaysOf (λ s. 7 ∷ []) text (Some []) (Some []) → ⊥
  pub touching : (text : List ℕ) (old new : Option (List ℕ)) (is : SaysOf (λ s. 7 ∷ []) text old new) →
      is.s.settings ≡ settings →
      sent_of is.s ≡ flight (pos 50) (pos 50) ∷ flight (pos 51) (pos 51) ∷ [] → ⊥
  pub text_touches : (text : List ℕ) (is : FliesText text) → is.s.settings ≡ settings →
      sent_of is.s ≡ flight (pos 50) (pos 50) ∷ flight (pos 51) (pos 51) ∷ [] → ⊥
  pub no_upload : UploadsText no_text → ⊥
  pub unspelled : (text : List ℕ) (is : UploadsText text) → is.flies.s.settings ≡ settings →
      sent_of is.flies.s ≡ no_time ∷ [] → ⊥
  pub fast : KeepsBounds (Some 99999) 0 (flight (pos 0) (pos 1)) → ⊥
  pub no_speeds : (old new : Option (List ℕ)) → KeepsSpeeds None 0 no_text old new → ⊥
  pub too_fast : (input : List ℕ) (old new : Option (List ℕ)) (is : KeepsSpeeds (Some 99999) 0 input old new) →
      sent_of is.s ≡ flight (pos 0) (pos 1) ∷ [] → ⊥
  pub explained : (all : Bool) (s : PlainShow) (text : List ℕ) → ExplainGives 0 0 all s (outcome 5 text) → ⊥

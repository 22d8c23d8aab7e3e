-- What a run of `upload` is, from what it read and wrote.
use Rattle.show_uploads.proofs.Prelude.{common_steps, ◌≡◌, ◌≢◌, ◌⊎◌, inl, inr, ℕ, ◌+◌, ◌≤◌, Bool, true, false, List, [], ◌∷◌, ◌++◌, length, Contains, append_assoc, append-nil, length-append, Option, Some, None, IfSome, refl, sym, ap, subst, ◌∙◌, arith, append_cancel_right, All-cons, All-contains, All-nil, part_of, rest_of, PlainShow, has_whole_marker, AppendsFront, TakesFront, end_frame, frames_bytes, IsPrompt, StaysPrompt, StopsAtEnd, UploadFails, UploadGives, upload_of, Link, Refusal, Fitted, IsFitted, session_for, Settings, Traj, IsAccepted, IsRefusedBy, Wrote, IsOutcomeOf, IsSafe, OutcomeLaw, IsOfInput, IsJudged, Outcome, Run, outcome, run_of, most_text, Cut, cut_of, IsLinkOf, ReadyGives, link_in, session_of, UploadStops, UploadStopsReading, UploadsPromptly, upload_verb, upload_ways, refused_among, refused_judged, runs_failed, some_each, some_map, statuses, RunGives, Appends, Consumes, MarkerLaw, TakesFewAfter, TakesPart, GoesOnReady, TakesMarked, Held, IsTrue}
use Rattle.choreo_reader.specs.Grammar.{StandsFor}
use Rattle.choreo_reader.specs.Laws.{ShowLaw}
use Rattle.byte_streams.specs.Causes.{Rose}
use Rattle.byte_streams.specs.declared.parts.Part.{Part}
use Rattle.byte_streams.proofs.MarkerLaws.{whole_marker-front}
use Rattle.refusals.specs.Refusals.{status_of}
use Rattle.show_uploads.specs.declared.uploading.Ready.{Ready}
use Rattle.show_uploads.specs.declared.uploading.Ready.TheVariants as ready
use Rattle.show_judge.specs.declared.judging.Accepted.{Accepted}
use Rattle.upload_core.specs.HostState.{HostState}
use Rattle.show_judge.specs.declared.input.Text.TheVariants.{Whole}
use Rattle.show_judge.specs.Input.{IsShowText}
use Rattle.show_judge.specs.Runs.{IsOutput, IsStopped, Runs}
use Rattle.show_judge.proofs.AnswerLemmas.{refused_outcome, refused_some}

-- ---- what was read

-- what a text was judged to be, the text of the input is
pub ready_of_text : (depth : ℕ) (start readback : Bool) (old new : Option (List ℕ)) (part : Part) (ready : Ready) → TakesPart old new part.bytes.items part.marker → length part.bytes.items ≤ most_text →
    ((cut : Cut) → IsShowText (Whole part) cut → ReadyGives (upload_ways depth) start readback cut ready) → IfSome old (λ all. ReadyGives (upload_ways depth) start readback (cut_of all) ready)
ready_of_text depth start readback None new part ready takes short gives = tt
ready_of_text depth start readback (Some all) new part ready takes short gives =
    gives (cut_of all) (takes.part, takes.marker, omega (arith, short, ap (λ (xs : List ℕ). length xs) takes.part))

-- the bytes after the marker line are still to come
pub goes_on_ready : (ready : Ready) (held : Held) (old new : Option (List ℕ)) → held.sound ≡ true → IfSome old (λ all. new ≡ Some (rest_of all)) → (held.ended ≡ false → TakesMarked old new) → GoesOnReady ready held old new
goes_on_ready (ready.Host host) held old new sound rest fed = (sound, rest, fed)
goes_on_ready (ready.Refused r) held old new sound rest fed = tt

-- where the end wasn't met, a marker line ended the part
pub fed_before : (marked met : Bool) (P : Type 0) → (marked ≡ false → IsTrue met) → (marked ≡ true → IsTrue met ⊎ P) → met ≡ false → P
fed_before false met P to_end fed off = absurd (let e : false ≡ true = sym off ∙ to_end refl in cc)
fed_before true met P to_end fed off = elim (fed refl) [
  | inl is ↦ absurd (let e : false ≡ true = sym off ∙ is in cc)
  | inr p ↦ p
]

-- what fits of a show is uploaded as the show is
session_is : (f : Fitted) (s : PlainShow) (readback start : Bool) → IsFitted f s → session_for f.settings f.sent readback start ≡ session_of s readback start
session_is f s readback start is =
    ap (λ (e : Settings). session_for e f.sent readback start) is.settings ∙ ap (λ (ts : List Traj). session_for s.settings ts readback start) is.sent

-- the host of what is accepted of a text
pub ready_made : (depth : ℕ) (start readback : Bool) (cut : Cut) (a : Accepted) (host : HostState) → IsAccepted (upload_ways depth) depth cut a →
    host.session ≡ session_for a.fitted.settings a.fitted.sent readback start → ReadyGives (upload_ways depth) start readback cut (ready.Host host)
ready_made depth start readback cut a host is made = grind (arith, common_steps, session_is)

-- ---- a run, from its fields

-- What an upload came to that wasn't out of memory.
pub record UploadCame (depth : ℕ) (start readback : Bool) (r : Run) (status : ℕ) : Type 0 where
  pub not_one : status ≢ 1
  pub outcome : IsJudged status → IfSome r.left (λ input. (o : Outcome) × IsOutcomeOf (upload_verb depth start readback) (cut_of input) o × (status ≡ o.status) × Appends r.written r.written_after o.output)
  pub safe : status ≡ 0 → IfSome r.left (λ input. (o : Outcome) × IsSafe (upload_verb depth start readback) (cut_of input) o × Appends r.written r.written_after o.output)
  pub six : status ≡ 6 → Rose r.reads_failed r.reads_failed_after
  pub stopped : status ≡ 6 → IfSome r.left (λ _. (output : List ℕ) × IsStopped (upload_verb depth start readback) r output × Appends r.written r.written_after output)
  pub seven : status ≡ 7 → Rose r.writes_failed r.writes_failed_after × ((output : List ℕ) × IsOutput (upload_verb depth start readback) r output × AppendsFront r.written r.written_after output)
  pub prompt : status ≡ 7 → UploadsPromptly (upload_ways depth) start readback r
  pub known : Contains statuses status
  pub taken : TakesFront r.left r.left_after
  pub reads_later : r.reads_failed ≤ r.reads_failed_after
  pub writes_later : r.writes_failed ≤ r.writes_failed_after

pub runs_upload : (depth : ℕ) (start readback : Bool) (r : Run) (status : ℕ) → OutcomeLaw (upload_verb depth start readback) → UploadCame depth start readback r status → Runs (upload_verb depth start readback) r status
runs_upload depth start readback r status law came = record {
  outcome = came.outcome;
  exact = λ quiet. some_map r.left _ _ (λ input come p is.
      let same : come.0 ≡ p = law.one (cut_of input) come.0 p come.1 is in
      inl (come.2 ∙ ap (λ (q : Outcome). q.status) same, subst (λ (q : Outcome). Appends r.written r.written_after q.output) same come.3))
      (came.outcome (came.not_one, (λ six. quiet.0 (came.six six)), (λ seven. quiet.1 (came.seven seven).0)));
  safe = came.safe;
  whole = λ zero all. absurd (cc);
  one = λ one. absurd (came.not_one one);
  always = λ output is. absurd (cc);
  six = λ six. (came.six six, refl);
  stopped = came.stopped;
  seven = came.seven;
  prompt = came.prompt;
  unread = λ none. absurd (cc);
  known = came.known;
  taken = came.taken;
  reads_later = came.reads_later;
  writes_later = came.writes_later;
}

-- ---- a refusal

-- where few bytes were taken after the marker line, no answer waits for more
prompt_few : (depth : ℕ) (start readback : Bool) (r : Run) → MarkerLaw → TakesFewAfter r.left r.left_after → UploadsPromptly (upload_ways depth) start readback r
prompt_few depth start readback r marker few taken sent carried whole s stands accepted frames rest formed cut long =
    let rest_few : length (rest_of (taken ++ carried.later)) ≤ length carried.later + 4096 = rw (carried.left, carried.left_after) at few in
    absurd (omega (arith, long, rest_few, ap length (marker taken carried.later whole).1, length-append (rest_of taken) carried.later, ap length cut, length-append (frames_bytes frames) rest))

-- where few bytes were taken after the marker line, few were after the last frame
stops_few : (depth : ℕ) (start readback : Bool) (input : List ℕ) (after : Option (List ℕ)) → TakesFewAfter (Some input) after → UploadStopsReading (upload_ways depth) start readback input after
stops_few depth start readback input after few = grind (arith, common_steps, length-append)

pub stops_refused : (depth : ℕ) (start readback : Bool) (left after : Option (List ℕ)) → TakesFewAfter left after →
    IfSome left (λ input. UploadStopsReading (upload_ways depth) start readback input after)
stops_refused depth start readback None after few = tt
stops_refused depth start readback (Some input) after few = stops_few depth start readback input after few

-- where a read failed nothing was judged
pub stops_failed : (old new : Option (List ℕ)) (before after status : ℕ) (P : Type 0) → Wrote 6 (end_frame 6) old new before after status → IsJudged status → P
stops_failed old new before after status P wrote judged = grind (arith, common_steps)

-- the end frame alone was written, with the status of a refusal
pub upload_refused : (depth : ℕ) (start readback : Bool) (r : Run) (refusal : Refusal) (status : ℕ) → OutcomeLaw (upload_verb depth start readback) → MarkerLaw → IfSome r.left (λ all. IsRefusedBy (upload_ways depth) (cut_of all) refusal) →
    IsOfInput refusal → TakesFewAfter r.left r.left_after → TakesFront r.left r.left_after → r.reads_failed ≤ r.reads_failed_after →
    Wrote (status_of refusal) (end_frame (status_of refusal)) r.written r.written_after r.writes_failed r.writes_failed_after status → Runs (upload_verb depth start readback) r status
upload_refused depth start readback r refusal status law marker is of_input few taken reads_later wrote =
    let judged = refused_judged refusal of_input in
    let come : IfSome r.left (λ input. IsOutcomeOf (upload_verb depth start readback) (cut_of input) (outcome (status_of refusal) (end_frame (status_of refusal)))) =
    some_map r.left _ _ (λ input by. refused_outcome (upload_verb depth start readback) (cut_of input) refusal by) is in
    elim wrote [
      | inl (e, appends, later) ↦ runs_upload depth start readback r status law (record {
        not_one = λ one. judged.0 (sym e ∙ one);
        outcome = λ _. some_map r.left _ _ (λ input o_is. (outcome (status_of refusal) (end_frame (status_of refusal)), o_is, e, appends)) come;
        safe = λ zero. absurd (refused_some refusal (sym e ∙ zero));
        six = λ six. absurd (judged.1 (sym e ∙ six));
        stopped = λ six. absurd (judged.1 (sym e ∙ six));
        seven = λ seven. absurd (judged.2 (sym e ∙ seven));
        prompt = λ seven. absurd (judged.2 (sym e ∙ seven));
        known = rw e (refused_among refusal of_input);
        taken = taken;
        reads_later = reads_later;
        writes_later = later;
      })
      | inr (e, rose, front, later) ↦
          runs_failed (upload_verb depth start readback) r status (end_frame (status_of refusal)) e rose
          (inl (some_map r.left _ _ (λ input o_is. (outcome (status_of refusal) (end_frame (status_of refusal)), o_is, refl)) come)) front (prompt_few depth start readback r marker few)
          (λ none. absurd (cc)) taken reads_later later
    ]

-- ---- a read failed before the marker line

stopped_early : (depth : ℕ) (start readback : Bool) (left left_after : Option (List ℕ)) (taken : List ℕ) → Consumes left left_after taken → has_whole_marker taken ≡ false →
    IfSome left (λ input. (taken later : List ℕ) × (input ≡ taken ++ later) × (left_after ≡ Some later) × UploadStops (upload_ways depth) start readback (has_whole_marker taken) taken (end_frame 6))
stopped_early depth start readback None left_after taken consumes none = tt
stopped_early depth start readback (Some input) None taken consumes none = absurd consumes
stopped_early depth start readback (Some input) (Some later) taken consumes none = (taken, later, consumes, refl, rw none refl)

prompt_early : (depth : ℕ) (start readback : Bool) (r : Run) (taken : List ℕ) → Consumes r.left r.left_after taken → has_whole_marker taken ≡ false → UploadsPromptly (upload_ways depth) start readback r
prompt_early depth start readback r taken consumes none others sent carried whole s stands accepted =
    grind (arith, common_steps, append_cancel_right)

-- the end frame alone was written, with the status of a failed read
pub upload_failed : (depth : ℕ) (start readback : Bool) (r : Run) (taken : List ℕ) (status : ℕ) → OutcomeLaw (upload_verb depth start readback) → Rose r.reads_failed r.reads_failed_after → Consumes r.left r.left_after taken → has_whole_marker taken ≡ false →
    r.reads_failed ≤ r.reads_failed_after → Wrote 6 (end_frame 6) r.written r.written_after r.writes_failed r.writes_failed_after status → Runs (upload_verb depth start readback) r status
upload_failed depth start readback r taken status law rose consumes none reads_later wrote = elim wrote [
  | inl (e, appends, later) ↦ runs_upload depth start readback r status law (record {
    not_one = λ one. omega (arith, one, e);
    outcome = λ j. absurd (j.1 e);
    safe = λ zero. absurd (omega (arith, zero, e));
    six = λ _. rose;
    stopped = λ _. some_each r.left _ (λ _. (end_frame 6, stopped_early depth start readback r.left r.left_after taken consumes none, appends));
    seven = λ seven. absurd (omega (arith, seven, e));
    prompt = λ seven. absurd (omega (arith, seven, e));
    known = (5, omega arith, rw e refl);
    taken = (taken, consumes);
    reads_later = reads_later;
    writes_later = later;
  })
  | inr (e, failed, front, later) ↦
      runs_failed (upload_verb depth start readback) r status (end_frame 6) e failed (inr (rose, stopped_early depth start readback r.left r.left_after taken consumes none)) front
      (prompt_early depth start readback r taken consumes none) (λ none. absurd (cc)) (taken, consumes) reads_later later
]

-- ---- frames were carried

-- What an upload says of the bytes to come, from the marker line on.
pub record Uploaded (link : Link) (mid after : Option (List ℕ)) (ended : Bool) (reads reads_after : ℕ) (old new : Option (List ℕ)) (writes writes_after status : ℕ) : Type 0 where
  pub gives : RunGives (upload_of link) mid after ended reads reads_after writes writes_after old new status
  pub grown : (sent : List ℕ) × Appends old new sent
  pub known : Contains (0 ∷ 6 ∷ 7 ∷ 8 ∷ 9 ∷ 10 ∷ 11 ∷ 13 ∷ 14 ∷ []) status
  pub reads_later : reads ≤ reads_after
  pub writes_later : writes ≤ writes_after

-- The show's text was read, and this is its upload through a link; the bytes after its marker line were still to come.
pub record WasReady (depth : ℕ) (start readback : Bool) (left mid : Option (List ℕ)) (ended : Bool) (link : Link) : Type 0 where
  pub is : IfSome left (λ all. IsLinkOf (upload_ways depth) start readback (cut_of all) link)
  pub rest : IfSome left (λ all. mid ≡ Some (rest_of all))
  pub fed : ended ≡ false → TakesMarked left mid

-- what is known of the input and of the bytes after its marker line
after_marker : (left mid : Option (List ℕ)) (A B C : List ℕ → Type 0) → IfSome left A → IfSome left (λ all. mid ≡ Some (rest_of all)) → IfSome mid B →
    ((all : List ℕ) → A all → B (rest_of all) → C all) → IfSome left C
after_marker None mid A B C a e b by = tt
after_marker (Some all) mid A B C a e b by = by all a (rw e at b)

-- the statuses of an upload are among those of the program
abbrev IsAmong : ℕ → Type 0
IsAmong status = Contains statuses status × (status ≢ 1)

among_of : (status : ℕ) → Contains (0 ∷ 6 ∷ 7 ∷ 8 ∷ 9 ∷ 10 ∷ 11 ∷ 13 ∷ 14 ∷ []) status → IsAmong status
among_of status known = All-contains IsAmong (0 ∷ 6 ∷ 7 ∷ 8 ∷ 9 ∷ 10 ∷ 11 ∷ 13 ∷ 14 ∷ []) status
    (All-cons IsAmong 0 (6 ∷ 7 ∷ 8 ∷ 9 ∷ 10 ∷ 11 ∷ 13 ∷ 14 ∷ []) ((0, omega arith, refl), λ e. omega (arith, e))
    (All-cons IsAmong 6 (7 ∷ 8 ∷ 9 ∷ 10 ∷ 11 ∷ 13 ∷ 14 ∷ []) ((5, omega arith, refl), λ e. omega (arith, e))
    (All-cons IsAmong 7 (8 ∷ 9 ∷ 10 ∷ 11 ∷ 13 ∷ 14 ∷ []) ((6, omega arith, refl), λ e. omega (arith, e))
    (All-cons IsAmong 8 (9 ∷ 10 ∷ 11 ∷ 13 ∷ 14 ∷ []) ((7, omega arith, refl), λ e. omega (arith, e))
    (All-cons IsAmong 9 (10 ∷ 11 ∷ 13 ∷ 14 ∷ []) ((8, omega arith, refl), λ e. omega (arith, e))
    (All-cons IsAmong 10 (11 ∷ 13 ∷ 14 ∷ []) ((9, omega arith, refl), λ e. omega (arith, e))
    (All-cons IsAmong 11 (13 ∷ 14 ∷ []) ((10, omega arith, refl), λ e. omega (arith, e))
    (All-cons IsAmong 13 (14 ∷ []) ((12, omega arith, refl), λ e. omega (arith, e))
    (All-cons IsAmong 14 [] ((13, omega arith, refl), λ e. omega (arith, e)) (All-nil IsAmong))))))))))
    known

rose_later : (a b c : ℕ) → a ≤ b → Rose b c → Rose a c
rose_later a b c later rose = grind (arith, common_steps)

-- what the frames lead to is the outcome of the input
gives_outcome : (depth : ℕ) (start readback : Bool) (all : List ℕ) (link : Link) (status : ℕ) (output : List ℕ) → IsLinkOf (upload_ways depth) start readback (cut_of all) link →
    UploadGives link (rest_of all) status output → IsOutcomeOf (upload_verb depth start readback) (cut_of all) (outcome status output)
gives_outcome depth start readback all link status output is gives = grind (arith, common_steps)

gives_safe : (depth : ℕ) (start readback : Bool) (all : List ℕ) (link : Link) (status : ℕ) (output : List ℕ) → status ≡ 0 → IsLinkOf (upload_ways depth) start readback (cut_of all) link →
    UploadGives link (rest_of all) status output → IsSafe (upload_verb depth start readback) (cut_of all) (outcome status output)
gives_safe depth start readback all link status output zero is gives = grind (arith, common_steps)

-- bytes that stand before others, and come to the same, are none
none_before : (ys xs : List ℕ) → xs ≡ ys ++ xs → ys ≡ []
none_before [] xs e = refl
none_before (y ∷ ys) xs e = absurd (omega (arith, ap length e, length-append ys xs))

-- a read failed after these frames
stopped_late : (depth : ℕ) (start readback : Bool) (left after mid : Option (List ℕ)) (link : Link) (taken output : List ℕ) → MarkerLaw →
    IfSome left (λ all. IsLinkOf (upload_ways depth) start readback (cut_of all) link) → IfSome left (λ all. mid ≡ Some (rest_of all)) → TakesMarked left mid → Consumes mid after taken →
    UploadFails link taken output →
    IfSome left (λ input. (taken later : List ℕ) × (input ≡ taken ++ later) × (after ≡ Some later) × UploadStops (upload_ways depth) start readback (has_whole_marker taken) taken output)
stopped_late depth start readback None after mid link taken output marker is rest marked consumes fails = tt
stopped_late depth start readback (Some all) None mid link taken output marker is rest marked consumes fails = absurd (rw rest at consumes)
stopped_late depth start readback (Some all) (Some later) mid link taken output marker is rest marked consumes fails =
    let text : List ℕ = marked.0 in
    let at_text : all ≡ text ++ rest_of all = rw rest at marked.1 in
    let at_rest : rest_of all ≡ taken ++ later = rw rest at consumes in
    let whole = marker text (rest_of all) marked.2 in
    let short = marker text taken marked.2 in
    let none : rest_of text ≡ [] = none_before (rest_of text) (rest_of all) (ap (λ (xs : List ℕ). rest_of xs) at_text ∙ whole.1) in
    let part : part_of all ≡ part_of (text ++ taken) = ap (λ (xs : List ℕ). part_of xs) at_text ∙ whole.0 ∙ sym short.0 in
    let frames : taken ≡ rest_of (text ++ taken) = sym (short.1 ∙ ap (λ (xs : List ℕ). xs ++ taken) none) in
    let stops : UploadStops (upload_ways depth) start readback true (text ++ taken) output = grind (arith, common_steps) in
    (text ++ taken, later, at_text ∙ ap (λ (xs : List ℕ). text ++ xs) at_rest ∙ sym (append_assoc text taken later), refl, rw (whole_marker-front text taken marked.2) stops)

-- no answer waits for much further input
prompt_late : (depth : ℕ) (start readback : Bool) (r : Run) (mid : Option (List ℕ)) (link : Link) → MarkerLaw → ShowLaw →
    IfSome r.left (λ all. IsLinkOf (upload_ways depth) start readback (cut_of all) link) → IfSome r.left (λ all. mid ≡ Some (rest_of all)) → StaysPrompt link mid r.left_after r.written r.written_after →
    UploadsPromptly (upload_ways depth) start readback r
prompt_late depth start readback r mid link marker show is rest stays taken sent carried whole s stands accepted =
    let it : IsLinkOf (upload_ways depth) start readback (cut_of (taken ++ carried.later)) link = rw carried.left at is in
    let cut = marker taken carried.later whole in
    let from : mid ≡ Some (rest_of (taken ++ carried.later)) = rw carried.left at rest in
    let same : it.s ≡ s = show.one (part_of taken) it.s s (subst (λ (text : List ℕ). StandsFor text it.s) cut.0 it.stands) stands in
    subst (λ (t : Link). IsPrompt t (rest_of taken) sent) (it.is ∙ ap (λ (p : PlainShow). link_in p start readback) same)
    (stays (rest_of taken ++ carried.later) carried.later carried.old (rest_of taken) sent (from ∙ ap (λ (xs : List ℕ). Some xs) cut.1) carried.left_after refl carried.written carried.written_after)

-- no more is read once the upload is over
pub stops_late : (depth : ℕ) (start readback : Bool) (left after mid : Option (List ℕ)) (link : Link) → ShowLaw → IfSome left (λ all. IsLinkOf (upload_ways depth) start readback (cut_of all) link) →
    IfSome left (λ all. mid ≡ Some (rest_of all)) → StopsAtEnd link mid after → IfSome left (λ input. UploadStopsReading (upload_ways depth) start readback input after)
stops_late depth start readback None after mid link show is rest stops = tt
stops_late depth start readback (Some all) after mid link show is rest stops = record {
  accepted = λ s stands accepted.
      let same : is.s ≡ s = show.one (part_of all) is.s s is.stands stands in
      subst (λ (t : Link). StopsAtEnd t (Some (rest_of all)) after) (is.is ∙ ap (λ (p : PlainShow). link_in p start readback) same)
      (subst (λ (bytes : Option (List ℕ)). StopsAtEnd link bytes after) rest stops);
  refused = λ none. absurd (none is.s is.stands is.accepted);
}

-- a write failed
cut_late : (depth : ℕ) (start readback : Bool) (left after mid : Option (List ℕ)) (ended : Bool) (link : Link) (reads between reads_after : ℕ) (old new : Option (List ℕ)) (writes writes_after : ℕ) →
    MarkerLaw → WasReady depth start readback left mid ended link → reads ≤ between → (sent : List ℕ) → Appends old new sent →
    IfSome mid (λ bytes. (output : List ℕ) × AppendsFront old new output
    × (((st : ℕ) × UploadGives link bytes st output) ⊎ (Rose between reads_after × (ended ≡ false) × ((taken : List ℕ) × Consumes mid after taken × UploadFails link taken output)))) →
    (output : List ℕ) × IsOutput (upload_verb depth start readback) (run_of left after reads reads_after old new writes writes_after) output × AppendsFront old new output
cut_late depth start readback None after mid ended link reads between reads_after old new writes writes_after marker ready later sent appends cut = (sent, inl tt, (sent, [], sym (append-nil sent), appends))
cut_late depth start readback (Some all) after mid ended link reads between reads_after old new writes writes_after marker ready later sent appends cut =
    let it : (output : List ℕ) × AppendsFront old new output
    × (((st : ℕ) × UploadGives link (rest_of all) st output)
    ⊎ (Rose between reads_after × (ended ≡ false) × ((taken : List ℕ) × Consumes (Some (rest_of all)) after taken × UploadFails link taken output))) = rw ready.rest at cut in
    elim it.2 [
      | inl gives ↦ (it.0, inl (outcome gives.0 it.0, gives_outcome depth start readback all link gives.0 it.0 ready.is gives.1, refl), it.1)
      | inr failed ↦
          let taken_so : Consumes mid after failed.2.0 = rw ready.rest failed.2.1 in (
            it.0,
            inr (
              rose_later reads between reads_after later failed.0,
              stopped_late depth start readback (Some all) after mid link failed.2.0 it.0 marker ready.is ready.rest (ready.fed failed.1) taken_so failed.2.2,
            ),
            it.1,
          )
    ]

-- frames were carried to an end
pub upload_carried : (depth : ℕ) (start readback : Bool) (r : Run) (mid : Option (List ℕ)) (ended : Bool) (between : ℕ) (link : Link) (status : ℕ) → OutcomeLaw (upload_verb depth start readback) → MarkerLaw → ShowLaw →
    WasReady depth start readback r.left mid ended link → r.reads_failed ≤ between → TakesFront r.left r.left_after →
    Uploaded link mid r.left_after ended between r.reads_failed_after r.written r.written_after r.writes_failed r.writes_failed_after status → Runs (upload_verb depth start readback) r status
upload_carried depth start readback r mid ended between link status law marker show ready later taken up = runs_upload depth start readback r status law (record {
  not_one = (among_of status up.known).1;
  outcome = λ j. after_marker r.left mid _ _ _ ready.is ready.rest (up.gives.ends j.1 j.2)
      (λ all is it. (outcome status it.0, gives_outcome depth start readback all link status it.0 is it.1, refl, it.2));
  safe = λ zero. after_marker r.left mid _ _ _ ready.is ready.rest (up.gives.ends (λ six. omega (arith, zero, six)) (λ seven. omega (arith, zero, seven)))
      (λ all is it. (outcome status it.0, gives_safe depth start readback all link status it.0 zero is it.1, it.2));
  six = λ six. rose_later r.reads_failed between r.reads_failed_after later (up.gives.six six).0;
  stopped = λ six. let it = up.gives.six six in after_marker r.left mid _ _ _ ready.is ready.rest it.2
      (λ all is it_is. (it_is.1, stopped_late depth start readback r.left r.left_after mid link it_is.0 it_is.1 marker ready.is ready.rest (ready.fed it.1) it_is.2 it_is.3, it_is.4));
  seven = λ seven. let it = up.gives.seven seven in
      (it.0, cut_late depth start readback r.left r.left_after mid ended link r.reads_failed between r.reads_failed_after r.written r.written_after r.writes_failed r.writes_failed_after marker ready later up.grown.0 up.grown.1 it.1);
  prompt = λ _. prompt_late depth start readback r mid link marker show ready.is ready.rest up.gives.prompt;
  known = (among_of status up.known).0;
  taken = taken;
  reads_later = omega (arith, later, up.reads_later);
  writes_later = up.writes_later;
})

-- A run of a command that judges its input and then writes as it goes.
use Rattle.show_judge.proofs.Prelude.{◌≡◌, ℕ, ◌≤◌, false, List, Ok, Err, refl, sym, true, ◌∙◌, arith, Rose, TakesFront, PlainShow, Refusal, line_of, status_of, IsFitted, Accepted as accepted, Failure, Read, Memory, JudgesInput, Responds, Wrote, IsVerb, OutcomeLaw, refused, Run, Verb, outcome, IsOfInput, Runs, Cut, cut_of, nodes_of}
use Rattle.show_judge.specs.declared.judging.Accepted.{Accepted}
use Rattle.show_judge.specs.declared.judging.Judged.TheVariants.{Refused as refused_judged}
use Rattle.show_judge.proofs.AnswerLemmas.{accepted_outcome, accepted_safe, plain_outcome, refused_some}
use Rattle.show_judge.proofs.RunLemmas.{IsPlain, judges_input, refused_among, refused_judged as refused_is_judged, runs_memory, runs_stopped, runs_wrote, some_map}

-- an accepted show for which this was written
pub runs_accepted : (c : Verb) → IsVerb c → (depth : ℕ) (r : Run) (a : Accepted) (output : List ℕ) (status : ℕ) → IsPlain c → OutcomeLaw c → JudgesInput c.ways depth r.left r.left_after (Ok (accepted a)) →
    ((cut : Cut) (s : PlainShow) → IsFitted a.fitted s → a.nodes ≡ nodes_of s depth → c.gives s cut (outcome 0 output)) →
    TakesFront r.left r.left_after → r.reads_failed ≤ r.reads_failed_after → Wrote 0 output r.written r.written_after r.writes_failed r.writes_failed_after status → Runs c r status
runs_accepted c is_verb depth r a output status plain law judges gives taken later wrote =
    runs_wrote c r status (outcome 0 output) plain law
    (record {
      is = some_map r.left _ _ (λ input it. accepted_outcome c depth (cut_of input) a (outcome 0 output) it (gives (cut_of input) it.s it.fitted it.nodes)) judges.gives;
      safe = λ done. some_map r.left _ _ (λ input it. accepted_safe c is_verb depth (cut_of input) a (outcome 0 output) it (gives (cut_of input) it.s it.fitted it.nodes) done) judges.gives;
      whole = λ done. judges.whole;
      judged = ((λ e. omega (arith, e)), (λ e. omega (arith, e)), (λ e. omega (arith, e)));
      among = (0, omega arith, refl);
      taken = taken;
      later = later;
    }) wrote

-- a refusal that was written
pub runs_refused : (c : Verb) (depth : ℕ) (r : Run) (why : Refusal) (status : ℕ) → IsPlain c → c.ways.by_frames ≡ false → OutcomeLaw c →
    JudgesInput c.ways depth r.left r.left_after (Ok (refused_judged why)) → IsOfInput why → TakesFront r.left r.left_after → r.reads_failed ≤ r.reads_failed_after →
    Wrote (status_of why) (line_of why) r.written r.written_after r.writes_failed r.writes_failed_after status → Runs c r status
runs_refused c depth r why status plain lines law judges of_input taken later wrote =
    runs_wrote c r status (refused why) plain law
    (record {
      is = some_map r.left _ _ (λ input is. plain_outcome c (cut_of input) why lines is) judges.gives;
      safe = λ done. absurd (refused_some why done);
      whole = λ done. absurd (refused_some why done);
      judged = refused_is_judged why of_input;
      among = refused_among why of_input;
      taken = taken;
      later = later;
    }) wrote

-- nothing was judged
pub runs_failed : (c : Verb) (r : Run) (failure : Failure) (status : ℕ) → IsPlain c → (failure ≡ Read → Rose r.reads_failed r.reads_failed_after) →
    TakesFront r.left r.left_after → r.reads_failed ≤ r.reads_failed_after → Responds (Err failure) r.written r.written_after r.writes_failed r.writes_failed_after status → Runs c r status
runs_failed c r Read status plain failed taken later wrote = runs_stopped c r status plain (failed refl) taken later wrote
runs_failed c r Memory status plain failed taken later wrote =
    runs_memory c r status (λ output is. judges_input c.judges output plain.judges is) plain.prompt wrote.0 wrote.1 wrote.2 (λ none. absurd (let f : true ≡ false = sym plain.reads ∙ none in cc)) taken later

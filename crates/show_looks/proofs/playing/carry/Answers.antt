use Rattle.show_looks.proofs.Prelude.{refl, ap, Err, play_verb, rows, show_plain, show_verb, during, run_on, takes_front, outcome}
use Rattle.show_judge.proofs.VerbLemmas.{outcomes}
use Rattle.show_judge.specs.declared.ends.Failure.{Failure}
use Rattle.show_judge.proofs.JudgedLemmas.{runs_accepted, runs_failed, runs_refused}
use Rattle.show_looks.proofs.PlayLemmas.{rows_of}
use Rattle.show_looks.proofs.playing.carry.Goals as goal

pub returns-in-Ok-Accepted-clause-runs : goal.returns-in-Ok-Accepted-clause-runs
returns-in-Ok-Accepted-clause-runs g c all is =
    let it = c.in-Ok-Accepted in
    runs_accepted (play_verb c.args.depth c.args.step) (show_verb c.args.depth (rows c.args.step)) c.args.depth
    (run_on (during g.S.Source.told g.K.Sink.written g.K.Sink.faults c.args.source.now c.judge_input.new.source c.args.sink.now c.write_rows.new.sink) all)
    it.accepted _ c.write_rows.result (show_plain c.args.depth (rows c.args.step)) (outcomes c.show_law.ensures (play_verb c.args.depth c.args.step) (show_verb c.args.depth (rows c.args.step)))
    (rw it.field-0-is at (it.ensures.reads.fact all is)) (λ cut s fitted nodes. ap (outcome 0) (rows_of it.accepted.fitted s c.args.step fitted))
    (takes_front _ _ _ all c.judge_input.ensures.reads.gives is) c.judge_input.ensures.reads.gives.later c.write_rows.ensures

pub returns-in-Ok-Refused-clause-runs : goal.returns-in-Ok-Refused-clause-runs
returns-in-Ok-Refused-clause-runs g c all is =
    let it = c.in-Ok-Refused in
    runs_refused (play_verb c.args.depth c.args.step) c.args.depth
    (run_on (during g.S.Source.told g.K.Sink.written g.K.Sink.faults c.args.source.now c.judge_input.new.source c.args.sink.now c.refuse.new.sink) all)
    it.refusal c.refuse.result (show_plain c.args.depth (rows c.args.step)) refl (outcomes c.show_law.ensures (play_verb c.args.depth c.args.step) (show_verb c.args.depth (rows c.args.step)))
    (rw it.field-0-is at (it.ensures.reads.fact all is)) (rw it.field-0-is at it.ensures.sound) (takes_front _ _ _ all c.judge_input.ensures.reads.gives is) c.judge_input.ensures.reads.gives.later c.refuse.ensures

pub returns-in-Err-clause-runs : goal.returns-in-Err-clause-runs
returns-in-Err-clause-runs g c all is =
    runs_failed (play_verb c.args.depth c.args.step)
    (run_on (during g.S.Source.told g.K.Sink.written g.K.Sink.faults c.args.source.now c.judge_input.new.source c.args.sink.now c.fail.new.sink) all)
    c.in-Err.failure c.fail.result (show_plain c.args.depth (rows c.args.step))
    (λ is. c.in-Err.ensures.reads.failed (ap (λ (f : Failure). Err f) is)) (takes_front _ _ _ all c.judge_input.ensures.reads.gives is) c.judge_input.ensures.reads.gives.later c.fail.ensures

pub returns-in-Ok-Accepted-clause-gives : goal.returns-in-Ok-Accepted-clause-gives
returns-in-Ok-Accepted-clause-gives g c = c.judge_input.ensures.reads.gives

pub returns-in-Ok-Accepted-clause-few : goal.returns-in-Ok-Accepted-clause-few
returns-in-Ok-Accepted-clause-few g c all is = λ wanted. c.judge_input.ensures.reads.few all is

pub returns-in-Ok-Accepted-clause-marker : goal.returns-in-Ok-Accepted-clause-marker
returns-in-Ok-Accepted-clause-marker g c all is = λ alone reads judged. c.in-Ok-Accepted.ensures.reads.after all is

pub returns-in-Ok-Refused-clause-gives : goal.returns-in-Ok-Refused-clause-gives
returns-in-Ok-Refused-clause-gives g c = c.judge_input.ensures.reads.gives

pub returns-in-Ok-Refused-clause-few : goal.returns-in-Ok-Refused-clause-few
returns-in-Ok-Refused-clause-few g c all is = λ wanted. c.judge_input.ensures.reads.few all is

pub returns-in-Ok-Refused-clause-marker : goal.returns-in-Ok-Refused-clause-marker
returns-in-Ok-Refused-clause-marker g c all is = λ alone reads judged. c.in-Ok-Refused.ensures.reads.after all is

pub returns-in-Err-clause-gives : goal.returns-in-Err-clause-gives
returns-in-Err-clause-gives g c = c.judge_input.ensures.reads.gives

pub returns-in-Err-clause-few : goal.returns-in-Err-clause-few
returns-in-Err-clause-few g c all is = λ wanted. c.judge_input.ensures.reads.few all is

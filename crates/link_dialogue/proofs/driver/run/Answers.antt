use Rattle.link_dialogue.proofs.Prelude.{inl, inr, refl, sym, ◌∙◌, arith, stream, to_come, end_frame}
use Rattle.link_dialogue.proofs.ItemLemmas.{Rose-later, grown_more}
use Rattle.link_dialogue.proofs.FinishLemmas.{all_sent, cut_broken, cut_ended, cut_failed, failed, grew_ended, grew_failed, prompt_kept, status_ended, status_known}
use Rattle.link_dialogue.proofs.driver.run.Goals as goal

pub returns-in-Ok-clause-gives : goal.returns-in-Ok-clause-gives
returns-in-Ok-clause-gives g c all may =
    let t = g.M.Machine.dialogue c.args.machine.now in
    let status = c.in-Ok.status in
    let own = status_ended t c.requires.own status c.in-Ok.ensures.known in
    let carried = rw c.in-Ok.is at (c.carry.ensures.gives all may) in
    record {
      ends = λ not_six not_seven. (let w = c.finish.ensures.ok not_seven in all_sent t status c.finish.result (stream c.args.parts.now (to_come all (g.S.Source.told c.args.source.now))) _ _ _ w.0 carried.ends w.1);
      six = λ six. absurd (own.0 (sym (c.finish.ensures.ok (λ seven. omega (arith, six, seven))).0 ∙ six));
      seven = λ seven. (Rose-later _ _ _ c.carry.ensures.sink_later (c.finish.ensures.cause seven own.1), cut_ended t status (stream c.args.parts.now (to_come all (g.S.Source.told c.args.source.now))) (to_come all (g.S.Source.told c.carry.new.source)) (g.S.Source.told c.args.source.now).faults (g.S.Source.told c.carry.new.source).faults c.args.parts.now.ended _ _ _ carried.ends c.finish.ensures.front);
      prompt = prompt_kept t (stream c.args.parts.now (to_come all (g.S.Source.told c.args.source.now))) (to_come all (g.S.Source.told c.carry.new.source)) _ _ _ (end_frame status) carried.prompt (grew_ended t status (stream c.args.parts.now (to_come all (g.S.Source.told c.args.source.now))) _ _ carried.ends) c.finish.ensures.front;
      stops = carried.stops;
    }

pub returns-in-Ok-clause-known : goal.returns-in-Ok-clause-known
returns-in-Ok-clause-known g c = status_known (g.M.Machine.dialogue c.args.machine.now) c.in-Ok.status c.finish.result (inl c.in-Ok.ensures.known) c.finish.ensures.known

pub returns-in-Ok-clause-grown : goal.returns-in-Ok-clause-grown
returns-in-Ok-clause-grown g c = grown_more _ _ _ _ _ c.carry.ensures.grown.1 c.finish.ensures.front

pub returns-in-Err-Read-clause-gives : goal.returns-in-Err-Read-clause-gives
returns-in-Err-Read-clause-gives g c all may =
    let t = g.M.Machine.dialogue c.args.machine.now in
    let rose = (rw c.in-Err-Read.field-0-is at c.in-Err-Read.ensures.read) refl in
    let carried = rw c.in-Err-Read.field-0-is at (c.in-Err-Read.ensures.gives all may) in
    let w = c.finish-in-Err-Read.ensures in
    record {
      ends = λ not_six not_seven. absurd (not_six (w.ok not_seven).0);
      six = λ six. (rose.0, rose.1, failed t (stream c.args.parts.now (to_come all (g.S.Source.told c.args.source.now))) (to_come all (g.S.Source.told c.carry.new.source)) _ _ _ carried.ends (w.ok (λ seven. omega (arith, six, seven))).1);
      seven = λ seven. (Rose-later _ _ _ c.carry.ensures.sink_later (w.cause seven (λ e. omega (arith, e))), cut_failed t (stream c.args.parts.now (to_come all (g.S.Source.told c.args.source.now))) (to_come all (g.S.Source.told c.carry.new.source)) (g.S.Source.told c.args.source.now).faults (g.S.Source.told c.carry.new.source).faults c.args.parts.now.ended _ _ _ rose.0 rose.1 carried.ends w.front);
      prompt = prompt_kept t (stream c.args.parts.now (to_come all (g.S.Source.told c.args.source.now))) (to_come all (g.S.Source.told c.carry.new.source)) _ _ _ (end_frame 6) carried.prompt (grew_failed t (stream c.args.parts.now (to_come all (g.S.Source.told c.args.source.now))) (to_come all (g.S.Source.told c.carry.new.source)) _ _ carried.ends) w.front;
      stops = carried.stops;
    }

pub returns-in-Err-Read-clause-known : goal.returns-in-Err-Read-clause-known
returns-in-Err-Read-clause-known g c = status_known (g.M.Machine.dialogue c.args.machine.now) 6 c.finish-in-Err-Read.result (inr (inl refl)) c.finish-in-Err-Read.ensures.known

pub returns-in-Err-Read-clause-grown : goal.returns-in-Err-Read-clause-grown
returns-in-Err-Read-clause-grown g c = grown_more _ _ _ _ _ c.carry.ensures.grown.1 c.finish-in-Err-Read.ensures.front

pub returns-in-Err-Write-clause-gives : goal.returns-in-Err-Write-clause-gives
returns-in-Err-Write-clause-gives g c all may =
    let carried = rw c.in-Err-Write.field-0-is at (c.in-Err-Write.ensures.gives all may) in
    record {
      ends = λ not_six not_seven. absurd (not_seven refl);
      six = λ six. absurd (omega (arith, six));
      seven = λ seven. ((rw c.in-Err-Write.field-0-is at c.in-Err-Write.ensures.write) refl, cut_broken (g.M.Machine.dialogue c.args.machine.now) (stream c.args.parts.now (to_come all (g.S.Source.told c.args.source.now))) (to_come all (g.S.Source.told c.carry.new.source)) (g.S.Source.told c.args.source.now).faults (g.S.Source.told c.carry.new.source).faults c.args.parts.now.ended _ _ carried.ends);
      prompt = carried.prompt;
      stops = carried.stops;
    }

pub returns-in-Err-Write-clause-known : goal.returns-in-Err-Write-clause-known
returns-in-Err-Write-clause-known g c = inr (inr refl)

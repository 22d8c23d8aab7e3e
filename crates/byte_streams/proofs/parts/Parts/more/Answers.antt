use Rattle.byte_streams.proofs.Prelude.{common_steps, [], ◌-◌, append-nil, sym, ◌∙◌, take, arith}
use Rattle.byte_streams.proofs.ToldLemmas.{Took-none}
use Rattle.byte_streams.proofs.WaitingLemmas.{moved, unmoved}
use Rattle.byte_streams.proofs.parts.Parts.more.Goals as goal

pub returns-then-self-clause-took : goal.returns-then-self-clause-took
returns-then-self-clause-took g c = Took-none _ _

pub returns-in-Err-clause-took : goal.returns-in-Err-clause-took
returns-in-Err-clause-took g c =
    let s = c.self.inside in
    rw (← c.self.view_is) (record {
      read = [];
      given = c.in-Err.ensures.reads.given;
      wait = append-nil _ ∙ unmoved s.buf c.copy_within.new.self c.read.new.buf s.start s.end (4096 - (s.end - s.start)) (omega arith) (omega arith) c.copy_within.ensures.after;
    })

pub returns-in-Err-clause-kept : goal.returns-in-Err-clause-kept
returns-in-Err-clause-kept g c =
    let s = c.self.inside in
    rw (← c.self.view_is) (sym (unmoved s.buf c.copy_within.new.self c.read.new.buf s.start s.end (4096 - (s.end - s.start)) (omega arith) (omega arith) c.copy_within.ensures.after), c.if-self.false)

pub returns-in-Ok-clause-took : goal.returns-in-Ok-clause-took
returns-in-Ok-clause-took g c = record {
  read = take c.in-Ok.count c.read.new.buf;
  given = c.in-Ok.ensures.reads.given;
  wait = grind (arith, common_steps, take, moved);
}

use Rattle.flight_link.proofs.Prelude.{sym, ◌∙◌}
use Rattle.flight_link.proofs.BegunLemmas.{judged_err, judged_more, judged_whole}
use Rattle.flight_link.proofs.begun.judged.Goals as goal

pub returns-in-Err : goal.returns-in-Err
returns-in-Err c =
    judged_err c.frame_law.ensures c.args.drones c.args.count c.in-Some.size c.args.bytes.now c.in-Err.field-0 c.requires.whole c.requires.some c.requires.few c.requires.zeros c.requires.begun
    (sym c.event_length.ensures ∙ c.in-Some.is) (sym c.read_event.ensures.value ∙ c.in-Err.is)

pub returns-in-Ok : goal.returns-in-Ok
returns-in-Ok c =
    judged_more c.args.drones c.args.count c.in-Some.size c.args.bytes.now c.in-Ok.field-0 c.requires.whole c.requires.zeros
    (sym c.event_length.ensures ∙ c.in-Some.is) c.if-count-size.true c.in-Ok.ensures.only.0 c.in-Ok.ensures.only.1

pub returns-in-Ok-2 : goal.returns-in-Ok-2
returns-in-Ok-2 c = (
  c.in-Ok.ensures.only.0,
  judged_whole c.frame_law.ensures c.args.drones c.args.count c.in-Some.size c.args.bytes.now c.in-Ok.field-0 c.requires.whole c.requires.some c.requires.few c.requires.begun
      (sym c.event_length.ensures ∙ c.in-Some.is) c.if-count-size.false c.in-Ok.ensures.only.1,
)

use Rattle.hemtoghai.proofs.Prelude.{arith, sym, ◌∙◌, Boxes, Dynamics, Explain, Speed}
use Rattle.hemtoghai.proofs.AnswerLemmas.{said_as, whole_of}
use Rattle.hemtoghai.proofs.BegunLemmas.{begun_whole}
use Rattle.hemtoghai.proofs.hemtoghai_run.Goals as goal

pub returns-clause-uploads : goal.returns-clause-uploads
returns-clause-uploads c = λ name named judges zero.
    c.in-Ok-answer_of.ensures.uploads name (rw c.in-Ok.ensures.ok named) judges (said_as _ _ _ c.deliver.result 0 (λ e. omega (arith, e)) c.deliver.ensures.value zero).0

pub returns-clause-drilled : goal.returns-clause-drilled
returns-clause-drilled c = λ drones depth is zero.
    c.in-Ok-answer_of.ensures.drilled drones depth (rw c.in-Ok.ensures.ok is) (said_as _ _ _ c.deliver.result 0 (λ e. omega (arith, e)) c.deliver.ensures.value zero).0

pub returns-clause-regions : goal.returns-clause-regions
returns-clause-regions c = λ depth is zero.
    let said = said_as _ _ _ c.deliver.result 0 (λ e. omega (arith, e)) c.deliver.ensures.value zero in
    rw (c.deliver.ensures.room, whole_of _ c.deref.result.now c.len.result (c.len.ensures ∙ sym c.deref.ensures.len) said.1, c.deref.ensures.value)
    ((c.in-Ok-answer_of.ensures.behaves (Boxes depth) (rw c.in-Ok.ensures.ok is)).behaves.headline said.0)

pub returns-clause-speeds : goal.returns-clause-speeds
returns-clause-speeds c = λ depth limit is zero.
    let said = said_as _ _ _ c.deliver.result 0 (λ e. omega (arith, e)) c.deliver.ensures.value zero in
    rw (c.deliver.ensures.room, whole_of _ c.deref.result.now c.len.result (c.len.ensures ∙ sym c.deref.ensures.len) said.1, c.deref.ensures.value)
    ((c.in-Ok-answer_of.ensures.behaves (Speed depth limit) (rw c.in-Ok.ensures.ok is)).behaves.headline said.0)

pub returns-clause-touches : goal.returns-clause-touches
returns-clause-touches c = λ depth fine all is zero.
    let said = said_as _ _ _ c.deliver.result 0 (λ e. omega (arith, e)) c.deliver.ensures.value zero in
    rw (c.deliver.ensures.room, whole_of _ c.deref.result.now c.len.result (c.len.ensures ∙ sym c.deref.ensures.len) said.1, c.deref.ensures.value)
    ((c.in-Ok-answer_of.ensures.behaves (Explain depth fine all) (rw c.in-Ok.ensures.ok is)).behaves.headline said.0)

pub returns-clause-motions : goal.returns-clause-motions
returns-clause-motions c = λ depth accel jump is zero.
    let said = said_as _ _ _ c.deliver.result 0 (λ e. omega (arith, e)) c.deliver.ensures.value zero in
    rw (c.deliver.ensures.room, whole_of _ c.deref.result.now c.len.result (c.len.ensures ∙ sym c.deref.ensures.len) said.1, c.deref.ensures.value)
    ((c.in-Ok-answer_of.ensures.behaves (Dynamics depth accel jump) (rw c.in-Ok.ensures.ok is)).behaves.headline said.0)

pub returns-clause-begun : goal.returns-clause-begun
returns-clause-begun c = λ depth start readback is begun.
    c.in-Ok-answer_of.ensures.begun depth start readback (rw c.in-Ok.ensures.ok is)
    (rw c.deref.ensures.value at (begun_whole _ c.deref.result.now c.len.result (c.len.ensures ∙ sym c.deref.ensures.len) (rw c.deliver.ensures.room at begun)))

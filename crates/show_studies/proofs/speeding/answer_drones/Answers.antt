use Rattle.show_studies.proofs.Prelude.{None, arith, length, sym, ◌<◌, ◌∙◌, ◌≡◌, too_fast_by}
use Rattle.show_studies.proofs.SpeedLemmas.{bounds_within, keeps_next, keeps_over, refusal_next, speeds_next}
use Rattle.show_studies.proofs.speeding.answer_drones.Goals as goal

pub loop-d-preserved : goal.loop-d-preserved
loop-d-preserved c =
    let sent = c.args.sent.now in
    let names = c.args.names.now in
    let t = c.index-sent-d.result in
    let name = c.index-names-d.result in
    let within : c.loop-d.d < length sent = omega (arith, c.loop-d-test.true) in
    let inside : c.loop-d.d < length names = omega (arith, within, c.requires.counted) in
    let none : too_fast_by c.args.limit c.args.depth t name ≡ None = sym c.in_ok-put_bounds.ensures.refusal ∙ c.in-None.is in
    let line = c.in_ok-put_bounds.ensures.line c.in-None.is in
    record {
      so_far = speeds_next c.args.depth c.loop-d.text c.put_bounds.new.text sent names c.loop-d.d t name within inside c.index-sent-d.is c.index-names-d.is line ∙ c.loop-d.invariant.so_far;
      refusal = refusal_next c.args.limit c.args.depth sent names c.loop-d.d t name within inside c.index-sent-d.is c.index-names-d.is none ∙ c.loop-d.invariant.refusal;
      keeps = λ later. c.loop-d.invariant.keeps
          (keeps_next c.args.limit c.args.depth sent c.loop-d.d t within c.index-sent-d.is
          (record { keeps = c.put_bounds.ensures.keeps; within = bounds_within c.args.limit c.args.depth t name none }) later);
    }

pub returns-clause-keeps : goal.returns-clause-keeps
returns-clause-keeps c = λ done. c.loop-d.invariant.keeps (keeps_over c.args.limit c.args.depth c.args.sent.now c.loop-d.d c.loop-d-test.false)

use Rattle.show_studies.proofs.Prelude.{List, None, Option, arith, length, sym, ℕ, ◌++◌, ◌<◌, ◌∙◌, ◌≡◌, ◌+◌, ap, drop, Refusal, durations, motion_line, extremes_of, greater, dynamics_text, excess_by, refused_or}
use Rattle.dynamics_bound.specs.declared.motion.Extremes.{Extremes}
use Rattle.dynamics_bound.specs.declared.motion.Motion.{Motion}
use Rattle.dynamics_bound.proofs.Motions.{extremes_next}
use Rattle.show_studies.proofs.DynamicsLemmas.{excess_here, excess_next, keeps_next, keeps_over, motions_next}
use Rattle.show_studies.proofs.accelerating.answer_drones.Goals as goal

pub returns-in-Some-clause-gives : goal.returns-in-Some-clause-gives
returns-in-Some-clause-gives c =
    let sent = c.args.sent.now in
    let names = c.args.names.now in
    let times = durations c.args.cues.now in
    let within : c.loop-d.d < length sent = omega (arith, c.loop-d-test.true) in
    let inside : c.loop-d.d < length names = omega (arith, within, c.requires.counted) in
    let here = excess_here c.args.limits c.args.depth times sent names c.loop-d.d c.index-sent-d.result c.index-names-d.result c.in-Some.refusal within inside c.index-sent-d.is c.index-names-d.is
    (sym c.in-Some.ensures.excess) in
    ap (λ (o : Option Refusal). refused_or o (dynamics_text c.args.depth times sent names)) (sym here ∙ c.loop-d.invariant.refusal)

pub loop-d-preserved : goal.loop-d-preserved
loop-d-preserved c =
    let depth = c.args.depth in
    let limits = c.args.limits in
    let sent = c.args.sent.now in
    let names = c.args.names.now in
    let times = durations c.args.cues.now in
    let d = c.loop-d.d in
    let t = c.index-sent-d.result in
    let name = c.index-names-d-in-loop-d.result in
    let text = c.loop-d.text in
    let within : d < length sent = omega (arith, c.loop-d-test.true) in
    let inside : d < length names = omega (arith, within, c.requires.counted) in
    let none : excess_by limits depth times t c.index-names-d.result ≡ None = sym c.excess_by.ensures.excess ∙ c.in_default.is in
    let line =
    c.in_ok-put_motion.ensures
    ∙ ap (λ (bytes : List ℕ). text ++ motion_line bytes c.motion_of-motion.result) c.as_slice.ensures.value
    ∙ ap (λ (m : Motion). text ++ motion_line name.items m) c.motion_of-motion.ensures.motion in
    let most = c.greater-most.ensures ∙ ap (λ (m : Motion). greater c.loop-d.most m.most) c.motion_of-motion.ensures.motion in
    record {
      so_far = motions_next depth times text c.put_motion.new.text sent names d t name within inside c.index-sent-d.is c.index-names-d-in-loop-d.is line ∙ c.loop-d.invariant.so_far;
      most = ap (λ (e : Extremes). greater e (extremes_of depth (drop (d + 1) sent))) most ∙ extremes_next depth c.loop-d.most sent d t within c.index-sent-d.is ∙ c.loop-d.invariant.most;
      refusal = excess_next limits depth times sent names d t c.index-names-d.result within inside c.index-sent-d.is c.index-names-d.is none ∙ c.loop-d.invariant.refusal;
      keeps = λ later. c.loop-d.invariant.keeps
          (keeps_next limits depth sent d t within c.index-sent-d.is (c.motion_of-motion.ensures.keeps limits c.in_default.ensures.within) later);
    }

pub returns-clause-keeps : goal.returns-clause-keeps
returns-clause-keeps c = λ done. c.loop-d.invariant.keeps (keeps_over c.args.limits c.args.depth c.args.sent.now c.loop-d.d c.loop-d-test.false)

-- Why `play` keeps its contract.
use Rattle.integer_player.proofs.Prelude.{◌∙◌, [], arith, map, rows_at, play_text, Passes}
use Rattle.std.proofs.lemmas.Result.{on_ok_weaker, on_err_weaker}
use Rattle.integer_player.proofs.ShowLemmas.{fails-with, instant-passes, play-fails, last-fails, odd-passes, even-passes, ends, ends-fails}
use Rattle.integer_player.proofs.show.play.Given as given
use Rattle.integer_player.proofs.show.play.Goals as goal
use Rattle.integer_player.proofs.show.play.Goals.{then-total-step-ne0+in_ok-pass_instant-2, else-total-step-ne0}

pub returns-in_err-pass_instant-clause-front : goal.returns-in_err-pass_instant-clause-front
returns-in_err-pass_instant-clause-front g c =
    fails-with c.from_residual.result _ (play-fails c.args.total c.args.step (map (λ name. name.items) c.args.names.now) c.args.trajs.now c.loop-k.k _ _ _
    c.loop-k.waiting.items (omega arith) c.loop-k.invariant.passes c.in_err-pass_instant.ensures.front)

pub loop-k-preserved : goal.loop-k-preserved
loop-k-preserved g c = record {
  places = c.in_ok-pass_instant.ensures.places;
  many = c.in_ok-pass_instant.ensures.same ∙ c.loop-k.invariant.many;
  passes = instant-passes (λ ms. rows_at ms (map (λ name. name.items) c.args.names.now) c.args.trajs.now) c.args.step c.loop-k.k _ _ _ c.loop-k.waiting.items _
      c.loop-k.invariant.passes c.in_ok-pass_instant.ensures.ok;
  later = omega (arith, c.in_ok-pass_instant.ensures.cause.later);
}

pub returns-in_err-pass_instant-2-clause-front : goal.returns-in_err-pass_instant-2-clause-front
returns-in_err-pass_instant-2-clause-front g c =
    fails-with c.from_residual-in_err-pass_instant-2.result _ (last-fails c.args.total c.args.step (map (λ name. name.items) c.args.names.now) c.args.trajs.now c.loop-k.k _ _ _
    c.loop-k.waiting.items (omega arith) (omega arith) c.loop-k.invariant.passes c.in_err-pass_instant-2.ensures.front)

-- all rows passed
passed : (g : given.Over) (c : goal.After-write_whole g) → Passes (g.K.Sink.written c.args.sink.now) [] (g.K.Sink.written c.if-total-step-ne0.sink) c.if-total-step-ne0.waiting.items
    (play_text c.args.total c.args.step (map (λ name. name.items) c.args.names.now) c.args.trajs.now)
passed g c = elim c.if-total-step-ne0.branch [
  | then-total-step-ne0+in_ok-pass_instant-2 w ↦ rw (w.sink-is, w.waiting-is)
      (odd-passes c.args.total c.args.step (map (λ name. name.items) c.args.names.now) c.args.trajs.now c.loop-k.k _ _ _
      c.loop-k.waiting.items _ (omega (arith, w.if-total-step-ne0.true)) (omega arith) c.loop-k.invariant.passes w.in_ok-pass_instant-2.ensures.ok)
  | else-total-step-ne0 w ↦ rw (w.sink-is, w.waiting-is)
      (even-passes c.args.total c.args.step (map (λ name. name.items) c.args.names.now) c.args.trajs.now c.loop-k.k _ _
      c.loop-k.waiting.items (omega (arith, w.if-total-step-ne0.false)) (omega arith) c.loop-k.invariant.passes)
]

pub returns-clause-ok : goal.returns-clause-ok
returns-clause-ok g c =
    on_ok_weaker c.write_whole.result (λ sent. ends _ _ _ c.if-total-step-ne0.waiting.items _ (passed g c) (rw c.as_slice-rest.ensures.value at sent)) c.write_whole.ensures.ok

pub returns-clause-front : goal.returns-clause-front
returns-clause-front g c =
    on_err_weaker c.write_whole.result (λ sent. ends-fails _ _ _ c.if-total-step-ne0.waiting.items _ (passed g c) (rw c.as_slice-rest.ensures.value at sent)) c.write_whole.ensures.front

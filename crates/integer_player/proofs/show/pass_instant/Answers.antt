-- Why `pass_instant` keeps its contract.
use Rattle.integer_player.proofs.Prelude.{◌∙◌, get_or, ap, sym, subst, arith, length-set, Traj, IsPlaceIn, played}
use Rattle.integer_player.proofs.ShowLemmas.{fails-with, places-at, places-set, row-same, row-passes, row-fails}
use Rattle.integer_player.proofs.show.pass_instant.Goals as goal

pub at-position-requires-clause-place : goal.at-position-requires-clause-place
at-position-requires-clause-place g c =
    subst (λ (t : Traj). IsPlaceIn t (get_or c.loop-d.players c.loop-d.d c.index-players-d.result)) (sym c.index-trajs-d.is)
    (places-at c.args.trajs.now c.loop-d.players c.loop-d.d c.index-trajs-d.result c.index-players-d.result c.loop-d.invariant.places (omega arith))

pub returns-in_err-pass-clause-places : goal.returns-in_err-pass-clause-places
returns-in_err-pass-clause-places g c =
    places-set c.args.trajs.now c.loop-d.players c.loop-d.d c.index-trajs-d.result c.at-position.new.self c.loop-d.invariant.places
    (subst (λ (t : Traj). IsPlaceIn t c.at-position.new.self) c.index-trajs-d.is c.at-position.ensures.place)

pub returns-in_err-pass-clause-front : goal.returns-in_err-pass-clause-front
returns-in_err-pass-clause-front g c =
    fails-with c.from_residual.result _
    (row-fails (λ name. name.items) c.args.ms c.args.names.now c.args.trajs.now c.loop-d.d c.index-names-d.result c.index-trajs-d.result
    _ _ _ c.args.waiting.now.items c.loop-d.waiting.items c.as_slice-in-loop-d.result.now (omega arith) c.requires.each
    (c.as_slice-in-loop-d.ensures.value ∙ c.play_row-row.ensures ∙ row-same c.args.ms _ _ _ _ (c.as_slice.ensures.value ∙ ap (λ name. name.items) c.index-names-d.is) (c.at-position.ensures.value ∙ ap (λ (t : Traj). played t c.args.ms) c.index-trajs-d.is)) c.loop-d.invariant.passes c.in_err-pass.ensures.front)

pub loop-d-preserved : goal.loop-d-preserved
loop-d-preserved g c =
    record {
      places = places-set c.args.trajs.now c.loop-d.players c.loop-d.d c.index-trajs-d.result c.at-position.new.self c.loop-d.invariant.places
          (subst (λ (t : Traj). IsPlaceIn t c.at-position.new.self) c.index-trajs-d.is c.at-position.ensures.place);
      many = length-set c.loop-d.players c.loop-d.d c.at-position.new.self ∙ c.loop-d.invariant.many;
      passes = row-passes (λ name. name.items) c.args.ms c.args.names.now c.args.trajs.now c.loop-d.d c.index-names-d.result c.index-trajs-d.result
          _ _ _ c.args.waiting.now.items c.loop-d.waiting.items c.pass.new.waiting.items c.as_slice-in-loop-d.result.now (omega arith) c.requires.each
          (c.as_slice-in-loop-d.ensures.value ∙ c.play_row-row.ensures ∙ row-same c.args.ms _ _ _ _ (c.as_slice.ensures.value ∙ ap (λ name. name.items) c.index-names-d.is) (c.at-position.ensures.value ∙ ap (λ (t : Traj). played t c.args.ms) c.index-trajs-d.is)) c.loop-d.invariant.passes c.in_ok-pass.ensures.ok;
      later = omega (arith, c.in_ok-pass.ensures.cause.later);
    }

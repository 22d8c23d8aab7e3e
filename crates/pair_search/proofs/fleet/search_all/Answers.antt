use Rattle.pair_search.proofs.Prelude.{common_steps, refl, arith, err_from_is_err_and, first_ahead, slots_in}
use Rattle.pair_search.proofs.Fleets.{past, stopped, tree_next}
use Rattle.pair_search.proofs.fleet.search_all.Goals as goal

pub loop-depth-init : goal.loop-depth-init
loop-depth-init g c = (
  slots_in c.args.curves.now,
  record { ahead = rw c.first-slot.ensures (first_ahead c.args.curves.now.drones c.args.curves.now.cues (omega arith) (omega arith)); blocked = refl },
  rw c.none-trees.ensures refl,
  c.kept_at_zero-kept.ensures,
)

pub returns-in_err-tree_of : goal.returns-in_err-tree_of
returns-in_err-tree_of g c =
    let p = err_from_is_err_and c.from_residual.result c.from_residual.ensures.1 in
    rw (p.1, p.2)
    (stopped c.args.ruler.now c.args.depth c.args.curves.now c.loop-depth.slot c.loop-depth.invariant.0 c.in_err-tree_of.field-0.0 (omega arith) c.in_err-tree_of.ensures.finds c.loop-depth.invariant.1)

pub loop-depth-preserved : goal.loop-depth-preserved
loop-depth-preserved g c =
    let on =
    past c.args.ruler.now c.args.depth c.args.curves.now c.loop-depth.slot c.next-slot.result c.loop-depth.invariant.0 c.drones-drones.result c.cues-cues.result (omega arith) c.in_ok-tree_of.ensures.finds.0
    c.next-slot.ensures c.drones-drones.ensures.exact c.cues-cues.ensures.exact c.loop-depth.invariant.1 in grind (arith, common_steps, tree_next)

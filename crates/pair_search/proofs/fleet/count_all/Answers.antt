use Rattle.pair_search.proofs.Prelude.{common_steps, refl, arith, err_from_is_err_and, first_ahead, best_nodes, slots_in}
use Rattle.pair_search.proofs.Fleets.{past, past_pair, pair_fits, stopped, count_fits, count_next}
use Rattle.pair_search.proofs.fleet.count_all.Goals as goal

pub loop-depth-init : goal.loop-depth-init
loop-depth-init g c = (
  slots_in c.args.curves.now,
  record { ahead = rw c.first-slot.ensures (first_ahead c.args.curves.now.drones c.args.curves.now.cues (omega arith) (omega arith)); blocked = refl },
  omega arith,
  c.none-waiting.ensures,
)

pub returns-in_err-count : goal.returns-in_err-count
returns-in_err-count g c =
    let p = err_from_is_err_and c.from_residual-in_err-count.result c.from_residual-in_err-count.ensures.1 in
    rw (p.1, p.2)
    (stopped c.args.ruler.now c.args.depth c.args.curves.now c.loop-depth.slot c.loop-depth.invariant.0 c.in_err-count.field-0.0 (omega arith) c.in_err-count.ensures.finds c.loop-depth.invariant.1)

pub loop-depth-preserved : goal.loop-depth-preserved
loop-depth-preserved g c =
    let on =
    past c.args.ruler.now c.args.depth c.args.curves.now c.loop-depth.slot c.next-slot.result c.loop-depth.invariant.0 c.drones-drones.result c.cues-cues.result (omega arith) c.in_ok-count.ensures.finds.0
    c.next-slot.ensures c.drones-drones.ensures.exact c.cues-cues.ensures.exact c.loop-depth.invariant.1 in grind (arith, common_steps, count_next)

pub overflow_add-count-in-loop-depth : goal.overflow_add-count-in-loop-depth
overflow_add-count-in-loop-depth g c =
    omega (
      arith,
      c.in_ok-count.ensures.finds.1,
      count_fits c.args.ruler.now c.args.depth c.args.curves.now c.loop-depth.slot c.loop-depth.invariant.0 c.loop-depth.count
          (best_nodes c.args.ruler.now c.args.depth c.args.curves.now c.loop-depth.slot)
          (rw c.levels-levels.ensures.same at c.levels-levels.ensures.most) (omega (arith, c.drones-drones.ensures.exact, c.drones-drones.ensures.few)) (omega (arith, c.cues-cues.ensures.exact, c.cues-cues.ensures.few)) (omega arith) refl c.loop-depth.invariant.2 c.loop-depth.invariant.1,
    )

pub overflow_add-count : goal.overflow_add-count
overflow_add-count g c =
    omega (
      arith,
      c.cues-cues.ensures.exact,
      pair_fits c.args.ruler.now c.args.depth c.args.curves.now c.loop-depth.slot c.loop-depth.invariant.0 c.loop-depth.count
          (rw c.levels-levels.ensures.same at c.levels-levels.ensures.most) (omega (arith, c.drones-drones.ensures.exact, c.drones-drones.ensures.few)) (omega (arith, c.cues-cues.ensures.exact, c.cues-cues.ensures.few)) (omega arith)
          (c.is_pair_far.ensures c.if-is_pair_far.true) c.loop-depth.invariant.1 c.loop-depth.invariant.2,
    )

pub loop-depth-preserved-then-is_pair_far : goal.loop-depth-preserved-then-is_pair_far
loop-depth-preserved-then-is_pair_far g c =
    let on =
    past_pair c.args.ruler.now c.args.depth c.args.curves.now c.loop-depth.slot c.next_pair-slot.result c.loop-depth.invariant.0 c.drones-drones.result (omega arith) (c.is_pair_far.ensures c.if-is_pair_far.true)
    c.next_pair-slot.ensures c.drones-drones.ensures.exact c.loop-depth.invariant.1 in
    (on.0, on.1, omega (arith, on.2, c.loop-depth.invariant.2, c.cues-cues.ensures.exact), c.loop-depth.invariant.3)

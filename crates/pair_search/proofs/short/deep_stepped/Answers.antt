use Rattle.pair_search.proofs.Prelude.{ℕ, rules, subst, FitsSigned, to_z-of_z, w64, w128, IsFloor, short_steps_of}
use Rattle.pair_search.proofs.ShortLemmas.{short_few}
use Rattle.pair_search.proofs.short.deep_stepped.Goals.{After-floor_by}
use Rattle.pair_search.proofs.short.deep_stepped.Goals as goal

floor : (c : After-floor_by) → IsFloor (short_steps_of c.args.depth) c.args.value c.floor_by.result
floor c =
    let v_wide : FitsSigned w128 c.args.value = c.ranges.value in
    subst (λ (times : ℕ). IsFloor times c.args.value c.floor_by.result) c.short_steps_of.ensures (simp to_z-of_z at c.floor_by.ensures)

pub overflow_cast-result : goal.overflow_cast-result
overflow_cast-result c =
    let fits : FitsSigned w128 c.floor_by.result = search rules in
    rw (to_z-of_z w128 c.floor_by.result fits) (short_few c.args.depth c.args.value c.floor_by.result c.requires (floor c))

pub returns : goal.returns
returns c =
    let fits : FitsSigned w128 c.floor_by.result = search rules in
    rw (to_z-of_z w128 c.floor_by.result fits, to_z-of_z w64 c.floor_by.result (short_few c.args.depth c.args.value c.floor_by.result c.requires (floor c))) (floor c)

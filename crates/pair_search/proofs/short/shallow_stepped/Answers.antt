use Rattle.pair_search.proofs.Prelude.{ℕ, rules, subst, FitsSigned, to_z-of_z, w64, w128, IsFloor}
use Rattle.pair_search.proofs.LaneLemmas.{value_short}
use Rattle.pair_search.proofs.short.shallow_stepped.Goals as goal

pub overflow_cast-value : goal.overflow_cast-value
overflow_cast-value c =
    let v_wide : FitsSigned w128 c.args.value = c.ranges.value in
    rw (to_z-of_z w128 c.args.value v_wide) (value_short c.args.depth c.args.value c.requires.shallow c.requires.value)

pub returns : goal.returns
returns c =
    let v_wide : FitsSigned w128 c.args.value = c.ranges.value in
    let v_short : FitsSigned w64 c.args.value = value_short c.args.depth c.args.value c.requires.shallow c.requires.value in
    let fits : FitsSigned w64 c.floor_short.result = search rules in
    rw (to_z-of_z w64 c.floor_short.result fits)
    (subst (λ (times : ℕ). IsFloor times c.args.value c.floor_short.result) c.short_steps_of.ensures (simp to_z-of_z at c.floor_short.ensures))

use Rattle.bezier_core.proofs.Prelude.{arith, rules, ◌≡◌, ◌<◌, ◌≤◌, ◌+◌, ◌-◌, ℕ, suc, pos, ◌+ℤ◌, ◌-ℤ◌, ◌*ℤ◌, FitsSigned, sym, ◌∙◌, get_or, ints, to_z-of_z, power, at, bernstein, bern, bernstein-zero, HasRoom, IsWithin, w128}
use Rattle.bezier_core.proofs.BlendLemmas.{sum_kept, bound_kept, room_left, value_below, length_bounds}
use Rattle.bezier_core.proofs.Bez.value.Goals as goal

pub lower-requires : goal.lower-requires
lower-requires g c =
    let a_fits : FitsSigned w128 c.args.a = c.ranges.a in
    let c_fits : FitsSigned w128 c.args.c = c.ranges.c in
    let bounds : (1 ≤ g.row.N) × (g.row.N ≤ 8) = length_bounds g.row.N c.requires.length in
    let room : HasRoom c.loop-last.row (c.loop-last.last - 1) c.args.c = record {
      bound = pos 32768 *ℤ power c.args.c (g.row.N - c.loop-last.last);
      values = λ k below. simp to_z-of_z at (c.loop-last.invariant.small k (omega arith));
      fits = room_left c.args.c (g.row.N - c.loop-last.last) (omega (arith, ints)) c.requires.short (omega arith);
    } in
    (omega arith, (omega arith, (simp to_z-of_z c.requires.positive, (simp to_z-of_z c.requires.within, simp to_z-of_z room))))

pub loop-last-preserved : goal.loop-last-preserved
loop-last-preserved g c =
    let a_fits : FitsSigned w128 c.args.a = c.ranges.a in
    let c_fits : FitsSigned w128 c.args.c = c.ranges.c in
    let steps : (i : ℕ) → i < c.loop-last.last - 1 → at c.lower.new.row i ≡ (c.args.c -ℤ c.args.a) *ℤ at c.loop-last.row i +ℤ c.args.a *ℤ at c.loop-last.row (i + 1) =
    simp to_z-of_z at c.lower.ensures in
    let small : (k : ℕ) → k < c.loop-last.last → IsWithin (pos 32768 *ℤ power c.args.c (g.row.N - c.loop-last.last)) (at c.loop-last.row k) =
    simp to_z-of_z at c.loop-last.invariant.small in
    let sum : bernstein (c.loop-last.last - 1) (at c.loop-last.row) c.args.a c.args.c ≡ bern c.args.self.now.b c.args.a c.args.c =
    simp to_z-of_z at c.loop-last.invariant.sum in
    let before : c.loop-last.last - 1 ≡ suc (c.loop-last.last - 1 - 1) = omega arith in
    let more : g.row.N - (c.loop-last.last - 1) ≡ suc (g.row.N - c.loop-last.last) = omega arith in
    record {
      some = omega arith;
      sum = simp to_z-of_z (sum_kept (c.loop-last.last - 1 - 1) (at c.loop-last.row) (at c.lower.new.row) c.args.a c.args.c _ (λ i below. steps i (omega arith)) (rw (← before) sum));
      small = λ k below. simp to_z-of_z (rw more (bound_kept (g.row.N - c.loop-last.last) c.args.a c.args.c _ _ (at c.lower.new.row k) c.requires.positive c.requires.within (steps k below) (small k (omega arith)) (small (k + 1) (omega arith))));
    }

pub returns : goal.returns
returns g c =
    let a_fits : FitsSigned w128 c.args.a = c.ranges.a in
    let c_fits : FitsSigned w128 c.args.c = c.ranges.c in
    let first_fits : FitsSigned w128 (get_or c.loop-last.row 0 (pos 0)) = search rules in
    let sum : bernstein (c.loop-last.last - 1) (at c.loop-last.row) c.args.a c.args.c ≡ bern c.args.self.now.b c.args.a c.args.c =
    simp to_z-of_z at c.loop-last.invariant.sum in
    let one : c.loop-last.last - 1 ≡ 0 = omega arith in
    let bounds : (1 ≤ g.row.N) × (g.row.N ≤ 8) = length_bounds g.row.N c.requires.length in
    let small : (k : ℕ) → k < c.loop-last.last → IsWithin (pos 32768 *ℤ power c.args.c (g.row.N - c.loop-last.last)) (at c.loop-last.row k) =
    simp to_z-of_z at c.loop-last.invariant.small in
    record {
      exact = simp to_z-of_z (sym (bernstein-zero (at c.loop-last.row) c.args.a c.args.c) ∙ (rw one at sum));
      below = simp to_z-of_z (value_below c.args.c (at c.loop-last.row 0) (g.row.N - c.loop-last.last) (omega (arith, ints)) c.requires.short (omega arith) (small 0 (omega arith)));
    }

use Rattle.bezier_core.proofs.Prelude.{arith, rules, ◌≡◌, ◌≤◌, ◌-◌, ◌*◌, ◌^◌, ℤ, pos, ◌*ℤ◌, sym, subst, ◌∙◌, FitsSigned, List, length, All, lit<, ints, to_z-of_z, w128, at, IsBelow, IsWithin, fact, raised_value}
use Rattle.bezier_core.proofs.BlendLemmas.{length_bounds}
use Rattle.bezier_core.proofs.EightLemmas.{below_at, eight_from_entries}
use Rattle.bezier_core.proofs.RaisedLemmas.{raised_by-small, raised_by-seven, next_matches}
use Rattle.bezier_core.proofs.CurveLemmas.{raised-level}
use Rattle.bezier_core.proofs.SizeLemmas.{raised_small}
use Rattle.bezier_core.proofs.Bez.to_eight.Goals as goal

within_of : (x : ℤ) → IsBelow (2 ^ 100) x → IsWithin (pos (2 ^ 100)) x
within_of x below = (omega (arith, ints), omega (arith, ints))

pub raise-requires-clause-values : goal.raise-requires-clause-values
raise-requires-clause-values g c k small =
    let bounds : (1 ≤ g.row.N) × (g.row.N ≤ 8) = length_bounds g.row.N c.requires.length in
    rw (c.loop-degree.invariant.values k small)
    (raised_by-small (g.row.N - 1) c.loop-degree.degree k (at c.args.self.now.b) c.loop-degree.invariant.low c.loop-degree.invariant.high small
    (λ i near. within_of _ (below_at (2 ^ 100) c.args.self.now.b i (lit< tt) c.requires.values)))

pub loop-degree-preserved : goal.loop-degree-preserved
loop-degree-preserved g c = record {
  same_length = search rules;
  low = omega arith;
  high = omega arith;
  values = λ k small. c.raise.ensures k small
      ∙ next_matches (g.row.N - 1) c.loop-degree.degree k (at c.loop-degree.row) (λ i. pos (fact (g.row.N - 1)) *ℤ at c.args.self.now.b i) c.loop-degree.invariant.low small c.loop-degree.invariant.values;
}

pub returns-then-this-eq1-clause-exact : goal.returns-then-this-eq1-clause-exact
returns-then-this-eq1-clause-exact g c =
    let len : length c.args.self.now.b ≡ g.row.N = search rules in
    let fits : FitsSigned w128 (at c.args.self.now.b 0) = search rules in
    (simp to_z-of_z at c.level.ensures) ∙ sym (raised-level c.args.self.now.b (len ∙ c.if-this-eq1.true))

pub returns-then-this-eq1-clause-small : goal.returns-then-this-eq1-clause-small
returns-then-this-eq1-clause-small g c n some below =
    let len : length c.args.self.now.b ≡ g.row.N = search rules in
    subst (λ (xs : List ℤ). All (IsBelow (5040 * n)) xs) (sym (returns-then-this-eq1-clause-exact g c))
    (raised_small n c.args.self.now.b (omega (arith, c.if-this-eq1.true)) some below)

pub returns-clause-exact : goal.returns-clause-exact
returns-clause-exact g c =
    let bounds : (1 ≤ g.row.N) × (g.row.N ≤ 8) = length_bounds g.row.N c.requires.length in
    let len : length c.args.self.now.b ≡ g.row.N = search rules in
    let top : c.loop-degree.degree ≡ 7 = omega arith in
    rw len (eight_from_entries c.loop-degree.row (raised_value (g.row.N - 1) (at c.args.self.now.b)) c.loop-degree.invariant.same_length
    (λ k small. rw top at (c.loop-degree.invariant.values k (omega arith)) ∙ raised_by-seven (g.row.N - 1) k (at c.args.self.now.b) (omega arith) (omega arith)))

pub returns-clause-small : goal.returns-clause-small
returns-clause-small g c n some below =
    let bounds : (1 ≤ g.row.N) × (g.row.N ≤ 8) = length_bounds g.row.N c.requires.length in
    let len : length c.args.self.now.b ≡ g.row.N = search rules in
    subst (λ (xs : List ℤ). All (IsBelow (5040 * n)) xs) (sym (returns-clause-exact g c)) (raised_small n c.args.self.now.b (omega arith) some below)

use Rattle.bezier_core.proofs.Prelude.{arith, rules, ◌≡◌, ◌≢◌, ◌<◌, ◌≤◌, ◌+◌, ◌-◌, ◌^◌, ℤ, pos, ◌+ℤ◌, ◌*ℤ◌, FitsSigned, sym, ◌∙◌, ap, length, get_or, get_or-set_other, get_or-set_same, below_more, to_z-of_z, at, by_lt, part_value, w128}
use Rattle.bezier_core.proofs.HalfLemmas.{row_small, row_room, row_after, left_edge, right_edge}
use Rattle.bezier_core.proofs.halves.next_row.Goals as goal

pub doubled-requires-clause-room : goal.doubled-requires-clause-room
doubled-requires-clause-room g c =
    let x_fits : FitsSigned w128 (get_or c.args.row.now 0 (pos 0)) = search rules in
    simp to_z-of_z (rw (c.requires.before.rows 0 (omega arith)) (row_room g.row.BITS g.row.K 0 c.args.b.now.b c.requires.word c.requires.place c.requires.values))

pub doubled-requires-2-clause-room : goal.doubled-requires-2-clause-room
doubled-requires-2-clause-room g c =
    let x_fits : FitsSigned w128 (get_or c.args.row.now (7 - g.row.K) (pos 0)) = search rules in
    simp to_z-of_z (rw (c.requires.before.rows (7 - g.row.K) (omega arith)) (row_room g.row.BITS g.row.K (7 - g.row.K) c.args.b.now.b c.requires.word c.requires.place c.requires.values))

pub doubled-requires-clause-value : goal.doubled-requires-clause-value
doubled-requires-clause-value g c =
    let x_fits : FitsSigned w128 (get_or c.args.row.now 0 (pos 0)) = search rules in
    simp to_z-of_z (rw (c.requires.before.rows 0 (omega arith)) (row_small g.row.BITS g.row.K 0 c.args.b.now.b c.requires.word c.requires.place c.requires.values))

pub doubled-requires-2-clause-value : goal.doubled-requires-2-clause-value
doubled-requires-2-clause-value g c =
    let x_fits : FitsSigned w128 (get_or c.args.row.now (7 - g.row.K) (pos 0)) = search rules in
    simp to_z-of_z (rw (c.requires.before.rows (7 - g.row.K) (omega arith)) (row_small g.row.BITS g.row.K (7 - g.row.K) c.args.b.now.b c.requires.word c.requires.place c.requires.values))

pub sums-requires-clause-values : goal.sums-requires-clause-values
sums-requires-clause-values g c i small =
    rw (c.requires.before.rows i (omega arith)) (row_small g.row.BITS g.row.K i c.args.b.now.b c.requires.word c.requires.place c.requires.values)

pub returns : goal.returns
returns g c =
    let x_fits : FitsSigned w128 (get_or c.args.row.now 0 (pos 0)) = search rules in
    let y_fits : FitsSigned w128 (get_or c.args.row.now (7 - g.row.K) (pos 0)) = search rules in
    let left_fits : FitsSigned w128 c.doubled.result = search rules in
    let right_fits : FitsSigned w128 c.doubled-2.result = search rules in
    let left_value : c.doubled.result ≡ part_value 1 0 (at c.args.b.now.b) g.row.K =
    (simp to_z-of_z at c.doubled.ensures) ∙ ap (λ (z : ℤ). pos (2 ^ (7 - g.row.K)) *ℤ z) (c.requires.before.rows 0 (omega arith))
    ∙ left_edge g.row.K (at c.args.b.now.b) in
    let right_value : c.doubled-2.result ≡ part_value 1 1 (at c.args.b.now.b) (7 - g.row.K) =
    (simp to_z-of_z at c.doubled-2.ensures) ∙ ap (λ (z : ℤ). pos (2 ^ (7 - g.row.K)) *ℤ z) (c.requires.before.rows (7 - g.row.K) (omega arith))
    ∙ right_edge g.row.K (at c.args.b.now.b) c.requires.place in
    let left_length : length c.args.left.now ≡ 8 = c.told-left in
    let right_length : length c.args.right.now ≡ 8 = c.told-right in
    let left_inside : g.row.K < length c.args.left.now = omega arith in
    let right_inside : 7 - g.row.K < length c.args.right.now = omega arith in
    record {
      rows = λ i small. c.sums.ensures i (omega arith) ∙ sums (c.requires.before.rows i (omega arith)) (c.requires.before.rows (i + 1) (omega arith)) ∙ sym (row_after g.row.K i (at c.args.b.now.b));
      left_half = below_more _ _
          (λ j small. let ne : j ≢ g.row.K = omega arith in rw get_or-set_other (c.requires.before.left_half j small))
          (rw get_or-set_same (simp to_z-of_z left_value));
      right_half = λ j high low. by_lt (7 - g.row.K) j
          (λ (later : 7 - g.row.K < j). let ne : j ≢ 7 - g.row.K = omega arith in rw get_or-set_other (c.requires.before.right_half j (omega arith) low))
          (λ (here : j ≤ 7 - g.row.K). let e : j ≡ 7 - g.row.K = omega arith in rw (e, get_or-set_same) (simp to_z-of_z right_value));
    }
  where
    sums : {x y z w : ℤ} → x ≡ y → z ≡ w → x +ℤ z ≡ y +ℤ w
    sums {x} {y} {z} {w} p q = cc

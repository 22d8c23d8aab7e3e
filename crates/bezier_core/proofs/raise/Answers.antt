use Rattle.bezier_core.proofs.Prelude.{common_steps, arith, rules, ◌≡◌, ◌≢◌, ◌<◌, ◌≤◌, ◌+◌, ◌-◌, ℕ, ℤ, pos, ◌+ℤ◌, ◌*ℤ◌, FitsSigned, ◌∙◌, set, to_z, of_z, length, get_or, get_or-set_other, get_or-set_same, length-set, to_z-of_z, at, by_lt, w128}
use Rattle.bezier_core.proofs.raise.Goals as goal

top : (d k : ℕ) (f : ℕ → ℤ) (r : ℤ) → k ≡ d + 1 → r ≡ pos (d + 1) *ℤ f d +ℤ pos 0 → r ≡ pos k *ℤ f (k - 1) +ℤ pos (d + 1 - k) *ℤ f k
top d k f r e value = grind (arith, common_steps)

pub loop-k-init : goal.loop-k-init
loop-k-init c = grind (arith, common_steps, pos, to_z-of_z, length-set, set, to_z, of_z, get_or-set_same, top, get_or-set_other)

pub loop-k-preserved : goal.loop-k-preserved
loop-k-preserved c =
    let result_fits : FitsSigned w128 c.combine-in-loop-k.result = search rules in
    let x_fits : FitsSigned w128 (get_or c.loop-k.row (c.loop-k.k - 1 - 1) (pos 0)) = search rules in
    let y_fits : FitsSigned w128 (get_or c.loop-k.row (c.loop-k.k - 1) (pos 0)) = search rules in
    let x_is : get_or c.loop-k.row (c.loop-k.k - 1 - 1) (pos 0) ≡ at c.args.row.now (c.loop-k.k - 1 - 1) = c.loop-k.invariant.left (c.loop-k.k - 1 - 1) (omega arith) in
    let y_is : get_or c.loop-k.row (c.loop-k.k - 1) (pos 0) ≡ at c.args.row.now (c.loop-k.k - 1) = c.loop-k.invariant.left (c.loop-k.k - 1) (omega arith) in
    let value : c.combine-in-loop-k.result ≡ pos (c.loop-k.k - 1) *ℤ at c.args.row.now (c.loop-k.k - 1 - 1) +ℤ pos (c.args.degree + 1 - (c.loop-k.k - 1)) *ℤ at c.args.row.now (c.loop-k.k - 1) =
    simp (x_is, y_is) at (simp to_z-of_z at c.combine-in-loop-k.ensures) in
    let inside : c.loop-k.k - 1 < length c.loop-k.row = omega arith in
    record {
      same_length = length-set c.loop-k.row (c.loop-k.k - 1) _ ∙ c.loop-k.invariant.same_length;
      some = omega arith;
      done = λ k above within. by_lt (c.loop-k.k - 1) k
          (λ (later : c.loop-k.k - 1 < k). let ne : k ≢ c.loop-k.k - 1 = omega arith in rw get_or-set_other (c.loop-k.invariant.done k (omega arith) within))
          (λ (here : k ≤ c.loop-k.k - 1). let e : k ≡ c.loop-k.k - 1 = omega arith in rw (e, get_or-set_same) (simp to_z-of_z value));
      left = λ k below. let ne : k ≢ c.loop-k.k - 1 = omega arith in rw get_or-set_other (c.loop-k.invariant.left k (omega arith));
    }

bottom : (d : ℕ) (f : ℕ → ℤ) (r : ℤ) → r ≡ pos 0 *ℤ f 0 +ℤ pos (d + 1) *ℤ f 0 → r ≡ pos 0 *ℤ f (0 - 1) +ℤ pos (d + 1 - 0) *ℤ f 0
bottom d f r value = let all : d + 1 - 0 ≡ d + 1 = omega arith in rw all value

pub returns : goal.returns
returns c k within = grind (arith, common_steps, pos, to_z-of_z, by_lt, get_or-set_other, get_or-set_same, bottom)

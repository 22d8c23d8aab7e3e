use Rattle.sep_parts.proofs.Prelude.{rules, ◌≡◌, ℕ, ◌≤◌, List, ℤ, length, take, map, arith, sym, ◌∙◌, ap, take_all, threshold}
use Rattle.sep_parts.proofs.Limits.{thresholds_small}
use Rattle.sep_parts.proofs.directions.thresholds.Goals as goal

whole : (f : List ℤ → ℤ) (m k : ℕ) (xs : List ℤ) (ys : List (List ℤ)) → length xs ≡ m → length ys ≡ m → m ≤ k → take k xs ≡ map f (take k ys) → xs ≡ map f ys
whole f m k xs ys xs_len ys_len far done =
    sym (take_all k xs (omega arith)) ∙ done ∙ ap (λ (zs : List (List ℤ)). map f zs) (take_all k ys (omega arith))

pub returns : goal.returns
returns g c =
    let len : length c.args.dirs.now.n ≡ g.row.M = search rules in
    let done : c.loop-k.values ≡ map (threshold c.args.clearance) c.args.dirs.now.n =
    whole (threshold c.args.clearance) g.row.M c.loop-k.k c.loop-k.values c.args.dirs.now.n c.loop-k.invariant.same_length len (omega arith) c.loop-k.invariant.done in
    record {
      exact = done;
      small = thresholds_small c.args.clearance c.loop-k.values c.args.dirs.now.n c.requires.clearance c.requires.entries done;
    }

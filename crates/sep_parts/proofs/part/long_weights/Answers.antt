use Rattle.sep_parts.proofs.Prelude.{◌≡◌, ℕ, ℤ, List, [], ◌∷◌, All, arith, ints, ap, sym, ◌∙◌, subst, lit<, FitsSigned, to_z, of_z, to_z-of_z, w64, w128, IsBelow, at, below_at, weights}
use Rattle.sep_parts.proofs.NarrowLemmas.{narrow_weight_fits}
use Rattle.sep_parts.proofs.part.long_weights.Goals as goal

-- a weight in 64 bits is the same in 128
same : (w v : List ℤ) (i : ℕ) (x : ℤ) → w ≡ v → All (IsBelow 4001) w → x ≡ to_z w64 (of_z w64 (at w i)) → to_z w128 (of_z w128 x) ≡ at v i
same w v i x equal small is =
    let below : IsBelow 4001 (at w i) = below_at 4001 w i (lit< tt) small in
    let long : FitsSigned w128 (at w i) = omega (arith, ints, below) in
    let short : x ≡ at w i = is ∙ to_z-of_z w64 (at w i) (narrow_weight_fits (at w i) below) in
    ap (λ (z : ℤ). to_z w128 (of_z w128 z)) short ∙ to_z-of_z w128 (at w i) long ∙ ap (λ (u : List ℤ). at u i) equal

pub returns-clause-exact : goal.returns-clause-exact
returns-clause-exact c =
    let v : List ℤ = weights c.args.n c.args.r c.args.h in
    three (same c.weights-w.result v 0 c.from.result c.weights-w.ensures.exact c.weights-w.ensures.small c.from.ensures)
    (same c.weights-w.result v 1 c.from-2.result c.weights-w.ensures.exact c.weights-w.ensures.small c.from-2.ensures)
    (same c.weights-w.result v 2 c.from-3.result c.weights-w.ensures.exact c.weights-w.ensures.small c.from-3.ensures)
  where
    three : {x y z a b c : ℤ} → x ≡ a → y ≡ b → z ≡ c → x ∷ y ∷ z ∷ [] ≡ a ∷ b ∷ c ∷ []
    three {x} {y} {z} {a} {b} {c} p q r = cc

pub returns-clause-small : goal.returns-clause-small
returns-clause-small c = subst (All (IsBelow 4001)) (c.weights-w.ensures.exact ∙ sym (returns-clause-exact c)) c.weights-w.ensures.small

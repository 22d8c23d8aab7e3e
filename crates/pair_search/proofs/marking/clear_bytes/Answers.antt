use Rattle.pair_search.proofs.Prelude.{◌≡◌, ℕ, zero, suc, ◌+◌, List, cond, leb, length, get_or, map, ap, subst, ◌∙◌, arith, rules, w8, bit_at, mask_l, chunk, length-chunk, get_or-chunk, bit_mask_l, bitmask_splat, get_or-map, get_or_default}
use Rattle.pair_search.proofs.marking.clear_bytes.Goals as goal

set : (x bit : ℕ) → bit ≡ cond {A = ℕ} (leb x 0) 1 0 → x ≡ 0 → bit ≡ 0 → ⊥
set zero bit e is none = omega (arith, e, none)
set (suc x) bit e is none = omega (arith, is)

pub returns : goal.returns
returns c = λ k inside clear is.
    let v : List ℕ = chunk 0 64 c.args.bytes.now in
    let long : length c.args.bytes.now ≡ 64 = search rules in
    let e : bit_at (mask_l (map (λ x. leb x 0) v)) k ≡ cond (leb (get_or v k 33) 0) 1 0 = bit_mask_l (map (λ x. leb x 0) v) k ∙ ap (λ b. cond b 1 0) (get_or-map (λ x. leb x 0) v k 33) in
    let none : 0 + k ≡ k = omega arith in
    let same : get_or v k 33 ≡ get_or c.args.bytes.now k 0 = get_or-chunk 0 64 c.args.bytes.now k 33 inside ∙ ap (λ (j : ℕ). get_or c.args.bytes.now j 33) none ∙ get_or_default c.args.bytes.now k 33 0 (omega (arith, long, inside)) in
    set (get_or v k 33) _ e (same ∙ is)
    (subst (λ m. bit_at m k ≡ 0) (bitmask_splat w8 leb v 64 0 (length-chunk 0 64 c.args.bytes.now (omega (arith, long))) (omega arith)) clear)

use Rattle.text_lines.proofs.Prelude.{◌≡◌, ◌↔◌, ℕ, ◌+◌, ◌<◌, ◌≤◌, List, Bool, true, false, cond, leb, length, get_or, map, refl, sym, ap, subst, ◌∙◌, arith, w8, ⊎_elim, bit_at, leb-true, leb-false, cases_lt, get_or_past, get_or_default}
use Rattle.std.specs.Simd.Lanes.{mask_l, chunk}
use Rattle.std.proofs.lemmas.Simd.{length-chunk, get_or-chunk, bit_mask_l, bitmask_splat}
use Rattle.std.proofs.Math.ListN.{get_or-map}
use Rattle.text_lines.proofs.marks.low_bytes.Goals as goal

set_tells : (x : ℕ) (b : Bool) → leb x 32 ≡ b → (cond {A = ℕ} b 1 0 ≡ 1) ↔ (x ≤ 32)
set_tells x true e = (λ h. leb-true x 32 e, λ h. refl)
set_tells x false e = (λ h. absurd (omega arith), λ h. omega (arith, leb-false x 32 e))

bit_low : (v : List ℕ) (k : ℕ) → (bit_at (mask_l (map (λ x. leb x 32) v)) k ≡ 1) ↔ (get_or v k 33 ≤ 32)
bit_low v k =
    let e : bit_at (mask_l (map (λ x. leb x 32) v)) k ≡ cond (leb (get_or v k 33) 32) 1 0 = bit_mask_l (map (λ x. leb x 32) v) k ∙ ap (λ b. cond b 1 0) (get_or-map (λ x. leb x 32) v k 33) in
    let t = set_tells (get_or v k 33) _ refl in
    (λ h. t.0 (sym e ∙ h), λ h. e ∙ t.1 h)

placed : (xs : List ℕ) (at k : ℕ) → at + 16 ≤ length xs → (get_or (chunk at 16 xs) k 33 ≤ 32) ↔ ((k < 16) × (get_or xs (at + k) 0 ≤ 32))
placed xs at k room =
    ⊎_elim
    (λ lt.
    let same : get_or (chunk at 16 xs) k 33 ≡ get_or xs (at + k) 0 = get_or-chunk at 16 xs k 33 lt ∙ get_or_default xs (at + k) 33 0 (omega arith) in
    (λ h. (lt, omega (arith, same)), λ h. omega (arith, same, h.1)))
    (λ ge.
    let past : get_or (chunk at 16 xs) k 33 ≡ 33 = get_or_past (chunk at 16 xs) k 33 (omega (arith, length-chunk at 16 xs room)) in
    (λ h. absurd (omega (arith, past)), λ h. absurd (omega (arith, h.0))))
    (cases_lt k 16)

pub returns : goal.returns
returns c k =
    let v = chunk c.args.at 16 c.args.bytes.now in
    subst (λ m. (bit_at m k ≡ 1) ↔ ((k < 16) × (get_or c.args.bytes.now (c.args.at + k) 0 ≤ 32)))
    (sym (bitmask_splat w8 leb v 16 32 (length-chunk c.args.at 16 c.args.bytes.now c.requires) (omega arith)))
    (λ h. (placed c.args.bytes.now c.args.at k c.requires).0 ((bit_low v k).0 h), λ h. (bit_low v k).1 ((placed c.args.bytes.now c.args.at k c.requires).1 h))

-- One line more of a certificate text.
use Rattle.sep_certificate.proofs.Prelude.{◌≡◌, ℕ, zero, suc, ◌-◌, ◌≤◌, ◌<◌, Bool, true, false, ◌&&◌, nat_le, slice_index, arith, refl, List, bytes_eq, nat_tests, depth_line, is_depth_line}
use Rattle.std.proofs.lemmas.Slice.Eq.{bytes_eq-Decides}

-- the first line of each depth passes
pub header_told : (depth : ℕ) → depth ≤ 8 → is_depth_line (depth_line depth) ≡ true
header_told zero small = refl
header_told (suc zero) small = refl
header_told (suc (suc zero)) small = refl
header_told (suc (suc (suc zero))) small = refl
header_told (suc (suc (suc (suc zero)))) small = refl
header_told (suc (suc (suc (suc (suc zero))))) small = refl
header_told (suc (suc (suc (suc (suc (suc zero)))))) small = refl
header_told (suc (suc (suc (suc (suc (suc (suc zero))))))) small = refl
header_told (suc (suc (suc (suc (suc (suc (suc (suc zero)))))))) small = refl
header_told (suc (suc (suc (suc (suc (suc (suc (suc (suc depth))))))))) small = absurd (omega arith)

-- bytes that pass the test are the same
pub same_told : (xs ys : List ℕ) → bytes_eq xs ys ≡ true → xs ≡ ys
same_told xs ys e = (bytes_eq-Decides xs ys).0 e

-- a first line is that of some depth
pub header_from : (line : List ℕ) → is_depth_line line ≡ true → (depth : ℕ) × (depth ≤ 8) × (line ≡ depth_line depth)
header_from line e =
    go (nat_le 48 (slice_index line 12)) (nat_le (slice_index line 12) 56) (bytes_eq line (depth_line (slice_index line 12 - 48))) refl refl refl e
  where
    go : (s t u : Bool) → nat_le 48 (slice_index line 12) ≡ s → nat_le (slice_index line 12) 56 ≡ t → bytes_eq line (depth_line (slice_index line 12 - 48)) ≡ u →
        (s && t && u) ≡ true → (depth : ℕ) × (depth ≤ 8) × (line ≡ depth_line depth)
    go true true true p q r e = (slice_index line 12 - 48, grind (arith, nat_tests), same_told line (depth_line (slice_index line 12 - 48)) r)
    go true true false p q r e = cc
    go true false u p q r e = cc
    go false t u p q r e = cc

pub no_header : (line : List ℕ) → ((k : ℕ) → k < 9 → line ≡ depth_line k → ⊥) → is_depth_line line ≡ false
no_header line none = go (is_depth_line line) refl
  where
    go : (b : Bool) → is_depth_line line ≡ b → b ≡ false
    go false e = refl
    go true e = let found = header_from line e in absurd (none found.0 (omega (arith, found.1)) found.2)

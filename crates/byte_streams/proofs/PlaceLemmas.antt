-- What one byte of a template gives.
use Rattle.byte_streams.proofs.Prelude.{◌≡◌, ℕ, List, [], ◌∷◌, length, map, false, eqb, refl, arith, ne_eqb, filled, word_bytes}
use Rattle.byte_streams.specs.declared.words.Word.{Word}

-- with no words left, the byte
pub filled_all : (byte : ℕ) (rest : List ℕ) (words : List Word) → length words ≡ 0 → filled (byte ∷ rest) (map word_bytes words) ≡ byte ∷ filled rest (map word_bytes words)
filled_all byte [] [] none = refl
filled_all byte (next ∷ rest) [] none = refl
filled_all byte rest (word ∷ words) none = absurd (omega (arith, none))

-- at no place, the byte
pub filled_byte : (byte : ℕ) (rest : List ℕ) (words : List Word) → (byte ≡ 63 → ⊥) → filled (byte ∷ rest) (map word_bytes words) ≡ byte ∷ filled rest (map word_bytes words)
filled_byte byte rest [] other = filled_all byte rest [] refl
filled_byte byte rest (word ∷ words) other = let plain : eqb byte 63 ≡ false = ne_eqb byte 63 other in rw (plain, filled) refl

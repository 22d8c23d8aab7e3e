-- What is read of a word as a number is that number, and the other way round.
use Rattle.text_lines.proofs.Prelude.{◌≡◌, ℕ, Bool, true, false, List, Option, Some, None, Ok, Err, refl, ap, ◌∙◌, cond, T, ◌&&◌, ℤ, ◌≤ℤ◌, int_le, and_parts, number_of, IsNumber, in_range, number_in}
use Rattle.text_lines.specs.declared.number.NumberFault.TheVariants.{OutOfRange}

true_of : (b : Bool) → T b → b ≡ true
true_of true h = refl
true_of false h = absurd h

passes : (a b : Bool) (v : ℤ) → a ≡ true → b ≡ true → cond (a && b) (Ok v) (Err OutOfRange) ≡ Ok v
passes a b v p q = ap (λ x. cond (x && b) (Ok v) (Err OutOfRange)) p ∙ ap (λ x. cond x (Ok v) (Err OutOfRange)) q

-- a number in its range is read
pub number_is_read : (low high : ℤ) (word : List ℕ) (v : ℤ) → IsNumber low high word v → number_in low high word ≡ Ok v
number_is_read low high word v h =
    ap (in_range low high) h.is ∙ passes (int_le low v) (int_le v high) v (true_of (int_le low v) h.from.le) (true_of (int_le v high) h.to.le)

in_range_by : (b : Bool) (low high z v : ℤ) → (int_le low z && int_le z high) ≡ b → cond b (Ok z) (Err OutOfRange) ≡ Ok v → (z ≡ v) × (low ≤ℤ z) × (z ≤ℤ high)
in_range_by true low high z v test e =
    let p = and_parts (int_le low z) (int_le z high) test in
    (cc, record { le = rw p.0 tt }, record { le = rw p.1 tt })
in_range_by false low high z v test e = cc

range_back : (o : Option ℤ) (low high v : ℤ) (word : List ℕ) → number_of word ≡ o → in_range low high o ≡ Ok v → IsNumber low high word v
range_back None low high v word is e = cc
range_back (Some z) low high v word is e =
    let (same, above, below) = in_range_by (int_le low z && int_le z high) low high z v refl e in
    rw (← same) (record { is = is; from = above; to = below })

-- what is read is a number in its range
pub read_is_number : (low high : ℤ) (word : List ℕ) (v : ℤ) → number_in low high word ≡ Ok v → IsNumber low high word v
read_is_number low high word v e = range_back (number_of word) low high v word refl e

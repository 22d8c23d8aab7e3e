-- A quantity in its range is read, and what is read is one.
use Rattle.choreo_lines.proofs.Prelude.{◌≡◌, ℕ, ℤ, Bool, true, false, cond, List, Option, Some, None, Ok, Err, refl, ap, ◌∙◌, T, ◌&&◌, ◌≤ℤ◌, int_le, and_parts, in_range, IsQuantity, IsQuantityIn, quantity_of, quantity_in, OutOfRange, Counts}
use Rattle.choreo_lines.proofs.Written.{quantity_is_found}
use Rattle.choreo_lines.proofs.Found.{found_is_quantity}

same_value : (o : Option ℤ) (value other : ℤ) → o ≡ Some value → o ≡ Some other → value ≡ other
same_value o value other first second = cc

-- a word is one value at most
pub one_quantity : (counts : Counts) (word : List ℕ) (value other : ℤ) → IsQuantity counts word value → IsQuantity counts word other → value ≡ other
one_quantity counts word value other first second =
    same_value (quantity_of counts word) value other (quantity_is_found counts word value first) (quantity_is_found counts word other second)

true_of : (b : Bool) → T b → b ≡ true
true_of true h = refl
true_of false h = absurd h

passes : (a b : Bool) (v : ℤ) → a ≡ true → b ≡ true → cond (a && b) (Ok v) (Err OutOfRange) ≡ Ok v
passes a b v p q = ap (λ x. cond (x && b) (Ok v) (Err OutOfRange)) p ∙ ap (λ x. cond x (Ok v) (Err OutOfRange)) q

-- a quantity in its range is read
pub quantity_is_read : (counts : Counts) (low high : ℤ) (word : List ℕ) (v : ℤ) → IsQuantityIn counts low high word v → quantity_in counts low high word ≡ Ok v
quantity_is_read counts low high word v h =
    ap (in_range low high) (quantity_is_found counts word v h.is)
    ∙ passes (int_le low v) (int_le v high) v (true_of (int_le low v) h.from.le) (true_of (int_le v high) h.to.le)

in_range_by : (b : Bool) (low high z v : ℤ) → (int_le low z && int_le z high) ≡ b → cond b (Ok z) (Err OutOfRange) ≡ Ok v → (z ≡ v) × (low ≤ℤ z) × (z ≤ℤ high)
in_range_by true low high z v test e =
    let p = and_parts (int_le low z) (int_le z high) test in
    (cc, record { le = rw p.0 tt }, record { le = rw p.1 tt })
in_range_by false low high z v test e = cc

range_back : (o : Option ℤ) (counts : Counts) (low high v : ℤ) (word : List ℕ) → quantity_of counts word ≡ o → in_range low high o ≡ Ok v → IsQuantityIn counts low high word v
range_back None counts low high v word is e = cc
range_back (Some z) counts low high v word is e =
    let (same, above, below) = in_range_by (int_le low z && int_le z high) low high z v refl e in
    rw (← same) (record { is = found_is_quantity counts word z is; from = above; to = below })

-- what is read is a quantity in its range
pub read_is_quantity : (counts : Counts) (low high : ℤ) (word : List ℕ) (v : ℤ) → quantity_in counts low high word ≡ Ok v → IsQuantityIn counts low high word v
read_is_quantity counts low high word v e = range_back (quantity_of counts word) counts low high v word refl e

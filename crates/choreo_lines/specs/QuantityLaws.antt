-- What holds of all words.
use Rattle.std.specs.Prelude.{◌≡◌, ◌↔◌, ℕ, List, Some, Ok, ℤ}
use Rattle.choreo_lines.specs.declared.unit.Counts.{Counts}
use Rattle.choreo_lines.specs.Quantities.{IsQuantity, IsQuantityIn, quantity_of, quantity_in}

-- A word is one value at most in a place, and it is the one that the function gives; it is read where it is in range.
pub record QuantityLaw : Type 0 where
  pub one : (counts : Counts) (word : List ℕ) (value other : ℤ)
      → IsQuantity counts word value → IsQuantity counts word other → value ≡ other
  pub found : (counts : Counts) (word : List ℕ) (value : ℤ)
      → IsQuantity counts word value ↔ (quantity_of counts word ≡ Some value)
  pub within : (counts : Counts) (low high : ℤ) (word : List ℕ) (value : ℤ)
      → IsQuantityIn counts low high word value ↔ (quantity_in counts low high word ≡ Ok value)

-- What was so before.
use Rattle.byte_streams.proofs.Prelude.{◌≡◌, Bool, true, false, refl, IsTrue}

-- what would have stayed so wasn't so
pub unless : (a b : Bool) → (IsTrue a → IsTrue b) → b ≡ false → a ≡ false
unless true true stays off = absurd (cc)
unless true false stays off = absurd (let is : false ≡ true = stays refl in cc)
unless false b stays off = refl

-- What was taken adds up.
use Rattle.byte_streams.proofs.Prelude.{TakesFront, List, [], ◌++◌, ℕ, Option, Some, None, refl, sym, ap, ◌∙◌, append_assoc, Consumes}

-- what two reads took was taken in their order
pub Consumes-append : (a b c : Option (List ℕ)) (xs ys : List ℕ) → Consumes a b xs → Consumes b c ys → Consumes a c (xs ++ ys)
Consumes-append None b c xs ys p q = tt
Consumes-append (Some a) None c xs ys p q = absurd p
Consumes-append (Some a) (Some b) None xs ys p q = absurd q
Consumes-append (Some a) (Some b) (Some c) xs ys p q = p ∙ ap (λ (z : List ℕ). xs ++ z) q ∙ sym (append_assoc xs ys c)

-- no bytes were taken
pub Consumes-nil : (a : Option (List ℕ)) → Consumes a a []
Consumes-nil None = tt
Consumes-nil (Some a) = refl

-- two fronts that were taken, one after the other, are a front
pub TakesFront-trans : (a b c : Option (List ℕ)) → TakesFront a b → TakesFront b c → TakesFront a c
TakesFront-trans a b c p q = (p.0 ++ q.0, Consumes-append a b c p.0 q.0 p.1 q.1)

-- taking nothing takes a front
pub TakesFront-none : (a : Option (List ℕ)) → TakesFront a a
TakesFront-none a = ([], Consumes-nil a)

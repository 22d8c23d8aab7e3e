-- What has gone out of a list of bytes.
use Rattle.byte_streams.proofs.Prelude.{◌≡◌, ℕ, List, ◌++◌, take, drop, Option, Some, None, sym, ap, ◌∙◌, append_assoc, Appends, take-append-drop}

-- these bytes less the rest went out
abbrev pub HasSent : Option (List ℕ) → Option (List ℕ) → List ℕ → List ℕ → Type 0
HasSent old new bytes rest = (sent : List ℕ) × (bytes ≡ sent ++ rest) × Appends old new sent

-- what went out in two writes went out in their order
pub Appends-append : (a b c : Option (List ℕ)) (xs ys : List ℕ) → Appends a b xs → Appends b c ys → Appends a c (xs ++ ys)
Appends-append None b c xs ys p q = tt
Appends-append (Some a) None c xs ys p q = absurd p
Appends-append (Some a) (Some b) None xs ys p q = absurd q
Appends-append (Some a) (Some b) (Some c) xs ys p q = q ∙ ap (λ (z : List ℕ). z ++ ys) p ∙ append_assoc a xs ys

-- what a write takes is no longer in the rest
pub HasSent-more : (a b c : Option (List ℕ)) (bytes rest : List ℕ) (n : ℕ) → HasSent a b bytes rest → Appends b c (take n rest) → HasSent a c bytes (drop n rest)
HasSent-more a b c bytes rest n p q = (
  p.0 ++ take n rest,
  p.1 ∙ ap (λ (z : List ℕ). p.0 ++ z) (sym (take-append-drop n rest)) ∙ sym (append_assoc p.0 (take n rest) (drop n rest)),
  Appends-append a b c p.0 (take n rest) p.2 q,
)

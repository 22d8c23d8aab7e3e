-- Lines of joined texts.
use Rattle.byte_streams.proofs.Prelude.{common_steps, ◌≡◌, ℕ, Bool, cond, List, [], ◌∷◌, ◌++◌, refl, sym, ap, ◌∙◌, arith, slice_split, onto_first}

-- the last line of one text goes on with the first of another
abbrev pub meet : List (List ℕ) → List (List ℕ) → List (List ℕ)
meet [] ms = ms
meet (l ∷ []) [] = l ∷ []
meet (l ∷ []) (m ∷ ms) = (l ++ m) ∷ ms
meet (l ∷ k ∷ ls) ms = l ∷ meet (k ∷ ls) ms

-- a list with something in it
pub record IsFull (ls : List (List ℕ)) : Type 0 where
  pub first : List ℕ
  pub others : List (List ℕ)
  pub is : ls ≡ first ∷ others

-- a list whose first line got a byte has a first line
IsFull-onto : (x : ℕ) (ls : List (List ℕ)) → IsFull (onto_first x ls)
IsFull-onto x [] = record { first = x ∷ []; others = []; is = refl }
IsFull-onto x (l ∷ ls) = record { first = x ∷ l; others = ls; is = refl }

-- a text has a first line
pub IsFull-split : (p : ℕ → Bool) (xs : List ℕ) → IsFull (slice_split p xs)
IsFull-split p [] = record { first = []; others = []; is = refl }
IsFull-split p (x ∷ xs) = grind (arith, common_steps, cond, IsFull-onto)

-- a whole line in front stays in front
meet-cons : (l : List ℕ) (ls ms : List (List ℕ)) → IsFull ls → meet (l ∷ ls) ms ≡ l ∷ meet ls ms
meet-cons l [] ms full = absurd (let e = full.is in cc)
meet-cons l (k ∷ ls) ms full = refl

-- a byte before the first line is a byte before the first line of both
meet-onto : (x : ℕ) (ls ms : List (List ℕ)) → IsFull ls → IsFull ms → onto_first x (meet ls ms) ≡ meet (onto_first x ls) ms
meet-onto x [] ms full other = absurd (let e = full.is in cc)
meet-onto x (l ∷ []) [] full other = absurd (let e = other.is in cc)
meet-onto x (l ∷ []) (m ∷ ms) full other = refl
meet-onto x (l ∷ k ∷ ls) ms full other = refl

-- an empty line in front adds nothing
meet-nil : (ms : List (List ℕ)) → IsFull ms → meet ([] ∷ []) ms ≡ ms
meet-nil [] full = absurd (let e = full.is in cc)
meet-nil (m ∷ ms) full = refl

-- the lines of joined texts are those of both, with the last line of one joined to the first of the other
pub split-append : (p : ℕ → Bool) (xs ys : List ℕ) → slice_split p (xs ++ ys) ≡ meet (slice_split p xs) (slice_split p ys)
split-append p [] ys = sym (meet-nil (slice_split p ys) (IsFull-split p ys))
split-append p (x ∷ xs) ys =
    let more = split-append p xs ys in
    grind (arith, common_steps, cond, meet, meet-cons, IsFull-split, meet-onto)

-- a list with a line at its end has a first line
IsFull-push : (ls : List (List ℕ)) (l : List ℕ) → IsFull (ls ++ l ∷ [])
IsFull-push [] l = record { first = l; others = []; is = refl }
IsFull-push (k ∷ ls) l = record { first = k; others = ls ++ l ∷ []; is = refl }

-- only the last line meets what follows
pub meet-push : (ls : List (List ℕ)) (l m : List ℕ) (ms : List (List ℕ)) → meet (ls ++ l ∷ []) (m ∷ ms) ≡ ls ++ (l ++ m) ∷ ms
meet-push [] l m ms = refl
meet-push (k ∷ ls) l m ms = meet-cons k (ls ++ l ∷ []) (m ∷ ms) (IsFull-push ls l) ∙ ap (λ (rest : List (List ℕ)). k ∷ rest) (meet-push ls l m ms)

-- the lines of a text that goes on
pub split-goes_on : (p : ℕ → Bool) (xs ys : List ℕ) (done : List (List ℕ)) (l m : List ℕ) (ms : List (List ℕ)) → slice_split p xs ≡ done ++ l ∷ [] → slice_split p ys ≡ m ∷ ms → slice_split p (xs ++ ys) ≡ done ++ (l ++ m) ∷ ms
split-goes_on p xs ys done l m ms before after = split-append p xs ys ∙ rw (before, after) (meet-push done l m ms)

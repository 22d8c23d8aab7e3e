-- What a source in memory gives, and what a sink in memory keeps.
use Rattle.byte_streams.proofs.Prelude.{common_steps, ◌≡◌, eqb, eqb-true, true, refl, Some, Ok, IsTrue, Told, Reads, ◌∷◌, ℕ, ◌+◌, ◌-◌, ◌<◌, ◌≤◌, min, List, [], ◌++◌, length, take, drop, sym, ap, ◌∙◌, arith, take-append-add, take_at, take_min, take-append-drop, drop-drop, drop_all, length-drop, length-take, length-append}

-- the bytes that are copied are a prefix of what is left, and none only at the end
pub gives : (bytes from buf to : List ℕ) (at cut n : ℕ) → from ≡ drop at bytes → 1 ≤ cut → n ≡ min (min (length from) cut) (length buf) → to ≡ take n from ++ drop n buf
    → (drop at bytes ≡ take n to ++ drop (at + n) bytes) × (n ≡ 0 → 0 < length to → drop (at + n) bytes ≡ [])
gives bytes from buf to at cut n front some count made =
    let given : take n to ≡ take n from = rw made (take_at (take n from) (drop n buf) n (omega (arith, length-take n from))) in
    let left : drop (at + n) bytes ≡ drop n from = rw front (sym (drop-drop n at bytes)) in
    let total : length to ≡ length buf = rw made (omega (arith, length-append (take n from) (drop n buf), length-take n from, length-drop n buf)) in
    grind (arith, common_steps, take-append-drop, drop_all)

-- a sink keeps of all that was written as much as it has room for
pub keeps : (kept bytes : List ℕ) (room n : ℕ) → length kept ≤ room → n ≡ min (length bytes) (room - length kept) → kept ++ take n bytes ≡ take room (kept ++ bytes)
keeps kept bytes room n within is =
    let count : n ≡ min (room - length kept) (length bytes) = omega (arith, is) in
    let all : length kept + (room - length kept) ≡ room = omega (arith, within) in
    ap (λ (xs : List ℕ). kept ++ xs) (ap (λ (k : ℕ). take k bytes) count ∙ take_min (room - length kept) bytes)
    ∙ sym (take-append-add kept bytes (room - length kept)) ∙ ap (λ (k : ℕ). take k (kept ++ bytes)) all

-- what was given before, and what is given next
pub given_on : (bytes : List ℕ) (at n : ℕ) → at ≤ length bytes → take (at + n) bytes ≡ take at bytes ++ take n (drop at bytes)
given_on bytes at n within =
    let size : length (take at bytes) ≡ at = omega (arith, length-take at bytes, within) in
    ap (take (at + n)) (sym (take-append-drop at bytes)) ∙ ap (λ (k : ℕ). take (k + n) (take at bytes ++ drop at bytes)) (sym size) ∙ take-append-add (take at bytes) (drop at bytes) n

-- what was given before, and the bytes that are copied
gave_on : (bytes from buf to : List ℕ) (at cut n : ℕ) → from ≡ drop at bytes → n ≡ min (min (length from) cut) (length buf) → to ≡ take n from ++ drop n buf → at ≤ length bytes
    → take (at + n) bytes ≡ take at bytes ++ take n to
gave_on bytes from buf to at cut n front count made within =
    let given : take n to ≡ take n from = rw made (take_at (take n from) (drop n buf) n (omega (arith, length-take n from))) in
    given_on bytes at n within ∙ ap (λ (xs : List ℕ). take at bytes ++ take n xs) (sym front) ∙ ap (λ (xs : List ℕ). take at bytes ++ xs) (sym given)

-- no bytes are left
pub empty : (xs : List ℕ) → eqb (length xs) 0 ≡ true → xs ≡ []
empty [] is = refl
empty (x ∷ xs) is = absurd (omega (arith, eqb-true (length (x ∷ xs)) 0 is))

no_more : (n : ℕ) (buf rest : List ℕ) → (n ≡ 0 → 0 < length buf → rest ≡ []) → n ≡ 0 → 0 < length buf → IsTrue (eqb (length rest) 0)
no_more n buf rest end is some = rw (end is some) refl

-- a source over memory, of which this many bytes were given
abbrev pub told_at : List ℕ → ℕ → ℕ → Told
told_at bytes at faults = record { given = take at bytes; ended = eqb (length (drop at bytes)) 0; left = Some (drop at bytes); faults = faults }

-- it reads
pub Reads-copied : {E : Type 0} (bytes from buf to : List ℕ) (at cut n faults : ℕ) → from ≡ drop at bytes → at ≤ length bytes → 1 ≤ cut → n ≡ min (min (length from) cut) (length buf) → to ≡ take n from ++ drop n buf
    → Reads {E = E} (told_at bytes at faults) (told_at bytes (at + n) faults) (Ok n) to
Reads-copied bytes from buf to at cut n faults front within some count made =
    let both = gives bytes from buf to at cut n front some count made in
    record {
      given = gave_on bytes from buf to at cut n front count made within;
      left = both.0;
      ended = no_more n to (drop (at + n) bytes) both.1;
      at_end = empty (drop (at + n) bytes);
      later = omega arith;
      failed = tt;
    }

-- a source that gives all that a call has room for
pub sure_on : (bytes : List ℕ) (at n most : ℕ) → at ≤ length bytes → n ≡ min (length (drop at bytes)) most
    → (take (at + n) bytes ≡ take at bytes ++ take most (drop at bytes)) × (drop (at + n) bytes ≡ drop most (drop at bytes))
sure_on bytes at n most within count = (
  given_on bytes at n within ∙ ap (λ (xs : List ℕ). take at bytes ++ xs) (ap (λ (k : ℕ). take k (drop at bytes)) (count ∙ omega arith) ∙ take_min most (drop at bytes)),
  grind (arith, common_steps, drop, drop-drop, drop_all, length-drop),
)

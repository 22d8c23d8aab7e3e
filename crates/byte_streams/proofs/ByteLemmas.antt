-- What comes next of a part, from the bytes that wait.
use Rattle.byte_streams.proofs.Prelude.{common_steps, ◌≡◌, ℕ, zero, suc, ◌+◌, ◌<◌, Bool, true, false, cond, eqb, ◌||◌, get_or, List, [], ◌∷◌, ◌++◌, length, take, drop, append_assoc, append-nil, Option, Some, None, refl, sym, ap, ◌∙◌, inl, inr, ◌⊎◌, arith, IfSome, IsTrue, Keeps, IsAtEnd, prepend_known, position_or_len, cases_Bool, take-append-drop, drop_all, bytes_eq-Decides, is_marker, ArePlain, AsksNext, after_piece, begins_after, first_piece, is_marked_here, is_untold, may_be_marker, plain_len}
use Rattle.byte_streams.specs.declared.parts.Ask.TheVariants as ask

-- ---- the first line

pub position_is : (bytes : List ℕ) → position_or_len (λ b. eqb b 10) bytes ≡ length (first_piece bytes)
position_is [] = refl
position_is (b ∷ bytes) = elim (cases_Bool (eqb b 10)) [
  | inl feed ↦ rw feed refl
  | inr other ↦ rw other (omega (arith, position_is bytes))
]

-- a line feed ends the first line, or all bytes belong to it
fed : (bytes : List ℕ) → ((more : List ℕ) → first_piece (bytes ++ more) ≡ first_piece bytes) ⊎ (((more : List ℕ) → first_piece (bytes ++ more) ≡ bytes ++ first_piece more) × (first_piece bytes ≡ bytes))
fed [] = inr ((λ more. refl), refl)
fed (b ∷ bytes) = grind (arith, common_steps, cases_Bool, eqb, (fed bytes))

-- ---- what may be a marker line yet

plain_front : (bytes more : List ℕ) → bytes ++ more ≡ 37 ∷ 37 ∷ [] → may_be_marker bytes ≡ true
plain_front [] more is = refl
plain_front (a ∷ []) more is = let first : a ≡ 37 = cc in rw first refl
plain_front (a ∷ b ∷ []) more is = let first : a ≡ 37 = cc in let second : b ≡ 37 = cc in rw (first, second) refl
plain_front (a ∷ b ∷ c ∷ bytes) more is = absurd (omega (arith, ap length is))

return_front : (bytes more : List ℕ) → bytes ++ more ≡ 37 ∷ 37 ∷ 13 ∷ [] → may_be_marker bytes ≡ true
return_front [] more is = refl
return_front (a ∷ []) more is = let first : a ≡ 37 = cc in rw first refl
return_front (a ∷ b ∷ []) more is = let first : a ≡ 37 = cc in let second : b ≡ 37 = cc in rw (first, second) refl
return_front (a ∷ b ∷ c ∷ []) more is = let first : a ≡ 37 = cc in let second : b ≡ 37 = cc in let third : c ≡ 13 = cc in rw (first, second, third) refl
return_front (a ∷ b ∷ c ∷ d ∷ bytes) more is = absurd (omega (arith, ap length is))

either : (a b : Bool) → (a || b) ≡ true → (a ≡ true) ⊎ (b ≡ true)
either true b is = inl refl
either false b is = inr is

marker_front : (bytes more : List ℕ) → is_marker (bytes ++ more) ≡ true → may_be_marker bytes ≡ true
marker_front bytes more is = grind (arith, common_steps, either, plain_front, bytes_eq-Decides, return_front)

never : (bytes more : List ℕ) → may_be_marker bytes ≡ false → is_marker (bytes ++ more) ≡ false
never bytes more off = grind (arith, common_steps, cases_Bool, marker_front)

-- ---- what waits tells whether a marker line stands here

settled : (bytes more : List ℕ) → (may_be_marker bytes ≡ false) ⊎ (more ≡ []) → is_marker (first_piece (bytes ++ more)) ≡ is_marker (first_piece bytes)
settled bytes more why = elim why [
  | inr none ↦ ap (λ (xs : List ℕ). is_marker (first_piece (bytes ++ xs))) none ∙ ap (λ (xs : List ℕ). is_marker (first_piece xs)) (append-nil bytes)
  | inl off ↦ elim (fed bytes) [
    | inl has ↦ ap is_marker (has more)
    | inr none ↦ grind (arith, common_steps, append-nil, never)
  ]
]

-- what waits tells it, with what the source still has
told : (waiting rest : List ℕ) → (is_untold true waiting ≡ false) ⊎ IsAtEnd (Some rest) → (may_be_marker waiting ≡ false) ⊎ (rest ≡ [])
told waiting rest (inr none) = inr none
told [] rest (inl tells) = inl tells
told (b ∷ waiting) rest (inl tells) = inl tells

-- what tells it
pub tells : (at_line : Bool) (waiting : List ℕ) (left : Option (List ℕ)) (ended : Bool) → (is_untold at_line waiting ≡ false) ⊎ IsTrue ended → (IsTrue ended → IsAtEnd left) → (is_untold at_line waiting ≡ false) ⊎ IsAtEnd left
tells at_line waiting left ended why at_end = grind (arith, common_steps)

-- no marker line stands here
no_marker : (at_line : Bool) (waiting rest : List ℕ) → (is_untold at_line waiting ≡ false) ⊎ IsAtEnd (Some rest) → is_marked_here at_line waiting ≡ false → is_marked_here at_line (waiting ++ rest) ≡ false
no_marker false waiting rest why off = refl
no_marker true waiting rest why off = settled waiting rest (told waiting rest why) ∙ off

-- nor at a byte that begins none
no_start : (b : ℕ) (bytes : List ℕ) (at_line : Bool) → eqb b 37 ≡ false → is_marked_here at_line (b ∷ bytes) ≡ false
no_start b bytes false off = refl
no_start b bytes true off = go (eqb b 10)
  where
    go : (feed : Bool) → is_marker (cond feed [] (b ∷ first_piece bytes)) ≡ false
    go true = refl
    go false = rw off refl

run_plain : (bytes rest : List ℕ) (at_line : Bool) → ArePlain at_line (take (position_or_len (λ b. eqb b 37) bytes) bytes) rest
run_plain [] rest at_line = tt
run_plain (b ∷ bytes) rest at_line = elim (cases_Bool (eqb b 37)) [
  | inl is ↦ rw is tt
  | inr off ↦
      let run : position_or_len (λ b. eqb b 37) (b ∷ bytes) ≡ suc (position_or_len (λ b. eqb b 37) bytes) = rw off (omega arith) in
      rw run (no_start b (take (position_or_len (λ b. eqb b 37) bytes) bytes ++ rest) at_line off, run_plain bytes rest (eqb b 10))
]

-- bytes stand here
pub asks_bytes : (at_line : Bool) (old left : Option (List ℕ)) (waiting : List ℕ) (count : ℕ) → eqb (length waiting) 0 ≡ false → count ≡ plain_len waiting → Keeps old (prepend_known waiting left) →
    (is_untold at_line waiting ≡ false) ⊎ IsAtEnd left → is_marked_here at_line waiting ≡ false → IfSome old (λ all. AsksNext (ask.Bytes count) at_line all waiting left)
asks_bytes at_line old left [] count some is same why off = absurd (let e : true ≡ false = some in cc)
asks_bytes at_line None left (b ∷ waiting) count some is same why off = tt
asks_bytes at_line (Some all) None (b ∷ waiting) count some is same why off = absurd same
asks_bytes at_line (Some all) (Some rest) (b ∷ waiting) count some is same why off =
    let run : ℕ = position_or_len (λ b. eqb b 37) waiting in
    let after : List ℕ = drop run waiting ++ rest in
    let whole : (b ∷ waiting) ++ rest ≡ b ∷ take run waiting ++ after = ap (λ (xs : List ℕ). b ∷ (xs ++ rest)) (sym (take-append-drop run waiting)) ∙ ap (λ (xs : List ℕ). b ∷ xs) (append_assoc (take run waiting) (drop run waiting) rest) in
    rw is (after, sym same ∙ whole, refl, (ap (is_marked_here at_line) (sym whole) ∙ no_marker at_line (b ∷ waiting) rest why off, run_plain waiting after (eqb b 10)))

-- what stands after the first line
after : (bytes more : List ℕ) → (after_piece (bytes ++ more) ≡ drop (length (first_piece bytes) + 1) bytes ++ more) ⊎ ((first_piece bytes ≡ bytes) × (after_piece bytes ≡ []))
after [] more = inr (refl, refl)
after (b ∷ bytes) more = elim (cases_Bool (eqb b 10)) [
  | inl feed ↦ inl (rw feed refl)
  | inr other ↦
      let long : length (b ∷ first_piece bytes) + 1 ≡ suc (length (first_piece bytes) + 1) = omega arith in
      elim (after bytes more) [
        | inl is ↦ inl (rw (other, long) is)
        | inr none ↦ inr (rw other (ap (λ (xs : List ℕ). b ∷ xs) none.0, none.1))
      ]
]

-- a marker line stands here
marked_after : (waiting rest : List ℕ) → (is_untold true waiting ≡ false) ⊎ IsAtEnd (Some rest) → is_marker (first_piece waiting) ≡ true → drop (length (first_piece waiting) + 1) waiting ++ rest ≡ after_piece (waiting ++ rest)
marked_after waiting rest why is = elim (after waiting rest) [
  | inl has ↦ sym has
  | inr none ↦ elim (told waiting rest why) [
    | inl off ↦
        let may : may_be_marker waiting ≡ true = marker_front waiting [] (ap is_marker (append-nil waiting ∙ sym none.0) ∙ is) in
        absurd (let e : false ≡ true = sym off ∙ may in cc)
    | inr nil ↦
        let gone : drop (length (first_piece waiting) + 1) waiting ≡ [] = drop_all (length (first_piece waiting) + 1) waiting (omega (arith, ap length none.0)) in
        rw (nil, gone, append-nil waiting) (sym none.1)
  ]
]

pub asks_marker : (at_line : Bool) (old left : Option (List ℕ)) (waiting waits : List ℕ) → Keeps old (prepend_known waiting left) →
    (is_untold at_line waiting ≡ false) ⊎ IsAtEnd left → is_marked_here at_line waiting ≡ true → waits ≡ drop (length (first_piece waiting) + 1) waiting →
    IfSome old (λ all. AsksNext ask.Marker at_line all waits left)
asks_marker at_line None left waiting waits same why is skips = tt
asks_marker at_line (Some all) None waiting waits same why is skips = absurd same
asks_marker false (Some all) (Some rest) waiting waits same why is skips = absurd (let e : false ≡ true = is in cc)
asks_marker true (Some all) (Some rest) waiting waits same why is skips =
    rw (← same, skips) (settled waiting rest (told waiting rest why) ∙ is, ap Some (marked_after waiting rest why is))

-- whether a line begins after bytes is told by the last of them
pub last_tells : (at_line : Bool) (bytes : List ℕ) (n : ℕ) → n < length bytes → begins_after at_line (take (suc n) bytes) ≡ eqb (get_or bytes n 0) 10
last_tells at_line [] n within = absurd (omega (arith, within))
last_tells at_line (b ∷ bytes) zero within = refl
last_tells at_line (b ∷ bytes) (suc n) within = last_tells (eqb b 10) bytes n (omega (arith, within))

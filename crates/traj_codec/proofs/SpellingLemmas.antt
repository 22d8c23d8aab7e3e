-- A spelling stands for one trajectory, and none of as many segments is a front of another.
use Rattle.traj_codec.proofs.Prelude.{common_steps, ◌≡◌, ℕ, ◌<◌, ◌^◌, ℤ, List, [], ◌∷◌, ◌++◌, length, drop, refl, sym, ap, ◌∙◌, append_assoc, arith, to_z, FitsSigned, flat_map, All, append_cancel_left, All-head, All-tail, little_bytes, little_number, little_number-reads_back, Element, Constant, Linear, Cubic, Seven, Segment, number, numbers, kind, stored, header, bodies, segment, IsNumber, IsElement, IsSegment, SpellingLaw, ints, to_z-of_z}
use Rattle.std.specs.Int.{w16, cast_unsigned}
use Rattle.std.proofs.Math.Facts.{Fits-of_z, Fits-lt-pow}

fits : (z : ℤ) → IsNumber z → FitsSigned w16 z
fits z is = omega (arith, ints, is)

-- two bytes spell one number
natural_cut : (m n : ℕ) (r s : List ℕ) → m < 2 ^ 16 → n < 2 ^ 16 → little_bytes 2 m ++ r ≡ little_bytes 2 n ++ s → (m ≡ n) × (r ≡ s)
natural_cut m n r s small small' e =
    let same : m ≡ n = sym (little_number-reads_back 2 m r small) ∙ ap (little_number 2) e ∙ little_number-reads_back 2 n s small' in
    (same, append_cancel_left (little_bytes 2 m) r s (e ∙ ap (λ (x : ℕ). little_bytes 2 x ++ s) (sym same)))

number_cut : (z y : ℤ) (r s : List ℕ) → IsNumber z → IsNumber y → number z ++ r ≡ number y ++ s → (z ≡ y) × (r ≡ s)
number_cut z y r s is is' e =
    let cut = natural_cut (cast_unsigned w16 z) (cast_unsigned w16 y) r s (Fits-lt-pow (Fits-of_z (fits z is))) (Fits-lt-pow (Fits-of_z (fits y is'))) e in
    (sym (to_z-of_z w16 z (fits z is)) ∙ ap (to_z w16) cut.0 ∙ to_z-of_z w16 y (fits y is'), cut.1)

-- as many numbers
numbers_cut : (zs ys : List ℤ) (r s : List ℕ) → All IsNumber zs → All IsNumber ys → length zs ≡ length ys → numbers zs ++ r ≡ numbers ys ++ s → (zs ≡ ys) × (r ≡ s)
numbers_cut [] [] r s each each' many e = (refl, e)
numbers_cut [] (y ∷ ys) r s each each' many e = absurd (omega arith)
numbers_cut (z ∷ zs) [] r s each each' many e = absurd (omega arith)
numbers_cut (z ∷ zs) (y ∷ ys) r s each each' many e =
    let first = number_cut z y (numbers zs ++ r) (numbers ys ++ s) (All-head IsNumber z zs each) (All-head IsNumber y ys each')
    (sym (append_assoc (number z) (numbers zs) r) ∙ e ∙ append_assoc (number y) (numbers ys) s) in
    let rest = numbers_cut zs ys r s (All-tail IsNumber z zs each) (All-tail IsNumber y ys each') (omega arith) first.1 in
    (ap (λ (x : ℤ). x ∷ zs) first.0 ∙ ap (λ (xs : List ℤ). y ∷ xs) rest.0, rest.1)

-- the numbers of elements of one kind
stored_cut : (e f : Element) (r s : List ℕ) → IsElement e → IsElement f → kind e ≡ kind f → numbers (stored e) ++ r ≡ numbers (stored f) ++ s → (e ≡ f) × (r ≡ s)
stored_cut Constant Constant r s is is' same t = (refl, t)
stored_cut (Linear v) (Linear w) r s is is' same t = let cut = number_cut v w r s is is' t in (ap Linear cut.0, cut.1)
stored_cut (Cubic v) (Cubic w) r s is is' same t = let cut = numbers_cut v w r s is.each is'.each (is.many ∙ sym is'.many) t in (ap Cubic cut.0, cut.1)
stored_cut (Seven v) (Seven w) r s is is' same t = let cut = numbers_cut v w r s is.each is'.each (is.many ∙ sym is'.many) t in (ap Seven cut.0, cut.1)
stored_cut Constant (Linear w) r s is is' same t = absurd (omega arith)
stored_cut Constant (Cubic w) r s is is' same t = absurd (omega arith)
stored_cut Constant (Seven w) r s is is' same t = absurd (omega arith)
stored_cut (Linear v) Constant r s is is' same t = absurd (omega arith)
stored_cut (Linear v) (Cubic w) r s is is' same t = absurd (omega arith)
stored_cut (Linear v) (Seven w) r s is is' same t = absurd (omega arith)
stored_cut (Cubic v) Constant r s is is' same t = absurd (omega arith)
stored_cut (Cubic v) (Linear w) r s is is' same t = absurd (omega arith)
stored_cut (Cubic v) (Seven w) r s is is' same t = absurd (omega arith)
stored_cut (Seven v) Constant r s is is' same t = absurd (omega arith)
stored_cut (Seven v) (Linear w) r s is is' same t = absurd (omega arith)
stored_cut (Seven v) (Cubic w) r s is is' same t = absurd (omega arith)

-- a kind takes two bits
pub kind_small : (e : Element) → kind e < 4
kind_small Constant = omega arith
kind_small (Linear v) = omega arith
kind_small (Cubic v) = omega arith
kind_small (Seven v) = omega arith

-- the numbers of as many elements under one header
bodies_cut : (es fs : List Element) (r s : List ℕ) → All IsElement es → All IsElement fs → length es ≡ length fs → header es ≡ header fs → bodies es ++ r ≡ bodies fs ++ s → (es ≡ fs) × (r ≡ s)
bodies_cut [] [] r s each each' many heads t = (refl, t)
bodies_cut [] (f ∷ fs) r s each each' many heads t = absurd (omega arith)
bodies_cut (e ∷ es) [] r s each each' many heads t = absurd (omega arith)
bodies_cut (e ∷ es) (f ∷ fs) r s each each' many heads t =
    let low : kind e ≡ kind f = omega (arith, kind_small e, kind_small f) in
    let high : header es ≡ header fs = omega (arith, kind_small e, kind_small f) in
    let first = stored_cut e f (bodies es ++ r) (bodies fs ++ s) (All-head IsElement e es each) (All-head IsElement f fs each') low
    (sym (append_assoc (numbers (stored e)) (bodies es) r) ∙ t ∙ append_assoc (numbers (stored f)) (bodies fs) s) in
    let rest = bodies_cut es fs r s (All-tail IsElement e es each) (All-tail IsElement f fs each') (omega arith) high first.1 in
    (ap (λ (x : Element). x ∷ es) first.0 ∙ ap (λ (xs : List Element). f ∷ xs) rest.0, rest.1)

segment_cut : (a b : Segment) (r s : List ℕ) → IsSegment a → IsSegment b → segment a ++ r ≡ segment b ++ s → (a ≡ b) × (r ≡ s)
segment_cut a b r s is is' t = grind (arith, common_steps, drop, natural_cut, bodies_cut)

segments_cut : (xs ys : List Segment) (r s : List ℕ) → All IsSegment xs → All IsSegment ys → length xs ≡ length ys → flat_map segment xs ++ r ≡ flat_map segment ys ++ s → (xs ≡ ys) × (r ≡ s)
segments_cut [] [] r s each each' many t = (refl, t)
segments_cut [] (b ∷ ys) r s each each' many t = absurd (omega arith)
segments_cut (a ∷ xs) [] r s each each' many t = absurd (omega arith)
segments_cut (a ∷ xs) (b ∷ ys) r s each each' many t =
    let first = segment_cut a b (flat_map segment xs ++ r) (flat_map segment ys ++ s) (All-head IsSegment a xs each) (All-head IsSegment b ys each')
    (sym (append_assoc (segment a) (flat_map segment xs) r) ∙ t ∙ append_assoc (segment b) (flat_map segment ys) s) in
    let rest = segments_cut xs ys r s (All-tail IsSegment a xs each) (All-tail IsSegment b ys each') (omega arith) first.1 in
    (ap (λ (x : Segment). x ∷ xs) first.0 ∙ ap (λ (zs : List Segment). b ∷ zs) rest.0, rest.1)

pub spelling_is_one : SpellingLaw
spelling_is_one t u rest other is is' many e = grind (arith, common_steps, numbers_cut, append_assoc, segments_cut)

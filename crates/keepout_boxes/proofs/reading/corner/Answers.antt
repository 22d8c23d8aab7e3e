use Rattle.keepout_boxes.proofs.Prelude.{◌≡◌, ◌∙◌, ℕ, zero, suc, ◌+◌, ◌<◌, ◌≤◌, ℤ, pos, neg_ℤ, ◌≤ℤ◌, List, [], ◌∷◌, Option, Some, None, FitsSigned, arith, ints, refl, sym, ap, get_or, length, to_z, of_z, to_z-of_z, w32, at, words_in, word_in, Token, farthest, coordinate, three, IsCoordinate}
use Rattle.keepout_boxes.proofs.reading.corner.Goals as goal

abbrev nothing : Token
nothing = record { line = 0; start = 0; «end» = 0 }

-- the word at a place
word_is : (text : List ℕ) (ts : List Token) (k : ℕ) → k < length ts → get_or (words_in text ts) k [] ≡ word_in text (get_or ts k nothing)
word_is text [] k within = absurd (omega arith)
word_is text (t ∷ ts) zero within = refl
word_is text (t ∷ ts) (suc k) within = word_is text ts k (omega arith)

-- and its coordinate
found : (text : List ℕ) (ts : List Token) (k : ℕ) (word : List ℕ) (r o : Option ℤ) → k < length ts → word ≡ word_in text (get_or ts k nothing) → r ≡ coordinate word → r ≡ o
    → coordinate (get_or (words_in text ts) k []) ≡ o
found text ts k word r o within is value was = ap coordinate (word_is text ts k within ∙ sym is) ∙ sym value ∙ was

no_first : (x y z : Option ℤ) → x ≡ None → None ≡ three x y z
no_first x y z e = rw e refl

no_second : (x y z : Option ℤ) (a : ℤ) → x ≡ Some a → y ≡ None → None ≡ three x y z
no_second x y z a e f = rw (e, f) refl

no_third : (x y z : Option ℤ) (a b : ℤ) → x ≡ Some a → y ≡ Some b → z ≡ None → None ≡ three x y z
no_third x y z a b e f h = rw (e, f, h) refl

all_three : (x y z : Option ℤ) (a b d : ℤ) → x ≡ Some a → y ≡ Some b → z ≡ Some d → Some (a ∷ b ∷ d ∷ []) ≡ three x y z
all_three x y z a b d e f h = rw (e, f, h) refl

-- a coordinate, as 32 bits hold it
held : (x : ℤ) → IsCoordinate x → to_z w32 (of_z w32 x) ≡ x
held x near = let fits : FitsSigned w32 x = omega (arith, ints) in to_z-of_z w32 x fits

low_end : (x y z : ℤ) → IsCoordinate x → IsCoordinate y → IsCoordinate z → (axis : ℕ) → axis ≤ 2 → neg_ℤ (pos farthest) ≤ℤ at (x ∷ y ∷ z ∷ []) axis
low_end x y z a b d zero few = omega (arith, ints)
low_end x y z a b d (suc zero) few = omega (arith, ints)
low_end x y z a b d (suc (suc zero)) few = omega (arith, ints)
low_end x y z a b d (suc (suc (suc axis))) few = absurd (omega arith)

high_end : (x y z : ℤ) → IsCoordinate x → IsCoordinate y → IsCoordinate z → (axis : ℕ) → axis ≤ 2 → at (x ∷ y ∷ z ∷ []) axis ≤ℤ pos farthest
high_end x y z a b d zero few = omega (arith, ints)
high_end x y z a b d (suc zero) few = omega (arith, ints)
high_end x y z a b d (suc (suc zero)) few = omega (arith, ints)
high_end x y z a b d (suc (suc (suc axis))) few = absurd (omega arith)

pub returns-in_err-x-clause-value : goal.returns-in_err-x-clause-value
returns-in_err-x-clause-value c =
    c.from_residual.ensures
    ∙ no_first _ _ _ (found c.args.text.now c.args.words.now c.args.at _ _ None (omega (arith, c.requires)) c.word_at.ensures c.coordinate.ensures.value c.in_err-x.was)

pub returns-in_err-y-clause-value : goal.returns-in_err-y-clause-value
returns-in_err-y-clause-value c =
    let text = c.args.text.now in
    let ts = c.args.words.now in
    c.from_residual-in_err-y.ensures
    ∙ no_second _ _ _ c.in_ok-x.x
    (found text ts c.args.at _ _ (Some c.in_ok-x.x) (omega (arith, c.requires)) c.word_at.ensures c.coordinate.ensures.value c.in_ok-x.was)
    (found text ts (c.args.at + 1) _ _ None (omega (arith, c.requires)) c.word_at-2.ensures c.coordinate-2.ensures.value c.in_err-y.was)

pub returns-in_err-z-clause-value : goal.returns-in_err-z-clause-value
returns-in_err-z-clause-value c =
    let text = c.args.text.now in
    let ts = c.args.words.now in
    c.from_residual-in_err-z.ensures
    ∙ no_third _ _ _ c.in_ok-x.x c.in_ok-y.y
    (found text ts c.args.at _ _ (Some c.in_ok-x.x) (omega (arith, c.requires)) c.word_at.ensures c.coordinate.ensures.value c.in_ok-x.was)
    (found text ts (c.args.at + 1) _ _ (Some c.in_ok-y.y) (omega (arith, c.requires)) c.word_at-2.ensures c.coordinate-2.ensures.value c.in_ok-y.was)
    (found text ts (c.args.at + 2) _ _ None (omega (arith, c.requires)) c.word_at-3.ensures c.coordinate-3.ensures.value c.in_err-z.was)

pub returns-clause-value : goal.returns-clause-value
returns-clause-value c =
    let text = c.args.text.now in
    let ts = c.args.words.now in
    rw (held c.in_ok-x.x c.in_ok-x.ensures.near, held c.in_ok-y.y c.in_ok-y.ensures.near, held c.in_ok-z.z c.in_ok-z.ensures.near)
    (all_three _ _ _ c.in_ok-x.x c.in_ok-y.y c.in_ok-z.z
    (found text ts c.args.at _ _ (Some c.in_ok-x.x) (omega (arith, c.requires)) c.word_at.ensures c.coordinate.ensures.value c.in_ok-x.was)
    (found text ts (c.args.at + 1) _ _ (Some c.in_ok-y.y) (omega (arith, c.requires)) c.word_at-2.ensures c.coordinate-2.ensures.value c.in_ok-y.was)
    (found text ts (c.args.at + 2) _ _ (Some c.in_ok-z.z) (omega (arith, c.requires)) c.word_at-3.ensures c.coordinate-3.ensures.value c.in_ok-z.was))

pub returns-clause-near : goal.returns-clause-near
returns-clause-near c =
    let x = c.in_ok-x.ensures.near in
    let y = c.in_ok-y.ensures.near in
    let z = c.in_ok-z.ensures.near in
    rw (held c.in_ok-x.x x, held c.in_ok-y.y y, held c.in_ok-z.z z)
    (record { low = low_end c.in_ok-x.x c.in_ok-y.y c.in_ok-z.z x y z; high = high_end c.in_ok-x.x c.in_ok-y.y c.in_ok-z.z x y z })

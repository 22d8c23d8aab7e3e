use Rattle.keepout_boxes.proofs.Prelude.{◌≡◌, ◌∙◌, ℕ, Bool, true, false, ℤ, List, [], ◌∷◌, Option, Some, None, arith, refl, sym, get_or, length, codes, AreEnds, IsNear, Keepout, Volume, words_in, cond, eqb, ne_eqb, length-map, IfSome, bytes_eq, word_in, Token, are_ordered, corner, region_of, region_with}
use Rattle.keepout_boxes.proofs.reading.region_on.Goals as goal

-- a line of any other number of words
not_seven : (ws : List (List ℕ)) → (length ws ≡ 7 → ⊥) → None ≡ region_of ws
not_seven ws other = let plain : eqb (length ws) 7 ≡ false = ne_eqb (length ws) 7 other in rw plain refl

-- a line of seven words
seven : (ws : List (List ℕ)) (kind : List ℕ) (low high : Option (List ℤ)) → length ws ≡ 7 → kind ≡ get_or ws 0 [] → low ≡ corner ws 1 → high ≡ corner ws 4 → region_with kind low high ≡ region_of ws
seven ws kind low high len k l h = rw (k, l, h, len) refl

-- the first word
first : (text : List ℕ) (ts : List Token) (t : Token) → length ts ≡ 7 → get_or (words_in text ts) 0 [] ≡ word_in text (get_or ts 0 t)
first text [] t len = absurd (omega arith)
first text (x ∷ ts) t len = refl

-- both corners of a region lie within the limits
near_with : (kind : List ℕ) (low high : Option (List ℤ)) → IfSome low AreEnds → IfSome high AreEnds → IfSome (region_with kind low high) IsNear
near_with kind None high a b = tt
near_with kind (Some low) None a b = tt
near_with kind (Some low) (Some high) a b = picked (are_ordered low high) (bytes_eq kind (codes "keepout")) (bytes_eq kind (codes "volume"))
  where
    picked : (o k v : Bool) → IfSome (cond o (cond k (Some (Keepout low high)) (cond v (Some (Volume low high)) None)) None) IsNear
    picked true true v = (a, b)
    picked true false true = (a, b)
    picked true false false = tt
    picked false k v = tt

pub corner-requires : goal.corner-requires
corner-requires c = omega (arith, c.if-words-ne7.false)

pub corner-requires-2 : goal.corner-requires-2
corner-requires-2 c = omega (arith, c.if-words-ne7.false)

pub returns-then-words-ne7-clause-value : goal.returns-then-words-ne7-clause-value
returns-then-words-ne7-clause-value c =
    not_seven (words_in c.args.text.now c.args.words.now) (λ same. c.if-words-ne7.true (sym (length-map c.args.words.now (word_in c.args.text.now)) ∙ same))

pub returns-clause-value : goal.returns-clause-value
returns-clause-value c =
    c.region_with.ensures
    ∙ seven (words_in c.args.text.now c.args.words.now) _ _ _ (length-map c.args.words.now (word_in c.args.text.now) ∙ c.if-words-ne7.false)
    (c.word_at.ensures ∙ sym (first c.args.text.now c.args.words.now _ c.if-words-ne7.false)) c.corner.ensures.value c.corner-2.ensures.value

pub returns-clause-near : goal.returns-clause-near
returns-clause-near c = rw c.region_with.ensures (near_with c.word_at.result.now c.corner.result c.corner-2.result c.corner.ensures.near c.corner-2.ensures.near)

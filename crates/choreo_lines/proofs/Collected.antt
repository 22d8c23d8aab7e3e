-- Words that are read from the left, one by one.
use Rattle.choreo_lines.proofs.Prelude.{◌≡◌, ℕ, suc, ◌+◌, ◌<◌, ◌≤◌, List, [], ◌∷◌, ◌++◌, length, get_or, drop, refl, sym, ap, ◌∙◌, append_assoc, add-one, drop-cons, Result, Ok, Err, drop_all, append-nil, words_in, word_in, ◌>>=◌, name_in, names_in, value_in, values_in, LineKind, Form, Want, Value, Name, Token}

-- what is read after what was read so far
abbrev pub with_front : {A : Type 0} → List A → Result (List A) LineKind → Result (List A) LineKind
with_front front read = read >>= (λ xs. Ok (front ++ xs))

abbrev first_then : {A : Type 0} → Result A LineKind → Result (List A) LineKind → Result (List A) LineKind
first_then r rest = r >>= (λ x. rest >>= (λ xs. Ok (x ∷ xs)))

step_ok : {A : Type 0} (front : List A) (x : A) (r : Result A LineKind) (rest : Result (List A) LineKind) → r ≡ Ok x → with_front front (first_then r rest) ≡ with_front (front ++ x ∷ []) rest
step_ok front x (Ok y) (Ok xs) e = rw append_assoc (let h : y ≡ x = cc in ap (λ z. Ok (front ++ (z ∷ xs))) h)
step_ok front x (Ok y) (Err k) e = refl
step_ok front x (Err k) rest e = cc

step_err : {A : Type 0} (front : List A) (k : LineKind) (r : Result A LineKind) (rest : Result (List A) LineKind) → r ≡ Err k → with_front front (first_then r rest) ≡ Err k
step_err front k (Ok x) rest e = cc
step_err front k (Err l) rest e = let h : l ≡ k = cc in ap (λ m. Err m) h

-- Names.

pub names_more : (text : List ℕ) (front : List Name) (ts : List Token) (i : ℕ) (d : Token) (n : Name) → i < length ts → name_in (word_in text (get_or ts i d)) ≡ Ok n → with_front front (names_in (words_in text (drop i ts))) ≡ with_front (front ++ n ∷ []) (names_in (words_in text (drop (i + 1) ts)))
unfolding names_in
names_more text front ts i d n h e =
    ap (λ xs. with_front front (names_in (words_in text xs))) (drop-cons ts i d h)
    ∙ step_ok front n _ (names_in (words_in text (drop (suc i) ts))) e
    ∙ ap (λ j. with_front (front ++ n ∷ []) (names_in (words_in text (drop j ts)))) (sym (add-one i))

pub names_err : (text : List ℕ) (front : List Name) (ts : List Token) (i : ℕ) (d : Token) (k : LineKind) → i < length ts → name_in (word_in text (get_or ts i d)) ≡ Err k → with_front front (names_in (words_in text (drop i ts))) ≡ Err k
unfolding names_in
names_err text front ts i d k h e =
    ap (λ xs. with_front front (names_in (words_in text xs))) (drop-cons ts i d h)
    ∙ step_err front k _ (names_in (words_in text (drop (suc i) ts))) e

pub names_all : (text : List ℕ) (front : List Name) (ts : List Token) (i : ℕ) → length ts ≤ i → with_front front (names_in (words_in text (drop i ts))) ≡ Ok front
unfolding names_in
names_all text front ts i h =
    ap (λ xs. with_front front (names_in (words_in text xs))) (drop_all i ts h) ∙ ap (λ ns. Ok ns) (append-nil front)

-- Words in the places of a row.

-- what is left to read from a place on
abbrev pub rest : Form → List ℕ → List Want → List Token → ℕ → Result (List Value) LineKind
rest form text wants ts i = values_in form (drop i wants) (words_in text (drop i ts))

rest_step : (form : Form) (text : List ℕ) (wants : List Want) (ts : List Token) (i : ℕ) (w : Want) (d : Token) → i < length wants → i < length ts → rest form text wants ts i ≡ first_then (value_in form (get_or wants i w) (word_in text (get_or ts i d))) (rest form text wants ts (suc i))
unfolding values_in
rest_step form text wants ts i w d h k =
    ap (λ xs. values_in form xs (words_in text (drop i ts))) (drop-cons wants i w h)
    ∙ ap (λ xs. values_in form (get_or wants i w ∷ drop (suc i) wants) (words_in text xs)) (drop-cons ts i d k)

pub values_more : (form : Form) (text : List ℕ) (front : List Value) (wants : List Want) (ts : List Token) (i : ℕ) (w : Want) (d : Token) (v : Value) → i < length wants → i < length ts → value_in form (get_or wants i w) (word_in text (get_or ts i d)) ≡ Ok v → with_front front (rest form text wants ts i) ≡ with_front (front ++ v ∷ []) (rest form text wants ts (i + 1))
values_more form text front wants ts i w d v h k e =
    ap (with_front front) (rest_step form text wants ts i w d h k)
    ∙ step_ok front v _ (rest form text wants ts (suc i)) e
    ∙ ap (λ j. with_front (front ++ v ∷ []) (rest form text wants ts j)) (sym (add-one i))

pub values_err : (form : Form) (text : List ℕ) (front : List Value) (wants : List Want) (ts : List Token) (i : ℕ) (w : Want) (d : Token) (k : LineKind) → i < length wants → i < length ts → value_in form (get_or wants i w) (word_in text (get_or ts i d)) ≡ Err k → with_front front (rest form text wants ts i) ≡ Err k
values_err form text front wants ts i w d k h l e =
    ap (with_front front) (rest_step form text wants ts i w d h l) ∙ step_err front k _ (rest form text wants ts (suc i)) e

pub values_all : (form : Form) (text : List ℕ) (front : List Value) (wants : List Want) (ts : List Token) (i : ℕ) → length wants ≤ i → with_front front (rest form text wants ts i) ≡ Ok front
unfolding values_in
values_all form text front wants ts i h =
    ap (λ xs. with_front front (values_in form xs (words_in text (drop i ts)))) (drop_all i wants h) ∙ ap (λ vs. Ok vs) (append-nil front)

-- Words by their lines.
use Rattle.text_lines.proofs.Prelude.{◌≡◌, ◌≢◌, ℕ, zero, suc, ◌<◌, ◌≤◌, Bool, true, false, List, [], ◌∷◌, length, get_or, take, drop, refl, sym, ap, ◌∙◌, arith, cond, eq-eqb, eqb-true, ne_eqb, ◌==◌, Line, word_in, words_in, joined, lines_in, Token}

abbrev line_with : List ℕ → Token → Line
line_with text t = record { number = t.line; words = word_in text t ∷ [] }

-- one more word on the first line
pub joined_same : (text : List ℕ) (t : Token) (m : ℕ) (ws : List (List ℕ)) (ls : List Line) → t.line ≡ m → joined text t (record { number = m; words = ws } ∷ ls) ≡ record { number = m; words = word_in text t ∷ ws } ∷ ls
joined_same text t m ws ls e =
    ap (λ b. cond b (record { number = m; words = word_in text t ∷ ws } ∷ ls) (line_with text t ∷ record { number = m; words = ws } ∷ ls)) (eq-eqb t.line m e)

joined_other : (text : List ℕ) (t : Token) (l : Line) (ls : List Line) → (t.line == l.number) ≡ false → joined text t (l ∷ ls) ≡ line_with text t ∷ l ∷ ls
joined_other text t l ls e =
    ap (λ b. cond b (record { number = l.number; words = word_in text t ∷ l.words } ∷ ls) (line_with text t ∷ l ∷ ls)) e

-- the first line of some words has the number of the first word
pub record Begins (n : ℕ) (ls : List Line) : Type 0 where
  pub words : List (List ℕ)
  pub others : List Line
  pub is : ls ≡ record { number = n; words = words } ∷ others

begins_if : (b : Bool) (text : List ℕ) (u : Token) (l : Line) (ls : List Line) → (u.line == l.number) ≡ b → Begins u.line (joined text u (l ∷ ls))
begins_if true text u l ls e =
    let same : l.number ≡ u.line = sym (eqb-true u.line l.number e) in
    record {
      words = word_in text u ∷ l.words;
      others = ls;
      is = ap (λ b. cond b (record { number = l.number; words = word_in text u ∷ l.words } ∷ ls) (line_with text u ∷ l ∷ ls)) e
          ∙ ap (λ n. record { number = n; words = word_in text u ∷ l.words } ∷ ls) same;
    }
begins_if false text u l ls e = record { words = word_in text u ∷ []; others = l ∷ ls; is = joined_other text u l ls e }

begins : (text : List ℕ) (u : Token) (ls : List Line) → Begins u.line (joined text u ls)
begins text u [] = record { words = word_in text u ∷ []; others = []; is = refl }
begins text u (l ∷ ls) = begins_if (u.line == l.number) text u l ls refl

not_same : (m n : ℕ) → m ≢ n → (m == n) ≡ false
not_same m n h = ne_eqb m n h

pub other_line : (text : List ℕ) (t : Token) (m n : ℕ) (ls : List Line) → t.line ≡ m → n ≢ m → Begins n ls → joined text t ls ≡ record { number = m; words = word_in text t ∷ [] } ∷ ls
other_line text t m n ls e ne b =
    ap (joined text t) b.is
    ∙ joined_other text t (record { number = n; words = b.words }) b.others (not_same t.line n (λ h. ne (sym h ∙ e)))
    ∙ ap (λ k. record { number = k; words = word_in text t ∷ [] } ∷ record { number = n; words = b.words } ∷ b.others) e
    ∙ ap (λ xs. record { number = m; words = word_in text t ∷ [] } ∷ xs) (sym b.is)

pub lines_front : (text : List ℕ) (n : ℕ) (ts : List Token) (m : ℕ) (d : Token) → 0 < n → n ≤ length ts → ((k : ℕ) → k < n → (get_or ts k d).line ≡ m) → (n < length ts → (get_or ts n d).line ≢ m) → lines_in text ts ≡ record { number = m; words = words_in text (take n ts) } ∷ lines_in text (drop n ts)
lines_front text zero ts m d pos within same other = absurd (omega arith)
lines_front text (suc n) [] m d pos within same other = absurd (omega arith)
lines_front text (suc zero) (t ∷ []) m d pos within same other = ap (λ k. record { number = k; words = word_in text t ∷ [] } ∷ []) (same 0 (omega arith))
lines_front text (suc zero) (t ∷ u ∷ us) m d pos within same other =
    other_line text t m u.line (lines_in text (u ∷ us)) (same 0 (omega arith)) (other (omega arith)) (begins text u (lines_in text us))
lines_front text (suc (suc j)) (t ∷ ts) m d pos within same other =
    let later = lines_front text (suc j) ts m d (omega arith) (omega arith) (λ k h. same (suc k) (omega arith)) (λ h. other (omega arith)) in
    ap (joined text t) later ∙ joined_same text t m (words_in text (take (suc j) ts)) (lines_in text (drop (suc j) ts)) (same 0 (omega arith))

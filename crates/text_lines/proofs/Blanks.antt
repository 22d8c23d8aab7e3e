-- Bytes before the next blank, and the bits that mark blanks.
use Rattle.text_lines.proofs.Prelude.{◌≡◌, ◌≢◌, ℕ, ◌+◌, ◌-◌, ◌<◌, ◌≤◌, true, List, ◌++◌, length, get_or, drop, drop-drop, get_or-drop, length-drop, sym, ap, ◌∙◌, ⊎_elim, arith, nat_tests, cases_lt, false_from_ne_true, position_or_len, is_blank, word_token, line_tokens, Token, NoBlank, Marks, bit_at, ◌%◌, pow_pos, div-eq_of_lt, position_or_len_is}
use Rattle.text_lines.proofs.Cuts.{word_more, word_last}

-- a blank is at most a space
pub blank_low : (b : ℕ) → is_blank b ≡ true → b ≤ 32
blank_low b h = grind (arith, nat_tests)

-- the first word from a place on ends at the first blank, or at the end
pub word_ends : (bytes : List ℕ) (start stop : ℕ) → start ≤ stop → stop ≤ length bytes → NoBlank bytes start stop → (stop < length bytes → is_blank (get_or bytes stop 0) ≡ true) → stop - start ≡ position_or_len is_blank (drop start bytes)
word_ends bytes start stop order within none blank =
    let there : start + (stop - start) ≡ stop = omega arith in
    sym (position_or_len_is is_blank (drop start bytes) (stop - start) 0
    (omega (arith, length-drop start bytes))
    (λ k lt. ap is_blank (get_or-drop start bytes k 0) ∙ none (start + k) (omega arith) (omega arith))
    (λ lt. ap is_blank (get_or-drop start bytes (stop - start) 0 ∙ ap (λ (i : ℕ). get_or bytes i 0) there) ∙ blank (omega (arith, length-drop start bytes))))

-- the word that a blank ends is put
pub put_one : (line at : ℕ) (bytes : List ℕ) (start stop next : ℕ) (old new total : List Token) → start ≤ stop → stop < length bytes → next ≡ stop + 1 → NoBlank bytes start stop → is_blank (get_or bytes stop 0) ≡ true → new ≡ old ++ word_token line (at + start) (stop - start) → old ++ line_tokens line (at + start) (drop start bytes) ≡ total → new ++ line_tokens line (at + next) (drop next bytes) ≡ total
put_one line at bytes start stop next old new total order within is none blank made so_far =
    let place : at + next ≡ at + start + (stop - start + 1) = omega arith in
    let behind : next ≡ start + (stop - start + 1) = omega arith in
    ap (λ (k : ℕ). new ++ line_tokens line k (drop next bytes)) place
    ∙ ap (λ (k : ℕ). new ++ line_tokens line (at + start + (stop - start + 1)) (drop k bytes)) behind
    ∙ ap (λ xs. new ++ line_tokens line (at + start + (stop - start + 1)) xs) (sym (drop-drop (stop - start + 1) start bytes))
    ∙ word_more line (at + start) (stop - start) (drop start bytes) old new total
    (word_ends bytes start stop order (omega arith) none (λ _. blank)) (omega (arith, length-drop start bytes)) made so_far

-- the word at the end is put
pub put_last : (line at : ℕ) (bytes : List ℕ) (start : ℕ) (old new total : List Token) → start ≤ length bytes → NoBlank bytes start (length bytes) → new ≡ old ++ word_token line (at + start) (length bytes - start) → old ++ line_tokens line (at + start) (drop start bytes) ≡ total → new ≡ total
put_last line at bytes start old new total within none made so_far =
    word_last line (at + start) (length bytes - start) (drop start bytes) old new total
    (word_ends bytes start (length bytes) within (omega arith) none (λ lt. absurd (omega arith))) (omega (arith, length-drop start bytes)) made so_far

-- at the start of a line all of its words are to come
pub from_start : (line at : ℕ) (bytes : List ℕ) (old : List Token) → old ++ line_tokens line (at + 0) (drop 0 bytes) ≡ old ++ line_tokens line at bytes
from_start line at bytes old = let e : at + 0 ≡ at = omega arith in ap (λ (k : ℕ). old ++ line_tokens line k bytes) e

-- no blank stands before the lowest bit that is set
pub none_before : (bytes : List ℕ) (base start marks t : ℕ) → t ≤ 16 → Marks bytes base start marks → NoBlank bytes start base → ((k : ℕ) → k < t → bit_at marks k ≡ 0) → NoBlank bytes start (base + t)
none_before bytes base start marks t small m passed clear k low high =
    ⊎_elim (λ lt. passed k low lt)
    (λ ge.
    let e : base + (k - base) ≡ k = omega arith in
    false_from_ne_true _ (λ blank.
    let set = m.each (k - base) (omega arith) (omega arith) (ap (λ (i : ℕ). is_blank (get_or bytes i 0)) e ∙ blank) in
    absurd (omega (arith, set, clear (k - base) (omega arith)))))
    (cases_lt k base)

pub bit_of_none : (m k : ℕ) → m ≡ 0 → bit_at m k ≡ 0
bit_of_none m k none = ap (λ n. bit_at n k) none ∙ ap (λ x. x % 2) (div-eq_of_lt (pow_pos k))

-- no blank is left where no bit is
pub none_marked : (bytes : List ℕ) (base start marks : ℕ) → marks ≡ 0 → Marks bytes base start marks → NoBlank bytes start base → NoBlank bytes start (base + 16)
none_marked bytes base start marks none m passed =
    none_before bytes base start marks 16 (omega arith) m passed (λ k lt. bit_of_none marks k none)

-- the marks that are left where a word ended at the lowest one
pub marks_after : (bytes : List ℕ) (base start marks t next left : ℕ) → next ≡ base + t + 1 → start ≤ base + t → Marks bytes base start marks → ((k : ℕ) → k < t → bit_at marks k ≡ 0) → bit_at left t ≡ 0 → ((k : ℕ) → k < 64 → k ≢ t → bit_at left k ≡ bit_at marks k) → ((k : ℕ) → bit_at left k ≡ 1 → bit_at marks k ≡ 1) → Marks bytes base next left
marks_after bytes base start marks t next left is low m clear cleared kept fewer = record {
  each = λ k lt after blank. kept k (omega arith) (λ e. absurd (omega arith)) ∙ m.each k lt (omega arith) blank;
  within = λ k set.
      let ne : k ≢ t = λ e. absurd (omega (arith, set, cleared, ap (λ (i : ℕ). bit_at left i) e)) in
      ((m.within k (fewer k set)).0, ⊎_elim (λ lt. absurd (omega (arith, clear k lt, fewer k set))) (λ ge. omega (arith, ne)) (cases_lt k t));
}

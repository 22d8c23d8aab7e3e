-- How a reader of parts asked its source, step by step.
use Rattle.byte_streams.proofs.Prelude.{◌≡◌, ℕ, ◌<◌, ◌≤◌, true, false, List, [], ◌∷◌, ◌++◌, length, drop, refl, sym, ap, ◌∙◌, append_assoc, append-nil, inl, inr, ◌⊎◌, arith, Asked, Told, Took, without_last, has_whole_marker, buffer_bytes, Runs}
use Rattle.byte_streams.proofs.ToldLemmas.{unread}
use Rattle.byte_streams.proofs.MarkLemmas.{Gathers}

-- all but the last of these are a prefix of them
pub without_last-push : (pieces : List (List ℕ)) (last : List ℕ) → without_last (pieces ++ last ∷ []) ≡ pieces
without_last-push [] last = refl
without_last-push (piece ∷ []) last = refl
without_last-push (piece ∷ next ∷ rest) last = ap (λ (ps : List (List ℕ)). piece ∷ ps) (without_last-push (next ∷ rest) last)

-- bytes that were gathered have no whole marker line
pub Gathers-unmarked : (bytes : List ℕ) (start : ℕ) → Gathers bytes start → has_whole_marker bytes ≡ false
Gathers-unmarked bytes start g = rw (g.lines, without_last-push g.done (drop start bytes)) g.none

-- The source was asked: the call began with these first bytes, gathered these, and holds these still.
pub record AskedYet (first bytes waiting : List ℕ) (old new : Told) : Type 0 where
  pub asked : Asked first old new
  pub plain : has_whole_marker first ≡ false
  pub held : first ++ (asked.before ++ asked.last) ≡ bytes ++ waiting

-- The source was not asked, or it was.
abbrev pub Asking : List ℕ → List ℕ → List ℕ → Told → Told → Type 0
Asking first bytes waiting old new = ((first ≡ bytes ++ waiting) × (new ≡ old)) ⊎ AskedYet first bytes waiting old new

-- one byte more, or none, where some bytes were waiting
from_waiting : (first bytes waiting byte after : List ℕ) (old mid new : Told) → Asking first bytes waiting old mid → new ≡ mid → waiting ≡ byte ++ after → Asking first (bytes ++ byte) after old new
from_waiting first bytes waiting byte after old mid new asking same is = elim asking [
  | inl none ↦ inl (none.0 ∙ ap (λ (xs : List ℕ). bytes ++ xs) is ∙ sym (append_assoc bytes byte after), same ∙ none.1)
  | inr yet ↦ inr (record {
    asked = record { before = yet.asked.before; last = yet.asked.last; taken = rw same yet.asked.taken; most = yet.asked.most; unmarked = yet.asked.unmarked };
    plain = yet.plain;
    held = yet.held ∙ ap (λ (xs : List ℕ). bytes ++ xs) is ∙ sym (append_assoc bytes byte after);
  })
]

-- one byte more, or none, where no byte was waiting
from_source : (first bytes byte after : List ℕ) (start : ℕ) (old mid new : Told) → Gathers bytes start → Asking first bytes [] old mid → new.given ≡ mid.given ++ (byte ++ after) → length (byte ++ after) ≤ buffer_bytes → Asking first (bytes ++ byte) after old new
from_source first bytes byte after start old mid new gathers asking taken most = elim asking [
  | inl none ↦
      let is : first ≡ bytes = none.0 ∙ append-nil bytes in
      let plain : has_whole_marker first ≡ false = rw is (Gathers-unmarked bytes start gathers) in
      inr (record {
        asked = record { before = []; last = byte ++ after; taken = taken ∙ ap (λ (t : Told). t.given ++ (byte ++ after)) none.1; most = most; unmarked = rw (append-nil first) plain };
        plain = plain;
        held = rw is (sym (append_assoc bytes byte after));
      })
  | inr yet ↦
      let is : first ++ (yet.asked.before ++ yet.asked.last) ≡ bytes = yet.held ∙ append-nil bytes in
      inr (record {
        asked = record {
          before = yet.asked.before ++ yet.asked.last;
          last = byte ++ after;
          taken = taken ∙ ap (λ (g : List ℕ). g ++ (byte ++ after)) yet.asked.taken ∙ append_assoc old.given (yet.asked.before ++ yet.asked.last) (byte ++ after);
          most = most;
          unmarked = rw is (Gathers-unmarked bytes start gathers);
        };
        plain = yet.plain;
        held = sym (append_assoc first (yet.asked.before ++ yet.asked.last) (byte ++ after)) ∙ ap (λ (xs : List ℕ). xs ++ (byte ++ after)) is ∙ sym (append_assoc bytes byte after);
      })
]

-- one step: a byte more, or none
pub Asking-step : (first bytes waiting byte after : List ℕ) (start : ℕ) (old mid new : Told) → Gathers bytes start → Asking first bytes waiting old mid
    → (0 < length waiting → new ≡ mid)
    → Took waiting after mid new byte
    → length (byte ++ after) ≤ buffer_bytes
    → Asking first (bytes ++ byte) after old new
Asking-step first bytes [] byte after start old mid new gathers asking unasked took most =
    from_source first bytes byte after start old mid new gathers asking (took.given ∙ ap (λ (xs : List ℕ). mid.given ++ xs) took.wait) most
Asking-step first bytes (w ∷ ws) byte after start old mid new gathers asking unasked took most =
    let same : new ≡ mid = unasked (omega arith) in
    let none : took.read ≡ [] = unread mid new took.read same took.given in
    from_waiting first bytes (w ∷ ws) byte after old mid new asking same (sym (append-nil (w ∷ ws)) ∙ ap (λ (xs : List ℕ). (w ∷ ws) ++ xs) (sym none) ∙ took.wait)

-- a byte more, and a run of those that wait after it
pub Asking-runs : (first bytes waiting byte after waits gathered : List ℕ) (b start : ℕ) (old mid new : Told) → Gathers bytes start → Asking first bytes waiting old mid
    → (0 < length waiting → new ≡ mid)
    → Took waiting after mid new byte
    → length (byte ++ after) ≤ buffer_bytes
    → byte ≡ b ∷ []
    → Runs after waits bytes gathered b
    → Asking first gathered waits old new
Asking-runs first bytes waiting byte after waits gathered b start old mid new gathers asking unasked took most is runs =
    let put : gathered ≡ (bytes ++ byte) ++ runs.run = runs.put ∙ rw is (sym (append_assoc bytes (b ∷ []) runs.run)) in
    let step = Asking-step first bytes waiting byte after start old mid new gathers asking unasked took most in
    rw put (from_waiting first (bytes ++ byte) after runs.run waits old new new step refl runs.wait)

-- at the beginning nothing was asked
pub Asking-none : (first : List ℕ) (old : Told) → Asking first [] first old old
Asking-none first old = inl (refl, refl)

-- what is promised of asking, and of a call that began with a whole marker line
pub promised : (first bytes waiting : List ℕ) (old new : Told) → Asking first bytes waiting old new → ((new ≡ old) ⊎ Asked first old new) × (has_whole_marker first ≡ true → new ≡ old)
promised first bytes waiting old new asking = elim asking [
  | inl none ↦ (inl none.1, λ _. none.1)
  | inr yet ↦ (inr yet.asked, λ is. absurd (let e : false ≡ true = sym yet.plain ∙ is in cc))
]

-- what is promised after one more step
pub promised_after : (first bytes waiting byte after : List ℕ) (start : ℕ) (old mid new : Told) → Gathers bytes start → Asking first bytes waiting old mid
    → (0 < length waiting → new ≡ mid)
    → Took waiting after mid new byte
    → length (byte ++ after) ≤ buffer_bytes
    → ((new ≡ old) ⊎ Asked first old new) × (has_whole_marker first ≡ true → new ≡ old)
promised_after first bytes waiting byte after start old mid new gathers asking unasked took most =
    promised first (bytes ++ byte) after old new (Asking-step first bytes waiting byte after start old mid new gathers asking unasked took most)

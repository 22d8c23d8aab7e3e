-- What `cursor` and `word` say of the events that a host stands for.
use Rattle.upload_core.proofs.Prelude.{common_steps, ◌≡◌, ◌≢◌, ◌⊎◌, ◌==◌, ◌%◌, ◌+◌, ◌*◌, ◌^◌, ◌<◌, ◌≤◌, ◌&&◌, ◌∙◌, ℕ, zero, suc, Bool, true, false, List, cond, refl, ap, sym, arith, inl, inr, w64, nat_lt, bit_or, range_with_len, cases_eq, cases_lt, lt-ltb, le-ltb, Event, Going, Done, Upload, drone_count, packet_count, Packets, acked, progress, HostState, view_of, HostStandsFor, bit, marked, first_open, cursor_of, IsWord}
use Rattle.std.proofs.lemmas.Nat.Bits.{bit_at_set_same, bit_at_set_other}
use Rattle.upload_core.proofs.Numbers.{shut}

-- the host has marked what the events acknowledge
pub marks-stand : (v : HostState) (h : List Event) (d : ℕ) → d < drone_count v.session → HostStandsFor (view_of v) h →
    (progress v.session h ≡ Going) ⊎ (progress v.session h ≡ Done) → (k : ℕ) → k < packet_count v.session d → marked v.rows d k ≡ acked v.session h d k
marks-stand v h d known stands either k b = stands.marked (elim either [ inl e ↦ inl (stands.answer ∙ e) | inr e ↦ inr (stands.answer ∙ e) ]) d k known b

-- ---- the first packet that is open

-- none of these is
first-none : (p : ℕ → Bool) (a n m : ℕ) → ((k : ℕ) → k < a + n → p k ≡ true) → first_open p (range_with_len a n) m ≡ m
first-none p a zero m past = refl
first-none p a (suc n) m past =
    ap (λ (b : Bool). cond b (first_open p (range_with_len (a + 1) n) m) a) (past a (omega arith)) ∙ first-none p (a + 1) n m (λ k l. past k (omega arith))

-- this one is
first-here : (p : ℕ → Bool) (a n m c : ℕ) → a ≤ c → c < a + n → ((k : ℕ) → k < c → p k ≡ true) → p c ≡ false → first_open p (range_with_len a n) m ≡ c
first-here p a zero m c from below past here = absurd (omega arith)
first-here p a (suc n) m c from below past here = elim (cases_eq a c) [
  | inl same ↦ ap (λ (b : Bool). cond b (first_open p (range_with_len (a + 1) n) m) a) (ap p same ∙ here) ∙ same
  | inr other ↦
      ap (λ (b : Bool). cond b (first_open p (range_with_len (a + 1) n) m) a) (past a (omega arith))
      ∙ first-here p (a + 1) n m c (omega arith) (omega arith) past here
]

module _ (s : Upload) (p q : Packets) (d : ℕ) (same : (k : ℕ) → k < packet_count s d → p d k ≡ q d k) where
  -- the first packet that isn't in one set, or how many there are, is the cursor of another one
  pub cursor-here : (c : ℕ) → ((k : ℕ) → k < c → p d k ≡ true) → p d c ≡ false → c < packet_count s d → c ≡ cursor_of s q d
  cursor-here c past here below =
      sym (first-here (q d) 0 (packet_count s d) (packet_count s d) c (omega arith) (omega arith) (λ k l. sym (same k (omega arith)) ∙ past k l) (sym (same c below) ∙ here))

  pub cursor-end : (c : ℕ) → ((k : ℕ) → k < c → p d k ≡ true) → packet_count s d ≤ c → packet_count s d ≡ cursor_of s q d
  cursor-end c past l =
      sym (first-none (q d) 0 (packet_count s d) (packet_count s d) (λ k b. sym (same k (omega arith)) ∙ past k (omega arith)))

  pub word-here : (w word count : ℕ) → count ≡ packet_count s d → word < 2 ^ 64 → ((k : ℕ) → k < 64 → bit word k ≡ (nat_lt (64 * w + k) count && p d (64 * w + k))) → IsWord s q d w word
  word-here w word count is small bits = record {
    small = small;
    bits = λ k l. bits k l ∙ ap (λ (n : ℕ). nat_lt (64 * w + k) n && p d (64 * w + k)) is ∙ elim (cases_lt (64 * w + k) (packet_count s d)) [
      | inl inside ↦ ap (λ (b : Bool). nat_lt (64 * w + k) (packet_count s d) && b) (same (64 * w + k) inside)
      | inr past ↦
          ap (λ (b : Bool). b && p d (64 * w + k)) (le-ltb (64 * w + k) (packet_count s d) (omega arith))
          ∙ sym (ap (λ (b : Bool). b && q d (64 * w + k)) (le-ltb (64 * w + k) (packet_count s d) (omega arith)))
    ];
  }

-- ---- the bits of a word, one by one

-- below k the bits of a word are those of a test, and all others are 0
abbrev pub AreBits : (ℕ → Bool) → ℕ → ℕ → Type 0
AreBits p k word = (j : ℕ) → j < 64 → bit word j ≡ (nat_lt j k && p j)

-- a number is below k + 1 just where it is below k, unless it is k
below-same : (j k : ℕ) → j ≢ k → nat_lt j k ≡ nat_lt j (k + 1)
below-same j k other = grind (arith, common_steps, cases_lt, lt-ltb, le-ltb)

pub bits-one : (p : ℕ → Bool) (k word : ℕ) → k < 64 → AreBits p k word → p k ≡ true → AreBits p (k + 1) (bit_or word (1 * 2 ^ k % 18446744073709551616))
bits-one p k word l bits here j b = elim (cases_eq j k) [
  | inl same ↦
      ap (λ (i : ℕ). bit (bit_or word (1 * 2 ^ k % 18446744073709551616)) i) same
      ∙ ap (λ (n : ℕ). n == 1) (bit_at_set_same w64 word k l)
      ∙ sym (ap (λ (c : Bool). c && p j) (lt-ltb j (k + 1) (omega arith)) ∙ ap p same ∙ here)
  | inr other ↦
      ap (λ (n : ℕ). n == 1) (bit_at_set_other w64 word k l j other) ∙ bits j b ∙ ap (λ (c : Bool). c && p j) (below-same j k other)
]

pub bits-other : (p : ℕ → Bool) (k word : ℕ) → AreBits p k word → p k ≡ false → AreBits p (k + 1) word
bits-other p k word bits here j b = grind (arith, common_steps, cases_eq, shut, below-same)

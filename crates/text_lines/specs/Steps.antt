-- Words of the private steps of reading a number, and of cutting a line into words.
use Rattle.std.specs.Prelude.{◌≡◌, ℕ, ◌+◌, ◌-◌, ◌*◌, ◌<◌, ◌≤◌, Bool, true, false, ◌&&◌, List, ◌++◌, drop, slice_index}
use Rattle.std.specs.Int.{bit_at}
use Rattle.text_lines.specs.Numbers.{is_digit}
use Rattle.text_lines.specs.Tokens.{line_tokens}
use Rattle.text_lines.specs.Words.{is_blank}
use Rattle.text_lines.specs.declared.token.Token.{Token}

-- whether the four bytes from a place on are decimal digits
abbrev pub are_digits_at : List ℕ → ℕ → Bool
are_digits_at word k =
    is_digit (slice_index word k) && (is_digit (slice_index word (k + 1))
    && (is_digit (slice_index word (k + 2)) && is_digit (slice_index word (k + 3))))

-- the number that the four digits from a place on spell
abbrev pub number_at : List ℕ → ℕ → ℕ
number_at word k =
    1000 * (slice_index word k - 48) + 100 * (slice_index word (k + 1) - 48) + 10 * (slice_index word (k + 2) - 48)
    + (slice_index word (k + 3) - 48)

-- no byte from a place up to another is blank
abbrev pub NoBlank : List ℕ → ℕ → ℕ → Type 0
NoBlank bytes from to = (k : ℕ) → from ≤ k → k < to → is_blank (slice_index bytes k) ≡ false

-- the list had the words of a line before a place, and has those before a later one
abbrev pub IsPut : ℕ → ℕ → List ℕ → ℕ → ℕ → List Token → List Token → Type 0
IsPut line at bytes start next old new =
    new ++ line_tokens line (at + next) (drop next bytes) ≡ old ++ line_tokens line (at + start) (drop start bytes)

-- Of sixteen bytes from a place on, those from where a word begins: bit k is set where byte k is blank, and no bit
-- stands for a byte before the word or after the sixteen.
pub record Marks (bytes : List ℕ) (base start marks : ℕ) : Type 0 where
  pub each : (k : ℕ) → k < 16 → start ≤ base + k → is_blank (slice_index bytes (base + k)) ≡ true → bit_at marks k ≡ 1
  pub within : (k : ℕ) → bit_at marks k ≡ 1 → (k < 16) × (start ≤ base + k)

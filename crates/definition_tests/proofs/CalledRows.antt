-- Words, compared.
use Rattle.definition_tests.proofs.Prelude.{◌≡◌, ◌<◌, ◌≤◌, ℕ, List, [], ◌∷◌, Some, Contains, ap, get_or, length, slice_index_or, arith, refl, sym, ◌∙◌, codes, string_bytes, String}
use Rattle.std.specs.declared.alloc.Global.{Global}
use Rattle.std.proofs.lemmas.Option.{none-some}
use Rattle.show_run.specs.Verbs.{IsCalled, judges_apart}
use Rattle.definition_tests.specs.Called.{CalledRows}
use Rattle.definition_tests.proofs.Counting.{to_seven}

-- what words are called is the first of them
first_is : (word : String Global) (others : List (String Global)) (bytes name : List ℕ) → string_bytes word ≡ bytes → IsCalled (word ∷ others) name → bytes ≡ name
first_is word others bytes name is called = let same : string_bytes word ≡ name = cc in sym is ∙ same

-- a byte of a name that none of the names has there is that of none of them
no_name : (name : List ℕ) (at letter : ℕ) → get_or name at 0 ≡ letter →
    ((k : ℕ) → k ≤ 7 → get_or (slice_index_or judges_apart k name) at 0 ≡ letter → ⊥) → Contains judges_apart name → ⊥
no_name name at letter is none found =
    none found.0 (let within : found.0 < 8 = found.1 in omega (arith, within)) (ap (λ (bytes : List ℕ). get_or bytes at 0) found.2 ∙ is)

no_boxes : (k : ℕ) → k ≤ 7 → get_or (slice_index_or judges_apart k (codes "boxes")) 0 0 ≡ 98 → ⊥
no_boxes = to_seven _ (λ e. omega (arith, e)) (λ e. omega (arith, e)) (λ e. omega (arith, e)) (λ e. omega (arith, e)) (λ e. omega (arith, e)) (λ e. omega (arith, e)) (λ e. omega (arith, e)) (λ e. omega (arith, e))

no_speed : (k : ℕ) → k ≤ 7 → get_or (slice_index_or judges_apart k (codes "speed")) 0 0 ≡ 115 → ⊥
no_speed = to_seven _ (λ e. omega (arith, e)) (λ e. omega (arith, e)) (λ e. omega (arith, e)) (λ e. omega (arith, e)) (λ e. omega (arith, e)) (λ e. omega (arith, e)) (λ e. omega (arith, e)) (λ e. omega (arith, e))

no_explain : (k : ℕ) → k ≤ 7 → get_or (slice_index_or judges_apart k (codes "explain")) 0 0 ≡ 101 → ⊥
no_explain = to_seven _ (λ e. omega (arith, e)) (λ e. omega (arith, e)) (λ e. omega (arith, e)) (λ e. omega (arith, e)) (λ e. omega (arith, e)) (λ e. omega (arith, e)) (λ e. omega (arith, e)) (λ e. omega (arith, e))

no_dynamics : (k : ℕ) → k ≤ 7 → get_or (slice_index_or judges_apart k (codes "dynamics")) 0 0 ≡ 100 → ⊥
no_dynamics = to_seven _ (λ e. omega (arith, e)) (λ e. omega (arith, e)) (λ e. omega (arith, e)) (λ e. omega (arith, e)) (λ e. omega (arith, e)) (λ e. omega (arith, e)) (λ e. omega (arith, e)) (λ e. omega (arith, e))

pub called : CalledRows
called = record {
  first = λ word other is. ap Some is;
  another = λ word is called.
      let letters : ◌≡◌ {A = ℕ} 104 111 = ap (λ (bytes : List ℕ). get_or bytes 1 0) (first_is word [] _ _ is called) in omega (arith, letters);
  second = λ word other is second called.
      let letters : ◌≡◌ {A = ℕ} 104 111 = ap (λ (bytes : List ℕ). get_or bytes 1 0) (first_is word (other ∷ []) _ _ is called) in omega (arith, letters);
  longer = λ word is called.
      let lengths : 8 ≡ 7 = ap length (first_is word [] _ _ is called) in omega (arith, lengths);
  shorter = λ word is called.
      let lengths : 0 ≡ 7 = ap length (first_is word [] _ _ is called) in omega (arith, lengths);
  nothing = λ name called. none-some name called;
  judges = (1, omega arith, refl);
  boxes = no_name (codes "boxes") 0 98 refl no_boxes;
  speed = no_name (codes "speed") 0 115 refl no_speed;
  explain = no_name (codes "explain") 0 101 refl no_explain;
  dynamics = no_name (codes "dynamics") 0 100 refl no_dynamics;
}

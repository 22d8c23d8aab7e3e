-- What the definitions of a command's name say of words.
use Rattle.std.specs.Prelude.{◌≡◌, ℕ, List, [], ◌∷◌, Contains, codes, string_bytes, String}
use Rattle.std.specs.declared.alloc.Global.{Global}
use Rattle.show_run.specs.Verbs.{IsCalled, judges_apart}

-- Words are called by the first of them, whole, and by nothing else. The names of the commands that say nothing of
-- distances aren't among those that judge them.
pub record CalledRows : Type 0 where
  pub first : (word other : String Global) → string_bytes word ≡ codes "compile" →
      IsCalled (word ∷ other ∷ []) (codes "compile")
  pub another : (word : String Global) → string_bytes word ≡ codes "check" → IsCalled (word ∷ []) (codes "compile") → ⊥
  pub second : (word other : String Global) → string_bytes word ≡ codes "check" → string_bytes other ≡ codes "compile" →
      IsCalled (word ∷ other ∷ []) (codes "compile") → ⊥
  pub longer : (word : String Global) → string_bytes word ≡ codes "compiles" → IsCalled (word ∷ []) (codes "compile") →
      ⊥
  pub shorter : (word : String Global) → string_bytes word ≡ [] → IsCalled (word ∷ []) (codes "compile") → ⊥
  pub nothing : (name : List ℕ) → IsCalled [] name → ⊥
  pub judges : Contains judges_apart (codes "compile")
  pub boxes : Contains judges_apart (codes "boxes") → ⊥
  pub speed : Contains judges_apart (codes "speed") → ⊥
  pub explain : Contains judges_apart (codes "explain") → ⊥
  pub dynamics : Contains judges_apart (codes "dynamics") → ⊥

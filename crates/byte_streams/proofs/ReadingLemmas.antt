-- How much a reader of parts takes from its source.
use Rattle.byte_streams.proofs.Prelude.{◌≡◌, ℕ, ◌+◌, ◌≤◌, Bool, true, false, List, ◌++◌, length, length-append, Option, Some, None, refl, sym, ap, ◌∙◌, inl, inr, ◌⊎◌, arith, drop, IfSome, prepend_known, rest_of, has_whole_marker, TakesFewAfter, TookMarked, Told, Took, MayGive, to_come}
use Rattle.byte_streams.proofs.ToldLemmas.{consumed}
use Rattle.byte_streams.proofs.MarkerLaws.{whole_marker-front}

-- what was read was taken, or waits
pub reads_at_most : (waited waits taken : List ℕ) (t u : Told) (most : ℕ) → Took waited waits t u taken → length taken ≤ most → length waits ≤ 4096 →
    length u.given ≤ length t.given + (most + 4096)
reads_at_most waited waits taken t u most p few held =
    omega (arith, ap length p.given, length-append t.given p.read, ap length p.wait, length-append waited p.read, length-append taken waits, few, held)

-- what was taken of the source after a part waits
pub takes_few_after : (kept : List ℕ) (old left : Option (List ℕ)) → IfSome old (λ all. prepend_known kept left ≡ Some (rest_of all)) → length kept ≤ 4096 → TakesFewAfter old left
takes_few_after kept None left is held = tt
takes_few_after kept (Some all) None is held = tt
takes_few_after kept (Some all) (Some rest) is held =
    let same : kept ++ rest ≡ rest_of all = cc in
    omega (arith, ap length same, length-append kept rest, held)

-- a part is read to the end of the input, where no marker line is whole
pub meets_end : (waited waits : List ℕ) (t u : Told) (met : Bool) (all : List ℕ) (marked : Bool) (P : Type 0) → MayGive met u all → (marked ≡ false → P) → (marked ≡ true → P ⊎ TookMarked waited waits t u)
    → IfSome (prepend_known waited (to_come all t)) (λ comes. has_whole_marker comes ≡ false → P)
meets_end waited waits t u met all false P may plain fed = λ _. plain refl
meets_end waited waits t u met all true P may plain fed = elim (fed refl) [
  | inl is ↦ λ _. is
  | inr took ↦ λ off.
      let all_is : waited ++ drop (length t.given) all ≡ took.0 ++ (waits ++ drop (length u.given) all) = consumed met t u all waited waits took.0 took.1 may in
      absurd (let e : false ≡ true = sym off ∙ ap has_whole_marker all_is ∙ whole_marker-front took.0 (waits ++ drop (length u.given) all) took.2 in cc)
]

use Rattle.fleet_world.proofs.Prelude.{common_steps, ◌≡◌, ◌∙◌, ◌∷◌, ◌++◌, ◌+◌, [], ℕ, List, length, ap, arith, length-append}
use Rattle.fleet_world.proofs.CutLemmas.{ends-more, cut-more}
use Rattle.fleet_world.proofs.answers.Answers.take.Goals as goal
use Rattle.fleet_world.proofs.answers.Answers.take.Goals.{After-push_reserved}

bytes : (c : After-push_reserved) → c.extend_from_slice.new.self.items ≡ c.self.inside.bytes.items ++ c.in-Some.answer
bytes c =
    c.in-Ok.ensures.items ∙ ap (λ (bs : List ℕ). bs ++ c.bytes.result.now) c.reserve.ensures.items
    ∙ ap (λ (bs : List ℕ). c.self.inside.bytes.items ++ bs) c.bytes.ensures.value

count : (c : After-push_reserved) → length c.extend_from_slice.new.self.items ≡ length c.self.inside.bytes.items + length c.in-Some.answer
count c = ap (λ (bs : List ℕ). length bs) (bytes c) ∙ length-append c.self.inside.bytes.items c.in-Some.answer

ends : (c : After-push_reserved) → c.push_reserved.new.self.items ≡ c.self.inside.ends.items ++ (length c.self.inside.bytes.items + length c.in-Some.answer) ∷ []
ends c =
    c.push_reserved.ensures.items ∙ ap (λ (es : List ℕ). es ++ c.len.result ∷ []) c.reserve-2.ensures.items
    ∙ ap (λ (n : ℕ). c.self.inside.ends.items ++ n ∷ []) (let n = count c in let m = c.len.ensures in omega (arith, n, m))

pub invariant_of-self-in-Some : goal.invariant_of-self-in-Some
invariant_of-self-in-Some c = grind (arith, common_steps, ends, count, ends-more)

pub returns-in-Ok-clause-ok : goal.returns-in-Ok-clause-ok
returns-in-Ok-clause-ok c = grind (arith, common_steps, bytes, ends, cut-more)

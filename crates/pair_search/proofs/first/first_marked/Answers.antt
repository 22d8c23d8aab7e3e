use Rattle.pair_search.proofs.Prelude.{◌≡◌, ◌⊎◌, ℕ, inl, inr, true, false, Option, Some, None, arith, subst, sym, ◌∙◌, bit_at, bit_at-zero, AnswersBit, dir_of}
use Rattle.pair_search.proofs.LaneLemmas.{by_same}
use Rattle.pair_search.proofs.first.first_marked.Goals as goal

pub loop-rest-init : goal.loop-rest-init
loop-rest-init g c = λ k inside clear. inl clear

pub loop-rest-preserved : goal.loop-rest-preserved
loop-rest-preserved g c = λ k inside clear.
    let failed : AnswersBit (λ (dir : ℕ). goal.F-post g c.args.asks.now dir false) (λ (dir : ℕ). goal.F-post g c.args.asks.now dir true) c.args.count c.args.back c.first_bit-bit.result None =
    subst (λ (o : Option ℕ). AnswersBit (λ (dir : ℕ). goal.F-post g c.args.asks.now dir false) (λ (dir : ℕ). goal.F-post g c.args.asks.now dir true) c.args.count c.args.back c.first_bit-bit.result o) c.in-None.is c.answer_of.ensures in
    by_same {P = (bit_at c.args.bits k ≡ 0) ⊎ goal.F-post g c.args.asks.now (dir_of c.args.count c.args.back k) false} k c.first_bit-bit.result
    (λ same. inr (subst (λ (j : ℕ). goal.F-post g c.args.asks.now (dir_of c.args.count c.args.back j) false) (sym same) (failed (omega (arith, same, inside)))))
    (λ other. c.loop-rest.invariant k inside (sym (c.without-rest.ensures.kept k (omega (arith, inside, c.requires.count)) other) ∙ clear))

pub returns-in-Some : goal.returns-in-Some
returns-in-Some g c =
    let found : AnswersBit (λ (dir : ℕ). goal.F-post g c.args.asks.now dir false) (λ (dir : ℕ). goal.F-post g c.args.asks.now dir true) c.args.count c.args.back c.first_bit-bit.result (Some c.in-Some.dir) =
    subst (λ (o : Option ℕ). AnswersBit (λ (dir : ℕ). goal.F-post g c.args.asks.now dir false) (λ (dir : ℕ). goal.F-post g c.args.asks.now dir true) c.args.count c.args.back c.first_bit-bit.result o) c.in-Some.is c.answer_of.ensures in
    (c.first_bit-bit.result, found.0, found.1, found.2, λ k inside before. c.loop-rest.invariant k inside (c.first_bit-bit.ensures.before k before))

pub returns : goal.returns
returns g c = λ k inside. c.loop-rest.invariant k inside (subst (λ (n : ℕ). bit_at n k ≡ 0) (omega (arith, c.loop-rest-test.false)) (bit_at-zero k))

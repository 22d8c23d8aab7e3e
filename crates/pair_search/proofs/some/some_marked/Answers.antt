use Rattle.pair_search.proofs.Prelude.{◌≡◌, ℕ, Option, None, false, arith, inl, length, subst, sym, does_separate, FindsBit, dir_of}
use Rattle.pair_search.proofs.EndLemmas.{bits_left}
use Rattle.pair_search.proofs.some.some_marked.Goals as goal

pub loop-rest-init : goal.loop-rest-init
loop-rest-init g c = λ i inside few set. inl set

pub loop-rest-preserved : goal.loop-rest-preserved
loop-rest-preserved g c = λ i inside few set.
    let found : FindsBit c.args.ruler.now c.args.diff.now c.args.level.now.place c.args.back c.lowest-bit.result None =
    subst (λ (o : Option ℕ). FindsBit c.args.ruler.now c.args.diff.now c.args.level.now.place c.args.back c.lowest-bit.result o) c.in-None.is c.some_of.ensures in
    bits_left c.loop-rest.rest c.without-rest.result c.lowest-bit.result i few c.without-rest.ensures.kept
    (λ same. subst (λ (j : ℕ). does_separate c.args.ruler.now c.args.diff.now c.args.level.now.place (dir_of (length c.args.ruler.now.directions) c.args.back j) ≡ false) (sym same) (found (omega (arith, same, inside))))
    (c.loop-rest.invariant i inside few set)

pub returns-in-Some : goal.returns-in-Some
returns-in-Some g c =
    subst (λ (o : Option ℕ). FindsBit c.args.ruler.now c.args.diff.now c.args.level.now.place c.args.back c.lowest-bit.result o) c.in-Some.is c.some_of.ensures

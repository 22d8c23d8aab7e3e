use Rattle.sep_parts.proofs.Prelude.{arith, ℕ, zero, suc, ◌-◌, ◌<◌, ◌≤◌, true, ◌%◌}
use Rattle.sep_parts.proofs.part.all_places.Goals as goal

-- what holds of the turns so far and of this one holds of one more
one_turn_more : (P : ℕ → Type 0) (turns : ℕ) → ((turn : ℕ) → turn < turns → P turn) → P turns → (turn : ℕ) → turn < suc turns → P turn
one_turn_more P zero before this zero inside = this
one_turn_more P (suc turns) before this zero inside = before zero (omega arith)
one_turn_more P zero before this (suc turn) inside = absurd (omega (arith, inside))
one_turn_more P (suc turns) before this (suc turn) inside =
    one_turn_more (λ n. P (suc n)) turns (λ n small. before (suc n) (omega (arith, small))) this turn (omega (arith, inside))

-- eight turns ask each of the eight places
each_turn : (P : ℕ → Type 0) → ((turn : ℕ) → turn < 8 → P ((8 - turn) % 8)) → (k : ℕ) → k ≤ 7 → P k
each_turn P asked zero small = asked 0 (omega arith)
each_turn P asked (suc zero) small = asked 7 (omega arith)
each_turn P asked (suc (suc zero)) small = asked 6 (omega arith)
each_turn P asked (suc (suc (suc zero))) small = asked 5 (omega arith)
each_turn P asked (suc (suc (suc (suc zero)))) small = asked 4 (omega arith)
each_turn P asked (suc (suc (suc (suc (suc zero))))) small = asked 3 (omega arith)
each_turn P asked (suc (suc (suc (suc (suc (suc zero)))))) small = asked 2 (omega arith)
each_turn P asked (suc (suc (suc (suc (suc (suc (suc zero))))))) small = asked 1 (omega arith)
each_turn P asked (suc (suc (suc (suc (suc (suc (suc (suc k)))))))) small = absurd (omega (arith, small))

pub loop-turn-init : goal.loop-turn-init
loop-turn-init g c = λ turn before. absurd (omega (arith, before))

pub loop-turn-preserved : goal.loop-turn-preserved
loop-turn-preserved g c = λ turn before.
    one_turn_more (λ (n : ℕ). goal.F-post g c.args.passes ((8 - n) % 8) true) c.loop-turn.turn c.loop-turn.invariant c.if-not-passes.ensures turn (omega (arith, before))

pub returns-clause-all : goal.returns-clause-all
returns-clause-all g c = λ yes.
    each_turn (λ (k : ℕ). goal.F-post g c.args.passes k true) (λ turn inside. c.loop-turn.invariant turn (omega (arith, inside, c.loop-turn-test.false)))

use Rattle.flight_director.proofs.Prelude.{◌≡◌, ◌∙◌, ◌||◌, ◌+◌, ◌-◌, ℕ, Bool, true, false, sym, ap, arith, list_any, range_with_len, played, is_within}
use Rattle.flight_director.proofs.Walks.{any-step}
use Rattle.flight_director.proofs.curve.is_near_until.Goals as goal

pub returns-then-is_within_at : goal.returns-then-is_within_at
returns-then-is_within_at c =
    let p = λ (i : ℕ). is_within c.args.c.now.stray (played c.args.t.now i) c.args.x.now in
    let past : ℕ = c.min-last.result + 1 in
    let here : p c.loop-i.i ≡ true = sym c.is_within_at.ensures ∙ c.if-is_within_at.true in
    sym (ap (λ (b : Bool). b || list_any p (range_with_len (c.loop-i.i + 1) (past - (c.loop-i.i + 1)))) here)
    ∙ (sym (any-step p c.loop-i.i past (omega arith)) ∙ c.loop-i.invariant)

pub loop-i-preserved : goal.loop-i-preserved
loop-i-preserved c =
    let p = λ (i : ℕ). is_within c.args.c.now.stray (played c.args.t.now i) c.args.x.now in
    let past : ℕ = c.min-last.result + 1 in
    let here : p c.loop-i.i ≡ false = sym c.is_within_at.ensures ∙ c.if-is_within_at.false in
    sym (ap (λ (b : Bool). b || list_any p (range_with_len (c.loop-i.i + 1) (past - (c.loop-i.i + 1)))) here)
    ∙ (sym (any-step p c.loop-i.i past (omega arith)) ∙ c.loop-i.invariant)

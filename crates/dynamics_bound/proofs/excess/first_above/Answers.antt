use Rattle.dynamics_bound.proofs.Prelude.{common_steps, ◌≡◌, ℕ, ◌<◌, sym, arith, ◌∙◌, ap, Option, Some, None, IfNone, IfSome, ◌≤◌, List, length, Segment, Traj, Excess, Limits, IsWithinLimits, excess_before, first_excess, jumps_at, sharp_at}
use Rattle.dynamics_bound.proofs.Excesses.{by_first, by_second, first_named, found_first, found_last, none_more, none_within}
use Rattle.dynamics_bound.proofs.excess.first_above.Goals as goal

pub returns-in-Some-clause-exact : goal.returns-in-Some-clause-exact
returns-in-Some-clause-exact c =
    let inside : c.loop-k.k < length c.args.t.now.segments = omega (arith, c.loop-k-test.true, ap (λ (ss : List Segment). length ss) c.as_slice-segments.ensures) in
    found_first c.args.limits c.args.depth c.args.t.now c.loop-k.k c.in-Some.excess c.loop-k.invariant.none
    (by_first (sharp_at c.args.limits.acceleration c.args.depth c.args.t.now c.loop-k.k) (jumps_at c.args.limits.jump c.args.t.now c.loop-k.k) c.in-Some.excess (sym c.sharp_at.ensures ∙ c.in-Some.is)) inside

pub returns-in-Some-jumps_at-clause-exact : goal.returns-in-Some-jumps_at-clause-exact
returns-in-Some-jumps_at-clause-exact c =
    let inside : c.loop-k.k < length c.args.t.now.segments = omega (arith, c.loop-k-test.true, ap (λ (ss : List Segment). length ss) c.as_slice-segments.ensures) in
    found_first c.args.limits c.args.depth c.args.t.now c.loop-k.k c.in-Some-jumps_at.excess c.loop-k.invariant.none
    (by_second (sharp_at c.args.limits.acceleration c.args.depth c.args.t.now c.loop-k.k) (jumps_at c.args.limits.jump c.args.t.now c.loop-k.k) c.in-Some-jumps_at.excess (sym c.sharp_at.ensures ∙ c.in_default.is)
    (sym c.jumps_at.ensures ∙ c.in-Some-jumps_at.is)) inside

pub loop-k-preserved : goal.loop-k-preserved
loop-k-preserved c = grind (arith, common_steps, none_more)

-- the last jump is the first excess, where there is none before
last : (limits : Limits) (depth k n : ℕ) (t : Traj) (o : Option Excess) → excess_before limits depth t k ≡ None → k ≡ length t.segments → n ≡ length t.segments → o ≡ jumps_at limits.jump t n →
    o ≡ first_excess limits depth t
last limits depth k n t o none k_is n_is is = found_last limits depth t k o none k_is (is ∙ ap (λ (m : ℕ). jumps_at limits.jump t m) n_is)

pub returns-clause-exact : goal.returns-clause-exact
returns-clause-exact c =
    let end : length c.as_slice-segments.result.now ≡ length c.args.t.now.segments = ap (λ (ss : List Segment). length ss) c.as_slice-segments.ensures in
    let all : c.loop-k.k ≡ length c.args.t.now.segments = omega (arith, end) in
    last c.args.limits c.args.depth c.loop-k.k (length c.as_slice-segments.result.now) c.args.t.now c.jumps_at-2.result c.loop-k.invariant.none all end c.jumps_at-2.ensures

none_told : (limits : Limits) (depth : ℕ) (t : Traj) (o : Option Excess) → o ≡ first_excess limits depth t → IfNone o (IsWithinLimits limits depth t)
none_told limits depth t None is = none_within limits depth t (sym is)
none_told limits depth t (Some e) is = tt

pub returns-clause-none : goal.returns-clause-none
returns-clause-none c = none_told c.args.limits c.args.depth c.args.t.now c.jumps_at-2.result (returns-clause-exact c)

named_told : (limits : Limits) (depth : ℕ) (t : Traj) (o : Option Excess) → o ≡ first_excess limits depth t → IfSome o (λ e. (e.axis ≤ 2) × (e.segment ≤ length t.segments))
named_told limits depth t None is = tt
named_told limits depth t (Some e) is = first_named limits depth t e (sym is)

pub returns-in-Some-clause-named : goal.returns-in-Some-clause-named
returns-in-Some-clause-named c = first_named c.args.limits c.args.depth c.args.t.now c.in-Some.excess (sym (returns-in-Some-clause-exact c))

pub returns-in-Some-jumps_at-clause-named : goal.returns-in-Some-jumps_at-clause-named
returns-in-Some-jumps_at-clause-named c = first_named c.args.limits c.args.depth c.args.t.now c.in-Some-jumps_at.excess (sym (returns-in-Some-jumps_at-clause-exact c))

pub returns-clause-named : goal.returns-clause-named
returns-clause-named c = named_told c.args.limits c.args.depth c.args.t.now c.jumps_at-2.result (returns-clause-exact c)

-- The first excess, and that nothing exceeds a limit where there is none.
use Rattle.dynamics_bound.proofs.Prelude.{common_steps, inl, inr, ◌⊎◌, ◌≡◌, ℕ, zero, suc, ◌+◌, ◌≤◌, ◌<◌, max, nat_lt, cond, pos, arith, refl, Option, Some, None, IfSome, length, nat_tests, by_lt, Traj, greatest-most, Excess, Limits, acceleration, acceleration_in, jump, IsWithinLimits, above, excess_before, first_excess, jumps_at, sharp_at}
use Rattle.std.specs.Option.{option_or}
use Rattle.dynamics_bound.specs.declared.excess.Kind.{Kind}

-- what is found in a segment is the first, where nothing was found before
pub found : (limits : Limits) (depth : ℕ) (t : Traj) (n k : ℕ) (e : Excess) → excess_before limits depth t k ≡ None →
    option_or (sharp_at limits.acceleration depth t k) (jumps_at limits.jump t k) ≡ Some e → k < n → excess_before limits depth t n ≡ Some e
found limits depth t zero k e none here inside = absurd (omega arith)
found limits depth t (suc n) k e none here inside =
    by_lt k n
    (λ less. rw (found limits depth t n k e none here less) refl)
    (λ more. let same : n ≡ k = omega (arith, inside, more) in rw (same, none) here)

pub found_first : (limits : Limits) (depth : ℕ) (t : Traj) (k : ℕ) (e : Excess) → excess_before limits depth t k ≡ None →
    option_or (sharp_at limits.acceleration depth t k) (jumps_at limits.jump t k) ≡ Some e → k < length t.segments → Some e ≡ first_excess limits depth t
found_first limits depth t k e none here inside = rw (found limits depth t (length t.segments) k e none here inside) refl

pub found_last : (limits : Limits) (depth : ℕ) (t : Traj) (k : ℕ) (o : Option Excess) → excess_before limits depth t k ≡ None → k ≡ length t.segments →
    o ≡ jumps_at limits.jump t (length t.segments) → o ≡ first_excess limits depth t
found_last limits depth t k o none last is =
    let whole : excess_before limits depth t (length t.segments) ≡ None = rw (← last) none in
    rw whole is

-- of two the first or the second
pub by_first : (a b : Option Excess) (e : Excess) → a ≡ Some e → option_or a b ≡ Some e
by_first a b e is = rw is refl

pub by_second : (a b : Option Excess) (e : Excess) → a ≡ None → b ≡ Some e → option_or a b ≡ Some e
by_second a b e none is = rw none is

-- one segment more with nothing
pub none_more : (limits : Limits) (depth : ℕ) (t : Traj) (k : ℕ) → excess_before limits depth t k ≡ None → sharp_at limits.acceleration depth t k ≡ None → jumps_at limits.jump t k ≡ None →
    excess_before limits depth t (k + 1) ≡ None
none_more limits depth t k before sharp jumps =
    let up : k + 1 ≡ suc k = omega arith in
    rw (up, before, sharp) jumps

-- ---- numbers that are taken no less than a limit
above_one : {X : Type 0} (most least a : ℕ) (x : ℕ → X) (y : X) → least ≤ most → cond (nat_lt most (max least a)) (x (max least a)) y ≡ cond (nat_lt most a) (x a) y
above_one {X} most least a x y less = grind (arith, common_steps, by_lt, nat_lt, max, nat_tests)

-- The same is above a limit where each number is taken no less than one that is not above it.
pub above_least : (what : Kind) (most least segment : ℕ) (f : ℕ → ℕ) → least ≤ most → above what (Some most) segment (λ axis. max least (f axis)) ≡ above what (Some most) segment f
above_least what most least segment f less = grind (arith, common_steps, above_one, cond, nat_lt, pos)

-- ---- nothing is above a limit
neither : {X : Type 0} (a b : Option X) → option_or a b ≡ None → (a ≡ None) × (b ≡ None)
neither None b none = (refl, none)
neither (Some x) b none = absurd (cc)

none_before : (limits : Limits) (depth : ℕ) (t : Traj) (n k : ℕ) → excess_before limits depth t n ≡ None → k < n → (sharp_at limits.acceleration depth t k ≡ None) × (jumps_at limits.jump t k ≡ None)
none_before limits depth t zero k none inside = absurd (omega arith)
none_before limits depth t (suc n) k none inside =
    let both = neither (excess_before limits depth t n) (option_or (sharp_at limits.acceleration depth t n) (jumps_at limits.jump t n)) none in
    by_lt k n
    (λ less. none_before limits depth t n k both.0 less)
    (λ more. let same : k ≡ n = omega (arith, inside, more) in rw same (neither (sharp_at limits.acceleration depth t n) (jumps_at limits.jump t n) both.1))

none_above : (kind : Kind) (limit segment : ℕ) (f : ℕ → ℕ) → above kind (Some limit) segment f ≡ None → (axis : ℕ) → axis ≤ 2 → f axis ≤ limit
none_above kind limit segment f none = grind (arith, common_steps, nat_lt, pos, nat_tests, cond)

sharp_within : (depth : ℕ) (t : Traj) (limit : Option ℕ) → ((k : ℕ) → k < length t.segments → sharp_at limit depth t k ≡ None) →
    IfSome limit (λ most. (axis : ℕ) → axis ≤ 2 → acceleration depth t axis ≤ most)
unfolding acceleration
sharp_within depth t None none = tt
sharp_within depth t (Some most) none =
    λ axis near. greatest-most (length t.segments) (acceleration_in depth t axis) most (λ k inside. none_above _ most k (λ axis. acceleration_in depth t axis k) (none k inside) axis near)

jumps_within : (t : Traj) (limit : Option ℕ) → ((k : ℕ) → k ≤ length t.segments → jumps_at limit t k ≡ None) →
    IfSome limit (λ most. (axis edge : ℕ) → axis ≤ 2 → edge ≤ length t.segments → jump t axis edge ≤ most)
jumps_within t None none = tt
jumps_within t (Some most) none = λ axis edge near inside. none_above _ most edge (λ axis. jump t axis edge) (none edge inside) axis near

-- Where there is no first excess, all is within the limits.
pub none_within : (limits : Limits) (depth : ℕ) (t : Traj) → first_excess limits depth t ≡ None → IsWithinLimits limits depth t
none_within limits depth t none =
    let both = neither (excess_before limits depth t (length t.segments)) (jumps_at limits.jump t (length t.segments)) none in
    record {
      acceleration = sharp_within depth t limits.acceleration (λ k inside. (none_before limits depth t (length t.segments) k both.0 inside).0);
      jumps = jumps_within t limits.jump (λ k inside. by_lt k (length t.segments)
          (λ less. (none_before limits depth t (length t.segments) k both.0 less).1)
          (λ more. let same : k ≡ length t.segments = omega (arith, inside, more) in rw same both.1));
    }

-- ---- what a first excess names
-- it is on one of three axes, in the segment that is looked at
above_named : (what : Kind) (limit : Option ℕ) (segment : ℕ) (f : ℕ → ℕ) (e : Excess) → above what limit segment f ≡ Some e → (e.axis ≤ 2) × (e.segment ≡ segment)
above_named what None segment f e is = absurd (cc)
above_named what (Some limit) segment f e is = grind (arith, common_steps, nat_lt, pos, cond)

either : (a b : Option Excess) (e : Excess) → option_or a b ≡ Some e → (a ≡ Some e) ⊎ (b ≡ Some e)
either None b e is = inr is
either (Some x) b e is = inl is

before_named : (limits : Limits) (depth : ℕ) (t : Traj) (k : ℕ) (e : Excess) → excess_before limits depth t k ≡ Some e → (e.axis ≤ 2) × (e.segment ≤ k)
before_named limits depth t zero e is = absurd (cc)
before_named limits depth t (suc k) e is = elim (either (excess_before limits depth t k) _ e is) [
  | inl first ↦ let named = before_named limits depth t k e first in (named.0, omega (arith, named.1))
  | inr later ↦ grind (arith, common_steps, either, above_named)
]

pub first_named : (limits : Limits) (depth : ℕ) (t : Traj) (e : Excess) → first_excess limits depth t ≡ Some e → (e.axis ≤ 2) × (e.segment ≤ length t.segments)
first_named limits depth t e is = grind (arith, common_steps, either, before_named, above_named)

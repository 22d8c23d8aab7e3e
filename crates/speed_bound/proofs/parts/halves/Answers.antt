use Rattle.speed_bound.proofs.Prelude.{◌≡◌, ℕ, suc, ◌-◌, ◌*◌, ◌^◌, ◌≤◌, ℤ, pos, arith, lit<, ints, pow-le-pow_right, pow-suc, pow_pos, IsBelow, IsWithin}
use Rattle.speed_bound.proofs.parts.halves.Goals as goal

-- what is within a power is below a larger one
below : (n m : ℕ) (x : ℤ) → suc n ≤ m → IsWithin (pos (2 ^ n)) x → IsBelow (2 ^ m) x
below n m x more within =
    let room : 2 ^ suc n ≤ 2 ^ m = pow-le-pow_right {n = 2} (lit< tt) more in
    let twice : 2 ^ suc n ≡ 2 ^ n * 2 = pow-suc 2 n in
    (omega (arith, ints, room, twice, pow_pos n, within.0), omega (arith, ints, room, twice, pow_pos n, within.1))

pub halve-requires : goal.halve-requires
halve-requires c k d inside = let more : suc (84 - 7 * c.args.depth) ≤ 118 = omega arith in below (84 - 7 * c.args.depth) 118 _ more (c.requires.values k d inside)

pub halve_short-requires : goal.halve_short-requires
halve_short-requires c k d inside = let more : suc (84 - 7 * c.args.depth) ≤ 54 = omega (arith, c.levels.ensures.same, c.if-levels-lt5.false) in below (84 - 7 * c.args.depth) 54 _ more (c.requires.values k d inside)

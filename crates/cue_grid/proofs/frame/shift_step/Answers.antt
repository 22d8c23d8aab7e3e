use Rattle.cue_grid.proofs.Prelude.{◌≡◌, ℕ, ◌≤◌, ◌^◌, ℤ, ◌+ℤ◌, FitsSigned, arith, refl, sym, subst, to_z, of_z, IsUpTo}
use Rattle.std.proofs.lemmas.Int.{ints, to_z-of_z}
use mir.Syntax.{w64}
use Rattle.cue_grid.proofs.frame.shift_step.Goals as goal

-- a number that 64 bits hold
held : (n : ℕ) (v : ℤ) → n ≤ 2 ^ 42 → IsUpTo n v → IsUpTo n (to_z w64 (of_z w64 v))
held n v few small = let fits : FitsSigned w64 v = omega (arith, ints, small.0, small.1) in subst (IsUpTo n) (sym (to_z-of_z w64 v fits)) small

-- a number and its shift, as 64 bits hold them
moved : (v by r : ℤ) → IsUpTo (2 ^ 42) v → IsUpTo (2 ^ 40) by → r ≡ to_z w64 (of_z w64 v) +ℤ to_z w64 (of_z w64 by) → to_z w64 (of_z w64 r) ≡ v +ℤ by
moved v by r v_small by_small is =
    let v_fits : FitsSigned w64 v = omega (arith, ints, v_small.0, v_small.1) in
    let by_fits : FitsSigned w64 by = omega (arith, ints, by_small.0, by_small.1) in
    let sum_fits : FitsSigned w64 (v +ℤ by) = omega (arith, ints, v_small.0, v_small.1, by_small.0, by_small.1) in
    rw (is, to_z-of_z w64 v v_fits, to_z-of_z w64 by by_fits) (to_z-of_z w64 (v +ℤ by) sum_fits)

pub shifted_number-requires-clause-number : goal.shifted_number-requires-clause-number
shifted_number-requires-clause-number c = held (2 ^ 42) c.args.p.x (omega arith) c.requires.small.x

pub shifted_number-requires-clause-shift : goal.shifted_number-requires-clause-shift
shifted_number-requires-clause-shift c = held (2 ^ 40) c.args.f.now.dx (omega arith) c.requires.frame.dx

pub shifted_number-requires-2-clause-number : goal.shifted_number-requires-2-clause-number
shifted_number-requires-2-clause-number c = held (2 ^ 42) c.args.p.y (omega arith) c.requires.small.y

pub shifted_number-requires-2-clause-shift : goal.shifted_number-requires-2-clause-shift
shifted_number-requires-2-clause-shift c = held (2 ^ 40) c.args.f.now.dy (omega arith) c.requires.frame.dy

pub shifted_number-requires-3-clause-number : goal.shifted_number-requires-3-clause-number
shifted_number-requires-3-clause-number c = held (2 ^ 42) c.args.p.z (omega arith) c.requires.small.z

pub shifted_number-requires-3-clause-shift : goal.shifted_number-requires-3-clause-shift
shifted_number-requires-3-clause-shift c = held (2 ^ 40) c.args.f.now.dz (omega arith) c.requires.frame.dz

pub returns : goal.returns
returns c =
    let p = c.args.p in
    let f = c.args.f.now in
    let yaw_fits : FitsSigned w64 p.yaw = omega (arith, ints, c.requires.small.yaw.0, c.requires.small.yaw.1) in
    let x : to_z w64 (of_z w64 c.shifted_number.result) ≡ p.x +ℤ f.dx = moved p.x f.dx _ c.requires.small.x c.requires.frame.dx c.shifted_number.ensures in
    let y : to_z w64 (of_z w64 c.shifted_number-2.result) ≡ p.y +ℤ f.dy = moved p.y f.dy _ c.requires.small.y c.requires.frame.dy c.shifted_number-2.ensures in
    let z : to_z w64 (of_z w64 c.shifted_number-3.result) ≡ p.z +ℤ f.dz = moved p.z f.dz _ c.requires.small.z c.requires.frame.dz c.shifted_number-3.ensures in
    rw (x, y, z, to_z-of_z w64 p.yaw yaw_fits) refl

-- The halves of a curve whose parts have room.
use Rattle.speed_bound.proofs.Prelude.{◌≡◌, ℕ, suc, ◌+◌, ◌-◌, ◌*◌, ◌^◌, ◌≤◌, ◌<◌, ℤ, pos, ◌*ℤ◌, arith, lit<, List, All, ints, All-from_get_or, pow-add, pow-le-pow_right, at, IsWithin, eight, at-eight, part_value, part-within}
use Rattle.speed_bound.proofs.Widths.{within_at}

-- the half with this number has room
pub half_within : (b half : List ℤ) (depth below r : ℕ) → suc below ≡ depth → depth ≤ 8 → r < 2 → half ≡ eight (part_value 1 r (at b)) → All (IsWithin (pos (2 ^ (84 - 7 * depth)))) b →
    All (IsWithin (pos (2 ^ (84 - 7 * below)))) half
half_within b half depth below r less shallow side is within =
    rw is (All-from_get_or (IsWithin (pos (2 ^ (84 - 7 * below)))) (eight (part_value 1 r (at b))) (pos 0) (λ k inside. one k (omega arith)))
  where
    wide : (p : ℕ) (x : ℤ) → IsWithin (pos 128 *ℤ pos p) x → IsWithin (pos (128 * p)) x
    wide p x within = (omega (arith, ints, within.0), omega (arith, ints, within.1))

    one : (k : ℕ) → k ≤ 7 → IsWithin (pos (2 ^ (84 - 7 * below))) (at (eight (part_value 1 r (at b))) k)
    one k small =
        let e : 84 - 7 * below ≡ 7 + (84 - 7 * depth) = omega arith in
        rw (e, pow-add 2 7 (84 - 7 * depth), at-eight (part_value 1 r (at b)) k small)
        (wide (2 ^ (84 - 7 * depth)) (part_value 1 r (at b) k) (part-within 1 r k (at b) (pos (2 ^ (84 - 7 * depth))) side small (λ i low. within_at (2 ^ (84 - 7 * depth)) b i within)))

-- those of a part are within a power that is as large
pub room_of : (n depth : ℕ) (x : ℤ) → 84 - 7 * depth ≤ n → IsWithin (pos (2 ^ (84 - 7 * depth))) x → IsWithin (pos (2 ^ n)) x
room_of n depth x more within =
    let room : 2 ^ (84 - 7 * depth) ≤ 2 ^ n = pow-le-pow_right {n = 2} (lit< tt) more in
    (omega (arith, ints, room, within.0), omega (arith, ints, room, within.1))

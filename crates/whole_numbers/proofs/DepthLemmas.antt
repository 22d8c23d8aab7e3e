-- Depths, for walks down the halves.
use Rattle.whole_numbers.proofs.Prelude.{◌≡◌, ◌≢◌, ℕ, suc, ◌-◌, ◌≤◌, arith}

-- the number of a depth is at most 8
pub shallow : {n depth : ℕ} → n ≡ depth → n ≤ 8 → depth ≤ 8
shallow {n} {depth} same most = omega (arith, same, most)

-- one level less than a depth that isn't 0
pub less : {n depth below : ℕ} → n ≡ depth → n ≢ 0 → below ≡ n - 1 → suc below ≡ depth
less {n} {depth} {below} same some is = omega (arith, same, some, is)

-- One tree: its leaves cover the cue.
use Rattle.sep_certificate.proofs.Prelude.{◌≡◌, ℕ, suc, ◌+◌, ◌*◌, ◌^◌, ℤ, pos, ◌+ℤ◌, ◌*ℤ◌, ◌≤ℤ◌, arith, List, All, power, at, bernstein, by_lt_z, linear, Bez, Place, Clearance, Rules, AreSmall, direction_of, threshold, left_half, right_half, Tree, IsValidTree, leaf, split, Cue, IsSeenRaised, cue_of, direction}
use Rattle.std.proofs.Math.Nat.{pow-suc}
use Rattle.sep_parts.proofs.Leaf.{along_instant}
use Rattle.sep_parts.proofs.Table.{direction_small}

-- the instant lies in one of the two halves
double_power : (e : ℕ) (a : ℤ) → pos (2 ^ (e + 1)) *ℤ a ≡ pos 2 *ℤ (pos (2 ^ e) *ℤ a)
double_power e a = let up : e + 1 ≡ suc e = omega arith in rw (up, pow-suc 2 e) (omega (arith, linear))

double_index : (m : ℕ) (c : ℤ) → pos (2 * m) *ℤ c ≡ pos 2 *ℤ (pos m *ℤ c)
double_index m c = omega (arith, linear)

next_index : (m : ℕ) (c : ℤ) → pos (m + 1) *ℤ c ≡ pos m *ℤ c +ℤ c
next_index m c = omega (arith, linear)

-- Along some direction of the table the raised differences are at least its threshold at a / c.
pub record IsSeenBy (clear : Clearance) (dirs : List (List ℤ)) (d : Cue) (a c : ℤ) : Type 0 where
  pub dir : ℕ
  pub along :
      (threshold clear (direction_of dirs dir) *ℤ (pos 5040 *ℤ power c 7))
      ≤ℤ ((at (direction_of dirs dir) 0 *ℤ pos clear.h) *ℤ bernstein 7 d.x a c +ℤ (at (direction_of dirs dir) 1 *ℤ pos clear.h) *ℤ bernstein 7 d.y a c
      +ℤ (at (direction_of dirs dir) 2 *ℤ pos clear.r) *ℤ bernstein 7 d.z a c)

-- by a table whose entries are small
pub seen_small : (clear : Clearance) (dirs : List (List ℤ)) (d : Cue) (a c : ℤ) → All AreSmall dirs → IsSeenBy clear dirs d a c → IsSeenRaised clear d a c
seen_small clear dirs d a c small seen = record { n = direction_of dirs seen.dir; small = direction_small dirs seen.dir small; along = seen.along }

pub seen_in_tree : (rules : Rules) (dirs : List (List ℤ)) (diff : List (Bez 8)) (tree : Tree) (place : Place) (a c : ℤ) → pos 1 ≤ℤ c →
    (pos place.index *ℤ c) ≤ℤ (pos (2 ^ place.depth) *ℤ a) → (pos (2 ^ place.depth) *ℤ a) ≤ℤ (pos (place.index + 1) *ℤ c) →
    IsValidTree rules dirs diff place tree → IsSeenBy rules.clearance dirs (cue_of diff) a c
seen_in_tree rules dirs diff (leaf dir) place a c some from to valid = record {
  dir = dir;
  along = along_instant (cue_of diff) (direction (direction_of dirs dir)) rules.clearance.r rules.clearance.h (threshold rules.clearance (direction_of dirs dir))
      place.depth place.index a c some from to (record { values = valid });
}
seen_in_tree rules dirs diff (split left right) place a c some from to valid =
    let e : ℕ = place.depth in
    let m : ℕ = place.index in
    by_lt_z (pos (2 ^ (e + 1)) *ℤ a) (pos (2 * m + 1) *ℤ c)
    (λ first. seen_in_tree rules dirs diff left (left_half place) a c some
    (omega (arith, linear, from, double_power e a, double_index m c)) (omega (arith, linear, first)) valid.1)
    (λ second. seen_in_tree rules dirs diff right (right_half place) a c some
    second (omega (arith, linear, to, double_power e a, double_index m c, next_index m c, next_index (2 * m) c, next_index (2 * m + 1) c)) valid.2)

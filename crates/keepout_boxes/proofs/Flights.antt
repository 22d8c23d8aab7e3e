-- The box of a flight: what is known of it is known of each cue.
use Rattle.keepout_boxes.proofs.Prelude.{◌≡◌, ℕ, zero, suc, ◌+◌, ◌≤◌, ◌<◌, ℤ, pos, arith, refl, subst, inl, inr, List, [], ◌∷◌, below_more, ints, IsIn, at, linear, Bez, Raised, curves_at, Region, Keepout, Volume, IsKept, Covers, DroneKept, IsWider, values_of}
use Rattle.keepout_boxes.proofs.Walks.{kept_within, to_here}

-- values that lie between the first two of kept ones, on each axis, are kept
pub kept_between : (r h : ℕ) (region : Region) (f g : ℕ → ℕ → ℤ) (scale : ℤ) → ((axis : ℕ) → axis ≤ 2 → (k : ℕ) → k ≤ 7 → IsIn (f axis 0) (f axis 1) (g axis k)) →
    IsKept r h region f scale → IsKept r h region g scale
kept_between r h (Keepout low high) f g scale covers kept =
    let axis : ℕ = kept.0 in (
      axis,
      kept.1,
      elim (kept.2) [
        | inl below ↦ inl (λ k small. omega (arith, linear, below 1 (omega arith), (covers axis kept.1 k small).1))
        | inr above ↦ inr (λ k small. omega (arith, linear, above 0 (omega arith), (covers axis kept.1 k small).0))
      ],
    )
kept_between r h (Volume low high) f g scale covers kept = λ axis near k small. (
  omega (arith, linear, (kept axis near 0 (omega arith)).0, (covers axis near k small).0),
  omega (arith, linear, (kept axis near 1 (omega arith)).1, (covers axis near k small).1),
)

-- where the box of a drone's flight is kept, so is each part of it
pub flight_kept : (c : Raised) (r h depth : ℕ) (region : Region) (drone : ℕ) (flight : List (Bez 8)) → Covers c drone flight c.cues → IsKept r h region (values_of flight) (pos 5040) → DroneKept c r h depth region drone c.cues
flight_kept c r h depth region drone flight covers kept cue cue_in index index_in =
    to_here c r h depth region drone cue (curves_at c drone cue) index refl
    (kept_within r h region (curves_at c drone cue) (pos 5040) depth index index_in
    (kept_between r h region (values_of flight) (values_of (curves_at c drone cue)) (pos 5040) (covers cue cue_in) kept))

-- ---- how boxes are made
-- one cue more, on one axis
pub cue_more : (c : Raised) (drone m axis : ℕ) (part : List (Bez 8)) (low high lower higher : ℤ) → part ≡ curves_at c drone m → IsWider low high (values_of part axis) lower higher →
    ((cue : ℕ) → cue < m → (k : ℕ) → k ≤ 7 → IsIn low high (values_of (curves_at c drone cue) axis k)) → (cue : ℕ) → cue < m + 1 → (k : ℕ) → k ≤ 7 → IsIn lower higher (values_of (curves_at c drone cue) axis k)
cue_more c drone m axis part low high lower higher is wide before =
    below_more (λ (cue : ℕ). (k : ℕ) → k ≤ 7 → IsIn lower higher (values_of (curves_at c drone cue) axis k)) m
    (λ cue less k small. (omega (arith, ints, (before cue less k small).0, wide.as_low), omega (arith, ints, (before cue less k small).1, wide.as_high)))
    (subst (λ (curves : List (Bez 8)). (k : ℕ) → k ≤ 7 → IsIn lower higher (values_of curves axis k)) is wide.between)

-- a row by its ends
pub row_covers : (c : Raised) (drone m n axis : ℕ) (row : Bez 8) (low high : ℤ) → m ≤ n → at row.b 0 ≡ low → at row.b 1 ≡ high →
    ((cue : ℕ) → cue < n → (k : ℕ) → k ≤ 7 → IsIn low high (values_of (curves_at c drone cue) axis k)) → (cue : ℕ) → cue < m → (k : ℕ) → k ≤ 7 → IsIn (at row.b 0) (at row.b 1) (values_of (curves_at c drone cue) axis k)
row_covers c drone m n axis row low high past low_is high_is all cue less k small = rw (low_is, high_is) (all cue (omega arith) k small)

-- three rows
pub rows_cover : (c : Raised) (drone m : ℕ) (x y z : Bez 8) →
    ((cue : ℕ) → cue < m → (k : ℕ) → k ≤ 7 → IsIn (at x.b 0) (at x.b 1) (values_of (curves_at c drone cue) 0 k)) →
    ((cue : ℕ) → cue < m → (k : ℕ) → k ≤ 7 → IsIn (at y.b 0) (at y.b 1) (values_of (curves_at c drone cue) 1 k)) →
    ((cue : ℕ) → cue < m → (k : ℕ) → k ≤ 7 → IsIn (at z.b 0) (at z.b 1) (values_of (curves_at c drone cue) 2 k)) → Covers c drone (x ∷ y ∷ z ∷ []) m
rows_cover c drone m x y z on_x on_y on_z cue less zero near k small = on_x cue less k small
rows_cover c drone m x y z on_x on_y on_z cue less (suc zero) near k small = on_y cue less k small
rows_cover c drone m x y z on_x on_y on_z cue less (suc (suc zero)) near k small = on_z cue less k small
rows_cover c drone m x y z on_x on_y on_z cue less (suc (suc (suc axis))) near k small = absurd (omega arith)

-- Curves that are kept as rows of control values.
use Rattle.fleet_curves.proofs.Prelude.{common_steps, set, ◌≡◌, ◌≢◌, ℕ, zero, suc, ◌+◌, ◌≤◌, ◌<◌, ℤ, ◌-ℤ◌, ◌^◌, arith, below_more, get_or-set_other, get_or-set_same, slice_set, refl, sym, ◌∙◌, ap, subst, All, List, [], ◌∷◌, ◌++◌, length, take, get_or, map, length-map, map-append, take_all, All-get_or, at, IsBelow, Bez, controls, eight, AreRaised, curves_of, less, AreSmallCurves, all_curves}
use Rattle.fleet_curves.proofs.Differences.{same_default}

-- what holds of the entries so far and of the new one
pub set_below : (P : ℕ → ℤ → Type 0) (xs : List ℤ) (i : ℕ) (v : ℤ) → i < length xs → P i v → ((k : ℕ) → k < i → P k (at xs k)) → (k : ℕ) → k < i + 1 → P k (at (slice_set xs i v) k)
set_below P xs i v inside new old = below_more _ _ (λ k less. let ne : k ≢ i = omega (arith, less) in rw get_or-set_other (old k less)) (rw get_or-set_same new)

-- an entry of a list that is mapped, also past its end
map_at : {X Y : Type 0} (f : X → Y) (xs : List X) (i : ℕ) (d : X) → get_or (map f xs) i (f d) ≡ f (get_or xs i d)
map_at f [] i d = refl
map_at f (x ∷ xs) zero d = refl
map_at f (x ∷ xs) (suc i) d = map_at f xs i d

-- the control values of a curve are its row
pub controls_row : (rows : List (List ℤ)) (axis : ℕ) → controls (curves_of rows) axis ≡ get_or rows axis []
controls_row rows axis = ap (λ (curve : Bez 8). curve.b) (map_at (λ row. record { b = row }) rows axis [])

-- the curves of a drone in a cue
pub curves_row : (all : List (List (List ℤ))) (i : ℕ) → get_or (all_curves all) i [] ≡ curves_of (get_or all i [])
curves_row all i = map_at curves_of all i []

-- rows more
pub curves_push : (old new : List (List (List ℤ))) (rows : List (List ℤ)) → new ≡ old ++ rows ∷ [] → all_curves new ≡ all_curves old ++ curves_of rows ∷ []
curves_push old new rows is = ap all_curves is ∙ map-append curves_of old (rows ∷ [])

-- all of a list that was copied entry by entry
pub copied : (n k : ℕ) (xs ys : List ℤ) → length xs ≡ n → length ys ≡ n → n ≤ k → take k xs ≡ take k ys → xs ≡ ys
copied n k xs ys xs_len ys_len far done = sym (take_all k xs (omega arith)) ∙ done ∙ take_all k ys (omega arith)

pub kept_at : (all : List (List (List ℤ))) (i : ℕ) (rows : List (List ℤ)) → rows ≡ get_or all i rows → curves_of rows ≡ get_or (all_curves all) i (curves_of rows)
kept_at all i rows is = ap curves_of is ∙ sym (map_at curves_of all i rows)

-- what holds of the curves of a fleet holds of those of a drone in a cue
pub small_at : (all : List (List (List ℤ))) (i : ℕ) (rows : List (List ℤ)) → i < length all → rows ≡ get_or all i rows → All AreSmallCurves (all_curves all) → AreSmallCurves (curves_of rows)
small_at all i rows inside is small =
    let counted : length (all_curves all) ≡ length all = length-map all curves_of in
    subst (λ (curves : List (Bez 8)). AreSmallCurves curves) (sym (kept_at all i rows is)) (All-get_or AreSmallCurves (all_curves all) i (curves_of rows) (omega (arith, counted)) small)

-- and so of one of its curves
pub small_row : (rows : List (List ℤ)) (axis : ℕ) → axis < length rows → AreSmallCurves (curves_of rows) → All (IsBelow (2 ^ 28)) (controls (curves_of rows) axis)
small_row rows axis inside small =
    let counted : length (curves_of rows) ≡ length rows = length-map rows (λ row. record { b = row }) in
    All-get_or (λ (curve : Bez 8). All (IsBelow (2 ^ 28)) curve.b) (curves_of rows) axis (record { b = [] }) (omega (arith, counted)) small

pub row_told : (rows : List (List ℤ)) (axis : ℕ) (row : List ℤ) → axis < length rows → row ≡ get_or rows axis row → row ≡ controls (curves_of rows) axis
row_told rows axis row inside is = is ∙ same_default rows axis row [] inside ∙ sym (controls_row rows axis)

-- what holds of rows holds of their curves
rows_all : (P : List ℤ → Type 0) (rows : List (List ℤ)) → All P rows → All (λ (curve : Bez 8). P curve.b) (curves_of rows)
rows_all P rows all k d inside =
    let counted : length (curves_of rows) ≡ length rows = length-map rows (λ row. record { b = row }) in
    subst (λ (curve : Bez 8). P curve.b) (sym (map_at (λ row. record { b = row }) rows k d.b)) (all k d.b (omega (arith, counted, inside)))

pub rows_raised : (rows : List (List ℤ)) → length rows ≡ 3 → All (λ (row : List ℤ). length row ≡ 8) rows → All (λ (row : List ℤ). All (IsBelow (2 ^ 30)) row) rows → AreRaised (curves_of rows)
rows_raised rows three eights small = record {
  axes = length-map rows (λ row. record { b = row }) ∙ three;
  sizes = rows_all (λ (row : List ℤ). length row ≡ 8) rows eights;
  values = rows_all (λ (row : List ℤ). All (IsBelow (2 ^ 30)) row) rows small;
}

-- a difference of two of them
pub less_told : (second first : List (Bez 8)) (axis : ℕ) (x y : List ℤ) (r : Bez 8) → x ≡ controls second axis → y ≡ controls first axis → r.b ≡ eight (λ k. at x k -ℤ at y k) → r ≡ less second first axis
less_told second first axis x y r x_is y_is is =
    ap (λ (row : List ℤ). record { b = row })
    (is ∙ ap (λ (v : List ℤ). eight (λ k. at v k -ℤ at y k)) x_is ∙ ap (λ (v : List ℤ). eight (λ k. at (controls second axis) k -ℤ at v k)) y_is)

-- the same of two rows
pub rows_less : (second first : List (List ℤ)) (axis : ℕ) (d e : List ℤ) (r : Bez 8) → axis < length second → axis < length first →
    r.b ≡ eight (λ k. at (get_or second axis d) k -ℤ at (get_or first axis e) k) → r ≡ less (curves_of second) (curves_of first) axis
rows_less second first axis d e r upper lower is =
    less_told (curves_of second) (curves_of first) axis (get_or second axis d) (get_or first axis e) r
    (same_default second axis d [] upper ∙ sym (controls_row second axis)) (same_default first axis e [] lower ∙ sym (controls_row first axis)) is

-- one of some small curves is small
pub small_among : (curves : List (Bez 8)) (i : ℕ) → i < length curves → All (λ (curve : Bez 8). All (IsBelow (2 ^ 28)) curve.b) curves → All (IsBelow (2 ^ 28)) (controls curves i)
small_among curves i inside small = All-get_or (λ (curve : Bez 8). All (IsBelow (2 ^ 28)) curve.b) curves i (record { b = [] }) inside small

-- three curves are those of their control values
pub three_curves : (curves : List (Bez 8)) → length curves ≡ 3 → curves ≡ (record { b = controls curves 0 } ∷ record { b = controls curves 1 } ∷ record { b = controls curves 2 } ∷ [])
three_curves [] e = absurd (omega arith)
three_curves (x ∷ []) e = absurd (omega arith)
three_curves (x ∷ y ∷ []) e = absurd (omega arith)
three_curves (x ∷ y ∷ z ∷ []) e = refl
three_curves (x ∷ y ∷ z ∷ v ∷ xs) e = absurd (omega arith)

-- one entry more of a list that is copied entry by entry
pub copied_more : (n k : ℕ) (xs ys : List ℤ) (v : ℤ) → length xs ≡ n → k < n → length ys ≡ n → v ≡ at ys k → take k xs ≡ take k ys → take (k + 1) (set xs k v) ≡ take (k + 1) ys
copied_more n k xs ys v xs_len inside ys_len v_is done = grind (arith, common_steps)

pub copied_len : (n k : ℕ) (xs : List ℤ) (v : ℤ) → length xs ≡ n → length (set xs k v) ≡ n
copied_len n k xs v xs_len = grind (arith, common_steps)

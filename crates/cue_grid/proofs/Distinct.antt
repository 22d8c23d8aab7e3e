-- No two drones of a show without a fault have one name.
use Rattle.cue_grid.proofs.Prelude.{common_steps, ◌≡◌, ℕ, zero, suc, ◌<◌, Bool, true, false, refl, sym, ap, ◌∙◌, List, [], ◌∷◌, ◌++◌, length, get_or, arith, Option, None, ◌||◌, bytes_eq-Decides, Name, DroneLine, PlainShow, GridFault, DoubleName, fault_if, drone_faults, grid_fault, same_name, has_name, has_double, names_of}
use Rattle.cue_grid.proofs.Fits.{neither, both_empty, no_earliest}
use Rattle.cue_grid.proofs.Tables.{same_is}

by_first : (a b c : Bool) → (a || b) ≡ true → (b ≡ true → c ≡ true) → (a || c) ≡ true
by_first true b c h next = refl
by_first false b c h next = next h

or_right : (a b : Bool) → b ≡ true → (a || b) ≡ true
or_right true b h = refl
or_right false b h = h

or_false : (a b : Bool) → a ≡ false → b ≡ false → (a || b) ≡ false
or_false a b p q = rw (p, q) refl

left_has : (xs ys : List Name) (n : Name) → has_name xs n ≡ true → has_name (xs ++ ys) n ≡ true
left_has [] ys n has = absurd (cc)
left_has (x ∷ xs) ys n has = by_first (same_name n x) (has_name xs n) (has_name (xs ++ ys) n) has (λ later. left_has xs ys n later)

-- a name at a place is one of them
pub place_has : (xs : List Name) (k : ℕ) (n o : Name) → k < length xs → same_name n (get_or xs k o) ≡ true → has_name xs n ≡ true
place_has [] k n o within same = absurd (omega arith)
place_has (x ∷ xs) zero n o within same = ap (λ b. b || has_name xs n) same
place_has (x ∷ xs) (suc k) n o within same = or_right (same_name n x) (has_name xs n) (place_has xs k n o (omega arith) same)

self_has : (xs : List Name) (n : Name) → has_name (xs ++ n ∷ []) n ≡ true
self_has [] n = grind (arith, common_steps, bytes_eq-Decides)
self_has (x ∷ xs) n = or_right (same_name n x) (has_name (xs ++ n ∷ []) n) (self_has xs n)

-- a test that gives no fault fails
no_fault : (b : Bool) (f : GridFault) → fault_if b f [] ≡ [] → b ≡ false
no_fault true f empty = absurd (cc)
no_fault false f empty = refl

-- a name that is the same as one that these names haven't is none of them
other_name : (b : Bool) (earlier : List Name) (n m : Name) → same_name n m ≡ b → has_name earlier n ≡ true → has_name earlier m ≡ false → b ≡ false
other_name true earlier n m same has hasnt = absurd (differ (sym (ap (has_name earlier) (same_is n m same)) ∙ has) hasnt)
  where
    differ : has_name earlier m ≡ true → has_name earlier m ≡ false → ⊥
    differ h k = cc
other_name false earlier n m same has hasnt = refl

-- drones after these names, without a fault: no two have one name, and none has one of these
apart : (earlier : List Name) (ds : List DroneLine) → drone_faults earlier ds ≡ [] →
    (has_double (names_of ds) ≡ false) × ((n : Name) → has_name earlier n ≡ true → has_name (names_of ds) n ≡ false)
apart earlier [] empty = (refl, λ n has. refl)
apart earlier (d ∷ ds) empty =
    let parts = both_empty (fault_if (has_name earlier d.name) (DoubleName d.line) []) (drone_faults (earlier ++ d.name ∷ []) ds) empty in
    let fresh : has_name earlier d.name ≡ false = no_fault (has_name earlier d.name) (DoubleName d.line) parts.0 in
    let later = apart (earlier ++ d.name ∷ []) ds parts.1 in (
      or_false (has_name (names_of ds) d.name) (has_double (names_of ds)) (later.1 d.name (self_has earlier d.name)) later.0,
      λ n has. or_false (same_name n d.name) (has_name (names_of ds) n) (other_name (same_name n d.name) earlier n d.name refl has fresh) (later.1 n (left_has earlier (d.name ∷ []) n has)),
    )

-- no two drones of a show without a fault have one name
pub names_apart : (s : PlainShow) → grid_fault s ≡ None → has_double (names_of s.drones) ≡ false
names_apart s none = grind (arith, common_steps, neither, no_earliest, apart, both_empty)

-- nor have the starts of what is answered of such a show
pub answered_distinct : (s : PlainShow) (o : Option GridFault) (starts : List DroneLine) → o ≡ grid_fault s → o ≡ None → starts ≡ s.drones → has_double (names_of starts) ≡ false
answered_distinct s o starts is none same = ap (λ (ds : List DroneLine). has_double (names_of ds)) same ∙ names_apart s (sym is ∙ none)

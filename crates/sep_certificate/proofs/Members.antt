-- Each pair and cue of a show has a slot, and so a valid tree.
use Rattle.sep_certificate.proofs.Prelude.{◌≡◌, ◌⊎◌, inl, inr, ℕ, zero, suc, ◌+◌, ◌-◌, ◌<◌, arith, sym, subst, ap, List, [], ◌∷◌, ◌++◌, ℤ, Slot, Rules, Node, Raised, difference, root, slots, slot_at, cues_from, pairs_from, drones_from, AreValid, Tree, IsValidTree}

-- the slot stands in the list
abbrev IsAmong : Slot → List Slot → Type 0
IsAmong s [] = ⊥
IsAmong s (x ∷ rest) = (s ≡ x) ⊎ IsAmong s rest

in_left : (s : Slot) (xs ys : List Slot) → IsAmong s xs → IsAmong s (xs ++ ys)
in_left s [] ys is = absurd is
in_left s (x ∷ xs) ys (inl e) = inl e
in_left s (x ∷ xs) ys (inr is) = inr (in_left s xs ys is)

in_right : (s : Slot) (xs ys : List Slot) → IsAmong s ys → IsAmong s (xs ++ ys)
in_right s [] ys is = is
in_right s (x ∷ xs) ys is = inr (in_right s xs ys is)

in_cues : (n a b k i : ℕ) → i < n → IsAmong (slot_at a b (k + i)) (cues_from n a b k)
in_cues zero a b k i inside = absurd (omega arith)
in_cues (suc n) a b k zero inside = let e : k + 0 ≡ k = omega arith in inl (ap (λ (n : ℕ). slot_at a b n) e)
in_cues (suc n) a b k (suc i) inside = let e : k + suc i ≡ suc k + i = omega arith in inr (subst (λ (m : ℕ). IsAmong (slot_at a b m) (cues_from n a b (suc k))) (sym e) (in_cues n a b (suc k) i (omega arith)))

in_pairs : (n cues a b j cue : ℕ) → j < n → cue < cues → IsAmong (slot_at a (b + j) cue) (pairs_from n cues a b)
in_pairs zero cues a b j cue inside is = absurd (omega arith)
in_pairs (suc n) cues a b zero cue inside is =
    let e : b + 0 ≡ b = omega arith in
    let f : 0 + cue ≡ cue = omega arith in
    subst (λ (m : ℕ). IsAmong (slot_at a m cue) (cues_from cues a b 0 ++ pairs_from n cues a (suc b))) (sym e)
    (in_left (slot_at a b cue) (cues_from cues a b 0) (pairs_from n cues a (suc b)) (subst (λ (m : ℕ). IsAmong (slot_at a b m) (cues_from cues a b 0)) f (in_cues cues a b 0 cue is)))
in_pairs (suc n) cues a b (suc j) cue inside is =
    let e : b + suc j ≡ suc b + j = omega arith in
    subst (λ (m : ℕ). IsAmong (slot_at a m cue) (cues_from cues a b 0 ++ pairs_from n cues a (suc b))) (sym e) (in_right (slot_at a (suc b + j) cue) (cues_from cues a b 0) (pairs_from n cues a (suc b)) (in_pairs n cues a (suc b) j cue (omega arith) is))

in_drones : (n cues a i j cue : ℕ) → i + j + 1 < n → cue < cues → IsAmong (slot_at (a + i) (a + i + 1 + j) cue) (drones_from n cues a)
in_drones zero cues a i j cue inside is = absurd (omega arith)
in_drones (suc n) cues a zero j cue inside is =
    let e : a + 0 ≡ a = omega arith in
    let f : a + 0 + 1 + j ≡ suc a + j = omega arith in
    subst (λ (m : ℕ). IsAmong (slot_at m (a + 0 + 1 + j) cue) (pairs_from n cues a (suc a) ++ drones_from n cues (suc a))) (sym e)
    (subst (λ (m : ℕ). IsAmong (slot_at a m cue) (pairs_from n cues a (suc a) ++ drones_from n cues (suc a))) (sym f) (in_left (slot_at a (suc a + j) cue) (pairs_from n cues a (suc a)) (drones_from n cues (suc a)) (in_pairs n cues a (suc a) j cue (omega arith) is)))
in_drones (suc n) cues a (suc i) j cue inside is =
    let e : a + suc i ≡ suc a + i = omega arith in
    subst (λ (m : ℕ). IsAmong (slot_at m (m + 1 + j) cue) (pairs_from n cues a (suc a) ++ drones_from n cues (suc a))) (sym e) (in_right (slot_at (suc a + i) (suc a + i + 1 + j) cue) (pairs_from n cues a (suc a)) (drones_from n cues (suc a)) (in_drones n cues (suc a) i j cue (omega arith) is))

in_slots : (drones cues a b cue : ℕ) → a < b → b < drones → cue < cues → IsAmong (slot_at a b cue) (slots drones cues)
unfolding slots
in_slots drones cues a b cue order inside is =
    let e : 0 + a ≡ a = omega arith in
    let f : 0 + a + 1 + (b - (a + 1)) ≡ b = omega arith in
    subst (λ (m : ℕ). IsAmong (slot_at a m cue) (drones_from drones cues 0)) f
    (subst (λ (m : ℕ). IsAmong (slot_at m (0 + a + 1 + (b - (a + 1))) cue) (drones_from drones cues 0)) e (in_drones drones cues 0 a (b - (a + 1)) cue (omega arith) is))

valid_in : (rules : Rules) (dirs : List (List ℤ)) (curves : Raised) (s : Slot) (ss : List Slot) (trees : List (List Node)) → IsAmong s ss → AreValid rules dirs curves ss trees →
    (tree : Tree) × IsValidTree rules dirs (difference curves s.a s.b s.cue) root tree
valid_in rules dirs curves s [] trees is valid = absurd is
valid_in rules dirs curves s (x ∷ ss) [] is valid = absurd valid
valid_in rules dirs curves s (x ∷ ss) (nodes ∷ trees) (inl e) valid = rw e (valid.0.0, valid.0.2)
valid_in rules dirs curves s (x ∷ ss) (nodes ∷ trees) (inr is) valid = valid_in rules dirs curves s ss trees is valid.1

-- the tree of a pair and a cue
pub tree_of : (rules : Rules) (dirs : List (List ℤ)) (curves : Raised) (trees : List (List Node)) (a b cue : ℕ) → a < b → b < curves.drones → cue < curves.cues →
    AreValid rules dirs curves (slots curves.drones curves.cues) trees → (tree : Tree) × IsValidTree rules dirs (difference curves a b cue) root tree
tree_of rules dirs curves trees a b cue order inside is valid =
    valid_in rules dirs curves (slot_at a b cue) (slots curves.drones curves.cues) trees (in_slots curves.drones curves.cues a b cue order inside is) valid

-- Two drones 7 mm apart, by a certificate of one leaf: the direction of x.
use Rattle.definition_tests.proofs.Prelude.{common_steps, ◌≡◌, ℕ, suc, pos, ◌≤◌, List, [], ◌∷◌, ◌++◌, All, ap, get_or, length, length-append, subst, arith, refl, All-cons, All-nil, bernstein, raised_value, polar, Traj, durations, AreOneShow, CurvesStandFor, difference, raised_of, KeepReach, MovesWithin, AreSmall, root_above, slots, root, IsMoving, ReachLaw, reach, reach_of, segment_speed, speed, speed_of, widest_step, formed_of, ApartRows, behind, beside, flight}
use Rattle.fleet_curves.specs.Steps.{IsFormed}
use Rattle.fleet_curves.proofs.Standing.{stands}
use Rattle.sep_parts.specs.Apart.{FlyApart}
use Rattle.sep_parts.specs.Trees.Tree.{leaf, split}
use Rattle.sep_parts.specs.declared.node.Node.{Node}
use Rattle.sep_parts.specs.declared.node.Node.TheVariants.{Leaf, Split}
use Rattle.sep_parts.specs.Trees.{IsValidTree, Tree, preorder}
use Rattle.sep_certificate.specs.declared.certificate.Certificate.{Certificate}
use Rattle.sep_certificate.specs.Certificates.{IsValid, rules_of}
use Rattle.sep_certificate.specs.Laws.{CertificateLaw}
use Rattle.definition_tests.specs.Certified.{ValidRows, along_x, kept, with_trees}
use Rattle.definition_tests.proofs.Counting.{to_seven, to_two}

-- ---- the trajectories

pub moving : (from to : ℕ) → from ≤ 17 → to ≤ 17 → IsMoving (flight (pos from) (pos to))
moving from to low high = record {
  formed = grind (arith, common_steps, All-cons, All-nil);
  some = omega arith;
  durations = grind (arith, common_steps, All-cons, All-nil);
}

two : (P : Traj → Type 0) (t u : Traj) → P t → P u → All P (t ∷ u ∷ [])
two P t u first second = All-cons P t (u ∷ []) first (All-cons P u [] second (All-nil P))

show : (from to from' to' : ℕ) → AreOneShow (10 ∷ []) (flight (pos from) (pos to) ∷ flight (pos from') (pos to') ∷ [])
show from to from' to' = record {
  some_drones = omega arith;
  few_drones = omega arith;
  some_cues = omega arith;
  few_cues = omega arith;
  lasting = All-cons (λ ms. 1 ≤ ms) 10 [] (omega arith) (All-nil (λ ms. 1 ≤ ms));
  same_times = two (λ (t : Traj). durations t.segments ≡ 10 ∷ []) _ _ refl refl;
}

pub stand : (from to from' to' : ℕ) → from ≤ 17 → to ≤ 17 → from' ≤ 17 → to' ≤ 17 →
    CurvesStandFor (raised_of (flight (pos from) (pos to) ∷ flight (pos from') (pos to') ∷ [])) (flight (pos from) (pos to) ∷ flight (pos from') (pos to') ∷ [])
unfolding raised_of
stand from to from' to' a b c d =
    stands (raised_of (flight (pos from) (pos to) ∷ flight (pos from') (pos to') ∷ [])) (flight (pos from) (pos to) ∷ flight (pos from') (pos to') ∷ []) (10 ∷ []) (show from to from' to')
    (two (λ (t : Traj). All IsFormed t.segments) (flight (pos from) (pos to)) (flight (pos from') (pos to'))
    (formed_of (flight (pos from) (pos to)).segments (moving from to a b).formed.segments) (formed_of (flight (pos from') (pos to')).segments (moving from' to' c d).formed.segments)) refl refl refl

-- ---- the certificate

small_x : All AreSmall (along_x ∷ [])
small_x = All-cons AreSmall along_x [] (record {
  low = to_two _ (omega arith) (omega arith) (omega arith);
  high = to_two _ (omega arith) (omega arith) (omega arith);
}) (All-nil AreSmall)

abbrev one_leaf : Certificate
one_leaf = with_trees ((Leaf 0 ∷ []) ∷ [])

behind_valid : IsValid (along_x ∷ []) (raised_of behind) (kept 0 4 4) one_leaf
unfolding raised_of slots difference root_above polar bernstein raised_value
behind_valid = ((leaf 0, refl, to_seven _ (omega arith) (omega arith) (omega arith) (omega arith) (omega arith) (omega arith) (omega arith) (omega arith)), tt)

beside_valid : IsValid (along_x ∷ []) (raised_of beside) (kept 2 0 0) one_leaf
unfolding raised_of slots difference root_above polar bernstein raised_value
beside_valid = ((leaf 0, refl, to_seven _ (omega arith) (omega arith) (omega arith) (omega arith) (omega arith) (omega arith) (omega arith) (omega arith)), tt)

-- a leaf of these numbers is a leaf of the first direction
leaf_is : (n : ℕ) → ◌≡◌ {A = List Node} (Leaf 0 ∷ []) (Leaf n ∷ []) → n ≡ 0
leaf_is n same = cc

no_split : (nodes : List Node) → ◌≡◌ {A = List Node} (Leaf 0 ∷ []) (Split ∷ nodes) → ⊥
no_split nodes same = cc

no_leaf : (n : ℕ) → ◌≡◌ {A = List Node} (Split ∷ Leaf 0 ∷ []) (Leaf n ∷ []) → ⊥
no_leaf n same = cc

some_node : (tree : Tree) → 1 ≤ length (preorder tree)
some_node (leaf n) = let one : 1 ≤ 1 = omega arith in one
some_node (split left right) = let more : 1 ≤ suc (length (preorder left ++ preorder right)) = omega arith in more

late_leaf : (tree : Tree) → (Leaf 0 ∷ []) ≡ preorder tree → IsValidTree (rules_of (kept 0 5 5) one_leaf) (along_x ∷ []) (difference (raised_of behind) 0 1 0) root tree → ⊥
unfolding raised_of slots difference root_above polar bernstein raised_value
late_leaf (split left right) spelled valid = no_split (preorder left ++ preorder right) spelled
late_leaf (leaf n) spelled valid =
    let here = subst (λ (m : ℕ). IsValidTree (rules_of (kept 0 5 5) one_leaf) (along_x ∷ []) (difference (raised_of behind) 0 1 0) root (leaf m)) (leaf_is n spelled) valid in
    let low = here 0 (omega arith) in omega (arith, low)

strayed_leaf : (tree : Tree) → (Leaf 0 ∷ []) ≡ preorder tree → IsValidTree (rules_of (kept 3 0 0) one_leaf) (along_x ∷ []) (difference (raised_of beside) 0 1 0) root tree → ⊥
unfolding raised_of slots difference root_above polar bernstein raised_value
strayed_leaf (split left right) spelled valid = no_split (preorder left ++ preorder right) spelled
strayed_leaf (leaf n) spelled valid =
    let here = subst (λ (m : ℕ). IsValidTree (rules_of (kept 3 0 0) one_leaf) (along_x ∷ []) (difference (raised_of beside) 0 1 0) root (leaf m)) (leaf_is n spelled) valid in
    let low = here 0 (omega arith) in omega (arith, low)

half_a_tree : (tree : Tree) → (Split ∷ Leaf 0 ∷ []) ≡ preorder tree → ⊥
half_a_tree (leaf n) spelled = no_leaf n spelled
half_a_tree (split left right) spelled =
    let nodes : 2 ≡ suc (length (preorder left ++ preorder right)) = ap length spelled in
    omega (arith, nodes, length-append (preorder left) (preorder right), some_node left, some_node right)

pub valid : ValidRows
unfolding raised_of slots
valid = record {
  behind_by_four = behind_valid;
  behind_by_five = λ valid. late_leaf valid.0.0 valid.0.1 valid.0.2;
  strayed_by_two = beside_valid;
  strayed_by_three = λ valid. strayed_leaf valid.0.0 valid.0.1 valid.0.2;
  no_tree = λ valid. absurd valid;
  half_a_tree = λ valid. half_a_tree valid.0.0 valid.0.1;
  two_trees = λ valid. absurd valid.1;
}

-- ---- the reach

all_moving : (from to from' to' : ℕ) → from ≤ 17 → to ≤ 17 → from' ≤ 17 → to' ≤ 17 → All IsMoving (flight (pos from) (pos to) ∷ flight (pos from') (pos to') ∷ [])
all_moving from to from' to' a b c d = two IsMoving (flight (pos from) (pos to)) (flight (pos from') (pos to')) (moving from to a b) (moving from' to' c d)

behind_reach : ReachLaw → KeepReach (kept 0 4 4) behind
unfolding reach_of reach speed segment_speed speed_of widest_step polar bernstein raised_value
behind_reach law k d inside = to_two _ (moves 0 (omega arith)) (moves 1 (omega arith)) (moves 2 (omega arith)) where
  moves : (axis : ℕ) → axis ≤ 2 → MovesWithin 4 (reach_of 0 4 behind axis) (get_or behind k d) axis
  moves = law 0 4 behind (all_moving 0 10 7 17 (omega arith) (omega arith) (omega arith) (omega arith)) k d inside

behind_apart : CertificateLaw → ReachLaw → FlyApart 1 1 0 4 behind
behind_apart law reaches =
    law.apart (along_x ∷ []) (raised_of behind) (kept 0 4 4) one_leaf small_x behind_valid behind (stand 0 10 7 17 (omega arith) (omega arith) (omega arith) (omega arith)) (behind_reach reaches)

beside_reach : ReachLaw → KeepReach (kept 2 0 0) beside
unfolding reach_of reach speed segment_speed speed_of widest_step polar bernstein raised_value
beside_reach law k d inside = to_two _ (moves 0 (omega arith)) (moves 1 (omega arith)) (moves 2 (omega arith)) where
  moves : (axis : ℕ) → axis ≤ 2 → MovesWithin 0 (reach_of 0 0 beside axis) (get_or beside k d) axis
  moves = law 0 0 beside (all_moving 0 0 7 7 (omega arith) (omega arith) (omega arith) (omega arith)) k d inside

beside_apart : CertificateLaw → ReachLaw → FlyApart 1 1 2 0 beside
beside_apart law reaches =
    law.apart (along_x ∷ []) (raised_of beside) (kept 2 0 0) one_leaf small_x beside_valid beside (stand 0 0 7 7 (omega arith) (omega arith) (omega arith) (omega arith)) (beside_reach reaches)

pub apart : CertificateLaw → ReachLaw → ApartRows
apart law reaches = record { late_by_four = behind_apart law reaches; strayed_by_two = beside_apart law reaches }

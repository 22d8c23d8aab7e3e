-- What is true of the certificate with the largest leaves, where no part of a show is blocked.
use Rattle.show_plan.proofs.Prelude.{common_steps, ◌≡◌, inr, ℕ, zero, suc, ◌≤◌, ◌<◌, arith, refl, sym, ap, subst, List, [], ◌∷◌, ◌++◌, map, All, Option, Some, None, Result, Ok, Err, IsOk, option_map, option_or, length-map, All-nil, All-cons, All-head, All-tail, All-append, Traj, KeepReach, KeepsApart, SentLaw, Clearance, Slot, table_of, CurvesStandFor, Raised, difference, raised_of, SearchLaw, best_tree, split_of, Settings, Fitted, IsValidFitted, CountGives, FlyApart, IsShowClear, IsSlotClear, best_certificate, best_nodes, blocked_in, blocked_part, clearance_of, direction_at, measure_of, slots_of, searched, FindsNodes, blocked_slot}
use Rattle.bezier_core.specs.declared.halves.Place.{Place}
use Rattle.sep_parts.proofs.Table.{table_small}
use Rattle.sep_parts.specs.Levels.{left_half, right_half, root}
use Rattle.sep_parts.specs.Slots.{slots}
use Rattle.sep_certificate.specs.declared.certificate.Certificate.{Certificate}
use Rattle.sep_parts.specs.declared.node.Node.{Node}
use Rattle.sep_parts.specs.declared.node.Node.TheVariants.{Split, Leaf}
use Rattle.sep_certificate.specs.Certificates.{AreValid, IsValid, IsWhole}
use Rattle.sep_parts.specs.Trees.{IsKnown, IsTree, IsValidTree, Tree, leaf, split, preorder}
use Rattle.sep_certificate.specs.Laws.{CertificateLaw}
use Rattle.pair_search.specs.Fleets as fleet
use Rattle.pair_search.specs.Fleets.{nodes_of}
use Rattle.pair_search.proofs.Counted.{few_slots}
use Rattle.show_plan.specs.declared.separation.SeparationFault.{SeparationFault}
use Rattle.show_plan.proofs.SeparationLaws.{all_clear, none_first, slot_law}

-- ---- the leaves of a best tree

module _ (first : Place → Option ℕ) (m : ℕ) (known : (place : Place) (dir : ℕ) → first place ≡ Some dir → dir < m) where
  leaf_known : (place : Place) (o : Option ℕ) (tree : Tree) → first place ≡ o → option_map leaf o ≡ Some tree → All (IsKnown m) (preorder tree)
  leaf_known place None tree e is = absurd (cc)
  leaf_known place (Some dir) tree e is =
      let tree_is : leaf dir ≡ tree = cc in
      subst (λ (t : Tree). All (IsKnown m) (preorder t)) tree_is (All-cons (IsKnown m) (Leaf dir) [] (known place dir e) (All-nil (IsKnown m)))

  split_known : (left right : Option Tree) (tree : Tree) → ((t : Tree) → left ≡ Some t → All (IsKnown m) (preorder t)) → ((t : Tree) → right ≡ Some t → All (IsKnown m) (preorder t)) →
      split_of left right ≡ Some tree → All (IsKnown m) (preorder tree)
  split_known None right tree on_left on_right is = absurd (cc)
  split_known (Some left) None tree on_left on_right is = absurd (cc)
  split_known (Some left) (Some right) tree on_left on_right is =
      let tree_is : split left right ≡ tree = cc in
      subst (λ (t : Tree). All (IsKnown m) (preorder t)) tree_is
      (All-cons (IsKnown m) Split (preorder left ++ preorder right) tt (All-append (IsKnown m) (preorder left) (preorder right) (on_left left refl) (on_right right refl)))

  either_known : (place : Place) (o : Option ℕ) (left right : Option Tree) (tree : Tree) → first place ≡ o →
      ((t : Tree) → left ≡ Some t → All (IsKnown m) (preorder t)) → ((t : Tree) → right ≡ Some t → All (IsKnown m) (preorder t)) →
      option_or (option_map leaf o) (split_of left right) ≡ Some tree → All (IsKnown m) (preorder tree)
  either_known place None left right tree e on_left on_right is = split_known left right tree on_left on_right is
  either_known place (Some dir) left right tree e on_left on_right is = leaf_known place (Some dir) tree e is

  -- each leaf names a direction that is given for some place
  pub best_known : (n : ℕ) (place : Place) (tree : Tree) → best_tree first n place ≡ Some tree → All (IsKnown m) (preorder tree)
  best_known zero place tree is = leaf_known place (first place) tree refl is
  best_known (suc n) place tree is =
      either_known place (first place) (best_tree first n (left_half place)) (best_tree first n (right_half place)) tree refl
      (best_known n (left_half place)) (best_known n (right_half place)) is

-- ---- slot by slot

module _ (law : SearchLaw) (e : Clearance) (depth : ℕ) (curves : Raised) where
  -- the best tree of a slot without a blocked part
  tree_there : (slot : Slot) → IsSlotClear e depth curves slot → (tree : Tree) × (best_tree (direction_at e curves slot) depth root ≡ Some tree)
  unfolding fleet.direction_at measure_of
  tree_there slot clear = (law.there e (difference curves slot.a slot.b slot.cue) searched depth).1 clear

  tree_valid : (slot : Slot) (tree : Tree) → best_tree (direction_at e curves slot) depth root ≡ Some tree →
      IsValidTree (record { clearance = e; depth = depth }) searched (difference curves slot.a slot.b slot.cue) root tree
  unfolding fleet.direction_at measure_of
  tree_valid slot tree is = law.valid (record { clearance = e; depth = depth }) (difference curves slot.a slot.b slot.cue) searched tree is

  direction_known : (slot : Slot) (place : Place) (dir : ℕ) → direction_at e curves slot place ≡ Some dir → dir < 98
  unfolding fleet.direction_at measure_of table_of
  direction_known slot place dir is = ((law.first e (difference curves slot.a slot.b slot.cue) searched place dir).0 is).inside

  tree_known : (slot : Slot) (tree : Tree) → best_tree (direction_at e curves slot) depth root ≡ Some tree → All (IsKnown 98) (best_nodes e depth curves slot)
  tree_known slot tree is =
      subst (λ (nodes : List Node). All (IsKnown 98) nodes) (sym (ap nodes_of is))
      (best_known (direction_at e curves slot) 98 (direction_known slot) depth root tree is)

  all_valid : (ss : List Slot) → blocked_in e depth curves ss ≡ None → AreValid (record { clearance = e; depth = depth }) searched curves ss (map (best_nodes e depth curves) ss)
  all_valid [] none = tt
  all_valid (s ∷ ss) none =
      let parts = none_first (blocked_slot e depth curves s) (blocked_in e depth curves ss) none in
      let there = tree_there s ((slot_law e depth curves s).0 parts.0) in
      ((there.0, ap nodes_of there.1, tree_valid s there.0 there.1), all_valid ss parts.1)

  all_trees : (ss : List Slot) → blocked_in e depth curves ss ≡ None → All IsTree (map (best_nodes e depth curves) ss)
  all_trees [] none = All-nil IsTree
  all_trees (s ∷ ss) none =
      let parts = none_first (blocked_slot e depth curves s) (blocked_in e depth curves ss) none in
      let there = tree_there s ((slot_law e depth curves s).0 parts.0) in
      All-cons IsTree (best_nodes e depth curves s) (map (best_nodes e depth curves) ss) (there.0, ap nodes_of there.1) (all_trees ss parts.1)

  all_known : (ss : List Slot) → blocked_in e depth curves ss ≡ None → All (All (IsKnown 98)) (map (best_nodes e depth curves) ss)
  all_known [] none = All-nil (All (IsKnown 98))
  all_known (s ∷ ss) none =
      let parts = none_first (blocked_slot e depth curves s) (blocked_in e depth curves ss) none in
      let there = tree_there s ((slot_law e depth curves s).0 parts.0) in
      All-cons (All (IsKnown 98)) (best_nodes e depth curves s) (map (best_nodes e depth curves) ss) (tree_known s there.0 there.1) (all_known ss parts.1)

-- ---- the certificate

-- what is promised of a certificate
pub record IsCertified (e : Settings) (depth : ℕ) (trajs : List Traj) (cert : Certificate) : Type 0 where
  pub whole : IsWhole cert
  pub valid : IsValid searched (raised_of trajs) (clearance_of e trajs) cert
  pub clear : IsShowClear e depth trajs
  pub apart : FlyApart e trajs

-- what is kept apart by the clearance of settings is by the settings
apart_of : (e : Settings) (trajs : List Traj) → KeepsApart (raised_of trajs) (clearance_of e trajs) → CurvesStandFor (raised_of trajs) trajs → KeepReach (clearance_of e trajs) trajs → FlyApart e trajs
unfolding clearance_of
apart_of e trajs keeps stands reach = keeps trajs stands reach

best_whole : (e : Settings) (depth : ℕ) (trajs : List Traj) → SearchLaw → depth ≤ 8 → CurvesStandFor (raised_of trajs) trajs → blocked_part e depth trajs ≡ None →
    IsWhole (best_certificate e depth trajs)
best_whole e depth trajs law shallow stands none =
    let curves : Raised = raised_of trajs in
    let drones : curves.drones ≤ 32 = omega (arith, stands.drones, stands.one_show.few_drones) in
    let cues : curves.cues ≤ 1000 = omega (arith, stands.cues, stands.one_show.few_cues) in
    record {
      version = inr refl;
      whole = record {
        depth = shallow;
        few = omega (arith, length-map (slots_of trajs) (best_nodes (clearance_of e trajs) depth curves), few_slots curves.drones curves.cues drones cues);
        trees = all_trees law (clearance_of e trajs) depth curves (slots_of trajs) none;
        leaves = all_known law (clearance_of e trajs) depth curves (slots_of trajs) none;
      };
    }

best_certified : (e : Settings) (depth : ℕ) (trajs : List Traj) → SearchLaw → CertificateLaw → depth ≤ 8 → CurvesStandFor (raised_of trajs) trajs → KeepReach (clearance_of e trajs) trajs → blocked_part e depth trajs ≡ None →
    IsCertified e depth trajs (best_certificate e depth trajs)
best_certified e depth trajs law keeps shallow stands reach none =
    let valid : IsValid searched (raised_of trajs) (clearance_of e trajs) (best_certificate e depth trajs) = all_valid law (clearance_of e trajs) depth (raised_of trajs) (slots_of trajs) none in
    record {
      whole = best_whole e depth trajs law shallow stands none;
      valid = valid;
      clear = all_clear (clearance_of e trajs) depth (raised_of trajs) (slots_of trajs) none;
      apart = apart_of e trajs (keeps.apart searched (raised_of trajs) (clearance_of e trajs) (best_certificate e depth trajs) (table_small 2) valid) stands reach;
    }

-- Where nodes are counted, their trees are a certificate.
pub count_certified : (e : Settings) (depth : ℕ) (trajs : List Traj) (r : Result ℕ SeparationFault) → SearchLaw → CertificateLaw → depth ≤ 8 → CurvesStandFor (raised_of trajs) trajs → KeepReach (clearance_of e trajs) trajs → CountGives e depth trajs r → IsOk r →
    IsCertified e depth trajs (best_certificate e depth trajs)
count_certified e depth trajs (Ok n) law keeps shallow stands reach gives ok = best_certified e depth trajs law keeps shallow stands reach gives.0
count_certified e depth trajs (Err f) law keeps shallow stands reach gives ok = absurd (cc)

-- What is counted over the curves of trajectories is counted for these.
pub count_gives : (e : Settings) (depth : ℕ) (trajs : List Traj) (curves : Raised) (r : Result ℕ SeparationFault) → curves ≡ raised_of trajs → FindsNodes (clearance_of e trajs) depth curves r → CountGives e depth trajs r
count_gives e depth trajs curves r is finds = subst (λ (c : Raised). FindsNodes (clearance_of e trajs) depth c r) is finds

-- The trees that are found over the curves of trajectories are a certificate of these.
pub certified : (e : Settings) (depth : ℕ) (trajs : List Traj) (curves : Raised) (trees : List (List Node)) → SearchLaw → CertificateLaw → depth ≤ 8 → CurvesStandFor curves trajs → KeepReach (clearance_of e trajs) trajs → curves ≡ raised_of trajs →
    (blocked_in (clearance_of e trajs) depth curves (slots curves.drones curves.cues) ≡ None) × (trees ≡ map (best_nodes (clearance_of e trajs) depth curves) (slots curves.drones curves.cues)) →
    IsCertified e depth trajs (record { version = 2; depth = depth; trees = trees })
certified e depth trajs curves trees law keeps shallow stands reach is found =
    let none : blocked_part e depth trajs ≡ None = subst (λ (c : Raised). blocked_in (clearance_of e trajs) depth c (slots c.drones c.cues) ≡ None) is found.0 in
    let all : trees ≡ map (best_nodes (clearance_of e trajs) depth (raised_of trajs)) (slots_of trajs) = subst (λ (c : Raised). trees ≡ map (best_nodes (clearance_of e trajs) depth c) (slots c.drones c.cues)) is found.1 in
    subst (λ (ts : List (List Node)). IsCertified e depth trajs (record { version = 2; depth = depth; trees = ts })) (sym all)
    (best_certified e depth trajs law keeps shallow (subst (λ (c : Raised). CurvesStandFor c trajs) is stands) reach none)

-- What is sent flies apart where the trajectories by cue do.
pub sent_flies_apart : (f : Fitted) → IsValidFitted f → SentLaw → FlyApart f.settings f.trajs → FlyApart f.settings f.sent
sent_flies_apart f valid law apart = grind (arith, common_steps, All-nil, All-cons, All-head, All-tail)

-- The walk over the slots of a fleet: what is found at one of them, and what has been found of those before it.
use Rattle.pair_search.proofs.Prelude.{common_steps, ◌≡◌, ℕ, zero, suc, ◌+◌, ◌-◌, ◌*◌, ◌^◌, ◌<◌, ◌≤◌, arith, length, refl, sym, ◌∙◌, ap, subst, List, [], ◌∷◌, ◌++◌, append_assoc, map, Option, Some, None, Result, Ok, Err, option_map, option_or, sum_by-cons, Bez, Place, Slot, Raised, difference, Measure, root, cues_from, following, following_pair, slot_at, slots, Node, Tree, preorder, IsAhead, next_ahead, pair_ahead, some_ahead, Found, HasDirection, SearchGives, first_by, StopsBy, best_nodes, blocked_in, direction_at, nodes_in, nodes_of, CountGives, FindsCount, IsPairFar, blocked_slot}
use Rattle.pair_search.specs.declared.fleet.SearchFault.{SearchFault}
use Rattle.pair_search.specs.declared.fleet.SearchFault.TheVariants as fault
use Rattle.pair_search.specs.declared.walk.Found.TheVariants as found
use Rattle.pair_search.proofs.Counted.{nodes_fit}
use Rattle.pair_search.proofs.Marks.{root_counted}

-- ---- one slot

-- the first directions of a slot are those by its differences
direction_is : (m : Measure) (curves : Raised) (slot : Slot) (diff : List (Bez 8)) → diff ≡ difference curves slot.a slot.b slot.cue →
    first_by m diff ≡ direction_at m curves slot
unfolding direction_at
direction_is m curves slot diff is = ap (λ (d : List (Bez 8)). first_by m d) is

tree_nodes : (o : Option Tree) (nodes : List Node) → option_map preorder o ≡ Some nodes → nodes ≡ nodes_of o
tree_nodes None nodes is = absurd (cc)
tree_nodes (Some tree) nodes is = cc

module _ (m : Measure) (depth : ℕ) (curves : Raised) (slot : Slot) (diff : List (Bez 8)) (is : diff ≡ difference curves slot.a slot.b slot.cue) where
  -- what a search of the slot's differences gives, by its first directions
  searched_slot : (answer given : Found) (nodes : List Node) → answer ≡ given → SearchGives (first_by m diff) depth (Ok answer) nodes →
      SearchGives (direction_at m curves slot) depth (Ok given) nodes
  searched_slot answer given nodes same gives =
      subst (λ (first : Place → Option ℕ). SearchGives first depth (Ok given) nodes) (direction_is m curves slot diff is)
      (subst (λ (a : Found). SearchGives (first_by m diff) depth (Ok a) nodes) same gives)

  -- a search that finds a tree
  pub clear_found : (answer : Found) (nodes : List Node) → answer ≡ found.Clear → SearchGives (first_by m diff) depth (Ok answer) nodes →
      (blocked_slot m depth curves slot ≡ None) × (nodes ≡ best_nodes m depth curves slot)
  clear_found answer nodes clear gives =
      let here = searched_slot answer found.Clear nodes clear gives in
      (ap (option_map (fault.Blocked slot)) here.0, tree_nodes _ nodes here.1)

  -- a search that finds a part without a direction
  pub blocked_found : (answer : Found) (index : ℕ) (nodes : List Node) → answer ≡ found.Blocked index → SearchGives (first_by m diff) depth (Ok answer) nodes →
      blocked_slot m depth curves slot ≡ Some (fault.Blocked slot index)
  blocked_found answer index nodes blocked gives =
      let here = searched_slot answer (found.Blocked index) nodes blocked gives in
      ap (option_map (fault.Blocked slot)) here.0

  -- what a count of the slot's differences gives, by its first directions
  counted_slot : (answer given : Result ℕ ℕ) → answer ≡ given → CountGives (first_by m diff) depth answer → CountGives (direction_at m curves slot) depth given
  counted_slot answer given same gives =
      subst (λ (first : Place → Option ℕ). CountGives first depth given) (direction_is m curves slot diff is)
      (subst (λ (a : Result ℕ ℕ). CountGives (first_by m diff) depth a) same gives)

  -- a count of a tree
  pub counted_found : (answer : Result ℕ ℕ) (count : ℕ) → answer ≡ Ok count → CountGives (first_by m diff) depth answer → FindsCount m depth curves slot (Ok count)
  counted_found answer count same gives =
      let here = counted_slot answer (Ok count) same gives in
      (ap (option_map (fault.Blocked slot)) here.0, here.1)

  -- a part without a direction in place of one
  pub uncounted_found : (answer : Result ℕ ℕ) (index : ℕ) → answer ≡ Err index → CountGives (first_by m diff) depth answer → blocked_slot m depth curves slot ≡ Some (fault.Blocked slot index)
  uncounted_found answer index same gives = ap (option_map (fault.Blocked slot)) (counted_slot answer (Err index) same gives)

-- ---- the walk

-- at most this many slots are still to come
abbrev pub left : Slot → ℕ
left s = (32 - s.a) * 33033 + ((33 - s.b) * 1001 + (1000 - s.cue))

module _ (m : Measure) (depth : ℕ) (curves : Raised) where
  -- past a slot that isn't blocked
  pub clear_next : (rest next : List Slot) (slot : Slot) (whole : Option SearchFault) → rest ≡ slot ∷ next → blocked_slot m depth curves slot ≡ None → blocked_in fault.Blocked m depth curves rest ≡ whole →
      blocked_in fault.Blocked m depth curves next ≡ whole
  clear_next rest next slot whole is clear same =
      sym (ap (λ (o : Option SearchFault). option_or o (blocked_in fault.Blocked m depth curves next)) clear) ∙ sym (ap (blocked_in fault.Blocked m depth curves) is) ∙ same

  -- its tree after those before it
  pub tree_next : (rest next : List Slot) (slot : Slot) (trees more whole : List (List Node)) (nodes : List Node) → rest ≡ slot ∷ next → more ≡ trees ++ nodes ∷ [] →
      nodes ≡ best_nodes m depth curves slot → trees ++ map (best_nodes m depth curves) rest ≡ whole → more ++ map (best_nodes m depth curves) next ≡ whole
  tree_next rest next slot trees more whole nodes is more_is nodes_is same =
      let later : List (List Node) = map (best_nodes m depth curves) next in
      ap (λ (items : List (List Node)). items ++ later) more_is
      ∙ append_assoc trees (nodes ∷ []) later
      ∙ ap (λ (here : List Node). trees ++ here ∷ later) nodes_is
      ∙ sym (ap (λ (slots : List Slot). trees ++ map (best_nodes m depth curves) slots) is)
      ∙ same

  -- its nodes counted with those before it
  pub count_next : (rest next : List Slot) (slot : Slot) (count more whole : ℕ) (nodes : List Node) → rest ≡ slot ∷ next → nodes ≡ best_nodes m depth curves slot →
      more ≡ count + length nodes → count + nodes_in m depth curves rest ≡ whole → more + nodes_in m depth curves next ≡ whole
  count_next rest next slot count more whole nodes is nodes_is more_is same =
      let one : nodes_in m depth curves (slot ∷ next) ≡ length (best_nodes m depth curves slot) + nodes_in m depth curves next = sum_by-cons (λ (n : ℕ). n) (length (best_nodes m depth curves slot)) (map length (map (best_nodes m depth curves) next)) in
      omega (arith, one, ap (nodes_in m depth curves) is, ap (λ (ns : List Node). length ns) nodes_is, more_is, same)

  -- cues that have a direction, each as a whole, aren't blocked, and have a node each
  pub far_cues : (n a b cue : ℕ) (next : List Slot) → ((k : ℕ) → cue ≤ k → k < cue + n → HasDirection m.clearance (difference curves a b k) m.directions root) →
      (blocked_in fault.Blocked m depth curves (cues_from n a b cue ++ next) ≡ blocked_in fault.Blocked m depth curves next)
      × (nodes_in m depth curves (cues_from n a b cue ++ next) ≡ n + nodes_in m depth curves next)
  far_cues zero a b cue next far = let same : nodes_in m depth curves next ≡ 0 + nodes_in m depth curves next = omega arith in (refl, same)
  far_cues (suc n) a b cue next far =
      let slot : Slot = slot_at a b cue in
      let rest : List Slot = cues_from n a b (suc cue) ++ next in
      let here : FindsCount m depth curves slot (Ok 1) =
      counted_found m depth curves slot (difference curves a b cue) refl (Ok 1) 1 refl
      (root_counted m.clearance (difference curves a b cue) m.directions depth (far cue (omega arith) (omega arith))) in
      let more = far_cues n a b (suc cue) next (λ k above below. far k (omega arith) (omega arith)) in
      let counted = count_next (slot ∷ rest) rest slot 0 (length (best_nodes m depth curves slot)) _ (best_nodes m depth curves slot) refl refl (omega arith) refl in
      (sym (clear_next (slot ∷ rest) rest slot _ refl here.0 refl) ∙ more.0, omega (arith, counted, here.1, more.1))

  -- a slot that is blocked is the first one that is
  pub blocked_next : (rest next : List Slot) (slot : Slot) (whole : Option SearchFault) (f : SearchFault) → rest ≡ slot ∷ next →
      StopsBy (blocked_slot m depth curves slot) f → blocked_in fault.Blocked m depth curves rest ≡ whole → StopsBy whole f
  blocked_next rest next slot whole (fault.Blocked at index) is finds same =
      sym same ∙ ap (blocked_in fault.Blocked m depth curves) is ∙ ap (λ (o : Option SearchFault). option_or o (blocked_in fault.Blocked m depth curves next)) finds
  blocked_next rest next slot whole fault.Memory is finds same = tt

-- ---- both walks, step by step

-- These slots are still to come, and the first blocked part of a fleet is theirs.
pub record IsPending (m : Measure) (depth : ℕ) (curves : Raised) (slot : Slot) (rest : List Slot) : Type 0 where
  pub ahead : IsAhead curves.drones curves.cues slot rest
  pub blocked : blocked_in fault.Blocked m depth curves rest ≡ blocked_in fault.Blocked m depth curves (slots curves.drones curves.cues)

-- what is pending past a slot whose tree was found
pub record IsPast (m : Measure) (depth : ℕ) (curves : Raised) (slot after : Slot) (rest : List Slot) : Type 0 where
  pub next : List Slot
  pub is : rest ≡ slot ∷ next
  pub pending : IsPending m depth curves after next

pub past : (m : Measure) (depth : ℕ) (curves : Raised) (slot after : Slot) (rest : List Slot) (drones cues : ℕ) → slot.b < curves.drones → blocked_slot m depth curves slot ≡ None →
    after ≡ following drones cues slot → drones ≡ curves.drones → cues ≡ curves.cues → IsPending m depth curves slot rest → IsPast m depth curves slot after rest
past m depth curves slot after rest drones cues here clear after_is drones_are cues_are pending =
    let next = next_ahead curves.drones curves.cues slot rest (some_ahead curves.drones curves.cues slot rest here pending.ahead) in
    let is : after ≡ following curves.drones curves.cues slot =
    after_is ∙ ap (λ (n : ℕ). following n cues slot) drones_are ∙ ap (λ (n : ℕ). following curves.drones n slot) cues_are in
    grind (arith, common_steps)

-- past all cues of a pair that is far apart
pub past_pair : (m : Measure) (depth : ℕ) (curves : Raised) (slot after : Slot) (rest : List Slot) (drones : ℕ) → slot.b < curves.drones → IsPairFar m curves slot →
    after ≡ following_pair drones slot → drones ≡ curves.drones → IsPending m depth curves slot rest →
    (next : List Slot) × IsPending m depth curves after next × (nodes_in m depth curves rest ≡ curves.cues + nodes_in m depth curves next)
past_pair m depth curves slot after rest drones here far after_is drones_are pending =
    let next = pair_ahead curves.drones curves.cues slot rest (some_ahead curves.drones curves.cues slot rest here pending.ahead) far.begins in
    let cues = far_cues m depth curves curves.cues slot.a slot.b 0 next.0 (λ k above below. far.each k (omega (arith, below))) in (
      next.0,
      record { ahead = rw (after_is, drones_are) (next.2); blocked = sym cues.0 ∙ sym (ap (blocked_in fault.Blocked m depth curves) next.1) ∙ pending.blocked },
      ap (nodes_in m depth curves) next.1 ∙ cues.1,
    )

-- and the nodes of its cues are few
pub pair_fits : (m : Measure) (depth : ℕ) (curves : Raised) (slot : Slot) (rest : List Slot) (count : ℕ) → depth ≤ 8 → curves.drones ≤ 32 → curves.cues ≤ 1000 → slot.b < curves.drones → IsPairFar m curves slot →
    IsPending m depth curves slot rest → count + nodes_in m depth curves rest ≡ nodes_in m depth curves (slots curves.drones curves.cues) → count + curves.cues < 2 ^ 32
pair_fits m depth curves slot rest count shallow drones cues here far pending same =
    let next = past_pair m depth curves slot (following_pair curves.drones slot) rest curves.drones here far refl refl pending in
    omega (arith, next.2, same, nodes_fit m depth curves shallow curves.drones curves.cues drones cues)

-- a slot that is blocked stops the walk
pub stopped : (m : Measure) (depth : ℕ) (curves : Raised) (slot : Slot) (rest : List Slot) (f : SearchFault) → slot.b < curves.drones →
    StopsBy (blocked_slot m depth curves slot) f → IsPending m depth curves slot rest → StopsBy (blocked_in fault.Blocked m depth curves (slots curves.drones curves.cues)) f
stopped m depth curves slot rest f here found pending =
    let next = next_ahead curves.drones curves.cues slot rest (some_ahead curves.drones curves.cues slot rest here pending.ahead) in
    blocked_next m depth curves rest next.0 slot _ f next.1 found pending.blocked

-- the nodes so far and those of this slot's tree are few
pub count_fits : (m : Measure) (depth : ℕ) (curves : Raised) (slot : Slot) (rest : List Slot) (count : ℕ) (nodes : List Node) → depth ≤ 8 → curves.drones ≤ 32 → curves.cues ≤ 1000 → slot.b < curves.drones →
    nodes ≡ best_nodes m depth curves slot → count + nodes_in m depth curves rest ≡ nodes_in m depth curves (slots curves.drones curves.cues) → IsPending m depth curves slot rest → count + length nodes < 2 ^ 32
count_fits m depth curves slot rest count nodes shallow drones cues here nodes_is same pending =
    let next = next_ahead curves.drones curves.cues slot rest (some_ahead curves.drones curves.cues slot rest here pending.ahead) in
    let counted = count_next m depth curves rest next.0 slot count (count + length nodes) _ nodes next.1 nodes_is refl same in
    omega (arith, counted, nodes_fit m depth curves shallow curves.drones curves.cues drones cues)

-- What the recursion over the slots of a show means: it finds the first part that no direction separates.
use Rattle.show_plan.proofs.Prelude.{◌≡◌, ◌↔◌, ℕ, ap, refl, subst, ◌∙◌, List, [], ◌∷◌, ◌++◌, All, Option, Some, None, option_map, option_or, All-nil, All-cons, All-head, All-tail, Traj, Clearance, Slot, Raised, difference, raised_of, IsFirstBlocked, blocked_place, Settings, BlockedPart, IsSlotClear, blocked_at, blocked_in, blocked_part, clearance_of, direction_at, measure_of, slots_of, searched, blocked_slot}
use Rattle.pair_search.specs.Fleets as fleet
use Rattle.pair_search.proofs.SearchLaws.{laws}
use Rattle.show_plan.specs.Laws.{IsFirstIn, SeparationLaw}

none_mapped : (slot : Slot) (o : Option ℕ) → option_map (blocked_at slot) o ≡ None → o ≡ None
none_mapped slot None e = refl
none_mapped slot (Some index) e = absurd (cc)

-- where neither of two is there, the first isn't, and the second isn't
pub none_first : (a b : Option BlockedPart) → option_or a b ≡ None → (a ≡ None) × (b ≡ None)
none_first None b e = (refl, e)
none_first (Some f) b e = absurd (cc)

-- blocked parts are the same where their pairs, cues and indices are
same_slot : (s slot : Slot) (k index : ℕ) → blocked_at s k ≡ blocked_at slot index → s ≡ slot
same_slot s slot k index is = ap (λ (p : BlockedPart). p.slot) is

same_index : (s slot : Slot) (k index : ℕ) → blocked_at s k ≡ blocked_at slot index → k ≡ index
same_index s slot k index is = ap (λ (p : BlockedPart). p.index) is

module _ (e : Clearance) (depth : ℕ) (curves : Raised) where
  -- the part of a slot with this index is the first of its cue without a direction
  abbrev IsBlockedAt : Slot → ℕ → Type 0
  IsBlockedAt slot index = IsFirstBlocked e (difference curves slot.a slot.b slot.cue) searched depth index

  -- ---- one slot
  place_clear : (slot : Slot) → (blocked_place (direction_at e curves slot) depth ≡ None) ↔ IsSlotClear e depth curves slot
  unfolding fleet.direction_at measure_of
  place_clear slot = laws.clear e (difference curves slot.a slot.b slot.cue) searched depth

  place_blocked : (slot : Slot) (index : ℕ) → (blocked_place (direction_at e curves slot) depth ≡ Some index) ↔ IsBlockedAt slot index
  unfolding fleet.direction_at measure_of
  place_blocked slot index = laws.blocked e (difference curves slot.a slot.b slot.cue) searched depth index

  -- no part of a slot is blocked exactly where it is clear
  pub slot_law : (slot : Slot) → (blocked_slot e depth curves slot ≡ None) ↔ IsSlotClear e depth curves slot
  slot_law slot = (
    λ none. (place_clear slot).0 (none_mapped slot (blocked_place (direction_at e curves slot) depth) none),
    λ clear. ap (option_map (blocked_at slot)) ((place_clear slot).1 clear),
  )

  -- ---- slot by slot
  -- no slot is blocked: each is clear
  pub all_clear : (ss : List Slot) → blocked_in e depth curves ss ≡ None → All (IsSlotClear e depth curves) ss
  all_clear [] none = All-nil (IsSlotClear e depth curves)
  all_clear (s ∷ ss) none =
      let parts = none_first (blocked_slot e depth curves s) (blocked_in e depth curves ss) none in
      All-cons (IsSlotClear e depth curves) s ss ((slot_law s).0 parts.0) (all_clear ss parts.1)

  -- slots that are clear are passed over
  passed : (earlier later : List Slot) → All (IsSlotClear e depth curves) earlier → blocked_in e depth curves (earlier ++ later) ≡ blocked_in e depth curves later
  passed [] later clear = refl
  passed (s ∷ earlier) later clear =
      ap (λ (o : Option BlockedPart). option_or o (blocked_in e depth curves (earlier ++ later))) ((slot_law s).1 (All-head (IsSlotClear e depth curves) s earlier clear))
      ∙ passed earlier later (All-tail (IsSlotClear e depth curves) s earlier clear)

  none_blocked : (ss : List Slot) → All (IsSlotClear e depth curves) ss → blocked_in e depth curves ss ≡ None
  none_blocked [] clear = refl
  none_blocked (s ∷ ss) clear =
      ap (λ (o : Option BlockedPart). option_or o (blocked_in e depth curves ss)) ((slot_law s).1 (All-head (IsSlotClear e depth curves) s ss clear))
      ∙ none_blocked ss (All-tail (IsSlotClear e depth curves) s ss clear)

  -- what is found is the first
  found : (ss : List Slot) (slot : Slot) (index : ℕ) → blocked_in e depth curves ss ≡ Some (blocked_at slot index) → IsFirstIn e depth curves ss slot index
  found [] slot index is = absurd (cc)
  found (s ∷ ss) slot index is = by_place (blocked_place (direction_at e curves s) depth) refl is (found ss slot index)
    where
      by_place : (o : Option ℕ) → blocked_place (direction_at e curves s) depth ≡ o → option_or (option_map (blocked_at s) o) (blocked_in e depth curves ss) ≡ Some (blocked_at slot index) →
          (blocked_in e depth curves ss ≡ Some (blocked_at slot index) → IsFirstIn e depth curves ss slot index) → IsFirstIn e depth curves (s ∷ ss) slot index
      by_place None none is others =
          let rest = others is in
          record {
            earlier = s ∷ rest.earlier;
            later = rest.later;
            slots = ap (λ (next : List Slot). s ∷ next) rest.slots;
            clear = All-cons (IsSlotClear e depth curves) s rest.earlier ((place_clear s).0 none) rest.clear;
            blocked = rest.blocked;
          }
      by_place (Some k) some is others =
          let here : blocked_at s k ≡ blocked_at slot index = cc in
          record {
            earlier = [];
            later = ss;
            slots = ap (λ (first : Slot). first ∷ ss) (same_slot s slot k index here);
            clear = All-nil (IsSlotClear e depth curves);
            blocked =
                subst (λ (n : ℕ). IsBlockedAt slot n) (same_index s slot k index here)
                (subst (λ (first : Slot). IsBlockedAt first k) (same_slot s slot k index here) ((place_blocked s k).0 some));
          }

  -- the first is what is found
  finds : (ss : List Slot) (slot : Slot) (index : ℕ) → IsFirstIn e depth curves ss slot index → blocked_in e depth curves ss ≡ Some (blocked_at slot index)
  finds ss slot index first =
      ap (blocked_in e depth curves) first.slots
      ∙ passed first.earlier (slot ∷ first.later) first.clear
      ∙ ap (λ (o : Option ℕ). option_or (option_map (blocked_at slot) o) (blocked_in e depth curves first.later)) ((place_blocked slot index).1 first.blocked)

-- ---- of a show

-- The recursion finds the first part that no direction separates, and nothing exactly where there is none.
pub separation : SeparationLaw
separation = record {
  clear = λ e depth trajs. (all_clear (clearance_of e trajs) depth (raised_of trajs) (slots_of trajs), none_blocked (clearance_of e trajs) depth (raised_of trajs) (slots_of trajs));
  blocked = λ e depth trajs slot index.
      (found (clearance_of e trajs) depth (raised_of trajs) (slots_of trajs) slot index, finds (clearance_of e trajs) depth (raised_of trajs) (slots_of trajs) slot index);
}

-- The walk over the slots of a show, and the lines of those that are blocked.
use Rattle.show_studies.proofs.Prelude.{◌≡◌, ℕ, zero, suc, ◌<◌, IfSome, Ok, length, Fitted, List, [], ◌∷◌, ◌++◌, append_assoc, append-nil, Option, Some, None, option_map, refl, sym, ap, subst, ◌∙◌, Raised, BlockedLines, blocked_among, with_part, difference, Measure, IsSlot, Clearance, Slot, SearchGives, blocked_place, first_by, BlockedPart, blocked_at, measure_of, more_blocked_line, Ends, IsPartOf, NextGives, part_in}
use Rattle.bezier_core.specs.declared.halves.Place.{Place}
use Rattle.bezier_core.specs.declared.Bez.{Bez}
use Rattle.fleet_curves.specs.Raised.{cues_in}
unfoldable use Rattle.fleet_curves.specs.Raised.{raised_of}
use Rattle.sep_parts.specs.declared.node.Node.{Node}
use Rattle.pair_search.specs.Fleets as fleet
use Rattle.pair_search.specs.declared.walk.Found.{Found}
use Rattle.pair_search.specs.declared.walk.Found.TheVariants as found

-- the first blocked part of a slot is that by its differences
pub direction_is : (m : Measure) (curves : Raised) (slot : Slot) (diff : List (Bez 8)) → diff ≡ difference curves slot.a slot.b slot.cue → first_by m diff ≡ fleet.direction_at m curves slot
unfolding fleet.direction_at
direction_is m curves slot diff is = ap (λ (d : List (Bez 8)). first_by m d) is

pub part_is : (m : Measure) (depth : ℕ) (curves : Raised) (slot : Slot) (diff : List (Bez 8)) (found : Option ℕ) → diff ≡ difference curves slot.a slot.b slot.cue → blocked_place (first_by m diff) depth ≡ found →
    option_map (blocked_at slot) found ≡ part_in m depth curves slot
part_is m depth curves slot diff found is gives =
    ap (option_map (blocked_at slot)) (sym gives ∙ ap (λ (first : Place → Option ℕ). blocked_place first depth) (direction_is m curves slot diff is))

pub clear_is : (m : Measure) (depth : ℕ) (curves : Raised) (slot : Slot) (diff : List (Bez 8)) (answer : Found) (nodes : List Node) → diff ≡ difference curves slot.a slot.b slot.cue → answer ≡ found.Clear →
    SearchGives (first_by m diff) depth (Ok answer) nodes → None ≡ part_in m depth curves slot
clear_is m depth curves slot diff answer nodes is clear gives =
    let here : SearchGives (first_by m diff) depth (Ok found.Clear) nodes = subst (λ (a : Found). SearchGives (first_by m diff) depth (Ok a) nodes) clear gives in
    part_is m depth curves slot diff None is here.0

pub blocked_is : (m : Measure) (depth : ℕ) (curves : Raised) (slot : Slot) (diff : List (Bez 8)) (answer : Found) (index : ℕ) (nodes : List Node) → diff ≡ difference curves slot.a slot.b slot.cue → answer ≡ found.Blocked index →
    SearchGives (first_by m diff) depth (Ok answer) nodes → Some (blocked_at slot index) ≡ part_in m depth curves slot
blocked_is m depth curves slot diff answer index nodes is blocked gives =
    let here : SearchGives (first_by m diff) depth (Ok (found.Blocked index)) nodes = subst (λ (a : Found). SearchGives (first_by m diff) depth (Ok a) nodes) blocked gives in
    part_is m depth curves slot diff (Some index) is here.0

-- a part of a slot of the show is one of the show
pub part_of : (f : Fitted) (curves : Raised) (slot : Slot) (part : Option BlockedPart) → curves ≡ raised_of f.trajs → IsSlot curves.drones curves.cues slot → IfSome part (λ p. p.slot ≡ slot) → IfSome part (IsPartOf f)
unfolding raised_of
part_of f curves slot None is here same = tt
part_of f curves slot (Some p) is here same =
    subst (λ (s : Slot). IsSlot (length f.trajs) (cues_in f.trajs) s) (sym same) (subst (λ (c : Raised). IsSlot c.drones c.cues slot) is here)

-- ---- one part more

module _ (Says : BlockedPart → List ℕ → Type 0) where
  pub next_none : (n : ℕ) (old : List ℕ) → NextGives Says n None old old (Some n)
  next_none n old others end ends = ends

  pub next_full : (part : BlockedPart) (old new : List ℕ) → new ≡ old ++ more_blocked_line → NextGives Says 0 (Some part) old new None
  next_full part old new is others = (more_blocked_line, refl, is)

  pub next_line : (n left : ℕ) (part : BlockedPart) (old new : List ℕ) → n ≡ suc left → (line : List ℕ) × Says part line × (new ≡ old ++ line) → NextGives Says n (Some part) old new (Some left)
  next_line n left part old new count (line, says, is) =
      subst (λ (m : ℕ). NextGives Says m (Some part) old new (Some left)) (sym count)
      (λ others end ends. (line ++ ends.0, (line, ends.0, says, ends.1, refl), ends.2 ∙ ap (λ (front : List ℕ). front ++ ends.0) is ∙ append_assoc old line ends.0))

-- ---- the walk

-- whatever lines come of the slots that are still to come, they end as those of all
abbrev pub IsPending : (BlockedPart → List ℕ → Type 0) → (List Slot → List BlockedPart) → ℕ → List BlockedPart → List ℕ → ℕ → List ℕ → List Slot → Type 0
IsPending Says parts most all old left now rest = (end : List ℕ) → Ends Says left (parts rest) now end → Ends Says most all old end

module _ (Says : BlockedPart → List ℕ → Type 0) (c : Clearance) (depth : ℕ) (curves : Raised) where
  -- past one slot
  pub slot_next : (most left more : ℕ) (all : List BlockedPart) (old now new : List ℕ) (rest next : List Slot) (slot : Slot) (part : Option BlockedPart) → rest ≡ slot ∷ next → part ≡ part_in (measure_of c) depth curves slot →
      NextGives Says left part now new (Some more) → IsPending Says (blocked_among c depth curves) most all old left now rest → IsPending Says (blocked_among c depth curves) most all old more new next
  slot_next most left more all old now new rest next slot part is part_is gives pending end ends =
      pending end (subst (λ (parts : List BlockedPart). Ends Says left parts now end)
      (ap (λ (o : Option BlockedPart). with_part o (blocked_among c depth curves next)) part_is ∙ sym (ap (blocked_among c depth curves) is)) (gives (blocked_among c depth curves next) end ends))

  -- at a slot after which no line comes
  pub slot_last : (most left : ℕ) (all : List BlockedPart) (old now new : List ℕ) (rest next : List Slot) (slot : Slot) (part : Option BlockedPart) → rest ≡ slot ∷ next → part ≡ part_in (measure_of c) depth curves slot →
      NextGives Says left part now new None → IsPending Says (blocked_among c depth curves) most all old left now rest → Ends Says most all old new
  slot_last most left all old now new rest next slot part is part_is gives pending =
      pending new (subst (λ (parts : List BlockedPart). Ends Says left parts now new)
      (ap (λ (o : Option BlockedPart). with_part o (blocked_among c depth curves next)) part_is ∙ sym (ap (blocked_among c depth curves) is)) (gives (blocked_among c depth curves next)))

  -- past the last slot
  pub slots_over : (most left : ℕ) (all : List BlockedPart) (old now : List ℕ) (rest : List Slot) → rest ≡ [] → IsPending Says (blocked_among c depth curves) most all old left now rest → Ends Says most all old now
  slots_over most left all old now rest none pending =
      pending now ([], subst (λ (ss : List Slot). BlockedLines Says left (blocked_among c depth curves ss) []) (sym none) refl, sym (append-nil now))

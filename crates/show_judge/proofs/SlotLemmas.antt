-- The drones that slots name, and so those that a blocked part names.
use Rattle.show_judge.proofs.Prelude.{◌≡◌, ℕ, zero, suc, ◌+◌, ◌<◌, ◌≤◌, All, List, [], ◌∷◌, length, Option, Some, None, subst, arith, option_map, option_or, All-nil, All-cons, All-head, All-tail, All-append, Settings, blocked_at, blocked_in, blocked_part, clearance_of, direction_at, slots_of}
use Rattle.traj_codec.specs.declared.traj.Traj.{Traj}
use Rattle.sep_parts.specs.declared.clearance.Clearance.{Clearance}
use Rattle.sep_parts.specs.declared.slot.Slot.{Slot}
use Rattle.fleet_curves.specs.Raised.{Raised, raised_of}
use Rattle.sep_parts.specs.Slots.{slots, slot_at, cues_from, pairs_from, drones_from}
use Rattle.pair_search.specs.Search.{blocked_place}
use Rattle.show_plan.specs.declared.separation.BlockedPart.{BlockedPart}

-- both drones of the slot are among this many
abbrev pub IsAmong : ℕ → Slot → Type 0
IsAmong n s = (s.a < n) × (s.b < n)

cues_among : (k n a b cue : ℕ) → a < n → b < n → All (IsAmong n) (cues_from k a b cue)
cues_among zero n a b cue p q = All-nil (IsAmong n)
cues_among (suc k) n a b cue p q = All-cons (IsAmong n) (slot_at a b cue) (cues_from k a b (suc cue)) (p, q) (cues_among k n a b (suc cue) p q)

pairs_among : (k n cues a b : ℕ) → a < n → b + k ≤ n → All (IsAmong n) (pairs_from k cues a b)
pairs_among zero n cues a b p q = All-nil (IsAmong n)
pairs_among (suc k) n cues a b p q =
    All-append (IsAmong n) (cues_from cues a b 0) (pairs_from k cues a (suc b)) (cues_among cues n a b 0 p (omega arith)) (pairs_among k n cues a (suc b) p (omega arith))

drones_among : (k n cues a : ℕ) → a + k ≤ n → All (IsAmong n) (drones_from k cues a)
drones_among zero n cues a q = All-nil (IsAmong n)
drones_among (suc k) n cues a q =
    All-append (IsAmong n) (pairs_from k cues a (suc a)) (drones_from k cues (suc a)) (pairs_among k n cues a (suc a) (omega arith) (omega arith)) (drones_among k n cues (suc a) (omega arith))

-- the slots of this many drones name these alone
pub slots_among : (n cues : ℕ) → All (IsAmong n) (slots n cues)
unfolding slots
slots_among n cues = drones_among n n cues 0 (omega arith)

-- ---- a blocked part

-- a blocked part names drones that some slot names
blocked_among : (e : Clearance) (depth : ℕ) (curves : Raised) (n : ℕ) (ss : List Slot) (part : BlockedPart) → All (IsAmong n) ss → blocked_in e depth curves ss ≡ Some part → IsAmong n part.slot
blocked_among e depth curves n [] part all is = absurd (cc)
blocked_among e depth curves n (s ∷ ss) part all is =
    by_place (blocked_place (direction_at e curves s) depth) is (blocked_among e depth curves n ss part (All-tail (IsAmong n) s ss all))
  where
    here : IsAmong n s
    here = All-head (IsAmong n) s ss all

    by_place : (o : Option ℕ) → option_or (option_map (blocked_at s) o) (blocked_in e depth curves ss) ≡ Some part →
        (blocked_in e depth curves ss ≡ Some part → IsAmong n part.slot) → IsAmong n part.slot
    by_place None is later = later is
    by_place (Some k) is later =
        let same : blocked_at s k ≡ part = cc in
        subst (λ (p : BlockedPart). IsAmong n p.slot) same here

-- of trajectories
pub part_among : (e : Settings) (depth : ℕ) (trajs : List Traj) (part : BlockedPart) → blocked_part e depth trajs ≡ Some part → IsAmong (length trajs) part.slot
unfolding raised_of
part_among e depth trajs part is = blocked_among (clearance_of e trajs) depth (raised_of trajs) (length trajs) (slots_of trajs) part (slots_among (length trajs) (raised_of trajs).cues) is

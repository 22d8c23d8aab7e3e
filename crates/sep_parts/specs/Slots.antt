-- Slots: each pair of drones in each cue, in the order in which a certificate has its trees.
use Rattle.std.specs.Prelude.{ℕ, zero, suc, ◌+◌, ◌<◌, nat_lt, List, [], ◌∷◌, ◌++◌, if◌then◌else◌}
use Rattle.sep_parts.specs.declared.slot.Slot.{Slot}

abbrev pub slot_at : ℕ → ℕ → ℕ → Slot
slot_at a b cue = record { a = a; b = b; cue = cue }

-- n cues of the pair, from this one on
abbrev pub cues_from : ℕ → ℕ → ℕ → ℕ → List Slot
cues_from zero a b cue = []
cues_from (suc n) a b cue = slot_at a b cue ∷ cues_from n a b (suc cue)

-- the cues of n pairs with first drone a, from second drone b on
abbrev pub pairs_from : ℕ → ℕ → ℕ → ℕ → List Slot
pairs_from zero cues a b = []
pairs_from (suc n) cues a b = cues_from cues a b 0 ++ pairs_from n cues a (suc b)

-- the pairs among n drones, from drone a on
abbrev pub drones_from : ℕ → ℕ → ℕ → List Slot
drones_from zero cues a = []
drones_from (suc n) cues a = pairs_from n cues a (suc a) ++ drones_from n cues (suc a)

-- the slots of a show: the pairs by first and then second drone, and for each pair the cues
unfoldable pub slots : ℕ → ℕ → List Slot
slots drones cues = drones_from drones cues 0

-- a pair of drones and a cue of the show
pub record IsSlot (drones cues : ℕ) (s : Slot) : Type 0 where
  pub first : s.a < s.b
  pub second : s.b < drones
  pub cue : s.cue < cues

-- the first slot of the pair after that of a slot; past the last pair its second drone is none of the show
abbrev pub following_pair : ℕ → Slot → Slot
following_pair drones s = if nat_lt (s.b + 1) drones then slot_at s.a (s.b + 1) 0 else slot_at (s.a + 1) (s.a + 2) 0

-- the slot after one
abbrev pub following : ℕ → ℕ → Slot → Slot
following drones cues s = if nat_lt (s.cue + 1) cues then slot_at s.a s.b (s.cue + 1) else following_pair drones s

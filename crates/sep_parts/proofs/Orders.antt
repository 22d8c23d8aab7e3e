-- The slots of a show in order: those from a slot on, and the slot after it.
use Rattle.sep_parts.proofs.Prelude.{common_steps, ◌≡◌, ◌⊎◌, inl, inr, ℕ, zero, suc, ◌+◌, ◌≤◌, ◌<◌, nat_lt, true, false, arith, refl, List, [], ◌∷◌, ◌++◌, append_assoc, All, All-nil, All-cons, All-append, nat_tests}
use Rattle.sep_parts.specs.declared.slot.Slot.{Slot}
use Rattle.sep_parts.specs.Slots.{IsSlot, following, following_pair, slots, slot_at, cues_from, pairs_from, drones_from}

-- the slots from one on: n cues of its pair, m pairs after it with the same first drone, and the pairs among the k drones after that one
pub record IsFrom (drones cues : ℕ) (s : Slot) (rest : List Slot) : Type 0 where
  pub n : ℕ
  pub m : ℕ
  pub k : ℕ
  pub is_slot : IsSlot drones cues s
  pub cues_left : n + s.cue ≡ cues
  pub pairs_left : m + s.b + 1 ≡ drones
  pub drones_left : k + s.a + 1 ≡ drones
  pub rest_is : rest ≡ cues_from n s.a s.b s.cue ++ (pairs_from m cues s.a (suc s.b) ++ drones_from k cues (suc s.a))

-- the slots that are still to come
abbrev pub IsAhead : ℕ → ℕ → Slot → List Slot → Type 0
IsAhead drones cues s rest = IsFrom drones cues s rest ⊎ ((drones ≤ s.b) × (rest ≡ []))

abbrev behind : (n m k cues : ℕ) → Slot → List Slot
behind n m k cues s = cues_from n s.a s.b (suc s.cue) ++ (pairs_from m cues s.a (suc s.b) ++ drones_from k cues (suc s.a))

-- ---- the pairs of a drone
pub pairs_ahead : (drones cues a m k : ℕ) → 1 ≤ cues → m + a + 2 ≡ drones + 1 → k + a + 1 ≡ drones →
    IsAhead drones cues (slot_at a (suc a) 0) (pairs_from m cues a (suc a) ++ drones_from k cues (suc a))
pairs_ahead drones cues a zero zero some pairs left = inr (omega arith, refl)
pairs_ahead drones cues a zero (suc k) some pairs left = absurd (omega arith)
pairs_ahead drones cues a (suc m) k some pairs left = grind (arith, common_steps, append_assoc)

pub first_ahead : (drones cues : ℕ) → 1 ≤ drones → 1 ≤ cues → IsAhead drones cues (slot_at 0 1 0) (slots drones cues)
unfolding slots
first_ahead zero cues some_drones some_cues = absurd (omega arith)
first_ahead (suc drones) cues some_drones some_cues = pairs_ahead (suc drones) cues 0 drones drones some_cues (omega arith) (omega arith)

-- the pairs after that of a slot
next_pair : (drones cues : ℕ) (s : Slot) (m k : ℕ) → IsSlot drones cues s → m + s.b + 1 ≡ drones → k + s.a + 1 ≡ drones →
    IsAhead drones cues (following_pair drones s) (pairs_from m cues s.a (suc s.b) ++ drones_from k cues (suc s.a))
next_pair drones cues s (suc m) k is pairs_left drones_left =
    let more : nat_lt (s.b + 1) drones ≡ true = grind (arith, nat_tests) in
    let up : s.b + 1 ≡ suc s.b = omega arith in
    rw more (inl (record {
      n = cues;
      m = m;
      k = k;
      is_slot = record { first = omega (arith, is.first); second = omega arith; cue = omega (arith, is.cue) };
      cues_left = omega arith;
      pairs_left = omega arith;
      drones_left = drones_left;
      rest_is = rw up (append_assoc (cues_from cues s.a (suc s.b) 0) (pairs_from m cues s.a (suc (suc s.b))) (drones_from k cues (suc s.a)));
    }))
next_pair drones cues s zero zero is pairs_left drones_left = absurd (omega (arith, is.first, is.second))
next_pair drones cues s zero (suc k) is pairs_left drones_left =
    let last : nat_lt (s.b + 1) drones ≡ false = grind (arith, nat_tests) in
    let up : s.a + 1 ≡ suc s.a = omega arith in
    let twice : s.a + 2 ≡ suc (suc s.a) = omega arith in
    rw (last, up, twice) (pairs_ahead drones cues (suc s.a) k k (omega (arith, is.cue)) (omega arith) (omega arith))

-- the slot after one, by cases
next_cue : (drones cues : ℕ) (s : Slot) (n m k : ℕ) → IsSlot drones cues s → suc n + s.cue ≡ cues → m + s.b + 1 ≡ drones → k + s.a + 1 ≡ drones →
    IsAhead drones cues (following drones cues s) (behind n m k cues s)
next_cue drones cues s (suc n) m k is cues_left pairs_left drones_left =
    let more : nat_lt (s.cue + 1) cues ≡ true = grind (arith, nat_tests) in
    let up : s.cue + 1 ≡ suc s.cue = omega arith in
    rw more (inl (record {
      n = suc n;
      m = m;
      k = k;
      is_slot = record { first = is.first; second = is.second; cue = omega arith };
      cues_left = omega arith;
      pairs_left = pairs_left;
      drones_left = drones_left;
      rest_is = rw up refl;
    }))
next_cue drones cues s zero m k is cues_left pairs_left drones_left =
    let none : nat_lt (s.cue + 1) cues ≡ false = grind (arith, nat_tests) in rw none (next_pair drones cues s m k is pairs_left drones_left)

pub next_ahead : (drones cues : ℕ) (s : Slot) (rest : List Slot) → IsFrom drones cues s rest →
    (next : List Slot) × (rest ≡ s ∷ next) × IsAhead drones cues (following drones cues s) next
next_ahead drones cues s rest from = go from.n from.cues_left from.rest_is
  where
    go : (n : ℕ) → n + s.cue ≡ cues → rest ≡ cues_from n s.a s.b s.cue ++ (pairs_from from.m cues s.a (suc s.b) ++ drones_from from.k cues (suc s.a)) →
        (next : List Slot) × (rest ≡ s ∷ next) × IsAhead drones cues (following drones cues s) next
    go zero left is = absurd (omega (arith, left, from.is_slot.cue))
    go (suc n) left is = (behind n from.m from.k cues s, is, next_cue drones cues s n from.m from.k from.is_slot left from.pairs_left from.drones_left)

-- the pair after one whose cues are all to come
pub pair_ahead : (drones cues : ℕ) (s : Slot) (rest : List Slot) → IsFrom drones cues s rest → s.cue ≡ 0 →
    (next : List Slot) × (rest ≡ cues_from cues s.a s.b 0 ++ next) × IsAhead drones cues (following_pair drones s) next
pair_ahead drones cues s rest from begins =
    let all : from.n ≡ cues = omega (arith, from.cues_left, begins) in (
      pairs_from from.m cues s.a (suc s.b) ++ drones_from from.k cues (suc s.a),
      rw (all, begins) at from.rest_is,
      next_pair drones cues s from.m from.k from.is_slot from.pairs_left from.drones_left,
    )

pub some_ahead : (drones cues : ℕ) (s : Slot) (rest : List Slot) → s.b < drones → IsAhead drones cues s rest → IsFrom drones cues s rest
some_ahead drones cues s rest here (inl from) = from
some_ahead drones cues s rest here (inr over) = absurd (omega (arith, over.0))

-- ---- what slots name
cues_named : (n drones cues a b cue : ℕ) → a < b → b < drones → n + cue ≤ cues → All (IsSlot drones cues) (cues_from n a b cue)
cues_named zero drones cues a b cue order inside few = All-nil (IsSlot drones cues)
cues_named (suc n) drones cues a b cue order inside few =
    All-cons (IsSlot drones cues) (slot_at a b cue) (cues_from n a b (suc cue)) (record { first = order; second = inside; cue = omega arith })
    (cues_named n drones cues a b (suc cue) order inside (omega arith))

pairs_named : (n drones cues a b : ℕ) → a < b → b + n ≤ drones → All (IsSlot drones cues) (pairs_from n cues a b)
pairs_named zero drones cues a b order few = All-nil (IsSlot drones cues)
pairs_named (suc n) drones cues a b order few =
    All-append (IsSlot drones cues) (cues_from cues a b 0) (pairs_from n cues a (suc b))
    (cues_named cues drones cues a b 0 order (omega arith) (omega arith)) (pairs_named n drones cues a (suc b) (omega arith) (omega arith))

drones_named : (n drones cues a : ℕ) → a + n ≤ drones → All (IsSlot drones cues) (drones_from n cues a)
drones_named zero drones cues a few = All-nil (IsSlot drones cues)
drones_named (suc n) drones cues a few =
    All-append (IsSlot drones cues) (pairs_from n cues a (suc a)) (drones_from n cues (suc a))
    (pairs_named n drones cues a (suc a) (omega arith) (omega arith)) (drones_named n drones cues (suc a) (omega arith))

-- the slots of a show are pairs of its drones and its cues
pub slots_named : (drones cues : ℕ) → All (IsSlot drones cues) (slots drones cues)
unfolding slots
slots_named drones cues = drones_named drones drones cues 0 (omega arith)

-- Which parts are blocked, and that lines of them say one thing alone.
use Rattle.show_studies.proofs.Prelude.{common_steps, ◌≡◌, ◌⊎◌, ◌↔◌, inl, inr, ℕ, zero, suc, ◌+◌, ◌<◌, ℤ, pos, ◌*ℤ◌, ◌≤ℤ◌, ◌<ℤ◌, Bool, false, List, [], ◌∷◌, ◌++◌, length, Contains, Option, Some, None, option_map, option_or, refl, sym, ap, subst, ◌∙◌, arith, ints, Raised, PlainShow, Name, Traj, IsBefore, IsClosestIn, IsListed, left_of, listed, right_of, site_of, BlockedLaw, BlockedLines, Explains, SaysBlocked, SeparationSays, blocked_among, names_of, trajectories_of, with_part, true, difference, raised_of, Clearance, Slot, blocked_place, BlockedPart, blocked_at, blocked_in, clearance_of, direction_at, measure_of, searched, slots_of, Closest, Touch, blocked_closest_line, cues_in, blocked_of, explain_text, word_at}
use Rattle.choreo_show.specs.declared.show.Settings.{Settings}
use Rattle.pair_search.specs.Fleets as fleet
use Rattle.pair_search.specs.Laws.{IsFirstBlocked}
use Rattle.pair_search.proofs.SearchLaws.{laws}
use Rattle.show_studies.proofs.StudyLemmas.{left_above, left_least, level_one, nearest_one, same_closest, same_ints, same_site, sites_compared, touches_one}

-- ---- lists

none_there : {X : Type 0} (y : X) → Contains [] y → ⊥
none_there y (k, inside, is) = omega (arith, inside)

first_there : {X : Type 0} (x y : X) (xs : List X) → x ≡ y → Contains (x ∷ xs) y
first_there x y xs same = (0, omega arith, same)

later_there : {X : Type 0} (x y : X) (xs : List X) → Contains xs y → Contains (x ∷ xs) y
later_there x y xs (k, inside, is) = (suc k, omega (arith, inside), is)

first_or_later : {X : Type 0} (x y : X) (xs : List X) → Contains (x ∷ xs) y → (x ≡ y) ⊎ Contains xs y
first_or_later x y xs (zero, inside, is) = inl is
first_or_later x y xs (suc k, inside, is) = inr (k, omega (arith, inside), is)

-- ---- which parts

-- a part more changes nothing of the others
added : (o : Option BlockedPart) (parts : List BlockedPart) (p : BlockedPart) → Contains parts p → Contains (with_part o parts) p
added None parts p there = there
added (Some q) parts p there = later_there q p parts there

module _ (c : Clearance) (depth : ℕ) (curves : Raised) where
  -- the part of a slot with this index is the first of its cue without a direction
  abbrev IsBlockedAt : Slot → ℕ → Type 0
  IsBlockedAt slot index = IsFirstBlocked c (difference curves slot.a slot.b slot.cue) searched depth index

  place_blocked : (slot : Slot) (index : ℕ) → (blocked_place (direction_at c curves slot) depth ≡ Some index) ↔ IsBlockedAt slot index
  unfolding fleet.direction_at measure_of
  place_blocked slot index = laws.blocked c (difference curves slot.a slot.b slot.cue) searched depth index

  -- what is among them is blocked
  told : (ss : List Slot) (slot : Slot) (index : ℕ) → Contains (blocked_among c depth curves ss) (blocked_at slot index) → Contains ss slot × IsBlockedAt slot index
  told [] slot index there = absurd (none_there (blocked_at slot index) there)
  told (s ∷ ss) slot index there = by_place (blocked_place (direction_at c curves s) depth) refl there (told ss slot index)
    where
      by_part : (k : ℕ) → blocked_place (direction_at c curves s) depth ≡ Some k → (blocked_at s k ≡ blocked_at slot index) ⊎ Contains (blocked_among c depth curves ss) (blocked_at slot index) →
          (Contains (blocked_among c depth curves ss) (blocked_at slot index) → Contains ss slot × IsBlockedAt slot index) → Contains (s ∷ ss) slot × IsBlockedAt slot index
      by_part k is (inl same) rest =
          let slot_is : s ≡ slot = ap (λ (p : BlockedPart). p.slot) same in
          let index_is : k ≡ index = ap (λ (p : BlockedPart). p.index) same in (
            first_there s slot ss slot_is,
            subst (λ (n : ℕ). IsBlockedAt slot n) index_is (subst (λ (f : Slot). IsBlockedAt f k) slot_is ((place_blocked s k).0 is)),
          )
      by_part k is (inr more) rest = let later = rest more in (later_there s slot ss later.0, later.1)

      by_place : (o : Option ℕ) → blocked_place (direction_at c curves s) depth ≡ o → Contains (with_part (option_map (blocked_at s) o) (blocked_among c depth curves ss)) (blocked_at slot index) →
          (Contains (blocked_among c depth curves ss) (blocked_at slot index) → Contains ss slot × IsBlockedAt slot index) → Contains (s ∷ ss) slot × IsBlockedAt slot index
      by_place None is more rest = let later = rest more in (later_there s slot ss later.0, later.1)
      by_place (Some k) is more rest = by_part k is (first_or_later (blocked_at s k) (blocked_at slot index) (blocked_among c depth curves ss) more) rest

  -- what is blocked is among them
  listed_so : (ss : List Slot) (slot : Slot) (index : ℕ) → Contains ss slot → IsBlockedAt slot index → Contains (blocked_among c depth curves ss) (blocked_at slot index)
  listed_so [] slot index there blocked = absurd (none_there slot there)
  listed_so (s ∷ ss) slot index there blocked = by_slot (first_or_later s slot ss there) (λ more. listed_so ss slot index more blocked)
    where
      by_slot : (s ≡ slot) ⊎ Contains ss slot → (Contains ss slot → Contains (blocked_among c depth curves ss) (blocked_at slot index)) → Contains (blocked_among c depth curves (s ∷ ss)) (blocked_at slot index)
      by_slot (inl same) rest =
          let is : blocked_place (direction_at c curves s) depth ≡ Some index = subst (λ (f : Slot). blocked_place (direction_at c curves f) depth ≡ Some index) (sym same) ((place_blocked slot index).1 blocked) in
          subst (λ (o : Option ℕ). Contains (with_part (option_map (blocked_at s) o) (blocked_among c depth curves ss)) (blocked_at slot index)) (sym is)
          (first_there (blocked_at s index) (blocked_at slot index) (blocked_among c depth curves ss) (ap (λ (f : Slot). blocked_at f index) same))
      by_slot (inr more) rest = added (option_map (blocked_at s) (blocked_place (direction_at c curves s) depth)) (blocked_among c depth curves ss) (blocked_at slot index) (rest more)

  -- there is none exactly where there is no first one
  nothing : (ss : List Slot) → (blocked_among c depth curves ss ≡ []) ↔ (blocked_in c depth curves ss ≡ None)
  nothing [] = (λ e. refl, λ e. refl)
  nothing (s ∷ ss) = by_place (blocked_place (direction_at c curves s) depth) (nothing ss)
    where
      by_place : (o : Option ℕ) → ((blocked_among c depth curves ss ≡ []) ↔ (blocked_in c depth curves ss ≡ None)) →
          ((with_part (option_map (blocked_at s) o) (blocked_among c depth curves ss) ≡ []) ↔ (option_or (option_map (blocked_at s) o) (blocked_in c depth curves ss) ≡ None))
      by_place None rest = rest
      by_place (Some k) rest = (λ e. absurd (cc), λ e. absurd (cc))

pub law : BlockedLaw
law = record {
  each = λ e depth trajs slot index.
      (told (clearance_of e trajs) depth (raised_of trajs) (slots_of trajs) slot index, λ both. listed_so (clearance_of e trajs) depth (raised_of trajs) (slots_of trajs) slot index both.0 both.1);
  none = λ e depth trajs. nothing (clearance_of e trajs) depth (raised_of trajs) (slots_of trajs);
}

-- ---- one text

closest_in_site : (trajs : List Traj) (r h fine : ℕ) (slot : Slot) (c d : Closest) → IsClosestIn trajs r h fine slot c → IsClosestIn trajs r h fine slot d → site_of c ≡ site_of d
closest_in_site trajs r h fine slot c d first second = by_order (sites_compared (site_of c) (site_of d))
  where
    low : first.left ≤ℤ second.left
    low = left_least trajs r h fine (site_of d) second.left first.left second.among second.is (first.least (site_of d) second.among second.of_slot)

    high : second.left ≤ℤ first.left
    high = left_least trajs r h fine (site_of c) first.left second.left first.among first.is (second.least (site_of c) first.among first.of_slot)

    never : (x y : ℤ) → x <ℤ y → y ≤ℤ x → ⊥
    never x y less most = omega (arith, ints, less, most)

    by_order : IsBefore (site_of c) (site_of d) ⊎ (((c.cue ≡ d.cue) × ((c.at ≡ d.at) × ((c.a ≡ d.a) × (c.b ≡ d.b)))) ⊎ IsBefore (site_of d) (site_of c)) → site_of c ≡ site_of d
    by_order (inl before) = absurd (never second.left first.left (left_above trajs r h fine (site_of c) first.left second.left first.among first.is (second.first (site_of c) first.among first.of_slot before)) low)
    by_order (inr (inl same)) = same_site (site_of c) (site_of d) same
    by_order (inr (inr before)) = absurd (never first.left second.left (left_above trajs r h fine (site_of d) second.left first.left second.among second.is (first.first (site_of d) second.among second.of_slot before)) high)

closest_in_one : (trajs : List Traj) (r h fine : ℕ) (slot : Slot) (c d : Closest) → IsClosestIn trajs r h fine slot c → IsClosestIn trajs r h fine slot d → c ≡ d
closest_in_one trajs r h fine slot c d first second =
    let sites : site_of c ≡ site_of d = closest_in_site trajs r h fine slot c d first second in
    let left : first.left ≡ second.left =
    same_ints first.left second.left (left_least trajs r h fine (site_of d) second.left first.left second.among second.is (first.least (site_of d) second.among second.of_slot))
    (left_least trajs r h fine (site_of c) first.left second.left first.among first.is (second.least (site_of c) first.among first.of_slot)) in
    let right : ℤ = right_of r h (listed fine d.cue d.at) in
    let low : (pos c.level *ℤ right) ≤ℤ (pos 1000 *ℤ second.left) =
    subst (λ (x : ℤ). (pos c.level *ℤ right) ≤ℤ (pos 1000 *ℤ x)) left
    (subst (λ (s : Touch). (pos c.level *ℤ right_of r h (listed fine s.cue s.at)) ≤ℤ (pos 1000 *ℤ first.left)) sites first.level) in
    let high : (pos 1000 *ℤ second.left) <ℤ (pos (c.level + 1) *ℤ right) =
    subst (λ (x : ℤ). (pos 1000 *ℤ x) <ℤ (pos (c.level + 1) *ℤ right)) left
    (subst (λ (s : Touch). (pos 1000 *ℤ first.left) <ℤ (pos (c.level + 1) *ℤ right_of r h (listed fine s.cue s.at))) sites first.next_level) in
    same_closest c d sites (level_one c.level d.level (pos 1000 *ℤ second.left) right low high second.level second.next_level)

-- one line
line_one : (names : List Name) (e : Settings) (trajs : List Traj) (depth fine : ℕ) (part : BlockedPart) (x y : List ℕ) → SaysBlocked names e trajs depth fine part x → SaysBlocked names e trajs depth fine part y → x ≡ y
line_one names e trajs depth fine part x y (c, first, x_is) (d, second, y_is) =
    x_is
    ∙ ap (λ (z : Closest). blocked_closest_line (word_at names part.slot.a) (word_at names part.slot.b) part.index depth fine z) (closest_in_one trajs e.r e.h fine part.slot c d first second)
    ∙ sym y_is

lines_one : (Says : BlockedPart → List ℕ → Type 0) → ((part : BlockedPart) (x y : List ℕ) → Says part x → Says part y → x ≡ y) → (n : ℕ) (parts : List BlockedPart) (x y : List ℕ) →
    BlockedLines Says n parts x → BlockedLines Says n parts y → x ≡ y
lines_one Says one n [] x y first second = first ∙ sym second
lines_one Says one zero (part ∷ parts) x y first second = first ∙ sym second
lines_one Says one (suc n) (part ∷ parts) x y (a, rest, says, more, x_is) (b, others, says_too, more_too, y_is) =
    x_is ∙ ap (λ (line : List ℕ). line ++ rest) (one part a b says says_too) ∙ ap (λ (lines : List ℕ). b ++ lines) (lines_one Says one n parts rest others more more_too) ∙ sym y_is

separation_one : (all : Bool) (names : List Name) (e : Settings) (trajs : List Traj) (depth fine : ℕ) (blocked : Option BlockedPart) (x y : List ℕ) → SeparationSays all names e trajs depth fine blocked x →
    SeparationSays all names e trajs depth fine blocked y → x ≡ y
separation_one false names e trajs depth fine blocked x y first second = first ∙ sym second
separation_one true names e trajs depth fine None x y first second = first ∙ sym second
separation_one true names e trajs depth fine (Some part) x y first second = lines_one (SaysBlocked names e trajs depth fine) (line_one names e trajs depth fine) _ _ x y first second

-- what is explained is one text
pub explained_one : (depth fine : ℕ) (all : Bool) (s : PlainShow) (text other : List ℕ) → Explains depth fine all s text → Explains depth fine all s other → text ≡ other
explained_one depth fine all s text other first second =
    let closest : first.closest ≡ second.closest = nearest_one (trajectories_of s) s.settings.r s.settings.h fine first.closest second.closest first.is_closest second.is_closest in
    let touch : first.touch ≡ second.touch = touches_one (trajectories_of s) s.settings.r s.settings.h fine first.touch second.touch first.is_first second.is_first in
    let separation : first.separation ≡ second.separation =
    separation_one all (names_of s) s.settings (trajectories_of s) depth fine (blocked_of depth s) first.separation second.separation first.says second.says in
    first.is
    ∙ ap (λ (c : Option Closest). explain_text (names_of s) (cues_in s) fine (blocked_of depth s) c first.touch first.separation) closest
    ∙ ap (λ (t : Option Touch). explain_text (names_of s) (cues_in s) fine (blocked_of depth s) second.closest t first.separation) touch
    ∙ ap (λ (lines : List ℕ). explain_text (names_of s) (cues_in s) fine (blocked_of depth s) second.closest second.touch lines) separation
    ∙ sym second.is

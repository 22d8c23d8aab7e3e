-- Ends of parts: what marks tell of them, and that the halves of a part share them.
use Rattle.pair_search.proofs.Prelude.{below_more, drop, get_or, get_or-set_other, get_or-set_same, slice_set, ◌≡◌, ◌≢◌, ◌⊎◌, inl, inr, ℕ, suc, ◌+◌, ◌-◌, ◌*◌, ◌^◌, ◌≤◌, ◌<◌, ◌<ℤ◌, ◌+ℤ◌, ◌*ℤ◌, ℤ, pos, Bool, true, false, arith, refl, sym, ◌∙◌, ap, subst, List, [], ◌∷◌, ◌++◌, length, Option, Some, None, is_some, is_none, at, by_lt, linear, pow-add, mul_left_comm_ℤ, Bez, controls, Place, part_value, direction_of, threshold, IsLevel, IsStack, left_half, right_half, root, places_of, Measure, Level, Node, Leaf, Split, IsShallow, places_below, least_value, low_value, part_along, first_low-values, IsPoint, Point, AreOpposites, first_by, does_separate, bit_at, bit_and, bit_or, drop-drop, length-map, bit_at-lt, bit_at-zero, bit_at_and, bit_at_or, bernstein-zero, part-part, Marks, Ends, AreEarly, AreEnds, AreLeft, AreWeighed, FindsEarly, FindsMarked, IsLowEnd, IsMarked, IsMarkedIn, MarkTells, MarksAt, TellAll, TellsEnds, TellsOf, MarksOf, AreShortMarks, IsShortPoint, ShortPoint}
use Rattle.bezier_core.proofs.HalfLemmas.{left_edge, right_edge}
use Rattle.pair_search.specs.declared.opposites.Opposites.{Opposites}
use Rattle.pair_search.specs.declared.ends.Kept.{Kept}
use Rattle.pair_search.proofs.ShortLemmas.{short_along}
use Rattle.pair_search.proofs.LaneLemmas.{by_same, lane_along}
use Rattle.pair_search.proofs.Marks.{none_there, some_there}

-- ---- values at the ends of halves
-- the first value of the first half is that of the whole, times 2^7
first_value : (e m : ℕ) (f : ℕ → ℤ) → part_value (suc e) (2 * m + 0) f 0 ≡ pos 128 *ℤ part_value e m f 0
first_value e m f =
    sym (part-part e m 0 0 f (omega arith) (omega arith)) ∙ sym (left_edge 0 (part_value e m f)) ∙ ap (λ (z : ℤ). pos 128 *ℤ z) (bernstein-zero _ (pos 1) (pos 2))

-- the last value of the second half, as well
last_value : (e m : ℕ) (f : ℕ → ℤ) → part_value (suc e) (2 * m + 1) f 7 ≡ pos 128 *ℤ part_value e m f 7
last_value e m f =
    sym (part-part e m 1 7 f (omega arith) (omega arith)) ∙ sym (right_edge 0 (part_value e m f) (omega arith)) ∙ ap (λ (z : ℤ). pos 128 *ℤ z) (bernstein-zero _ (pos 1) (pos 2))

-- the first half ends where the second begins
middle_value : (e m : ℕ) (f : ℕ → ℤ) → part_value (suc e) (2 * m + 0) f 7 ≡ part_value (suc e) (2 * m + 1) f 0
middle_value e m f =
    sym (part-part e m 0 7 f (omega arith) (omega arith)) ∙ sym (left_edge 7 (part_value e m f))
    ∙ right_edge 7 (part_value e m f) (omega arith) ∙ part-part e m 1 0 f (omega arith) (omega arith)

-- ---- bits of two numbers
-- a bit of both of two numbers is clear where it is in one
pub either_clear : (a b i : ℕ) → bit_at (bit_and a b) i ≡ 0 → (bit_at a i ≡ 0) ⊎ (bit_at b i ≡ 0)
either_clear a b i clear =
    by_lt (bit_at a i) 1 (λ less. inl (omega (arith, less))) (λ more. inr (omega (arith, more, clear, bit_at_and a b i)))

-- ---- ends that are too low
least_next : (t : ℤ) (e : ℕ) → least_value t (suc e) ≡ pos 128 *ℤ least_value t e
least_next t e =
    ap (λ (n : ℕ). t *ℤ pos n) (scaled e) ∙ mul_left_comm_ℤ t (pos 128) (pos (5040 * 2 ^ (7 * e)))
  where
    seven : (e : ℕ) → 2 ^ (7 * suc e) ≡ 128 * 2 ^ (7 * e)
    seven e = let up : 7 * suc e ≡ 7 + 7 * e = omega arith in ap (λ (n : ℕ). 2 ^ n) up ∙ pow-add 2 7 (7 * e)

    swap : (p : ℕ) → 5040 * (128 * p) ≡ 128 * (5040 * p)
    swap p = omega arith

    scaled : (e : ℕ) → 5040 * 2 ^ (7 * suc e) ≡ 128 * (5040 * 2 ^ (7 * e))
    scaled e = ap (λ (n : ℕ). 5040 * n) (seven e) ∙ swap (2 ^ (7 * e))

spread : (u v w x y z : ℤ) → u *ℤ (pos 128 *ℤ x) +ℤ v *ℤ (pos 128 *ℤ y) +ℤ w *ℤ (pos 128 *ℤ z) ≡ pos 128 *ℤ (u *ℤ x +ℤ v *ℤ y +ℤ w *ℤ z)
spread u v w x y z =
    rw (mul_left_comm_ℤ u (pos 128) x, mul_left_comm_ℤ v (pos 128) y, mul_left_comm_ℤ w (pos 128) z) (omega (arith, linear))

scaled_low : (s l : ℤ) → s <ℤ l → (pos 128 *ℤ s) <ℤ (pos 128 *ℤ l)
scaled_low s l less = omega (arith, linear, less)

module _ (m : Measure) (diff : List (Bez 8)) where
  first_low_end : (e i dir : ℕ) → IsLowEnd m diff (record { depth = e; index = i }) 0 dir → IsLowEnd m diff (record { depth = suc e; index = 2 * i + 0 }) 0 dir
  first_low_end e i dir low =
      rw (first_value e i (at (controls diff 0)), first_value e i (at (controls diff 1)), first_value e i (at (controls diff 2)), least_next (threshold m.clearance (direction_of m.directions dir)) e, spread _ _ _ _ _ _)
      (scaled_low _ _ low)

  last_low_end : (e i dir : ℕ) → IsLowEnd m diff (record { depth = e; index = i }) 7 dir → IsLowEnd m diff (record { depth = suc e; index = 2 * i + 1 }) 7 dir
  last_low_end e i dir low =
      rw (last_value e i (at (controls diff 0)), last_value e i (at (controls diff 1)), last_value e i (at (controls diff 2)), least_next (threshold m.clearance (direction_of m.directions dir)) e, spread _ _ _ _ _ _)
      (scaled_low _ _ low)

  middle_low_end : (e i dir : ℕ) → IsLowEnd m diff (record { depth = suc e; index = 2 * i + 0 }) 7 dir → IsLowEnd m diff (record { depth = suc e; index = 2 * i + 1 }) 0 dir
  middle_low_end e i dir low =
      rw (← middle_value e i (at (controls diff 0)), ← middle_value e i (at (controls diff 1)), ← middle_value e i (at (controls diff 2))) low

  -- the direction of an end that is too low doesn't separate the place
  pub low_end : (place : Place) (k dir : ℕ) → k ≤ 7 → IsLowEnd m diff place k dir → does_separate m diff place dir ≡ false
  low_end place k dir few low = failed (low_value m.clearance diff place (direction_of m.directions dir)) refl
    where
      failed : (o : Option ℕ) → low_value m.clearance diff place (direction_of m.directions dir) ≡ o → is_none o ≡ false
      failed None e = absurd (omega (arith, linear, low, first_low-values (part_along m.clearance.r m.clearance.h diff place (direction_of m.directions dir)) (least_value (threshold m.clearance (direction_of m.directions dir)) place.depth) e k few))
      failed (Some j) e = refl

  -- what one bit of a point tells of the end that it is
  front_told : (s : Opposites) (level : Level) (k begin past : ℕ) (p : Point) (marks : Marks) (i : ℕ) → k ≤ 7 → AreOpposites m s → IsLevel diff level → IsPoint level k p → IsMarkedIn begin past s p marks →
      begin ≤ i → i < past → i + i < length m.directions → bit_at marks.front i ≡ 0 → IsLowEnd m diff level.place k i
  front_told s level k begin past p marks i few opposites is point marked from before inside clear =
      lane_along diff level m.clearance (direction_of m.directions i) s.lanes p i k few is point (opposites.lanes.each i (omega (arith, inside))) (marked.front i from before clear)

  -- the marks of a point tell of the end that it is
  pub told : (s : Opposites) (level : Level) (k : ℕ) (marks : Marks) → k ≤ 7 → length m.directions ≤ 98 → AreOpposites m s → IsLevel diff level → MarksAt s level k marks → TellsOf m diff level.place k marks
  told s level k marks few count opposites is at_point = record {
    front = λ i inside clear. front_told s level k 0 49 at_point.0 marks i few opposites is at_point.2 at_point.3 (omega arith) (omega (arith, inside, count)) inside clear;
    back = λ i inside clear.
        lane_along diff level m.clearance (direction_of m.directions (length m.directions - (i + 1))) s.lanes at_point.0 (length m.directions - (i + 1)) k few is at_point.2 (opposites.lanes.each (length m.directions - (i + 1)) (omega (arith, inside)))
        (opposites.each i inside at_point.0 at_point.1 (at_point.3.back i (omega arith) (omega (arith, inside, count)) clear));
  }

  -- and so do those by rough values
  short_told : (s : Opposites) (level : Level) (k : ℕ) (p : ShortPoint) (marks : Marks) → k ≤ 7 → length m.directions ≤ 98 → AreOpposites m s → IsLevel diff level → IsShortPoint level k p → AreShortMarks s.short p marks → TellsOf m diff level.place k marks
  short_told s level k p marks few count opposites is point marked = record {
    front = λ i inside clear.
        let lane = opposites.short i inside in
        let rough = marked.front i (omega (arith, inside, count)) lane.small clear in
        short_along diff level m.clearance (direction_of m.directions i) s.lanes p i k few is point (opposites.lanes.each i (omega (arith, inside))) (lane.low p rough.0 point.fits rough.1 rough.2);
    back = λ i inside clear.
        let lane = opposites.short i inside in
        let rough = marked.back i (omega (arith, inside, count)) lane.small clear in
        short_along diff level m.clearance (direction_of m.directions (length m.directions - (i + 1))) s.lanes p (length m.directions - (i + 1)) k few is point
        (opposites.lanes.each (length m.directions - (i + 1)) (omega (arith, inside))) (lane.high p rough.0 point.fits rough.1 rough.2);
  }

  pub marks_told : (s : Opposites) (level : Level) (k : ℕ) (marks : Marks) → k ≤ 7 → length m.directions ≤ 98 → AreOpposites m s → IsLevel diff level → MarksOf s level k marks → TellsOf m diff level.place k marks
  marks_told s level k marks few count opposites is (inl short) = short_told s level k short.0 marks few count opposites is short.1 short.2
  marks_told s level k marks few count opposites is (inr whole) = told s level k marks few count opposites is whole

  -- ---- the whole cue, whose ends are weighed
  -- they stay its ends while their points stay
  pub ends_kept : (s : Opposites) (old now : Kept) → AreEnds s diff old → AreWeighed s now → now.first.point ≡ old.first.point → now.last.point ≡ old.last.point → AreEnds s diff now
  ends_kept s old now ends weighed first_same last_same = record {
    first = weighed.0;
    last = weighed.1;
    at_first = subst (λ (p : Point). IsPoint (record { place = root; part = diff }) 0 p) (sym first_same) ends.at_first;
    at_last = subst (λ (p : Point). IsPoint (record { place = root; part = diff }) 7 p) (sym last_same) ends.at_last;
  }

  -- of the first 16 directions those for which one of the ends is too low don't separate it
  pub early_left : (s : Opposites) (kept : Kept) → AreOpposites m s → IsLevel diff (record { place = root; part = diff }) → AreEnds s diff kept → AreEarly m diff (bit_and kept.first.early.front kept.last.early.front)
  early_left s kept opposites is ends = λ i early inside clear. fails i early inside (either_clear kept.first.early.front kept.last.early.front i clear)
    where
      fails : (i : ℕ) → i < 16 → i + i < length m.directions → (bit_at kept.first.early.front i ≡ 0) ⊎ (bit_at kept.last.early.front i ≡ 0) → does_separate m diff root i ≡ false
      fails i early inside (inl clear) =
          low_end root 0 i (omega arith) (front_told s (record { place = root; part = diff }) 0 0 16 kept.first.point kept.first.early i (omega arith) opposites is ends.at_first ends.first.early (omega arith) early inside clear)
      fails i early inside (inr clear) =
          low_end root 7 i (omega arith) (front_told s (record { place = root; part = diff }) 7 0 16 kept.last.point kept.last.early i (omega arith) opposites is ends.at_last ends.last.early (omega arith) early inside clear)

  -- the marks of both ends tell of it
  pub ends_told : (s : Opposites) (kept : Kept) (ends : Ends) → length m.directions ≤ 98 → AreOpposites m s → IsLevel diff (record { place = root; part = diff }) → AreEnds s diff kept →
      IsMarked s kept.first.point ends.first → IsMarked s kept.last.point ends.last → TellsEnds m diff root ends
  ends_told s kept ends few opposites is weighed at_first at_last = record {
    first = told s (record { place = root; part = diff }) 0 ends.first (omega arith) few opposites is (kept.first.point, weighed.first.small, weighed.at_first, at_first);
    last = told s (record { place = root; part = diff }) 7 ends.last (omega arith) few opposites is (kept.last.point, weighed.last.small, weighed.at_last, at_last);
  }

  -- where none of the first 16 directions separates it, what the late marks leave, and those of opposites
  pub late_left : (s : Opposites) (kept : Kept) (late ends : Ends) (near : Marks) → length m.directions ≤ 98 → AreOpposites m s → IsLevel diff (record { place = root; part = diff }) → AreEnds s diff kept → FindsEarly m diff None →
      IsMarkedIn 16 49 s kept.first.point late.first → IsMarkedIn 16 49 s kept.last.point late.last → TellsEnds m diff root ends →
      MarkTells late.first.front late.last.front near.front → MarkTells ends.first.back ends.last.back near.back → AreLeft m diff root near
  late_left s kept late ends near few opposites is weighed early at_first at_last tells fronts backs = record {
    front = λ i inside clear. by_lt i 16 (λ less. early i less inside) (λ more. front_fails i more inside (fronts i clear));
    back = λ i inside clear. back_fails i inside (backs i clear);
  }
    where
      front_fails : (i : ℕ) → 16 ≤ i → i + i < length m.directions → (bit_at late.first.front i ≡ 0) ⊎ (bit_at late.last.front i ≡ 0) → does_separate m diff root i ≡ false
      front_fails i more inside (inl clear) =
          low_end root 0 i (omega arith) (front_told s (record { place = root; part = diff }) 0 16 49 kept.first.point late.first i (omega arith) opposites is weighed.at_first at_first more (omega (arith, inside, few)) inside clear)
      front_fails i more inside (inr clear) =
          low_end root 7 i (omega arith) (front_told s (record { place = root; part = diff }) 7 16 49 kept.last.point late.last i (omega arith) opposites is weighed.at_last at_last more (omega (arith, inside, few)) inside clear)

      back_fails : (i : ℕ) → i + i < length m.directions → (bit_at ends.first.back i ≡ 0) ⊎ (bit_at ends.last.back i ≡ 0) → does_separate m diff root (length m.directions - (i + 1)) ≡ false
      back_fails i inside (inl clear) = low_end root 0 (length m.directions - (i + 1)) (omega arith) (tells.first.back i inside clear)
      back_fails i inside (inr clear) = low_end root 7 (length m.directions - (i + 1)) (omega arith) (tells.last.back i inside clear)

  -- ---- the ends of halves
  first_kept : (place : Place) (marks : Marks) → TellsOf m diff place 0 marks → TellsOf m diff (left_half place) 0 marks
  first_kept place marks tells =
      let up : place.depth + 1 ≡ suc place.depth = omega arith in
      let same : 2 * place.index ≡ 2 * place.index + 0 = omega arith in
      rw (up, same) record {
        front = λ i inside clear. first_low_end place.depth place.index i (tells.front i inside clear);
        back = λ i inside clear. first_low_end place.depth place.index (length m.directions - (i + 1)) (tells.back i inside clear);
      }

  last_kept : (place : Place) (marks : Marks) → TellsOf m diff place 7 marks → TellsOf m diff (right_half place) 7 marks
  last_kept place marks tells =
      let up : place.depth + 1 ≡ suc place.depth = omega arith in
      rw up record {
        front = λ i inside clear. last_low_end place.depth place.index i (tells.front i inside clear);
        back = λ i inside clear. last_low_end place.depth place.index (length m.directions - (i + 1)) (tells.back i inside clear);
      }

  middle_shared : (place : Place) (marks : Marks) → TellsOf m diff (left_half place) 7 marks → TellsOf m diff (right_half place) 0 marks
  middle_shared place marks tells =
      let up : place.depth + 1 ≡ suc place.depth = omega arith in
      let same : 2 * place.index ≡ 2 * place.index + 0 = omega arith in
      go (rw (up, same) at tells)
    where
      go : TellsOf m diff (record { depth = suc place.depth; index = 2 * place.index + 0 }) 7 marks → TellsOf m diff (right_half place) 0 marks
      go tells =
          let up : place.depth + 1 ≡ suc place.depth = omega arith in
          rw up record {
            front = λ i inside clear. middle_low_end place.depth place.index i (tells.front i inside clear);
            back = λ i inside clear. middle_low_end place.depth place.index (length m.directions - (i + 1)) (tells.back i inside clear);
          }

  -- the ends of both halves of a place
  pub halves_told : (place : Place) (ends : Ends) (middle : Marks) → TellsEnds m diff place ends → TellsOf m diff (left_half place) 7 middle →
      TellsEnds m diff (left_half place) (record { first = ends.first; last = middle }) × TellsEnds m diff (right_half place) (record { first = middle; last = ends.last })
  halves_told place ends middle tells between = (
    record { first = first_kept place ends.first tells.first; last = between },
    record { first = middle_shared place middle between; last = last_kept place ends.last tells.last },
  )

  -- ---- what both ends leave
  pub left_marks : (place : Place) (ends : Ends) (near : Marks) → TellsEnds m diff place ends → MarkTells ends.first.front ends.last.front near.front → MarkTells ends.first.back ends.last.back near.back → AreLeft m diff place near
  left_marks place ends near tells fronts backs = record {
    front = λ i inside clear. front_fails i inside (fronts i clear);
    back = λ i inside clear. back_fails i inside (backs i clear);
  }
    where
      front_fails : (i : ℕ) → i + i < length m.directions → (bit_at ends.first.front i ≡ 0) ⊎ (bit_at ends.last.front i ≡ 0) → does_separate m diff place i ≡ false
      front_fails i inside (inl clear) = low_end place 0 i (omega arith) (tells.first.front i inside clear)
      front_fails i inside (inr clear) = low_end place 7 i (omega arith) (tells.last.front i inside clear)

      back_fails : (i : ℕ) → i + i < length m.directions → (bit_at ends.first.back i ≡ 0) ⊎ (bit_at ends.last.back i ≡ 0) → does_separate m diff place (length m.directions - (i + 1)) ≡ false
      back_fails i inside (inl clear) = low_end place 0 (length m.directions - (i + 1)) (omega arith) (tells.first.back i inside clear)
      back_fails i inside (inr clear) = low_end place 7 (length m.directions - (i + 1)) (omega arith) (tells.last.back i inside clear)

  -- where no direction with a bit separates a place, and no opposite, none does
  pub none_left : (place : Place) (near : Marks) → length m.directions ≤ 98 → AreLeft m diff place near →
      ((i : ℕ) → i + i < length m.directions → bit_at near.front i ≡ 1 → does_separate m diff place i ≡ false) →
      ((i : ℕ) → i + i < length m.directions → bit_at near.back i ≡ 1 → does_separate m diff place (length m.directions - (i + 1)) ≡ false) → false ≡ is_some (first_by m diff place)
  none_left place near few left fronts backs = none_there m.clearance diff m.directions place fails
    where
      by_bit : {P : Type 0} (x i : ℕ) → (bit_at x i ≡ 0 → P) → (bit_at x i ≡ 1 → P) → P
      by_bit x i clear set = by_lt (bit_at x i) 1 (λ less. clear (omega (arith, less))) (λ more. set (omega (arith, more, bit_at-lt x i)))

      fails : (dir : ℕ) → dir < length m.directions → does_separate m diff place dir ≡ false
      fails dir inside =
          by_lt (dir + dir) (length m.directions)
          (λ front. by_bit near.front dir (left.front dir front) (fronts dir front))
          (λ back.
          let other : (length m.directions - (dir + 1)) + (length m.directions - (dir + 1)) < length m.directions = omega (arith, back, inside) in
          let same : length m.directions - ((length m.directions - (dir + 1)) + 1) ≡ dir = omega (arith, inside) in
          subst (λ (j : ℕ). does_separate m diff place j ≡ false) same
          (by_bit near.back (length m.directions - (dir + 1)) (left.back (length m.directions - (dir + 1)) other) (backs (length m.directions - (dir + 1)) other)))

  -- what is found separates the place
  pub marked_some : (place : Place) (bits : ℕ) (back : Bool) (o : Option ℕ) (dir : ℕ) → FindsMarked m diff place bits back o → o ≡ Some dir → true ≡ is_some (first_by m diff place)
  marked_some place bits back o dir finds is =
      let found : FindsMarked m diff place bits back (Some dir) = subst (λ (x : Option ℕ). FindsMarked m diff place bits back x) is finds in
      some_there m.clearance diff m.directions place dir found.0 found.1

  pub marked_none : (place : Place) (bits : ℕ) (back : Bool) (o : Option ℕ) → FindsMarked m diff place bits back o → o ≡ None → FindsMarked m diff place bits back None
  marked_none place bits back o finds is = subst (λ (x : Option ℕ). FindsMarked m diff place bits back x) is finds

-- ---- bits
-- a bit of one of two numbers is clear in both
pub both_clear : (a b i : ℕ) → bit_at (bit_or a b) i ≡ 0 → (bit_at a i ≡ 0) × (bit_at b i ≡ 0)
both_clear a b i clear = (omega (arith, clear, bit_at_or a b i), omega (arith, clear, bit_at_or a b i))

-- what holds of the bytes before one, and of a new one, holds after the new one is put in
pub set_bytes : (P : ℕ → ℕ → Type 0) (xs : List ℕ) (i v : ℕ) → i < length xs → P i v → ((k : ℕ) → k < i → P k (get_or xs k 0)) → (k : ℕ) → k < i + 1 → P k (get_or (slice_set xs i v) k 0)
set_bytes P xs i v inside new old = below_more _ _ (λ k less. let ne : k ≢ i = omega (arith, less) in rw get_or-set_other (old k less)) (rw get_or-set_same new)

-- ---- ends that wait
pub drop_one : (t : ℕ) (xs now : List Ends) → drop t xs ≡ now → drop (t + 1) xs ≡ drop 1 now
drop_one t xs now is = sym (drop-drop 1 t xs) ∙ ap (λ (l : List Ends). drop 1 l) is

-- a direction that is asked, and those whose bits are left
pub bits_left : (rest next bit i : ℕ) {P : Type 0} → i < 64 → ((k : ℕ) → k < 64 → k ≢ bit → bit_at next k ≡ bit_at rest k) → (i ≡ bit → P) → (bit_at rest i ≡ 1) ⊎ P → (bit_at next i ≡ 1) ⊎ P
bits_left rest next bit i few kept here (inr p) = inr p
bits_left rest next bit i few kept here (inl set) = by_same i bit (λ same. inr (here same)) (λ other. inl (kept i few other ∙ set))

-- no bit is left
pub no_bit : (i : ℕ) → bit_at 0 i ≡ 1 → ⊥
no_bit i set = omega (arith, set, bit_at-zero i)

-- the ends of the whole cue
pub root_told : (m : Measure) (diff : List (Bez 8)) (s : Opposites) (ends : Ends) → length m.directions ≤ 98 → AreOpposites m s → IsLevel diff (record { place = root; part = diff }) →
    MarksOf s (record { place = root; part = diff }) 0 ends.first → MarksOf s (record { place = root; part = diff }) 7 ends.last → TellsEnds m diff root ends
root_told m diff s ends few opposites is first last = record {
  first = marks_told m diff s (record { place = root; part = diff }) 0 ends.first (omega arith) few opposites is first;
  last = marks_told m diff s (record { place = root; part = diff }) 7 ends.last (omega arith) few opposites is last;
}

pub whole_told : (m : Measure) (diff : List (Bez 8)) (s : Opposites) (ends : Ends) (places : List Place) → length m.directions ≤ 98 → AreOpposites m s → IsLevel diff (record { place = root; part = diff }) →
    MarksOf s (record { place = root; part = diff }) 0 ends.first → MarksOf s (record { place = root; part = diff }) 7 ends.last → places ≡ root ∷ [] → TellAll m diff places (ends ∷ [])
whole_told m diff s ends places few opposites is first last same = rw same (root_told m diff s ends few opposites is first last, tt)

-- those of the next part
pub next_ends : (m : Measure) (diff : List (Bez 8)) (waiting rest : List Level) (level : Level) (all more : List Ends) (ends : Ends) → waiting ≡ level ∷ rest → all ≡ ends ∷ more → TellAll m diff (places_of waiting) all → TellsEnds m diff level.place ends × TellAll m diff (places_of rest) more
next_ends m diff waiting rest level all more ends is are tells = go (rw (is, are) at tells)
  where
    go : TellAll m diff (places_of (level ∷ rest)) (ends ∷ more) → TellsEnds m diff level.place ends × TellAll m diff (places_of rest) more
    go t = t

-- ---- what a part without a direction leaves
-- what is found among directions and then among their opposites
pub both_marked : (m : Measure) (diff : List (Bez 8)) (place : Place) (near : Marks) (o p : Option ℕ) → length m.directions ≤ 98 → AreLeft m diff place near → FindsMarked m diff place near.front false o → o ≡ None → FindsMarked m diff place near.back true p → is_some p ≡ is_some (first_by m diff place)
both_marked m diff place near o None few left fronts none backs =
    let front : FindsMarked m diff place near.front false None = marked_none m diff place near.front false o fronts none in
    none_left m diff place near few left (λ i inside set. front i (omega (arith, inside)) (omega (arith, inside, few)) set) (λ i inside set. backs i (omega (arith, inside)) (omega (arith, inside, few)) set)
both_marked m diff place near o (Some dir) few left fronts none backs = marked_some m diff place near.back true (Some dir) dir backs refl

-- where no bit is left, no direction separates the place
pub nothing_left : (m : Measure) (diff : List (Bez 8)) (place : Place) (near : Marks) → length m.directions ≤ 98 → AreLeft m diff place near → near.front ≡ 0 → near.back ≡ 0 → false ≡ is_some (first_by m diff place)
nothing_left m diff place near few left fronts backs =
    none_left m diff place near few left (λ i inside set. absurd (no_bit i (subst (λ (x : ℕ). bit_at x i ≡ 1) fronts set))) (λ i inside set. absurd (no_bit i (subst (λ (x : ℕ). bit_at x i ≡ 1) backs set)))

-- ---- past a part
-- a part that is split has room for its halves
pub room_told : (diff : List (Bez 8)) (waiting : List Level) (node : Node) (n : ℕ) → 1 ≤ length waiting → IsStack diff waiting → ((level : Level) (rest : List Level) → waiting ≡ level ∷ rest → IsShallow level.place node) → node ≡ Split → n ≡ length waiting → n < 9
room_told diff [] node n some stack shallow is same = absurd (omega (arith, some))
room_told diff (level ∷ rest) node n some stack shallow is same =
    let low : IsShallow level.place Split = subst (λ (x : Node). IsShallow level.place x) is (shallow level rest refl) in
    omega (arith, low, stack.0, same)

as_long : (next : List Level) (places : List Place) → places_of next ≡ places → length next ≡ length places
as_long next places is = sym (length-map next (λ (l : Level). l.place)) ∙ ap (λ (ps : List Place). length ps) is

module _ (waiting next : List Level) (ends all : List Ends) (node : Node) (some : 1 ≤ length waiting) (as_many : length ends ≡ length waiting)
    (places : (level : Level) (rest : List Level) → waiting ≡ level ∷ rest → places_of next ≡ places_below level.place node ++ places_of rest) where
  leaf_placed : (dir : ℕ) (level : Level) (rest : List Level) → node ≡ Leaf dir → waiting ≡ level ∷ rest → places_of next ≡ places_of rest
  leaf_placed dir level rest is waits = subst (λ (x : Node). places_of next ≡ places_below level.place x ++ places_of rest) is (places level rest waits)

  split_placed : (level : Level) (rest : List Level) → node ≡ Split → waiting ≡ level ∷ rest → places_of next ≡ left_half level.place ∷ right_half level.place ∷ places_of rest
  split_placed level rest is waits = subst (λ (x : Node). places_of next ≡ places_below level.place x ++ places_of rest) is (places level rest waits)

  pub leaf_many : (dir : ℕ) → node ≡ Leaf dir → all ≡ drop 1 ends → length all ≡ length next
  leaf_many dir is dropped = go waiting refl ends refl
    where
      go : (w : List Level) → waiting ≡ w → (e : List Ends) → ends ≡ e → length all ≡ length next
      go [] waits e has = absurd (omega (arith, some, ap (λ (xs : List Level). length xs) waits))
      go (level ∷ rest) waits [] has = absurd (omega (arith, some, as_many, ap (λ (xs : List Ends). length xs) has))
      go (level ∷ rest) waits (first ∷ more) has =
          let next_long : length next ≡ length (places_of rest) = as_long next (places_of rest) (leaf_placed dir level rest is waits) in
          let rest_long : length rest ≡ length (places_of rest) = as_long rest (places_of rest) refl in
          let all_is : all ≡ more = dropped ∙ ap (λ (xs : List Ends). drop 1 xs) has in
          omega (arith, next_long, rest_long, as_many, ap (λ (xs : List Ends). length xs) all_is, ap (λ (xs : List Ends). length xs) has, ap (λ (xs : List Level). length xs) waits)

  pub leaf_told : (m : Measure) (diff : List (Bez 8)) (dir : ℕ) → node ≡ Leaf dir → all ≡ drop 1 ends → TellAll m diff (places_of waiting) ends → TellAll m diff (places_of next) all
  leaf_told m diff dir is dropped tells = go waiting refl ends refl
    where
      go : (w : List Level) → waiting ≡ w → (e : List Ends) → ends ≡ e → TellAll m diff (places_of next) all
      go [] waits e has = absurd (omega (arith, some, ap (λ (xs : List Level). length xs) waits))
      go (level ∷ rest) waits [] has = absurd (omega (arith, some, as_many, ap (λ (xs : List Ends). length xs) has))
      go (level ∷ rest) waits (first ∷ more) has =
          let all_is : all ≡ more = dropped ∙ ap (λ (xs : List Ends). drop 1 xs) has in
          let old : TellsEnds m diff level.place first × TellAll m diff (places_of rest) more = next_ends m diff waiting rest level ends more first waits has tells in
          rw (leaf_placed dir level rest is waits, all_is) (old.1)

  pub split_many : (middle : Marks) → node ≡ Split → ((e : Ends) (rest : List Ends) → ends ≡ e ∷ rest → all ≡ record { first = e.first; last = middle } ∷ record { first = middle; last = e.last } ∷ rest) → length all ≡ length next
  split_many middle is splits = go waiting refl ends refl
    where
      go : (w : List Level) → waiting ≡ w → (e : List Ends) → ends ≡ e → length all ≡ length next
      go [] waits e has = absurd (omega (arith, some, ap (λ (xs : List Level). length xs) waits))
      go (level ∷ rest) waits [] has = absurd (omega (arith, some, as_many, ap (λ (xs : List Ends). length xs) has))
      go (level ∷ rest) waits (first ∷ more) has =
          let next_long : length next ≡ length (left_half level.place ∷ right_half level.place ∷ places_of rest) = as_long next _ (split_placed level rest is waits) in
          let rest_long : length rest ≡ length (places_of rest) = as_long rest (places_of rest) refl in
          omega (arith, next_long, rest_long, as_many, ap (λ (xs : List Ends). length xs) (splits first more has), ap (λ (xs : List Ends). length xs) has, ap (λ (xs : List Level). length xs) waits)

  pub split_told : (m : Measure) (diff : List (Bez 8)) (s : Opposites) (middle : Marks) → length m.directions ≤ 98 → AreOpposites m s → node ≡ Split →
      ((e : Ends) (rest : List Ends) → ends ≡ e ∷ rest → all ≡ record { first = e.first; last = middle } ∷ record { first = middle; last = e.last } ∷ rest) →
      IsStack diff next → ((level : Level) (rest : List Level) → next ≡ level ∷ rest → MarksOf s level 7 middle) → TellAll m diff (places_of waiting) ends → TellAll m diff (places_of next) all
  split_told m diff s middle few opposites is splits stack between tells = go waiting refl ends refl
    where
      middle_of : (place other : Place) (ps : List Place) (n : List Level) → next ≡ n → places_of n ≡ place ∷ other ∷ ps → IsStack diff n → TellsOf m diff place 7 middle
      middle_of place other ps [] same placed st = absurd (cc)
      middle_of place other ps (level ∷ rest) same placed st =
          let here : level.place ≡ place = cc in
          subst (λ (p : Place). TellsOf m diff p 7 middle) here (marks_told m diff s level 7 middle (omega arith) few opposites st.1 (between level rest same))

      go : (w : List Level) → waiting ≡ w → (e : List Ends) → ends ≡ e → TellAll m diff (places_of next) all
      go [] waits e has = absurd (omega (arith, some, ap (λ (xs : List Level). length xs) waits))
      go (level ∷ rest) waits [] has = absurd (omega (arith, some, as_many, ap (λ (xs : List Ends). length xs) has))
      go (level ∷ rest) waits (first ∷ more) has =
          let placed : places_of next ≡ left_half level.place ∷ right_half level.place ∷ places_of rest = split_placed level rest is waits in
          let old : TellsEnds m diff level.place first × TellAll m diff (places_of rest) more = next_ends m diff waiting rest level ends more first waits has tells in
          let halves = halves_told m diff level.place first middle old.0 (middle_of (left_half level.place) (right_half level.place) (places_of rest) next refl placed stack) in
          rw (placed, splits first more has) (halves.0, (halves.1, old.1))

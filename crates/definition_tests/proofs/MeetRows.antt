-- Drones that meet, computed.
use Rattle.definition_tests.proofs.Prelude.{◌≡◌, ℕ, zero, suc, ◌≤◌, ◌<◌, pos, ◌≤ℤ◌, ◌<ℤ◌, List, Some, inl, inr, arith, refl, subst, bernstein, decoded, moment, Traj, durations, AreDisjoint, DisjointAt, IsBefore, IsClosest, IsClosestIn, IsFirstTouch, IsListed, LeftAbove, LeftFrom, SharePoint, instant_of, left_of, listed, behind, flight, MeetRows, close, level_at, meeting, only_slot, site, two_apart}
use Rattle.touch_witness.specs.declared.site.Touch.{Touch}

-- ---- sites
-- what holds of two trajectories holds of those that stand at their places
at_pair : (P : Traj → Traj → Type 0) (x y t u : Traj) → Some x ≡ Some t → Some y ≡ Some u → P x y → P t u
at_pair P x y t u first second p =
    let a : x ≡ t = cc in
    let b : y ≡ u = cc in
    subst (λ (v : Traj). P v u) a (subst (λ (v : Traj). P x v) b p)

-- two drones and one cue have two listed instants
each_site : (P : ℕ → ℕ → ℕ → ℕ → Type 0) (cue at a b : ℕ) → cue < 1 → at ≤ 1 → a < b → b < 2 → P 0 0 0 1 → P 0 1 0 1 → P cue at a b
each_site P (suc cue) at a b in_cue in_part in_pair in_show p q = absurd (omega (arith, in_cue))
each_site P zero (suc (suc at)) a b in_cue in_part in_pair in_show p q = absurd (omega (arith, in_part))
each_site P zero zero a zero in_cue in_part in_pair in_show p q = absurd (omega (arith, in_pair))
each_site P zero zero zero (suc zero) in_cue in_part in_pair in_show p q = p
each_site P zero zero (suc a) (suc zero) in_cue in_part in_pair in_show p q = absurd (omega (arith, in_pair))
each_site P zero zero a (suc (suc b)) in_cue in_part in_pair in_show p q = absurd (omega (arith, in_show))
each_site P zero (suc zero) a zero in_cue in_part in_pair in_show p q = absurd (omega (arith, in_pair))
each_site P zero (suc zero) zero (suc zero) in_cue in_part in_pair in_show p q = q
each_site P zero (suc zero) (suc a) (suc zero) in_cue in_part in_pair in_show p q = absurd (omega (arith, in_pair))
each_site P zero (suc zero) a (suc (suc b)) in_cue in_part in_pair in_show p q = absurd (omega (arith, in_show))

-- nothing is before itself
not_before : IsBefore (site 1 0 1) (site 1 0 1) → ⊥
not_before (inl low) = omega (arith, low)
not_before (inr (same, inl low)) = omega (arith, low)
not_before (inr (same, inr (also, inl low))) = omega (arith, low)
not_before (inr (same, inr (also, inr (again, low)))) = omega (arith, low)

-- the start is before the end
start_before : IsBefore (site 0 0 1) (site 1 0 1)
start_before = inr (refl, inl (omega arith))

abbrev Disjoint : List Traj → ℕ → ℕ → ℕ → ℕ → Type 0
Disjoint trajs cue at a b = DisjointAt trajs 1 1 0 (record { cue = cue; at = at; a = a; b = b })

abbrev apart_at : (at : ℕ) → Traj → Traj → Type 0
apart_at at t u = AreDisjoint t u 1 1 (instant_of (durations t.segments) 0 at 1) 1

behind_first : Disjoint behind 0 0 0 1
unfolding bernstein decoded moment
behind_first = λ t u first second. at_pair (apart_at 0) (flight (pos 0) (pos 10)) (flight (pos 7) (pos 17)) t u first second (record { above = omega arith })

behind_last : Disjoint behind 0 1 0 1
unfolding bernstein decoded moment
behind_last = λ t u first second. at_pair (apart_at 1) (flight (pos 0) (pos 10)) (flight (pos 7) (pos 17)) t u first second (record { above = omega arith })

meeting_first : Disjoint meeting 0 0 0 1
unfolding bernstein decoded moment
meeting_first = λ t u first second. at_pair (apart_at 0) (flight (pos 0) (pos 10)) (flight (pos 20) (pos 11)) t u first second (record { above = omega arith })

-- in the end the point at 10 mm is in both
touch_at_end : (AreDisjoint (flight (pos 0) (pos 10)) (flight (pos 20) (pos 11)) 1 1 10 1 → ⊥) × SharePoint (flight (pos 0) (pos 10)) (flight (pos 20) (pos 11)) 1 1 10 1
unfolding bernstein decoded moment
touch_at_end = (
  (λ apart. let high = apart.above in omega (arith, high)),
  record { x = pos 10; y = pos 0; z = pos 0; d = 1; some = omega arith; in_first = record { within = omega arith }; in_second = record { within = omega arith } },
)

first_touch : IsFirstTouch meeting 1 1 0 (site 1 0 1)
first_touch = record {
  listed = record { cue = omega arith; at = omega arith; pair = omega arith; drone = omega arith };
  touches = λ t u first second.
      at_pair (λ (t u : Traj). (AreDisjoint t u 1 1 (instant_of (durations t.segments) 0 1 1) 1 → ⊥) × SharePoint t u 1 1 (instant_of (durations t.segments) 0 1 1) 1)
      (flight (pos 0) (pos 10)) (flight (pos 20) (pos 11)) t u first second touch_at_end;
  none_before = λ u is before.
      each_site (λ (cue at a b : ℕ). IsBefore (record { cue = cue; at = at; a = a; b = b }) (site 1 0 1) → Disjoint meeting cue at a b)
      u.cue u.at u.a u.b is.cue is.at is.pair is.drone (λ before. meeting_first) (λ before. absurd (not_before before)) before;
}

-- ---- the closest
abbrev left_from : (at : ℕ) → Traj → Traj → Type 0
left_from at t u = pos 1 ≤ℤ left_of t u 1 1 (listed 0 0 at)

left_at_start : LeftFrom meeting 1 1 0 (site 0 0 1) (pos 1)
unfolding bernstein decoded
left_at_start = λ t u first second. at_pair (left_from 0) (flight (pos 0) (pos 10)) (flight (pos 20) (pos 11)) t u first second (omega arith)

left_at_end : LeftFrom meeting 1 1 0 (site 1 0 1) (pos 1)
unfolding bernstein decoded
left_at_end = λ t u first second. at_pair (left_from 1) (flight (pos 0) (pos 10)) (flight (pos 20) (pos 11)) t u first second (omega arith)

above_at_start : LeftAbove meeting 1 1 0 (site 0 0 1) (pos 1)
unfolding bernstein decoded
above_at_start = λ t u first second. at_pair (λ (t u : Traj). pos 1 <ℤ left_of t u 1 1 (listed 0 0 0)) (flight (pos 0) (pos 10)) (flight (pos 20) (pos 11)) t u first second (omega arith)

is_at_end : (t u : Traj) → Some (flight (pos 0) (pos 10)) ≡ Some t → Some (flight (pos 20) (pos 11)) ≡ Some u → pos 1 ≡ left_of t u 1 1 (listed 0 0 1)
unfolding bernstein decoded
is_at_end t u first second = at_pair (λ (t u : Traj). pos 1 ≡ left_of t u 1 1 (listed 0 0 1)) (flight (pos 0) (pos 10)) (flight (pos 20) (pos 11)) t u first second refl

least_is : (u : Touch) → IsListed meeting 0 u → LeftFrom meeting 1 1 0 u (pos 1)
least_is u is = each_site (λ (cue at a b : ℕ). LeftFrom meeting 1 1 0 (record { cue = cue; at = at; a = a; b = b }) (pos 1))
    u.cue u.at u.a u.b is.cue is.at is.pair is.drone left_at_start left_at_end

first_is : (u : Touch) → IsListed meeting 0 u → IsBefore u (site 1 0 1) → LeftAbove meeting 1 1 0 u (pos 1)
first_is u is before = each_site (λ (cue at a b : ℕ). IsBefore (record { cue = cue; at = at; a = a; b = b }) (site 1 0 1) → LeftAbove meeting 1 1 0 (record { cue = cue; at = at; a = a; b = b }) (pos 1))
    u.cue u.at u.a u.b is.cue is.at is.pair is.drone (λ before. above_at_start) (λ before. absurd (not_before before)) before

closest_is : IsClosest meeting 1 1 0 (level_at 1 250)
closest_is = record {
  left = pos 1;
  among = record { cue = omega arith; at = omega arith; pair = omega arith; drone = omega arith };
  is = is_at_end;
  least = least_is;
  first = first_is;
  level = omega arith;
  next_level = omega arith;
}

-- the same of the one pair in the one cue
in_cue_is : IsClosestIn meeting 1 1 0 only_slot (level_at 1 250)
in_cue_is = record {
  left = pos 1;
  among = record { cue = omega arith; at = omega arith; pair = omega arith; drone = omega arith };
  of_slot = record { a = refl; b = refl; cue = refl };
  is = is_at_end;
  least = λ u is of. least_is u is;
  first = λ u is of before. first_is u is before;
  level = omega arith;
  next_level = omega arith;
}

-- two that stay are closest at the first instant, before which there is none
abbrev left_apart : (at : ℕ) → Traj → Traj → Type 0
left_apart at t u = pos 4 ≤ℤ left_of t u 1 1 (listed 0 0 at)

apart_at_start : LeftFrom two_apart 1 1 0 (site 0 0 1) (pos 4)
unfolding bernstein decoded
apart_at_start = λ t u first second. at_pair (left_apart 0) (flight (pos 0) (pos 0)) (flight (pos 2) (pos 2)) t u first second (omega arith)

apart_at_end : LeftFrom two_apart 1 1 0 (site 1 0 1) (pos 4)
unfolding bernstein decoded
apart_at_end = λ t u first second. at_pair (left_apart 1) (flight (pos 0) (pos 0)) (flight (pos 2) (pos 2)) t u first second (omega arith)

is_apart : (t u : Traj) → Some (flight (pos 0) (pos 0)) ≡ Some t → Some (flight (pos 2) (pos 2)) ≡ Some u → pos 4 ≡ left_of t u 1 1 (listed 0 0 0)
unfolding bernstein decoded
is_apart t u first second = at_pair (λ (t u : Traj). pos 4 ≡ left_of t u 1 1 (listed 0 0 0)) (flight (pos 0) (pos 0)) (flight (pos 2) (pos 2)) t u first second refl

none_before_start : (at : ℕ) → IsBefore (site at 0 1) (site 0 0 1) → ⊥
none_before_start at (inl low) = omega (arith, low)
none_before_start at (inr (same, inl low)) = omega (arith, low)
none_before_start at (inr (same, inr (also, inl low))) = omega (arith, low)
none_before_start at (inr (same, inr (also, inr (again, low)))) = omega (arith, low)

apart_is : IsClosest two_apart 1 1 0 (level_at 0 1000)
apart_is = record {
  left = pos 4;
  among = record { cue = omega arith; at = omega arith; pair = omega arith; drone = omega arith };
  is = is_apart;
  least = λ u is. each_site (λ (cue at a b : ℕ). LeftFrom two_apart 1 1 0 (record { cue = cue; at = at; a = a; b = b }) (pos 4))
      u.cue u.at u.a u.b is.cue is.at is.pair is.drone apart_at_start apart_at_end;
  first = λ u is before. each_site (λ (cue at a b : ℕ). IsBefore (record { cue = cue; at = at; a = a; b = b }) (site 0 0 1) → LeftAbove two_apart 1 1 0 (record { cue = cue; at = at; a = a; b = b }) (pos 4))
      u.cue u.at u.a u.b is.cue is.at is.pair is.drone (λ before. absurd (none_before_start 0 before)) (λ before. absurd (none_before_start 1 before)) before;
  level = omega arith;
  next_level = omega arith;
}

in_show : (at : ℕ) → at ≤ 1 → IsListed meeting 0 (site at 0 1)
in_show at small = record { cue = omega arith; at = omega (arith, small); pair = omega arith; drone = omega arith }

close_show : (at : ℕ) → at ≤ 1 → IsListed close 0 (site at 0 1)
close_show at small = record { cue = omega arith; at = omega (arith, small); pair = omega arith; drone = omega arith }

-- a level above theirs is too high
not_above : IsClosest two_apart 1 1 0 (level_at 0 1001) → ⊥
unfolding bernstein decoded
not_above is =
    let same : is.left ≡ pos 4 = is.is (flight (pos 0) (pos 0)) (flight (pos 2) (pos 2)) refl refl in
    let high = rw same at is.level in omega (arith, high)

pub meets : MeetRows
unfolding bernstein decoded moment
meets = record {
  first = first_touch;
  at_the_start = λ is. (is.touches (flight (pos 0) (pos 10)) (flight (pos 20) (pos 11)) refl refl).0 (record { above = omega arith });
  not_the_first = λ is.
      let high = (is.none_before (site 0 0 1) (close_show 0 (omega arith)) start_before (flight (pos 0) (pos 0)) (flight (pos 1) (pos 1)) refl refl).above in absurd (omega (arith, high));
  past_the_end = λ is. let high = is.listed.at in absurd (omega (arith, high));
  turned = λ is. let high = is.listed.pair in absurd (omega (arith, high));
  some = λ none. let high = (none (site 1 0 1) (in_show 1 (omega arith)) (flight (pos 0) (pos 10)) (flight (pos 20) (pos 11)) refl refl).above in absurd (omega (arith, high));
  none = λ u is. each_site (Disjoint behind) u.cue u.at u.a u.b is.cue is.at is.pair is.drone behind_first behind_last;
  closest = (closest_is, not_above);
  lower = λ is.
      let same : is.left ≡ pos 1 = is.is (flight (pos 0) (pos 10)) (flight (pos 20) (pos 11)) refl refl in
      let low = rw same at is.next_level in absurd (omega (arith, low));
  higher = λ is.
      let same : is.left ≡ pos 1 = is.is (flight (pos 0) (pos 10)) (flight (pos 20) (pos 11)) refl refl in
      let high = rw same at is.level in absurd (omega (arith, high));
  farther = λ is.
      let same : is.left ≡ pos 400 = is.is (flight (pos 0) (pos 10)) (flight (pos 20) (pos 11)) refl refl in
      let low = rw same at (is.least (site 1 0 1) (in_show 1 (omega arith)) (flight (pos 0) (pos 10)) (flight (pos 20) (pos 11)) refl refl) in absurd (omega (arith, low));
  not_the_first_closest = λ is.
      let same : is.left ≡ pos 1 = is.is (flight (pos 0) (pos 0)) (flight (pos 1) (pos 1)) refl refl in
      let low = rw same at (is.first (site 0 0 1) (close_show 0 (omega arith)) start_before (flight (pos 0) (pos 0)) (flight (pos 1) (pos 1)) refl refl) in absurd (omega (arith, low));
  just_touching = apart_is;
  below = λ is.
      let same : is.left ≡ pos 4 = is.is (flight (pos 0) (pos 0)) (flight (pos 2) (pos 2)) refl refl in
      let low = rw same at is.next_level in absurd (omega (arith, low));
  in_cue = in_cue_is;
  in_cue_lower = λ is.
      let same : is.left ≡ pos 1 = is.is (flight (pos 0) (pos 10)) (flight (pos 20) (pos 11)) refl refl in
      let low = rw same at is.next_level in absurd (omega (arith, low));
  in_cue_higher = λ is.
      let same : is.left ≡ pos 1 = is.is (flight (pos 0) (pos 10)) (flight (pos 20) (pos 11)) refl refl in
      let high = rw same at is.level in absurd (omega (arith, high));
  other_cue = λ is. let e : 0 ≡ 1 = is.of_slot.cue in absurd (omega (arith, e));
}

-- From parts that are kept to positions that keep to a region.
use Rattle.keepout_boxes.proofs.Prelude.{◌≡◌, ℕ, zero, suc, ◌+◌, ◌*◌, ◌^◌, ◌≤◌, ◌<◌, ℤ, pos, ◌+ℤ◌, ◌-ℤ◌, ◌*ℤ◌, ◌≤ℤ◌, ◌<ℤ◌, arith, refl, sym, subst, ◌∙◌, ap, inl, inr, List, [], ◌∷◌, length, get_or, Some, slice_get, All, ints, by_lt_z, pow_pos, power, IsIn, at, bernstein, ring, linear, le_mul_ℤ, mul_assoc_ℤ, mul_comm_ℤ, mul_left_comm_ℤ, mul_add_ℤ, one_mul_ℤ, by_lt, bernstein-at_least, Bez, controls, part_value, Traj, decoded, durations, HasFewPoints, Raised, curves_at, raised_in, part-instant, power_seven, bernstein-at_most, at_place, segments_of, Region, Keepout, Volume, AllAbove, AllBelow, AllBetween, IsKept, IsSpot, KeepsTo, KeptAt, Spot, StaysClear, extent, part_of}
use Rattle.std.proofs.lemmas.Option.{slice_get_within}
use Rattle.whole_numbers.specs.Moments.{Moment, moment}
use Rattle.whole_numbers.proofs.MomentLemmas.{IsInside, moment-inside}
use Rattle.sep_parts.proofs.Positions.{curve_value}
use Rattle.keepout_boxes.proofs.Hulls.{less_scaled, more_scaled}

-- ---- a part at each fraction
-- one of n + 1 intervals of length c has a number up to their end
interval : (n x c : ℕ) → x ≤ suc n * c → (m : ℕ) × (m ≤ n) × (m * c ≤ x) × (x ≤ (m + 1) * c)
interval zero x c below = (0, omega arith, omega arith, omega arith)
interval (suc n) x c below =
    by_lt x (suc n * c)
    (λ less. let before : (m : ℕ) × (m ≤ n) × (m * c ≤ x) × (x ≤ (m + 1) * c) = interval n x c (omega arith) in (before.0, omega (arith, before.1), before.2, before.3))
    (λ more. (suc n, omega arith, omega arith, omega arith))

-- the part of a depth in which a fraction of a cue lies
pub part_at : (depth a c : ℕ) → a ≤ c → (m : ℕ) × (m < 2 ^ depth) × (m * c ≤ 2 ^ depth * a) × (2 ^ depth * a ≤ (m + 1) * c)
part_at depth a c inside = go (2 ^ depth) (pow_pos depth)
  where
    go : (n : ℕ) → 0 < n → (m : ℕ) × (m < n) × (m * c ≤ n * a) × (n * a ≤ (m + 1) * c)
    go zero some = absurd (omega arith)
    go (suc n) some =
        let found : (m : ℕ) × (m ≤ n) × (m * c ≤ suc n * a) × (suc n * a ≤ (m + 1) * c) = interval n (suc n * a) c (grow (suc n) a c inside) in
        (found.0, omega (arith, found.1), found.2, found.3)
      where
        grow : (n a c : ℕ) → a ≤ c → n * a ≤ n * c
        grow n a c less = grind arith

-- ---- one axis
power_positive : (c : ℤ) (n : ℕ) → pos 1 ≤ℤ c → pos 1 ≤ℤ power c n
power_positive c zero some = omega (arith, ints)
power_positive c (suc n) some =
    let more : (c *ℤ pos 1) ≤ℤ (c *ℤ power c n) = le_mul_ℤ c (pos 1) (power c n) (omega (arith, linear)) (power_positive c n some) in
    omega (arith, linear, more, mul_comm_ℤ c (pos 1), one_mul_ℤ c)

lt_from_mul : (s x y : ℤ) → pos 1 ≤ℤ s → (s *ℤ x) <ℤ (s *ℤ y) → x <ℤ y
lt_from_mul s x y positive below = by_lt_z x y (λ h. h) (λ more. absurd (omega (arith, linear, below, le_mul_ℤ s y x (omega (arith, linear)) more)))

le_from_mul : (s x y : ℤ) → pos 1 ≤ℤ s → (s *ℤ x) ≤ℤ (s *ℤ y) → x ≤ℤ y
le_from_mul s x y positive below = by_lt_z y x
    (λ less. let more : (s *ℤ (y +ℤ pos 1)) ≤ℤ (s *ℤ x) = le_mul_ℤ s (y +ℤ pos 1) x (omega (arith, linear)) (omega (arith, linear)) in
    absurd (omega (arith, linear, more, below, mul_add_ℤ s y (pos 1), mul_comm_ℤ s (pos 1), one_mul_ℤ s)))
    (λ h. h)

-- what is known at an instant of a part of a curve: the sum over the part, and the position
pub record IsAtPart (f : ℕ → ℤ) (depth m a c : ℕ) (x : ℤ) : Type 0 where
  pub value : bernstein 7 f (pos a) (pos c) ≡ pos 5040 *ℤ x
  pub some : 1 ≤ c
  pub from : m * c ≤ 2 ^ depth * a
  pub to : 2 ^ depth * a ≤ (m + 1) * c

scale_ring : (s l p : ℤ) → (l *ℤ s) *ℤ p ≡ s *ℤ (l *ℤ p)
scale_ring s l p = simp ring refl

module _ (f : ℕ → ℤ) (depth m a c : ℕ) (x : ℤ) (here : IsAtPart f depth m a c x) where
  -- how far the instant lies in the part
  along : ℤ
  along = pos (2 ^ depth) *ℤ pos a -ℤ pos m *ℤ pos c

  abbrev scale : ℤ
  scale = pos (5040 * 2 ^ (7 * depth))

  along_low : pos 0 ≤ℤ along
  unfolding along
  along_low = omega (arith, ints, here.from)

  along_high : along ≤ℤ pos c
  unfolding along
  along_high = omega (arith, ints, here.to)

  part_sum : bernstein 7 (part_value depth m f) along (pos c) ≡ scale *ℤ x
  unfolding along
  part_sum =
      part-instant depth m f (pos a) (pos c) ∙ ap (λ (z : ℤ). z *ℤ bernstein 7 f (pos a) (pos c)) (power_seven depth) ∙ ap (λ (z : ℤ). pos (2 ^ (7 * depth)) *ℤ z) here.value
      ∙ mul_left_comm_ℤ (pos (2 ^ (7 * depth))) (pos 5040) x ∙ sym (mul_assoc_ℤ (pos 5040) (pos (2 ^ (7 * depth))) x) ∙ ap (λ (z : ℤ). z *ℤ x) (product (2 ^ (7 * depth)))
    where
      product : (n : ℕ) → pos 5040 *ℤ pos n ≡ pos (5040 * n)
      product n = omega (arith, ints)

  scale_positive : pos 1 ≤ℤ scale
  scale_positive = omega (arith, ints, pow_pos (7 * depth))

  pub below_limit : (limit : ℤ) → AllBelow (part_value depth m f) (limit *ℤ scale) → x <ℤ (limit *ℤ power (pos c) 7)
  below_limit limit below =
      let most : bernstein 7 (part_value depth m f) along (pos c) ≤ℤ ((limit *ℤ scale -ℤ pos 1) *ℤ power (pos c) 7) =
      bernstein-at_most 7 (part_value depth m f) (limit *ℤ scale -ℤ pos 1) along (pos c) along_low along_high (λ k small. omega (arith, linear, below k small)) in
      let less : bernstein 7 (part_value depth m f) along (pos c) <ℤ ((limit *ℤ scale) *ℤ power (pos c) 7) =
      less_scaled (limit *ℤ scale) (power (pos c) 7) (bernstein 7 (part_value depth m f) along (pos c)) (power_positive (pos c) 7 (omega (arith, ints, here.some))) most in
      lt_from_mul scale x (limit *ℤ power (pos c) 7) scale_positive (omega (arith, linear, less, part_sum, scale_ring scale limit (power (pos c) 7)))

  pub above_limit : (limit : ℤ) → AllAbove (part_value depth m f) (limit *ℤ scale) → (limit *ℤ power (pos c) 7) <ℤ x
  above_limit limit above =
      let least : ((limit *ℤ scale +ℤ pos 1) *ℤ power (pos c) 7) ≤ℤ bernstein 7 (part_value depth m f) along (pos c) =
      bernstein-at_least 7 (part_value depth m f) (limit *ℤ scale +ℤ pos 1) along (pos c) along_low along_high (λ k small. omega (arith, linear, above k small)) in
      let more : ((limit *ℤ scale) *ℤ power (pos c) 7) <ℤ bernstein 7 (part_value depth m f) along (pos c) =
      more_scaled (limit *ℤ scale) (power (pos c) 7) (bernstein 7 (part_value depth m f) along (pos c)) (power_positive (pos c) 7 (omega (arith, ints, here.some))) least in
      lt_from_mul scale (limit *ℤ power (pos c) 7) x scale_positive (omega (arith, linear, more, part_sum, scale_ring scale limit (power (pos c) 7)))

  pub between_limits : (low high : ℤ) → AllBetween (part_value depth m f) (low *ℤ scale) (high *ℤ scale) → IsIn (low *ℤ power (pos c) 7) (high *ℤ power (pos c) 7) x
  between_limits low high between =
      let least : ((low *ℤ scale) *ℤ power (pos c) 7) ≤ℤ bernstein 7 (part_value depth m f) along (pos c) =
      bernstein-at_least 7 (part_value depth m f) (low *ℤ scale) along (pos c) along_low along_high (λ k small. (between k small).0) in
      let most : bernstein 7 (part_value depth m f) along (pos c) ≤ℤ ((high *ℤ scale) *ℤ power (pos c) 7) =
      bernstein-at_most 7 (part_value depth m f) (high *ℤ scale) along (pos c) along_low along_high (λ k small. (between k small).1) in (
        le_from_mul scale (low *ℤ power (pos c) 7) x scale_positive (omega (arith, linear, least, part_sum, scale_ring scale low (power (pos c) 7))),
        le_from_mul scale x (high *ℤ power (pos c) 7) scale_positive (omega (arith, linear, most, part_sum, scale_ring scale high (power (pos c) 7))),
      )

-- ---- a drone
-- where a part is kept, the position keeps to the region at each instant of the part
keeps_in_part : (r h depth index : ℕ) (region : Region) (t : Traj) (m : Moment) (curves : List (Bez 8)) →
    ((axis : ℕ) → axis ≤ 2 → IsAtPart (at (controls curves axis)) depth index m.a m.c (decoded t axis m)) →
    IsKept r h region (part_of curves depth index) (pos (5040 * 2 ^ (7 * depth))) → KeepsTo r h region t m
keeps_in_part r h depth index (Keepout low high) t m curves here kept =
    let axis : ℕ = kept.0 in (
      axis,
      kept.1,
      elim (kept.2) [
        | inl below ↦ inl (below_limit (at (controls curves axis)) depth index m.a m.c (decoded t axis m) (here axis kept.1) (at low axis -ℤ extent r h axis) below)
        | inr above ↦ inr (above_limit (at (controls curves axis)) depth index m.a m.c (decoded t axis m) (here axis kept.1) (at high axis +ℤ extent r h axis) above)
      ],
    )
keeps_in_part r h depth index (Volume low high) t m curves here kept = λ axis near.
    between_limits (at (controls curves axis)) depth index m.a m.c (decoded t axis m) (here axis near) (at low axis +ℤ extent r h axis) (at high axis -ℤ extent r h axis) (kept axis near)

-- Where each part is kept, each drone keeps to each region at each instant.
pub stays_clear : (c : Raised) (r h depth : ℕ) (regions : List Region) → ((s : Spot) → IsSpot c regions depth s → KeptAt c r h depth regions s) → StaysClear c r h regions
stays_clear c r h depth regions kept trajs stands drone t t_is p q some before k d near =
    let times : durations t.segments ≡ stands.times = at_place (λ (t : Traj). durations t.segments ≡ stands.times) trajs drone t stands.one_show.same_times t_is in
    let inside : IsInside (length stands.times) (moment (durations t.segments) p q) =
    subst (λ (ns : List ℕ). IsInside (length ns) (moment (durations t.segments) p q)) times
    (moment-inside (durations t.segments) p q some
    (omega (arith, ap (λ (ns : List ℕ). length ns) times, stands.one_show.some_cues))
    (subst (λ (ns : List ℕ). All (λ ms. 1 ≤ ms) ns) (sym times) stands.one_show.lasting) before) in
    at_moment (moment (durations t.segments) p q) inside
  where
    at_moment : (m : Moment) → IsInside (length stands.times) m → KeepsTo r h (get_or regions k d) t m
    at_moment m inside =
        let drone_in : drone < length trajs = slice_get_within trajs drone t t_is in
        let part : (i : ℕ) × (i < 2 ^ depth) × (i * m.c ≤ 2 ^ depth * m.a) × (2 ^ depth * m.a ≤ (i + 1) * m.c) = part_at depth m.a m.c inside.within in
        let segments : length t.segments ≡ length stands.times = segments_of t stands.times (at_place (λ (t : Traj). durations t.segments ≡ stands.times) trajs drone t stands.one_show.same_times t_is) in
        let curves_are : curves_at c drone m.cue ≡ raised_in t m.cue = stands.curves drone m.cue t t_is inside.cue in
        keeps_in_part r h depth part.0 (get_or regions k d) t m (curves_at c drone m.cue)
        (λ axis small. record {
          value = curve_value t m axis (curves_at c drone m.cue) curves_are (omega (arith, segments, inside.cue)) small
              (at_place (HasFewPoints (length stands.times)) trajs drone t stands.few_points t_is m.cue axis inside.cue small);
          some = inside.some;
          from = part.2;
          to = part.3;
        })
        (kept (record { region = k; drone = drone; cue = m.cue; index = part.0 })
        (record { has_region = near; has_drone = omega (arith, stands.drones); has_cue = omega (arith, stands.cues, inside.cue); has_part = part.1 })
        (get_or regions k d) (there regions k d near))
      where
        there : (xs : List Region) (k : ℕ) (d : Region) → k < length xs → slice_get xs k ≡ Some (get_or xs k d)
        there [] k d near = absurd (omega arith)
        there (x ∷ xs) zero d near = refl
        there (x ∷ xs) (suc k) d near = there xs k d (omega arith)

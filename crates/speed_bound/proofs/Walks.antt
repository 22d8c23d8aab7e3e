-- How a walk goes from segment to segment.
use Rattle.speed_bound.proofs.Prelude.{All-get_or, ◌≡◌, ℕ, zero, suc, ◌+◌, ◌≤◌, ◌<◌, max, ℤ, arith, refl, sym, ◌∙◌, ap, List, [], ◌∷◌, length, map, get_or, All, at, points_from, raised, Element, Segment, Traj, stored, HasDuration, element_on, piece_on, points, value_after, duration, greatest_below, segment_rate, value_at, value_before}
use Rattle.std.proofs.lemmas.List.{get_or-map}

-- ---- values, points and durations by the number of a segment
points_before : (first : ℤ) (axis : ℕ) (segments : List Segment) (k : ℕ) (d : Segment) → k < length segments →
    get_or (points_from first (map (piece_on axis) segments)) k [] ≡ value_before first axis segments k ∷ stored (element_on (get_or segments k d) axis)
points_before first axis [] k d inside = absurd (omega arith)
points_before first axis (s ∷ rest) zero d inside = refl
points_before first axis (s ∷ rest) (suc k) d inside = points_before (value_after first (element_on s axis)) axis rest k d (omega arith)

-- the points of a segment are the value before it, and then its numbers
pub points-at : (t : Traj) (axis k : ℕ) (d : Segment) → k < length t.segments → points t k axis ≡ value_at t axis k ∷ stored (element_on (get_or t.segments k d) axis)
points-at t axis k d inside = points_before (at t.start axis) axis t.segments k d inside

next_before : (first : ℤ) (axis : ℕ) (segments : List Segment) (k : ℕ) (d : Segment) → k < length segments →
    value_before first axis segments (suc k) ≡ value_after (value_before first axis segments k) (element_on (get_or segments k d) axis)
next_before first axis [] k d inside = absurd (omega arith)
next_before first axis (s ∷ rest) zero d inside = refl
next_before first axis (s ∷ rest) (suc k) d inside = next_before (value_after first (element_on s axis)) axis rest k d (omega arith)

pub duration-at : (t : Traj) (k : ℕ) (d : Segment) → k < length t.segments → duration t k ≡ (get_or t.segments k d).ms
duration-at t k d inside = get_or-map (λ (s : Segment). s.ms) t.segments k d 0 inside

pub lasts-at : (t : Traj) (k : ℕ) → k < length t.segments → All HasDuration t.segments → 1 ≤ duration t k
lasts-at t k inside lasting = rw (duration-at t k (record { ms = 0; elements = [] }) inside) (All-get_or HasDuration t.segments k (record { ms = 0; elements = [] }) inside lasting)

-- one segment more
pub value-next : (t : Traj) (axis k : ℕ) (segments : List Segment) (d : Segment) (first next : ℤ) (e : Element) → k < length t.segments → segments ≡ t.segments → first ≡ value_at t axis k → e ≡ element_on (get_or segments k d) axis →
    next ≡ value_after first e → next ≡ value_at t axis (k + 1)
value-next t axis k segments d first next e inside segments_are first_is e_is is =
    let up : k + 1 ≡ suc k = omega arith in
    rw up (is ∙ rw (first_is, e_is, segments_are) (sym (next_before (at t.start axis) axis t.segments k d inside)))

-- the rate of the segment with this number
pub rate-at : (order depth axis k : ℕ) (t : Traj) (segments : List Segment) (d : Segment) (first : ℤ) (e : Element) → k < length t.segments → segments ≡ t.segments → first ≡ value_at t axis k → e ≡ element_on (get_or segments k d) axis →
    segment_rate order depth (get_or segments k d).ms (at (raised (first ∷ stored e))) ≡ segment_rate order depth (duration t k) (at (raised (points t k axis)))
rate-at order depth axis k t segments d first e inside segments_are first_is e_is =
    ap (λ (ps : List ℤ). segment_rate order depth (get_or segments k d).ms (at (raised ps))) numbers ∙ ap (λ (ms : ℕ). segment_rate order depth ms (at (raised (points t k axis)))) lasts
  where
    numbers : first ∷ stored e ≡ points t k axis
    numbers = rw (first_is, e_is, segments_are) (sym (points-at t axis k d inside))

    lasts : (get_or segments k d).ms ≡ duration t k
    lasts = rw segments_are (sym (duration-at t k d inside))

pub rate-next : (order depth axis k : ℕ) (t : Traj) (least most next here : ℕ) → most ≡ max least (greatest_below k (λ cue. segment_rate order depth (duration t cue) (at (raised (points t cue axis))))) →
    here ≡ segment_rate order depth (duration t k) (at (raised (points t k axis))) → next ≡ max most here → next ≡ max least (greatest_below (k + 1) (λ cue. segment_rate order depth (duration t cue) (at (raised (points t cue axis)))))
rate-next order depth axis k t least most next here most_is here_is is =
    let up : k + 1 ≡ suc k = omega arith in
    rw up (omega (arith, most_is, here_is, is))

-- ---- three numbers
-- three numbers that are the same
pub three_told : {A : Type 0} {x y z u v w : A} → x ≡ u → y ≡ v → z ≡ w → ◌≡◌ {A = List A} (x ∷ y ∷ z ∷ []) (u ∷ v ∷ w ∷ [])
three_told {A} {x} {y} {z} {u} {v} {w} p q r = cc

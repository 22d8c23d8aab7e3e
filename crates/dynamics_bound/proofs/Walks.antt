-- How a walk goes from edge to edge.
use Rattle.dynamics_bound.proofs.Prelude.{segment_rate, rate-at, duration-at, lasts-at, value-next, points-at, common_steps, ◌≡◌, ℕ, zero, suc, ◌+◌, ◌≤◌, ◌<◌, max, ℤ, nat_lt, true, false, arith, refl, sym, ◌∙◌, ap, List, [], ◌∷◌, length, get_or, All, nat_tests, All-nil, All-cons, at, by_lt, raised, Segment, Traj, stored, HasDuration, element_on, points, value_after, duration, Reached, acceleration_in, arrival, departure, first_step, first_velocity, jump, jump_between, last_step, rest, reached_at, value_at}
use Rattle.dynamics_bound.proofs.Segments.{acceleration_is}

-- ---- edges
-- no velocity is over no time
pub arrival-lasts : (t : Traj) (axis k : ℕ) → k ≤ length t.segments → All HasDuration t.segments → 1 ≤ (arrival t axis k).ms
arrival-lasts t axis zero inside lasting = omega arith
arrival-lasts t axis (suc k) inside lasting = lasts-at t k (omega arith) lasting

-- the velocity behind an edge
pub departs-inside : (t : Traj) (axis k : ℕ) → k < length t.segments → departure t axis k ≡ first_velocity t axis k
departs-inside t axis k inside = let test : nat_lt k (length t.segments) ≡ true = grind (arith, nat_tests) in rw test refl

pub departs-last : (t : Traj) (axis k : ℕ) → k ≡ length t.segments → departure t axis k ≡ rest
departs-last t axis k last = let test : nat_lt k (length t.segments) ≡ false = grind (arith, nat_tests) in rw test refl

same_reached : {v v' s s' : ℤ} {m m' : ℕ} → v ≡ v' → s ≡ s' → m ≡ m' →
    ◌≡◌ {A = Reached} (record { value = v; arrival = record { step = s; ms = m } }) (record { value = v'; arrival = record { step = s'; ms = m' } })
same_reached {v} {v'} {s} {s'} {m} {m'} p q r = cc

-- one segment more
pub reached_next : (t : Traj) (axis k : ℕ) (segments : List Segment) (d : Segment) (here next : Reached) → here ≡ reached_at t axis k → k < length t.segments → segments ≡ t.segments →
    next ≡ record { value = value_after here.value (element_on (get_or segments k d) axis); arrival = record { step = last_step (here.value ∷ stored (element_on (get_or segments k d) axis)); ms = (get_or segments k d).ms } } →
    next ≡ reached_at t axis (k + 1)
reached_next t axis k segments d here next here_is inside segments_are is =
    let up : k + 1 ≡ suc k = omega arith in
    is ∙ same_reached value step (ap (λ (ss : List Segment). (get_or ss k d).ms) segments_are ∙ sym (duration-at t k d inside)) ∙ ap (reached_at t axis) (sym up)
  where
    value : value_after here.value (element_on (get_or segments k d) axis) ≡ value_at t axis (suc k)
    value =
        let up : k + 1 ≡ suc k = omega arith in
        value-next t axis k segments d here.value _ _ inside segments_are (ap (λ (r : Reached). r.value) here_is) refl refl ∙ ap (λ (i : ℕ). value_at t axis i) up

    step : last_step (here.value ∷ stored (element_on (get_or segments k d) axis)) ≡ last_step (points t k axis)
    step = rw (here_is, segments_are) (ap last_step (sym (points-at t axis k d inside)))

pub departure-lasts : (t : Traj) (axis k : ℕ) → All HasDuration t.segments → 1 ≤ (departure t axis k).ms
departure-lasts t axis k lasting = grind (arith, common_steps, by_lt, departs-inside, lasts-at, nat_lt, nat_tests)

-- what is reached has a velocity over some time
pub reached-lasts : (t : Traj) (axis k : ℕ) (here : Reached) → here ≡ reached_at t axis k → k ≤ length t.segments → All HasDuration t.segments → 1 ≤ here.arrival.ms
reached-lasts t axis k here is inside lasting = rw is (arrival-lasts t axis k inside lasting)

-- the jump where a segment begins
pub jump-inside : (t : Traj) (axis k : ℕ) (segments : List Segment) (d : Segment) (here : Reached) (j : ℕ) → here ≡ reached_at t axis k → k < length t.segments → segments ≡ t.segments →
    j ≡ jump_between here.arrival (record { step = first_step (here.value ∷ stored (element_on (get_or segments k d) axis)); ms = (get_or segments k d).ms }) → j ≡ jump t axis k
unfolding jump
jump-inside t axis k segments d here j here_is inside segments_are is = grind (arith, common_steps, duration-at, departs-inside, points-at)

-- the jump at the last instant
pub jump-last : (t : Traj) (axis k : ℕ) (here : Reached) (j : ℕ) → here ≡ reached_at t axis k → k ≡ length t.segments → j ≡ jump_between here.arrival rest → j ≡ jump t axis k
unfolding jump
jump-last t axis k here j here_is last is = grind (arith, common_steps, departs-last)

-- ---- accelerations
-- the bound of a segment by its element
pub acceleration-at : (depth axis k : ℕ) (t : Traj) (segments : List Segment) (d : Segment) (here : Reached) (m v : ℕ) → here ≡ reached_at t axis k → k < length t.segments → segments ≡ t.segments →
    v ≡ max m (segment_rate 2 depth (get_or segments k d).ms (at (raised (here.value ∷ stored (element_on (get_or segments k d) axis))))) → v ≡ max m (acceleration_in depth t axis k)
acceleration-at depth axis k t segments d here m v here_is inside segments_are is =
    is ∙ ap (λ (n : ℕ). max m n) (rate-at 2 depth axis k t segments d here.value _ inside segments_are (ap (λ (r : Reached). r.value) here_is) refl ∙ acceleration_is depth (duration t k) (at (raised (points t k axis))))

-- ---- three numbers
pub three_small : (n x y z : ℕ) → x < n → y < n → z < n → All (λ v. v < n) (x ∷ y ∷ z ∷ [])
three_small n x y z first second third =
    All-cons (λ (v : ℕ). v < n) x (y ∷ z ∷ []) first (All-cons (λ (v : ℕ). v < n) y (z ∷ []) second (All-cons (λ (v : ℕ). v < n) z [] third (All-nil (λ (v : ℕ). v < n))))

-- Where drones begin a cue, and where they are in it.
use Rattle.touch_witness.proofs.Prelude.{common_steps, ◌≡◌, ℕ, zero, suc, ◌+◌, ◌^◌, ◌<◌, ℤ, pos, arith, sym, subst, ap, List, [], ◌∷◌, length, map, get_or, set, Some, slice_get, below_more, get_or-set_other, get_or-set_same, All, replicate, get_or-replicate, length-replicate, at, points_from, Segment, Traj, stored, decoded, element_on, piece_on, value_after, decoded-points, same_default, same_item, listed, begin_of, position}

-- the next segment begins with the value with which this one ends
pub begin-next : (axis : ℕ) (first : ℤ) (segments : List Segment) (cue : ℕ) (s : Segment) → s ≡ get_or segments cue s → cue < length segments →
    begin_of axis first segments (cue + 1) ≡ value_after (begin_of axis first segments cue) (element_on s axis)
begin-next axis first [] cue s is inside = absurd (omega arith)
begin-next axis first (u ∷ rest) zero s is inside = ap (λ (v : Segment). value_after first (element_on v axis)) (sym is)
begin-next axis first (u ∷ rest) (suc cue) s is inside =
    let up : suc cue + 1 ≡ suc (cue + 1) = omega arith in
    rw up (begin-next axis (value_after first (element_on u axis)) rest cue s is (omega arith))

-- the control points of a segment
points-begin : (axis : ℕ) (first : ℤ) (segments : List Segment) (cue : ℕ) (s : Segment) → s ≡ get_or segments cue s → cue < length segments →
    get_or (points_from first (map (piece_on axis) segments)) cue [] ≡ begin_of axis first segments cue ∷ stored (element_on s axis)
points-begin axis first [] cue s is inside = absurd (omega arith)
points-begin axis first (u ∷ rest) zero s is inside = ap (λ (v : Segment). first ∷ stored (element_on v axis)) (sym is)
points-begin axis first (u ∷ rest) (suc cue) s is inside = points-begin axis (value_after first (element_on u axis)) rest cue s is (omega arith)

-- The position in an element is the decoded position of the trajectory.
pub position-decoded : (t : Traj) (axis fine cue a : ℕ) (s : Segment) (first : ℤ) → s ≡ get_or t.segments cue s → cue < length t.segments → first ≡ begin_of axis (at t.start axis) t.segments cue →
    position first (element_on s axis) (pos a) (pos (2 ^ fine)) ≡ decoded t axis (listed fine cue a)
unfolding position
position-decoded t axis fine cue a s first is inside first_is = grind (arith, common_steps, pos, points-begin, decoded-points)

-- one place more is filled
pub filled_more : {A B : Type 0} (Q : A → B → Type 0) (xs : List A) (all : List B) (k : ℕ) (x : A) (v d : B) → k < length all → x ≡ get_or xs k x →
    ((j : ℕ) → j < k → (t : A) → slice_get xs j ≡ Some t → Q t (get_or all j d)) → Q x v →
    (j : ℕ) → j < k + 1 → (t : A) → slice_get xs j ≡ Some t → Q t (get_or (set all k v) j d)
filled_more {A} {B} Q xs all k x v d room is before here = grind (arith, common_steps, below_more, get_or-set_other, get_or-set_same, same_item)

-- the value with which the next cue begins
pub next_value : (axis cue : ℕ) (t : Traj) (x first : ℤ) (segments : List Segment) (d : Segment) → segments ≡ t.segments → cue < length t.segments → first ≡ begin_of axis (at t.start axis) t.segments cue →
    x ≡ value_after first (element_on (get_or segments cue d) axis) → x ≡ begin_of axis (at t.start axis) t.segments (cue + 1)
next_value axis cue t x first segments d same inside first_is is = grind (arith, common_steps, same_default, begin-next)

-- the position in a cue
pub position_in : (axis cue fine a : ℕ) (t : Traj) (x first : ℤ) (segments : List Segment) (d : Segment) → segments ≡ t.segments → cue < length t.segments → first ≡ begin_of axis (at t.start axis) t.segments cue →
    x ≡ position first (element_on (get_or segments cue d) axis) (pos a) (pos (2 ^ fine)) → x ≡ decoded t axis (listed fine cue a)
position_in axis cue fine a t x first segments d same inside first_is is = grind (arith, common_steps, same_default, position-decoded)

pub all_copies : {A : Type 0} (P : A → Type 0) (n : ℕ) (x : A) → P x → All P (replicate n x)
all_copies P n x here i d inside =
    let small : i < n = omega (arith, length-replicate n x) in
    subst P (sym (get_or-replicate n i x d small)) here

-- Trajectories and their bytes one after another, and what is known of those of a valid grid.
use Rattle.show_plan.proofs.Prelude.{common_steps, ◌≡◌, ◌⊎◌, inl, inr, ℕ, suc, ◌+◌, ◌<◌, ◌≤◌, Bool, true, false, cond, Option, Some, None, IfOk, Ok, Err, Result, List, [], ◌∷◌, ◌++◌, map, drop, append_assoc, length, get_or, nat_le, arith, refl, sym, ap, ◌∙◌, subst, All, list_all, option_or, nat_lt, ◌&&◌, ℤ, MatchOption, drop_more, All-nil, All-cons, All-head, All-tail, All-from_get_or, Point, PlainShow, Cue, Grid, grid_of, grid_fault, FitCues, IsGrid, Segment, Traj, joined, HasDuration, durations_of, join_holds_law, lasting_of, MicroPiece, millimetres, is_short, short, fits, counted, rounding, segment_of, act_of, end_of, piece_of, job_in, pieces_from, range_fault, start_of, RoundsWell, StartsWell, Fitted, FitError, PlanFault, start_at, by_cue, sent, no_trajectory, KeepsNearShow, IsFlown, IsSendable, size, room, send_fault, first_unsendable, plan_fault, FitGives, flight}
use Rattle.std.proofs.lemmas.Bool.Decides.{nat_tests}
use Rattle.whole_numbers.specs.Limits.{most_segments}
use Rattle.show_plan.specs.declared.fitted.PlanFault.TheVariants as fault
use Rattle.show_plan.proofs.Flight.{by_cue_counted, flight_at_is, keeps_near_show}

-- ---- one drone

-- the next piece of a drone, and those after it
pub pieces_next : (p : Point) (d : ℕ) (cues : List Cue) (k : ℕ) (cue : Cue) → k < length cues → cue ≡ get_or cues k cue →
    pieces_from p d (drop k cues) ≡ piece_of p cue.ms (job_in cue d) ∷ pieces_from (end_of p (act_of (job_in cue d))) d (drop (k + 1) cues)
pieces_next p d cues k cue within is = ap (pieces_from p d) (drop_more cues k cue within ∙ ap (λ (here : Cue). here ∷ drop (k + 1) cues) (sym is))

-- a segment that a piece is rounded to is its own
pub rounds : (p : MicroPiece) (s : Segment) → Some s ≡ rounding p → (s ≡ segment_of p) × RoundsWell p
rounds p s is = by_test (nat_le 1 p.ms && list_all fits (counted p)) (segment_of p) is
  where
    by_test : (b : Bool) (t : Segment) → Some s ≡ cond b (Some t) None → (s ≡ t) × (cond b (Some t) None ≡ Some t)
    by_test true t is = (cc, refl)
    by_test false t is = absurd (cc)

-- a piece that is rounded to none doesn't round well
pub rounds_not : (p : MicroPiece) → None ≡ rounding p → RoundsWell p → ⊥
rounds_not p is well = grind (arith, common_steps)

-- one segment more, as the code puts it after the others
pub segments_next : (segments more : List Segment) (whole rest : List MicroPiece) (piece : MicroPiece) (s : Segment) →
    whole ≡ piece ∷ rest → s ≡ segment_of piece → more ≡ segments ++ s ∷ [] → more ++ map segment_of rest ≡ segments ++ map segment_of whole
segments_next segments more whole rest piece s whole_is s_is more_is =
    ap (λ (xs : List Segment). xs ++ map segment_of rest) more_is
    ∙ append_assoc segments (s ∷ []) (map segment_of rest)
    ∙ ap (λ (x : Segment). segments ++ x ∷ map segment_of rest) s_is
    ∙ ap (λ (ps : List MicroPiece). segments ++ map segment_of ps) (sym whole_is)

-- a start that two bytes hold, number by number
pub starts : (p : Point) (x y z yaw : ℤ) → Some x ≡ short (millimetres p.x) → Some y ≡ short (millimetres p.y) → Some z ≡ short (millimetres p.z) → Some yaw ≡ short p.yaw →
    StartsWell p × (x ∷ y ∷ z ∷ yaw ∷ [] ≡ start_at p)
starts p x y z yaw is_x is_y is_z is_yaw =
    let at_x = kept (is_short (millimetres p.x)) x (millimetres p.x) is_x in
    let at_y = kept (is_short (millimetres p.y)) y (millimetres p.y) is_y in
    let at_z = kept (is_short (millimetres p.z)) z (millimetres p.z) is_z in
    let at_yaw = kept (is_short p.yaw) yaw p.yaw is_yaw in
    (record { x = at_x.1; y = at_y.1; z = at_z.1; yaw = at_yaw.1 }, rw (at_x.0, at_y.0, at_z.0, at_yaw.0) refl)
  where
    kept : (b : Bool) (v z : ℤ) → Some v ≡ cond b (Some z) None → (v ≡ z) × (cond b (Some z) None ≡ Some z)
    kept true v z is = (cc, refl)
    kept false v z is = absurd (cc)

-- ---- what is found or not

pub none_of : {A : Type 0} (o : Option A) (P : Type 0) (Q : A → Type 0) → o ≡ None → MatchOption o P Q → P
none_of None P Q is found = found
none_of (Some x) P Q is found = absurd (cc)

pub some_of : {A : Type 0} (o : Option A) (P : Type 0) (Q : A → Type 0) (x : A) → o ≡ Some x → MatchOption o P Q → Q x
some_of None P Q x is found = absurd (cc)
some_of (Some y) P Q x is found = let e : y ≡ x = cc in subst Q e found

-- ---- the trajectories of a grid

segments_counted : (p : Point) (d : ℕ) (cues : List Cue) → length (map segment_of (pieces_from p d cues)) ≡ length cues
segments_counted p d [] = refl
segments_counted p d (cue ∷ cues) = ap suc (segments_counted (end_of p (act_of (job_in cue d))) d cues)

segments_last : (n : ℕ) (p : Point) (d : ℕ) (cues : List Cue) → FitCues n cues → All HasDuration (map segment_of (pieces_from p d cues))
segments_last n p d [] fit = All-nil HasDuration
segments_last n p d (cue ∷ cues) fit =
    All-cons HasDuration (segment_of (piece_of p cue.ms (job_in cue d))) (map segment_of (pieces_from (end_of p (act_of (job_in cue d))) d cues))
    fit.0.lasts (segments_last n (end_of p (act_of (job_in cue d))) d cues fit.1)

flight_flown : (g : Grid) (d : ℕ) → IsGrid g → IsFlown (flight g d)
flight_flown g d is = grind (arith, common_steps, segments_counted, segments_last)

-- the trajectories of a grid have at most 1,000 segments, each of which lasts some time
pub flown : (g : Grid) → IsGrid g → All IsFlown (by_cue g)
flown g is =
    All-from_get_or IsFlown (by_cue g) no_trajectory
    (λ d small. subst IsFlown (sym (flight_at_is g d (omega (arith, by_cue_counted g)))) (flight_flown g d is))

-- and at least one
pub has_segments : (g : Grid) → IsGrid g → All (λ (t : Traj). 1 ≤ length t.segments) (by_cue g)
has_segments g is =
    All-from_get_or (λ (t : Traj). 1 ≤ length t.segments) (by_cue g) no_trajectory
    (λ d small. subst (λ (t : Traj). 1 ≤ length t.segments) (sym (flight_at_is g d (omega (arith, by_cue_counted g))))
    (omega (arith, is.some_cue, segments_counted (start_of g d) d g.cues)))

joined_flown : (t : Traj) → IsFlown t → IsFlown (joined t)
joined_flown t is = record {
  few = omega (arith, is.few, join_holds_law.fewer t);
  last = durations_of (joined t) (join_holds_law.last t (lasting_of t is.last));
}

all_joined_flown : (ts : List Traj) → All IsFlown ts → All IsFlown (map joined ts)
all_joined_flown [] all = All-nil IsFlown
all_joined_flown (t ∷ ts) all = All-cons IsFlown (joined t) (map joined ts) (joined_flown t (All-head IsFlown t ts all)) (all_joined_flown ts (All-tail IsFlown t ts all))

-- so has what is sent
pub sent_flown : (g : Grid) → IsGrid g → All IsFlown (sent g)
sent_flown g is = all_joined_flown (by_cue g) (flown g is)

-- what is sent, as the code makes it
pub sent_are : (g : Grid) (ts all : List Traj) → ts ≡ by_cue g → all ≡ map joined ts → all ≡ sent g
sent_are g ts all ts_are all_are = all_are ∙ ap (map joined) ts_are

-- ---- what can't be sent

-- a trajectory that can be sent has few segments, and bytes that have room
pub one_sendable : (space d : ℕ) (t : Traj) → send_fault space d t ≡ None → (length t.segments ≤ most_segments) × (size t ≤ space)
one_sendable space d t none = grind (arith, common_steps, nat_le, nat_tests, cond)

-- the first one and the others
pub none_unsendable : (space d : ℕ) (t : Traj) (ts : List Traj) → first_unsendable space d (t ∷ ts) ≡ None → (send_fault space d t ≡ None) × (first_unsendable space (d + 1) ts ≡ None)
none_unsendable space d t ts none = grind (arith, common_steps)

-- where none is named, each can be sent
pub sendable : (space d : ℕ) (ts : List Traj) → All IsFlown ts → first_unsendable space d ts ≡ None → All IsSendable ts
sendable space d [] all none = All-nil IsSendable
sendable space d (t ∷ ts) all none =
    let parts = none_unsendable space d t ts none in
    All-cons IsSendable t ts (record { few = (one_sendable space d t parts.0).0; last = (All-head IsFlown t ts all).last })
    (sendable space (d + 1) ts (All-tail IsFlown t ts all) parts.1)

-- the fault is that a trajectory can't be sent, of a drone from d on
pub record IsSendFault (n : ℕ) (f : PlanFault) : Type 0 where
  pub drone : ℕ
  pub is : ((segments : ℕ) × (f ≡ fault.TooManySegments drone segments)) ⊎ ((bytes : ℕ) × (space : ℕ) × (f ≡ fault.TooLong drone bytes space))
  pub among : drone < n

send_names : (space d : ℕ) (t : Traj) (f : PlanFault) (n : ℕ) → d < n → send_fault space d t ≡ Some f → IsSendFault n f
send_names space d t f n small is = by_tests (nat_lt most_segments (length t.segments)) (nat_le (size t) space) is
  where
    by_tests : (a b : Bool) → cond a (Some (fault.TooManySegments d (length t.segments))) (cond b None (Some (fault.TooLong d (size t) space))) ≡ Some f → IsSendFault n f
    by_tests true b is = record { drone = d; is = inl (length t.segments, cc); among = small }
    by_tests false true is = absurd (cc)
    by_tests false false is = record { drone = d; is = inr (size t, space, cc); among = small }

-- the first trajectory that can't be sent is that of a drone
pub unsendable_names : (space d : ℕ) (ts : List Traj) (f : PlanFault) → first_unsendable space d ts ≡ Some f → IsSendFault (d + length ts) f
unsendable_names space d [] f is = absurd (cc)
unsendable_names space d (t ∷ ts) f is = by_first (send_fault space d t) refl is (unsendable_names space (d + 1) ts f)
  where
    by_first : (o : Option PlanFault) → send_fault space d t ≡ o → option_or o (first_unsendable space (d + 1) ts) ≡ Some f →
        (first_unsendable space (d + 1) ts ≡ Some f → IsSendFault (d + 1 + length ts) f) → IsSendFault (d + length (t ∷ ts)) f
    by_first None e is later = let named = later is in record { drone = named.drone; is = named.is; among = omega (arith, named.among) }
    by_first (Some g) e is later = send_names space d t f (d + length (t ∷ ts)) (omega arith) (e ∙ is)

-- Where names, cues and numbers have no fault, the first trajectory that can't be sent is the reason why the show has no plan.
pub unsendable_given : (s : PlainShow) (g : Grid) (space : ℕ) (ts : List Traj) (f : PlanFault) →
    grid_fault s ≡ None → g ≡ grid_of s → range_fault g ≡ None → space ≡ room s → ts ≡ sent g → Some f ≡ first_unsendable space 0 ts → plan_fault s ≡ Some f
unsendable_given s g space ts f unrolled is fits space_is ts_are late = grind (arith, common_steps)

-- Where these have no fault and each trajectory can be sent, the show has a plan.
pub fits_given : (s : PlainShow) (g : Grid) (space : ℕ) (ts : List Traj) →
    grid_fault s ≡ None → g ≡ grid_of s → range_fault g ≡ None → space ≡ room s → ts ≡ sent g → first_unsendable space 0 ts ≡ None → plan_fault s ≡ None
fits_given s g space ts unrolled is fits space_is ts_are none = grind (arith, common_steps)

-- What fits is near to the show.
pub near_given : (r : Result Fitted FitError) (s : PlainShow) (g : Grid) → FitGives r s → IsGrid g → g ≡ grid_of s → IfOk r (λ f. KeepsNearShow (grid_of s) f.sent)
near_given (Ok f) s g gives is e =
    subst (λ (ts : List Traj). KeepsNearShow (grid_of s) ts) (sym gives.1.sent) (keeps_near_show (grid_of s) (subst IsGrid e is))
near_given (Err f) s g gives is e = tt

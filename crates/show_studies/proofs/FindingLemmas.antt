-- What `explain` answers, from what its steps do.
use Rattle.show_studies.proofs.Prelude.{◌≡◌, ℕ, ◌*◌, ◌<◌, ◌≤◌, All, sum, List, [], ◌∷◌, ◌^◌, length, sym, ap, subst, ◌∙◌, arith, length-map, All-cons, All-head, All-nil, All-tail, Fitted, IsValidFitted, NoTouch, instant_of, Segment, durations, Traj, FlyApart}
use Rattle.std.proofs.Math.Nat.{one-le-pow}
use Rattle.traj_codec.specs.Joined.{IsLasting}
use Rattle.touch_witness.proofs.Shows.{apart_disjoint, instant_inside}
use Rattle.upload_model.proofs.Moments.{All-slice_get}
use Rattle.fleet_curves.specs.Raised as raised
use Rattle.sep_parts.proofs.Lifts.{exactly_apart, lasting_at, own_some}

-- ---- where no part is blocked

-- trajectories of these durations have as many segments
cues_counted : (times : List ℕ) (ts : List Traj) → All (λ (t : Traj). durations t.segments ≡ times) ts → 1 ≤ length ts → raised.cues_in ts ≡ length times
cues_counted times [] are some = absurd (omega (arith, some))
cues_counted times (t ∷ ts) are some =
    sym (length-map t.segments (λ (s : Segment). s.ms)) ∙ ap (λ (ns : List ℕ). length ns) (All-head (λ (t : Traj). durations t.segments ≡ times) t ts are)

-- where drones keep apart cue by cue, no two touch at a listed instant
pub apart_no_touch : (f : Fitted) (fine : ℕ) → IsValidFitted f → FlyApart f.settings f.trajs → NoTouch f.trajs f.settings.r f.settings.h fine
apart_no_touch f fine valid apart = λ s is t u first second.
    let times_are : durations t.segments ≡ valid.times = All-slice_get (λ (t : Traj). durations t.segments ≡ valid.times) f.trajs s.a t first valid.same_times in
    let other_are : durations u.segments ≡ valid.times = All-slice_get (λ (t : Traj). durations t.segments ≡ valid.times) f.trajs s.b u second valid.same_times in
    let counted : raised.cues_in f.trajs ≡ length valid.times = cues_counted valid.times f.trajs valid.same_times (omega (arith, valid.trajs_counted, valid.some_drone)) in
    let inside : s.cue < length (durations t.segments) = omega (arith, is.cue, counted, ap (λ (ns : List ℕ). length ns) times_are) in
    let lasting : All IsLasting f.trajs = all_lasting valid.times valid.last f.trajs valid.same_times in
    let when : ℕ = instant_of (durations t.segments) s.cue s.at (2 ^ fine) in
    let some : 1 ≤ 2 ^ fine = one-le-pow fine 2 (omega arith) in
    let before : when ≤ 2 ^ fine * sum (durations t.segments) = instant_inside (durations t.segments) s.cue s.at (2 ^ fine) inside is.at in
    apart_disjoint t u f.settings.r f.settings.h when (2 ^ fine)
    (own_some t when (2 ^ fine) some (lasting_at f.trajs s.a t lasting first)) (own_some u when (2 ^ fine) some (lasting_at f.trajs s.b u lasting second))
    (exactly_apart f.settings.r f.settings.h f.settings.stray f.settings.late f.trajs lasting apart s.a s.b t u (λ same. omega (arith, same, is.pair)) first second when (2 ^ fine) some
    before (subst (λ (ns : List ℕ). when ≤ 2 ^ fine * sum ns) (times_are ∙ sym other_are) before))
  where
    all_lasting : (times : List ℕ) → All (λ ms. 1 ≤ ms) times → (ts : List Traj) → All (λ (t : Traj). durations t.segments ≡ times) ts → All IsLasting ts
    all_lasting times last [] same = All-nil IsLasting
    all_lasting times last (t ∷ ts) same =
        All-cons IsLasting t ts (subst (λ (ns : List ℕ). All (λ ms. 1 ≤ ms) ns) (sym (All-head (λ (t : Traj). durations t.segments ≡ times) t ts same)) last)
        (all_lasting times last ts (All-tail (λ (t : Traj). durations t.segments ≡ times) t ts same))

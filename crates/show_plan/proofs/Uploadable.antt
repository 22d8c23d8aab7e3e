-- What fits can be uploaded.
use Rattle.show_plan.proofs.Prelude.{◌≡◌, ℕ, ◌≤◌, List, [], ◌∷◌, map, length, arith, sym, ap, subst, ◌∙◌, All, sum, length-map, All-nil, All-cons, All-head, All-tail, Segment, Traj, IsLasting, JoinLaw, joined, durations, IsTrajectory, Fitted, IsValidFitted, AreUploadable}
use Rattle.std.proofs.lemmas.List.Sums.{sum_by-cons}

-- durations that are some milliseconds together are those of some segments
some_segments : (ss : List Segment) → 1 ≤ sum (durations ss) → 1 ≤ length ss
some_segments [] some = absurd (omega (arith, some))
some_segments (s ∷ ss) some = omega arith

-- the duration of a list that begins with one of some milliseconds
sum_some : (ms : List ℕ) → 1 ≤ length ms → All (λ m. 1 ≤ m) ms → 1 ≤ sum ms
sum_some [] some each = absurd (omega arith)
sum_some (m ∷ ms) some each = omega (arith, sum_by-cons (λ (n : ℕ). n) m ms, All-head (λ (m : ℕ). 1 ≤ m) m ms each)

module _ (law : JoinLaw) (times : List ℕ) (last : All (λ ms. 1 ≤ ms) times) where
  lasts : (t : Traj) → durations t.segments ≡ times → IsLasting t
  lasts t is = subst (λ (ms : List ℕ). All (λ ms. 1 ≤ ms) ms) (sym is) last

  all_formed : (ts : List Traj) → All IsTrajectory ts → All IsTrajectory (map joined ts)
  all_formed [] formed = All-nil IsTrajectory
  all_formed (t ∷ ts) formed =
      All-cons IsTrajectory (joined t) (map joined ts) (law.formed t (All-head IsTrajectory t ts formed)) (all_formed ts (All-tail IsTrajectory t ts formed))

  all_some : (ts : List Traj) → 1 ≤ length times → All (λ (t : Traj). durations t.segments ≡ times) ts → All (λ (t : Traj). 1 ≤ length t.segments) (map joined ts)
  all_some [] some same = All-nil (λ (t : Traj). 1 ≤ length t.segments)
  all_some (t ∷ ts) some same =
      let is : durations t.segments ≡ times = All-head (λ (t : Traj). durations t.segments ≡ times) t ts same in
      let total : 1 ≤ sum (durations (joined t).segments) = omega (arith, law.lasts t, ap (λ (ms : List ℕ). sum ms) is, sum_some times some last) in
      All-cons (λ (t : Traj). 1 ≤ length t.segments) (joined t) (map joined ts) (some_segments (joined t).segments total)
      (all_some ts some (All-tail (λ (t : Traj). durations t.segments ≡ times) t ts same))

-- What is sent of a show that fits can be uploaded.
pub uploadable : (f : Fitted) → JoinLaw → IsValidFitted f → AreUploadable f.settings f.sent
uploadable f law v =
    let count : length f.sent ≡ length f.names = ap (λ (ts : List Traj). length ts) v.sent ∙ length-map f.trajs joined ∙ v.trajs_counted in
    let some : 1 ≤ length v.times = omega (arith, v.times_counted, v.some_cue) in
    record {
      settings = v.settings;
      some = omega (arith, count, v.some_drone);
      few = omega (arith, count, v.few_drones);
      formed = subst (All IsTrajectory) (sym v.sent) (all_formed law v.times v.last f.trajs v.formed);
      sendable = v.sendable;
      segments = subst (All (λ (t : Traj). 1 ≤ length t.segments)) (sym v.sent) (all_some law v.times v.last f.trajs some v.same_times);
      room = v.room;
    }

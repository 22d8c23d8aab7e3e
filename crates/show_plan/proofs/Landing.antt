-- What is acknowledged has landed, and so has what is accepted.
use Rattle.show_plan.proofs.Prelude.{common_steps, ◌≡◌, ℕ, ◌-◌, ◌<◌, ◌≤◌, Bool, false, true, List, [], ◌∷◌, ◌++◌, All, length, length-append, get_or, Some, sym, subst, ◌∙◌, arith, map, get_or-map, length-map, All-cons, All-get_or, All-nil, Settings, Traj, IsTrajectory, ending, spelling, CurveLaw, Carries, load_for, IsLoad, IsSession, Upload, drone_count, is_read, load_of, packet_count, start_number, write_count, Load, IsSafe, LastingLaw, UploadLaw, Grid, IsSendable, size, KeepsNearShow, no_trajectory, AreUploadable, IsLanded, LandingLaw, OrderLaw, session_for, FlyApart, IsAccepted, IsTaken, TakingLaw, taken, world, accepted_later}
use Rattle.upload_core.specs.declared.session.Settings.{Settings as Place}
use Rattle.upload_core.specs.Uploads.{upload_of}
use Rattle.upload_model.specs.Drones.{DroneState}
use Rattle.upload_model.specs.Memories.{IsDrone, OnlyLoads, HasEntry, HasLoad}
use Rattle.upload_model.proofs.Readings.{count-loads, count-start, is_read-below, is_read-past}

-- the load of a drone is that of its trajectory
load_is : (e : Settings) (trajs : List Traj) (readback start : Bool) (d : ℕ) → d < length trajs → load_of (session_for e trajs readback start) d ≡ load_for (get_or trajs d no_trajectory)
load_is e trajs readback start d within = get_or-map load_for trajs d no_trajectory (record { bytes = []; pieces = 0 }) within

pub counted : (e : Settings) (trajs : List Traj) (readback start : Bool) → drone_count (session_for e trajs readback start) ≡ length trajs
counted e trajs readback start = length-map trajs load_for

some_bytes : (t : Traj) → 1 ≤ size t
some_bytes t = omega (arith, length-append (spelling t) ending)

pub is_session : (e : Settings) (trajs : List Traj) (readback start : Bool) → AreUploadable e trajs → IsSession (session_for e trajs readback start)
is_session e trajs readback start u = record {
  some_drones = omega (arith, counted e trajs readback start, u.some);
  few_drones = omega (arith, counted e trajs readback start, u.few);
  offset_fits = omega (arith, u.settings.0);
  id_fits = omega (arith, u.settings.1);
  loads = λ d known.
      let within : d < length trajs = omega (arith, counted e trajs readback start, known) in
      let t = get_or trajs d no_trajectory in
      let room = All-get_or (λ (x : Traj). size x ≤ 4096 - e.offset) trajs d no_trajectory within u.room in
      let sendable = All-get_or IsSendable trajs d no_trajectory within u.sendable in
      let segments = All-get_or (λ (x : Traj). 1 ≤ length x.segments) trajs d no_trajectory within u.segments in
      let fine : IsLoad e.offset (load_for t) = record { some_bytes = some_bytes t; has_room = omega (arith, room, some_bytes t); some_pieces = segments; few_pieces = sendable.few } in
      subst (IsLoad e.offset) (sym (load_is e trajs readback start d within)) fine;
}

-- a session to the place that the settings say, of the loads of trajectories, is that of the trajectories
pub session_is : (place : Place) (e : Settings) (loads : List Load) (ts : List Traj) (readback start : Bool) → place.memory_id ≡ e.memory_id → place.offset ≡ e.offset → place.trajectory_id ≡ e.trajectory_id →
    loads ≡ map load_for ts → upload_of place loads readback start ≡ session_for e ts readback start
session_is place e loads ts readback start memory offset id loads_are = grind (arith, common_steps)

-- each of the trajectories can be uploaded alone
pub alone_uploadable : (e : Settings) (trajs : List Traj) (d : ℕ) (t : Traj) → AreUploadable e trajs → t ≡ get_or trajs d t → d < length trajs → AreUploadable e (t ∷ [])
alone_uploadable e trajs d t u is within = record {
  settings = u.settings;
  some = omega arith;
  few = omega arith;
  formed = one IsTrajectory u.formed;
  sendable = one IsSendable u.sendable;
  segments = one (λ (x : Traj). 1 ≤ length x.segments) u.segments;
  room = one (λ (x : Traj). size x ≤ 4096 - e.offset) u.room;
}
  where
    one : (P : Traj → Type 0) → All P trajs → All P (t ∷ [])
    one P all = All-cons P t [] (subst P (sym is) (All-get_or P trajs d t within all)) (All-nil P)

-- a drone that has the load and the entry of its trajectory carries it
pub carried : CurveLaw → (e : Settings) (trajs : List Traj) → AreUploadable e trajs → (readback start : Bool) (d : ℕ) (old new : DroneState) → d < length trajs → IsDrone old →
    OnlyLoads (session_for e trajs readback start) (load_of (session_for e trajs readback start) d) old new →
    HasLoad (session_for e trajs readback start) (load_of (session_for e trajs readback start) d) new →
    HasEntry (session_for e trajs readback start) (load_of (session_for e trajs readback start) d) new → Carries new e.trajectory_id (get_or trajs d no_trajectory)
carried curve e trajs u readback start d old new within fresh only loaded listed =
    curve.loaded (session_for e trajs readback start) new d (get_or trajs d no_trajectory) (is_session e trajs readback start u) (omega (arith, counted e trajs readback start, within))
    (load_is e trajs readback start d within)
    (All-get_or IsTrajectory trajs d no_trajectory within u.formed) (All-get_or IsSendable trajs d no_trajectory within u.sendable).last
    (only.length_kept ∙ fresh.memory) loaded listed

-- memories that have the loads and the entries of trajectories are as they have to be
landed : CurveLaw → (g : Grid) (e : Settings) (trajs : List Traj) → AreUploadable e trajs → KeepsNearShow g trajs → FlyApart e trajs → (readback start : Bool) (old new : ℕ → DroneState) →
    ((d : ℕ) → d < length trajs → IsDrone (old d)) →
    ((d : ℕ) → d < length trajs → OnlyLoads (session_for e trajs readback start) (load_of (session_for e trajs readback start) d) (old d) (new d)) →
    ((d : ℕ) → d < length trajs → HasLoad (session_for e trajs readback start) (load_of (session_for e trajs readback start) d) (new d)) →
    ((d : ℕ) → d < length trajs → HasEntry (session_for e trajs readback start) (load_of (session_for e trajs readback start) d) (new d)) →
    (start ≡ true → (d : ℕ) → d < length trajs → (new d).started ≡ Some e.trajectory_id) → IsLanded g e trajs readback start old new
landed curve g e trajs u near apart readback start old new fresh only loaded listed started =
    let carries : (d : ℕ) → d < length trajs → Carries (new d) e.trajectory_id (get_or trajs d no_trajectory) = λ d within.
    carried curve e trajs u readback start d (old d) (new d) within (fresh d within) (only d within) (loaded d within) (listed d within) in
    record {
      untouched = only;
      started = started;
      carried = carries;
      only = λ d t within other. curve.one (new d) e.trajectory_id t (get_or trajs d no_trajectory) other (carries d within).decodes;
      near = near;
      apart = apart;
    }

pub landing : CurveLaw → UploadLaw → LastingLaw → LandingLaw
landing curve upload lasting g e trajs u near apart readback start drones events later fresh unaltered done =
    let s : Upload = session_for e trajs readback start in
    let session : IsSession s = is_session e trajs readback start u in
    let count : drone_count s ≡ length trajs = counted e trajs readback start in
    let still = (lasting s drones events later).1 done in
    let safe : IsSafe s drones (world s drones (events ++ later)) = upload s drones (record { session = session; fit = λ d known. fresh d (omega (arith, count, known)) }) (events ++ later) unaltered in
    landed curve g e trajs u near apart readback start drones (world s drones (events ++ later)).drones fresh
    (λ d within. safe.only d (omega (arith, count, within))) (λ d within. safe.loaded d (omega (arith, count, within)) still)
    (λ d within. safe.listed d (omega (arith, count, within)) still) (λ starting d within. safe.started d (omega (arith, count, within)) still starting)

pub in_any_order : CurveLaw → TakingLaw → OrderLaw
in_any_order curve taking g e trajs u near apart readback start drones order later fresh own accepted =
    let s : Upload = session_for e trajs readback start in
    let count : drone_count s ≡ length trajs = counted e trajs readback start in
    let taken_so : (d : ℕ) → d < length trajs → IsTaken s d (drones d) (order d ++ later d) = λ d within.
    taking s d (drones d) (order d ++ later d) (is_session e trajs readback start u) (omega (arith, count, within)) (fresh d within) (own d within) in
    let still : (d k : ℕ) → d < length trajs → k < packet_count s d → is_read s d k ≡ false → IsAccepted s d (drones d) (order d ++ later d) k = λ d k within below plain.
    accepted_later s d (drones d) (order d) (later d) k (accepted d k within below plain) in
    landed curve g e trajs u near apart readback start drones (λ d. taken s d (drones d) (order d ++ later d)) fresh
    (λ d within. (taken_so d within).only)
    (λ d within. (taken_so d within).loaded (λ k write. let loads = count-loads s d in still d k within (omega arith) (is_read-below s d k (omega arith))))
    (λ d within. let loads = count-loads s d in (taken_so d within).listed (still d (write_count s d) within (omega arith) (is_read-below s d (write_count s d) (omega arith))))
    (λ starting d within.
    let last = count-start s d starting in (taken_so d within).started (still d (start_number s d) within (omega arith) (is_read-past s d (start_number s d) (omega arith))))

-- What can be uploaded is a session, so what holds of every session holds of it.
use Rattle.show_plan.proofs.Prelude.{◌++◌, arith, List, Traj, CurveLaw, Upload, write_count, IsCase, IsSafe, UploadLaw, Settings, AreUploadable, LandingLaw, OrderLaw, session_for, IsTaken, TakingLaw, StaysSentLaw, UnstartedLaw, world, accepted_later}
use Rattle.upload_model.specs.Readback.{ReadsCover, StartsLastLaw, VerifiedLaw}
use Rattle.upload_model.specs.Starts.{BeginLaw, EachLaw, OnceLaw}
use Rattle.show_plan.specs.Uploading.{FlyTheirOwn, UploadsLaw}
use Rattle.show_plan.proofs.Landing.{carried, counted, is_session}

-- What a drone flies is its own trajectory.
pub flown : CurveLaw → UploadLaw → StaysSentLaw → TakingLaw → EachLaw → (e : Settings) (trajs : List Traj) → AreUploadable e trajs → FlyTheirOwn e trajs
flown curve safe stays taking each e trajs u = record {
  once_sent = λ readback start drones events later i d fresh unaltered sender within sent.
      let s : Upload = session_for e trajs readback start in
      let count = counted e trajs readback start in
      let now : IsSafe s drones (world s drones (events ++ later)) =
      safe s drones (record { session = is_session e trajs readback start u; fit = λ n known. fresh n (omega (arith, count, known)) }) (events ++ later) unaltered in
      let has = now.starts_last i d (omega (arith, count, sender)) (omega (arith, count, within)) (stays s drones events later i _ sent) in
      carried curve e trajs u readback start d (drones d) ((world s drones (events ++ later)).drones d) within (fresh d within) (now.only d (omega (arith, count, within))) has.0 has.1;
  once_accepted = λ readback start drone order later d fresh within own accepted.
      let s : Upload = session_for e trajs readback start in
      let now : IsTaken s d drone (order ++ later) =
      taking s d drone (order ++ later) (is_session e trajs readback start u) (omega (arith, counted e trajs readback start, within)) fresh own in
      carried curve e trajs u readback start d drone _ within fresh now.only
      (now.loaded (λ k write. accepted_later s d drone order later k (accepted k (omega (arith, write)))))
      (now.listed (accepted_later s d drone order later (write_count s d) (accepted (write_count s d) (omega arith))));
  begins_once = λ readback start drone order later d fresh within own accepted none.
      let s : Upload = session_for e trajs readback start in
      each s d drone order later (is_session e trajs readback start u) (omega (arith, counted e trajs readback start, within)) fresh own
      (accepted (write_count s d) (omega arith)) none;
}

pub uploads : CurveLaw → LandingLaw → OrderLaw → UploadLaw → UnstartedLaw → StaysSentLaw → TakingLaw → EachLaw → BeginLaw → OnceLaw → ReadsCover → VerifiedLaw → StartsLastLaw → UploadsLaw
uploads curve landing order safe unstarted stays taking each begins once cover verified starts_last g e trajs u near apart = record {
  stored = landing g e trajs u near apart;
  in_any_order = order g e trajs u near apart;
  flown = flown curve safe stays taking each e trajs u;
  each = λ readback start drones events fresh.
      let s : Upload = session_for e trajs readback start in
      let case : IsCase s drones = record { session = is_session e trajs readback start u; fit = λ d known. fresh d (omega (arith, counted e trajs readback start, known)) } in
      record {
        verified = verified s drones case events;
        covered = λ reads d i within. cover s d i reads within;
        starts_last = starts_last s drones case events;
        unstarted = λ d known none. unstarted s drones case events d known none;
        begun = λ starts done d known. begins s drones case events d known starts done;
        begun_once = λ starts done d known one. once s drones case events d known starts done one;
        unaltered = safe s drones case events;
      };
}

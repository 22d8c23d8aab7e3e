-- Why `drone_count` keeps its contract: with a drone an upload goes on before any event.
use Rattle.link_upload.proofs.Prelude.{ap, status_of}
use Rattle.upload_model.proofs.HostSteps.{progress-nil}
use Rattle.link_upload.proofs.host.drone_count.Goals as goal

pub returns-clause-going : goal.returns-clause-going
returns-clause-going c =
    let some = rw c.session.ensures at (rw c.drones.ensures.value at c.drones.ensures.some) in
    ap status_of (progress-nil c.args.host.now.session some)

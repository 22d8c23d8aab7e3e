use Rattle.show_uploads.proofs.UploadLemmas.{ready_made}
use Rattle.show_uploads.proofs.uploading.make_ready.Goals as goal

pub returns-in_ok-host-in-Accepted-clause-gives : goal.returns-in_ok-host-in-Accepted-clause-gives
returns-in_ok-host-in-Accepted-clause-gives c = λ cut is.
    ready_made c.args.depth c.args.start c.args.readback cut c.in-Accepted.accepted c.in_ok-host-in-Accepted.host (rw c.in-Accepted.is at (c.in_ok-accepted.ensures.gives cut is)) c.in_ok-host-in-Accepted.ensures.session

use Rattle.show_plan.proofs.Landing.{in_any_order}
use Rattle.show_plan.proofs.Uploading.{uploads}
use Rattle.show_plan.proofs.upload.uploads_law.Goals as goal

pub returns : goal.returns
returns c =
    let upload = c.upload_law.ensures in
    let reads = c.readback_law.ensures in
    let curve = c.curve_law.ensures in
    let taking = c.taking_law.ensures in
    uploads curve c.landing_law.ensures (in_any_order curve taking.there) upload.safe upload.unstarted upload.sent taking.there taking.each upload.begins upload.once reads.cover reads.verified reads.starts

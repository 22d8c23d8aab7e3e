use Rattle.show_uploads.proofs.UploadingLemmas.{uploading_laws}
use Rattle.show_uploads.proofs.uploading.uploading_law.Goals as goal

pub returns : goal.returns
returns c = uploading_laws c.upload_law.ensures

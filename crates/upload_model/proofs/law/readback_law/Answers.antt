use Rattle.upload_model.proofs.OneRead as one_read
use Rattle.upload_model.proofs.Verified as verified
use Rattle.upload_model.proofs.law.readback_law.Goals as goal

pub returns : goal.returns
returns c = record { cover = one_read.reads_cover; verified = verified.verified_law; starts = verified.starts_last_law }

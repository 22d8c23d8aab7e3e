use Rattle.upload_model.proofs.Moments as moments
use Rattle.upload_model.proofs.Later as later
use Rattle.upload_model.proofs.Sending as sending
use Rattle.upload_model.proofs.Taken as taken
use Rattle.upload_model.proofs.Beginning as beginning
use Rattle.upload_model.proofs.law.upload_law.Goals as goal

pub returns : goal.returns
returns c = record { safe = moments.upload_law; starts = later.start_law; unstarted = later.unstarted_law; taken = taken.taken_law; begins = beginning.begin_law; once = beginning.once_law; lasts = later.lasting_law; sent = sending.stays_sent }

use Rattle.upload_model.proofs.Beginning as beginning
use Rattle.upload_model.proofs.Taking as taking
use Rattle.upload_model.proofs.law.taking_law.Goals as goal

pub returns : goal.returns
returns c = record { there = taking.taking_law; each = beginning.each_law }

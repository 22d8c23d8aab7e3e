use Rattle.byte_streams.proofs.PartLemmas.{part_by_bytes}
use Rattle.byte_streams.proofs.parts.part_law.Goals as goal

pub returns : goal.returns
returns c = part_by_bytes

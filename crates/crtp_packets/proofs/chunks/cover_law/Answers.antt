use Rattle.crtp_packets.proofs.ChunkLaws.{covers}
use Rattle.crtp_packets.proofs.chunks.cover_law.Goals as goal

pub returns : goal.returns
returns c = covers

use Rattle.byte_streams.proofs.MarkerLaws.{marker_law}
use Rattle.byte_streams.proofs.parts.marker_law.Goals as goal

pub returns : goal.returns
returns c = marker_law

use Rattle.show_direct.proofs.DirectLemmas.{direct_laws}
use Rattle.show_direct.proofs.flying.direct_law.Goals as goal

pub returns : goal.returns
returns c = direct_laws c.show_law.ensures c.flight_link_law.ensures c.director_law.ensures.over c.director_law.ensures.kept

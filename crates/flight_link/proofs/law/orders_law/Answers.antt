use Rattle.flight_link.proofs.OrderLemmas.{orders_law}
use Rattle.flight_link.proofs.law.orders_law.Goals as goal

pub returns : goal.returns
returns c = orders_law c.director_law.ensures.over

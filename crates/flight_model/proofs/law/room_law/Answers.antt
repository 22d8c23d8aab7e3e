use Rattle.flight_model.proofs.Rooms.{room_of_law}
use Rattle.flight_model.proofs.law.room_law.Goals as goal

pub returns : goal.returns
returns c = room_of_law

use Rattle.flight_link.proofs.Prelude.{dialogue_of, one, some}
use Rattle.flight_link.proofs.FlightLemmas.{is_dialogue}
use Rattle.flight_link.proofs.OverLemmas.{over}
use Rattle.flight_link.proofs.law.flight_link_law.Goals as goal

pub returns : goal.returns
returns c =
    let law = c.frame_law.ensures in
    record { one = λ f. one (dialogue_of f) (is_dialogue law f); some = λ f. some (dialogue_of f) (is_dialogue law f); over = over }

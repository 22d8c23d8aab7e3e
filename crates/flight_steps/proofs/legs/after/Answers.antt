use Rattle.flight_steps.proofs.Prelude.{◌≡◌, length, rules, at, element_on, value_after}
use Rattle.flight_steps.proofs.Walks.{four-are}
use Rattle.flight_steps.proofs.legs.after.Goals as goal

pub returns : goal.returns
returns c =
    let size : length c.last_values.result ≡ 4 = search rules in
    four-are (λ axis. value_after (at c.args.here.now axis) (element_on c.args.s.now axis)) c.last_values.result size c.last_values.ensures

use Rattle.upload_core.proofs.Prelude.{common_steps, ◌∙◌, [], ap, arith, flight, HostState}
use Rattle.upload_core.proofs.Standing.{flight_after-known}
use Rattle.upload_core.proofs.host.Host.first.Goals as goal

pub returns-clause-sent : goal.returns-clause-sent
returns-clause-sent c = c.first_flight.ensures ∙ ap (λ (v : HostState). flight v.session []) c.self.view_is

pub returns-clause-known : goal.returns-clause-known
returns-clause-known c = grind (arith, common_steps, flight_after-known)

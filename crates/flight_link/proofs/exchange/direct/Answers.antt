use Rattle.flight_link.proofs.Prelude.{refl, sym, ◌∙◌, drones}
use Rattle.flight_link.proofs.EventLemmas.{none_begun}
use Rattle.flight_link.proofs.FlightLemmas.{is_dialogue}
use Rattle.flight_link.proofs.SendLemmas.{ended-none, sends-nothing}
use Rattle.flight_link.proofs.StatusLemmas.{known, own}
use Rattle.flight_link.proofs.exchange.direct.Goals as goal

pub run-requires-clause-law : goal.run-requires-clause-law
run-requires-clause-law g c start = is_dialogue c.frame_law.ensures start.director.flight

pub run-requires-clause-new : goal.run-requires-clause-new
run-requires-clause-new g c = record {
  flight = refl;
  counted = rw c.make.ensures.flight c.drone_count-drones.ensures;
  state = rw c.make.ensures.flight c.make.ensures.state;
  reads = c.make-2.ensures;
  begun = none_begun _;
}

pub run-requires-clause-own : goal.run-requires-clause-own
run-requires-clause-own g c events status is = let o = own c.args.flight events status (rw c.make.ensures.flight at is) in (o.0, o.1)

pub run-requires-clause-going : goal.run-requires-clause-going
run-requires-clause-going g c = ended-none _

pub run-requires-clause-first : goal.run-requires-clause-first
run-requires-clause-first g c = c.new-2.ensures ∙ sym (sends-nothing _)

pub returns-clause-gives : goal.returns-clause-gives
returns-clause-gives g c = rw c.make.ensures.flight at c.run.ensures.gives

pub returns-clause-known : goal.returns-clause-known
returns-clause-known g c = known c.args.flight c.run.result (rw c.make.ensures.flight at c.run.ensures.known)

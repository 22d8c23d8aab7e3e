use Rattle.std.proofs.Common.{rules, ◌≡◌, ap, sym, subst, ◌∙◌, refl, Result, Ok, Err, IfOk}
use Rattle.flight_model.specs.declared.events.Event.{Event}
use Rattle.flight_link.specs.declared.events.FrameFault.{FrameFault}
use Rattle.flight_link.specs.Frames.{IsEvent, event_bytes, event_in}
use Rattle.flight_link.proofs.FrameLaws.{event_read, event_only, if_each}
use Rattle.flight_link.proofs.events.read_event.Goals as goal

pub returns-clause-reads : goal.returns-clause-reads
returns-clause-reads c =
    λ e is same. c.event.ensures ∙ (ap (λ bytes. event_in c.args.drones bytes) same ∙ event_read c.args.drones e is)

pub returns-clause-only : goal.returns-clause-only
returns-clause-only c =
    subst (λ (r : Result Event FrameFault). IfOk r (λ e. IsEvent c.args.drones e × (c.args.bytes.now ≡ event_bytes e))) (sym c.event.ensures)
    (if_each (event_in c.args.drones c.args.bytes.now) (λ e. IsEvent c.args.drones e × (c.args.bytes.now ≡ event_bytes e))
    (λ e same. event_only c.args.drones c.args.bytes.now e (λ i. search rules) same))

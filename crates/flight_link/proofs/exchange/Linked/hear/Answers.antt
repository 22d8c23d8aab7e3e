use Rattle.flight_link.proofs.Prelude.{◌∙◌, moved}
use Rattle.flight_link.proofs.CarryLemmas.{heard}
use Rattle.flight_link.proofs.exchange.Linked.hear.Goals as goal

pub returns : goal.returns
returns c f events stands going formed =
    let took = heard f _ _ c.event.new.self.state events c.args.event.now c.event.new.out.items _ _ stands.flight stands.state going formed c.event.ensures.out c.event.ensures.state (rw c.as_slice-2.ensures.value at c.end_in.ensures) (rw c.as_slice.ensures.value at c.put_all.ensures) in
    moved _ _ _ _ _ _ _ _ (λ now state. record { flight = c.event.ensures.flight ∙ stands.flight; counted = stands.counted; state = state; reads = stands.reads; begun = stands.begun }) (λ whole is. is) took

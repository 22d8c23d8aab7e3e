use Rattle.flight_director.proofs.Prelude.{◌≡◌, ◌++◌, ◌∷◌, ◌∙◌, [], Option, sym, ap, arith, append_assoc, Order, frames_from}
use Rattle.flight_director.proofs.Walks.{first_landings, landings-step}
use Rattle.flight_director.proofs.state.put_landings.Goals as goal

pub loop-d-preserved : goal.loop-d-preserved
loop-d-preserved c = record {
  room = let r = c.loop-d.invariant.room in let e = c.put_order.ensures.few in omega arith;
  all =
      c.put_order.ensures.put
      ∙ (ap (λ fs. fs ++ frames_from c.loop-d.d (c.landing.result ∷ [])) c.loop-d.invariant.all
      ∙ (append_assoc c.args.out.now.items (frames_from 0 (first_landings c.args.f.now c.args.n c.loop-d.d)) (frames_from c.loop-d.d (c.landing.result ∷ []))
      ∙ (ap (λ (o : Option Order). c.args.out.now.items ++ (frames_from 0 (first_landings c.args.f.now c.args.n c.loop-d.d) ++ frames_from c.loop-d.d (o ∷ []))) c.landing.ensures
      ∙ ap (λ fs. c.args.out.now.items ++ fs) (sym (landings-step c.args.f.now c.args.n c.loop-d.d)))));
}

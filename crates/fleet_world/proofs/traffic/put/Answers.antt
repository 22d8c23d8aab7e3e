use Rattle.fleet_world.proofs.Prelude.{◌∙◌, ◌∷◌, ◌++◌, [], ℕ, List, refl, ap, sym, Traffic}
use Rattle.fleet_world.proofs.RowLemmas.{row-kept, rows-set_kept, row-set_same, row-set_other}
use Rattle.fleet_world.proofs.traffic.put.Goals as goal

pub returns-clause-given : goal.returns-clause-given
returns-clause-given c = rows-set_kept (λ (t : Traffic). t.given) c.args.traffic.now c.args.drone _ c.index-traffic-drone.result c.requires.known refl

pub returns-clause-here : goal.returns-clause-here
returns-clause-here c =
    row-set_same (λ (t : Traffic). t.sent.items) c.args.traffic.now c.args.drone _ c.requires.known ∙ c.push_reserved.ensures.items
    ∙ ap (λ (ks : List ℕ). ks ++ c.args.packet ∷ []) (sym (row-kept (λ (t : Traffic). t.sent.items) c.args.traffic.now c.args.drone c.index-traffic-drone.result c.requires.known))

pub returns-clause-others : goal.returns-clause-others
returns-clause-others c d other = row-set_other (λ (t : Traffic). t.sent.items) c.args.traffic.now c.args.drone d _ other

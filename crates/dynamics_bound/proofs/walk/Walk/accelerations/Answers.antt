use Rattle.dynamics_bound.proofs.Prelude.{three_told, ◌^◌, ap, rules, FitsSigned, to_z-of_z, w16, Walk}
use Rattle.dynamics_bound.proofs.Walks.{acceleration-at, three_small}
use Rattle.dynamics_bound.proofs.walk.Walk.accelerations.Goals as goal

pub returns-clause-exact : goal.returns-clause-exact
returns-clause-exact c =
    let x_fits : FitsSigned w16 c.args.self.now.x.value = search rules in
    let y_fits : FitsSigned w16 c.args.self.now.y.value = search rules in
    let z_fits : FitsSigned w16 c.args.self.now.z.value = search rules in
    three_told
    (acceleration-at c.args.depth 0 c.args.k c.args.t.now c.as_slice.result.now _ c.args.self.now.x _ c.element_rate.result (ap (λ (w : Walk). w.x) c.requires.here) c.requires.inside c.as_slice.ensures (simp to_z-of_z at c.element_rate.ensures.exact))
    (acceleration-at c.args.depth 1 c.args.k c.args.t.now c.as_slice.result.now _ c.args.self.now.y _ c.element_rate-2.result (ap (λ (w : Walk). w.y) c.requires.here) c.requires.inside c.as_slice.ensures (simp to_z-of_z at c.element_rate-2.ensures.exact))
    (acceleration-at c.args.depth 2 c.args.k c.args.t.now c.as_slice.result.now _ c.args.self.now.z _ c.element_rate-3.result (ap (λ (w : Walk). w.z) c.requires.here) c.requires.inside c.as_slice.ensures (simp to_z-of_z at c.element_rate-3.ensures.exact))

pub returns-clause-small : goal.returns-clause-small
returns-clause-small c = three_small (2 ^ 53) c.element_rate.result c.element_rate-2.result c.element_rate-3.result c.element_rate.ensures.small c.element_rate-2.ensures.small c.element_rate-3.ensures.small

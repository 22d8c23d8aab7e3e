use Rattle.fleet_curves.proofs.Prelude.{◌≡◌, ◌+◌, ◌*◌, ◌<◌, arith, sym, subst, [], All-get_or, AreSmallCurves, Raised, all_curves}
use Rattle.fleet_curves.proofs.curves.Curves.rows.Goals as goal

pub returns-clause-small : goal.returns-clause-small
returns-clause-small c =
    let inside : c.place.result < c.self.inside.drones * c.self.inside.cues = subst (λ (r : Raised). c.place.result < r.drones * r.cues) (sym c.self.view_is) c.place.ensures.inside in
    let exact : c.place.result ≡ c.args.drone * c.self.inside.cues + c.args.cue = subst (λ (r : Raised). c.place.result ≡ c.args.drone * r.cues + c.args.cue) (sym c.self.view_is) c.place.ensures.exact in
    rw (← c.self.view_is) (All-get_or AreSmallCurves (all_curves c.self.inside.all.items) (c.args.drone * c.self.inside.cues + c.args.cue) []
    (omega (arith, inside, exact, c.self.invariant.total)) c.self.invariant.small)

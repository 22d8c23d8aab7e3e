use Rattle.dynamics_bound.proofs.Prelude.{three_told, common_steps, ◌<◌, arith, ap, List, length, Segment, Walk}
use Rattle.dynamics_bound.proofs.Walks.{jump-inside, jump-last, reached-lasts}
use Rattle.dynamics_bound.proofs.walk.Walk.jumps.Goals as goal

pub stop-requires : goal.stop-requires
stop-requires c = record { arrived = reached-lasts c.args.t.now 0 c.args.k c.args.self.now.x (ap (λ (w : Walk). w.x) c.requires.here) c.requires.inside c.requires.durations }

pub stop-requires-then-k-segments : goal.stop-requires-then-k-segments
stop-requires-then-k-segments c = record { arrived = reached-lasts c.args.t.now 1 c.args.k c.args.self.now.y (ap (λ (w : Walk). w.y) c.requires.here) c.requires.inside c.requires.durations }

pub stop-requires-then-k-segments-2 : goal.stop-requires-then-k-segments-2
stop-requires-then-k-segments-2 c = record { arrived = reached-lasts c.args.t.now 2 c.args.k c.args.self.now.z (ap (λ (w : Walk). w.z) c.requires.here) c.requires.inside c.requires.durations }

pub jump-requires-clause-arrived : goal.jump-requires-clause-arrived
jump-requires-clause-arrived c = reached-lasts c.args.t.now 0 c.args.k c.args.self.now.x (ap (λ (w : Walk). w.x) c.requires.here) c.requires.inside c.requires.durations

pub jump-requires-2-clause-arrived : goal.jump-requires-2-clause-arrived
jump-requires-2-clause-arrived c = reached-lasts c.args.t.now 1 c.args.k c.args.self.now.y (ap (λ (w : Walk). w.y) c.requires.here) c.requires.inside c.requires.durations

pub jump-requires-3-clause-arrived : goal.jump-requires-3-clause-arrived
jump-requires-3-clause-arrived c = reached-lasts c.args.t.now 2 c.args.k c.args.self.now.z (ap (λ (w : Walk). w.z) c.requires.here) c.requires.inside c.requires.durations

pub returns-then-k-segments-clause-exact : goal.returns-then-k-segments-clause-exact
returns-then-k-segments-clause-exact c = grind (arith, common_steps, three_told, jump-last)

pub returns-clause-exact : goal.returns-clause-exact
returns-clause-exact c =
    let inside : c.args.k < length c.args.t.now.segments = omega (arith, c.requires.inside, c.if-k-segments.false, ap (λ (ss : List Segment). length ss) c.as_slice-segments.ensures) in
    three_told
    (jump-inside c.args.t.now 0 c.args.k c.as_slice-segments.result.now _ c.args.self.now.x c.jump.result (ap (λ (w : Walk). w.x) c.requires.here) inside c.as_slice-segments.ensures c.jump.ensures.exact)
    (jump-inside c.args.t.now 1 c.args.k c.as_slice-segments.result.now _ c.args.self.now.y c.jump-2.result (ap (λ (w : Walk). w.y) c.requires.here) inside c.as_slice-segments.ensures c.jump-2.ensures.exact)
    (jump-inside c.args.t.now 2 c.args.k c.as_slice-segments.result.now _ c.args.self.now.z c.jump-3.result (ap (λ (w : Walk). w.z) c.requires.here) inside c.as_slice-segments.ensures c.jump-3.ensures.exact)

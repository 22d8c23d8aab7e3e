use Rattle.dynamics_bound.proofs.Prelude.{◌≡◌, ap, Reached, Walk}
use Rattle.dynamics_bound.proofs.Walks.{reached_next}
use Rattle.dynamics_bound.proofs.walk.Walk.next.Goals as goal

three_reached : {x y z u v w : Reached} → x ≡ u → y ≡ v → z ≡ w → ◌≡◌ {A = Walk} (record { x = x; y = y; z = z }) (record { x = u; y = v; z = w })
three_reached {x} {y} {z} {u} {v} {w} p q r = cc

pub returns : goal.returns
returns c =
    three_reached
    (reached_next c.args.t.now 0 c.args.k c.as_slice.result.now _ c.args.self.now.x c.after.result (ap (λ (w : Walk). w.x) c.requires.here) c.requires.inside c.as_slice.ensures c.after.ensures)
    (reached_next c.args.t.now 1 c.args.k c.as_slice.result.now _ c.args.self.now.y c.after-2.result (ap (λ (w : Walk). w.y) c.requires.here) c.requires.inside c.as_slice.ensures c.after-2.ensures)
    (reached_next c.args.t.now 2 c.args.k c.as_slice.result.now _ c.args.self.now.z c.after-3.result (ap (λ (w : Walk). w.z) c.requires.here) c.requires.inside c.as_slice.ensures c.after-3.ensures)

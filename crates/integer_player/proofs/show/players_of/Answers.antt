-- Why the loop of `players_of` goes on.
use Rattle.integer_player.proofs.Prelude.{◌≡◌, suc, ◌+◌, ◌++◌, ◌∷◌, [], take, arith, rules, subst, Traj, IsPlaceIn, ArePlaces}
use Rattle.integer_player.proofs.ShowLemmas.{places-push}
use Rattle.integer_player.proofs.show.players_of.Goals as goal

pub loop-t-preserved : goal.loop-t-preserved
loop-t-preserved c =
    let e : c.loop-t.t-index + 1 ≡ suc c.loop-t.t-index = omega arith in
    let more : ArePlaces (take (suc c.loop-t.t-index) c.args.trajs.now) (c.loop-t.players.items ++ c.of.result ∷ []) =
    places-push c.args.trajs.now c.loop-t.players.items c.loop-t.t-index c.t-item.result c.of.result (omega arith) c.loop-t.invariant.many c.loop-t.invariant.places
    (subst (λ (t : Traj). IsPlaceIn t c.of.result) c.t-item.is c.of.ensures.place) in
    record {
      places = rw (e, c.push.ensures.items) more;
      many = search rules;
    }

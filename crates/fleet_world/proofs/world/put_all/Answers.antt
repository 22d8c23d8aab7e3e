use Rattle.fleet_world.proofs.Prelude.{common_steps, ◌≡◌, ◌∙◌, ◌+◌, ◌-◌, ◌∷◌, ◌++◌, [], ℕ, List, length, take, get_or, subst, arith, cases_eq, take_more, append_assoc, Sent, HasRoom}
use Rattle.fleet_world.proofs.Points.{numbers_for-here, numbers_for-other}
use Rattle.fleet_world.proofs.world.put_all.Goals as goal

pub loop-x-preserved : goal.loop-x-preserved
loop-x-preserved c =
    let x : Sent = get_or c.args.out.now c.loop-x.x-index (record { drone = 0; packet = 0 }) in
    let before : List Sent = take c.loop-x.x-index c.args.out.now in
    let more : take (c.loop-x.x-index + 1) c.args.out.now ≡ before ++ x ∷ [] = take_more c.args.out.now c.loop-x.x-index (record { drone = 0; packet = 0 }) (omega arith) in
    let left : length c.args.out.now - c.loop-x.x-index ≡ length c.args.out.now - (c.loop-x.x-index + 1) + 1 = omega arith in record {
      len = c.put.ensures.len ∙ c.loop-x.invariant.len;
      given = c.put.ensures.given ∙ c.loop-x.invariant.given;
      sent = grind (arith, common_steps, cases_eq, take, append_assoc, numbers_for-here, numbers_for-other);
      room = c.put.ensures.room (length c.args.out.now - (c.loop-x.x-index + 1)) (subst (λ (n : ℕ). HasRoom c.loop-x.traffic n) left c.loop-x.invariant.room);
    }

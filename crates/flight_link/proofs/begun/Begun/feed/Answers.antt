use Rattle.flight_link.proofs.Prelude.{◌<◌, arith}
use Rattle.std.proofs.lemmas.Grind.{common_steps}
use Rattle.flight_link.proofs.EventLemmas.{short}
use Rattle.flight_link.proofs.BegunLemmas.{put_byte}
use Rattle.flight_link.proofs.begun.Begun.feed.Goals as goal

pub invariant_of-self : goal.invariant_of-self
invariant_of-self c =
    let below : c.self.inside.count < 11 = first_of (grind (arith, common_steps), grind (arith, common_steps, short)) in
    (omega (arith, below), put_byte c.self.inside.bytes c.self.inside.count c.args.byte below c.self.invariant.1)

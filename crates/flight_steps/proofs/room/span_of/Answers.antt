use Rattle.flight_steps.proofs.Prelude.{◌++◌, None, all_values}
use Rattle.flight_steps.proofs.Spans.{span-is, three}
use Rattle.flight_steps.proofs.room.span_of.Goals as goal

pub returns : goal.returns
returns c =
    rw (c.unwrap_or.ensures, c.with_curves-2.ensures, c.with_curves-s.ensures, c.with_curves.ensures, three c.args.axis None c.args.up.now c.args.show.now c.args.down.now)
    (span-is (all_values c.args.axis (c.args.up.now ++ (c.args.show.now ++ c.args.down.now))))

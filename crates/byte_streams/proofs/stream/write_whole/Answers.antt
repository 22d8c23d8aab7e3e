use Rattle.byte_streams.proofs.Prelude.{arith, take_rest}
use Rattle.byte_streams.proofs.SentLemmas.{HasSent-more}
use Rattle.byte_streams.proofs.stream.write_whole.Goals as goal

pub loop-rest-preserved : goal.loop-rest-preserved
loop-rest-preserved g c = record {
  sent = rw take_rest (HasSent-more _ _ _ c.args.bytes.now c.loop-rest.rest.now c.in_ok-taken.taken c.loop-rest.invariant.sent c.in_ok-taken.ensures.bytes);
  later = omega (arith, c.in_ok-taken.ensures.cause.later);
}

use Rattle.byte_streams.proofs.Prelude.{◌≤◌, length}
use Rattle.byte_streams.proofs.SentLemmas.{HasSent}
use Rattle.byte_streams.proofs.stream.write_whole.Given as goal

abbrev pub invariant-loop-rest : goal.invariant-loop-rest
invariant-loop-rest g l = record {
  sent : HasSent (g.K.Sink.written l.initial.sink) (g.K.Sink.written l.sink) l.bytes l.rest;
  later : g.K.Sink.faults l.initial.sink ≤ g.K.Sink.faults l.sink;
}

abbrev pub decreases-loop-rest : goal.decreases-loop-rest
decreases-loop-rest g l = length l.rest

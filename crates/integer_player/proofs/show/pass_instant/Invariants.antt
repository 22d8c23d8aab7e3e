-- What holds whenever the loop of `pass_instant` begins a turn.
use Rattle.integer_player.proofs.Prelude.{◌≡◌, ◌≤◌, length, map, take, ArePlaces, rows_at, Passes}
use Rattle.integer_player.proofs.show.pass_instant.Given as goal

abbrev pub invariant-loop-d : goal.invariant-loop-d
invariant-loop-d g l = record {
  places : ArePlaces l.trajs l.players;
  many : length l.players ≡ length l.trajs;
  passes : Passes (g.K.Sink.written l.initial.sink) l.initial.waiting.items (g.K.Sink.written l.sink) l.waiting.items
      (rows_at l.ms (map (λ name. name.items) (take l.d l.names)) (take l.d l.trajs));
  later : g.K.Sink.faults l.initial.sink ≤ g.K.Sink.faults l.sink;
}

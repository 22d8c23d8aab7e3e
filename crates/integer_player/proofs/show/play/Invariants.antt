-- What holds whenever the loop of `play` begins a turn.
use Rattle.integer_player.proofs.Prelude.{◌≡◌, ◌≤◌, ◌*◌, length, map, [], flat_map, range_with_len, ArePlaces, rows_at, Passes}
use Rattle.integer_player.proofs.show.play.Given as goal

abbrev pub invariant-loop-k : goal.invariant-loop-k
invariant-loop-k g l = record {
  places : ArePlaces l.trajs l.players;
  many : length l.players ≡ length l.trajs;
  passes : Passes (g.K.Sink.written l.initial.sink) [] (g.K.Sink.written l.sink) l.waiting.items
      (flat_map (λ ms. rows_at ms (map (λ name. name.items) l.names) l.trajs) (map (λ j. j * l.step) (range_with_len 0 l.k)));
  later : g.K.Sink.faults l.initial.sink ≤ g.K.Sink.faults l.sink;
}

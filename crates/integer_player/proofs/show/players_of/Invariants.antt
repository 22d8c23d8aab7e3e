-- What holds whenever the loop of `players_of` begins a turn.
use Rattle.integer_player.proofs.Prelude.{◌≡◌, length, take, ArePlaces}
use Rattle.integer_player.proofs.show.players_of.Given as goal

abbrev pub invariant-loop-t : goal.invariant-loop-t
invariant-loop-t l = record {
  places : ArePlaces (take l.t-index l.trajs) l.players.items;
  many : length l.players.items ≡ l.t-index;
}

-- What holds whenever the loop of `fleet` begins a turn.
use Rattle.std.proofs.Common.{◌≡◌, All, length}
use Rattle.integer_player.specs.Played.{IsPlayable, duration_of}
use Rattle.curves_tests.proofs.shows.fleet.Given as goal

abbrev pub invariant-loop-d : goal.invariant-loop-d
invariant-loop-d l = record {
  many : length l.trajs.items ≡ l.d;
  playable : All IsPlayable l.trajs.items;
  duration : All (λ t. duration_of t ≡ 2550) l.trajs.items;
}

use Rattle.fleet_world.proofs.Prelude.{◌≡◌, ◌+◌, ◌≤◌, take, length, All, vec_len, vec_capacity, sent_of, given_of}
use Rattle.fleet_world.proofs.traffic.make_room.Given as goal

abbrev pub invariant-loop-drone : goal.invariant-loop-drone
invariant-loop-drone l = record {
  sent : sent_of l.traffic ≡ sent_of l.fn.traffic;
  given : given_of l.traffic ≡ given_of l.fn.traffic;
  len : length l.traffic ≡ length l.fn.traffic;
  room : All (λ t. vec_len t.sent + l.packets ≤ vec_capacity t.sent) (take l.drone l.traffic);
}

use Rattle.traj_codec.proofs.Prelude.{◌≡◌, ℕ, ◌+◌, length, SegmentsStand, segments_fault}
use Rattle.traj_codec.proofs.reading.segments_at.Given as goal

abbrev pub invariant-loop : goal.invariant-loop
invariant-loop l = record {
  so_far : SegmentsStand l.bytes l.at l.segments.items l.next;
  many : length l.segments.items ≡ l.counter;
  behind : (n : ℕ) → segments_fault l.bytes (l.counter + n) l.at ≡ segments_fault l.bytes n l.next;
}

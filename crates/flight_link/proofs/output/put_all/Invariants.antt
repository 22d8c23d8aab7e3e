use Rattle.flight_link.proofs.Prelude.{◌≡◌, ◌*◌, ◌≤◌, length, take, frames_bytes}
use Rattle.flight_link.proofs.output.put_all.Given as goal

-- the frames so far
abbrev pub invariant-loop-frame : goal.invariant-loop-frame
invariant-loop-frame l = record {
  put : l.bytes.items ≡ frames_bytes (take l.frame-index l.said);
  most : length l.bytes.items ≤ 15 * l.frame-index;
}

use Rattle.link_upload.proofs.Prelude.{◌≡◌, ◌*◌, ◌≤◌, length, take, packet_frames, link_of}
use Rattle.link_upload.proofs.output.put_all.Given as goal

-- the frames of the packets so far
abbrev pub invariant-loop-x : goal.invariant-loop-x
invariant-loop-x l = record {
  put : l.bytes.items ≡ packet_frames (link_of l.host.session) (take l.x-index l.sent);
  most : length l.bytes.items ≤ 34 * l.x-index;
}

use Rattle.link_frames.specs.Frames.{IsBegun}
use Rattle.radio_tests.proofs.frames.is_seen.Given as goal

abbrev pub invariant-bytes : goal.invariant-bytes
invariant-bytes l = record { begun : IsBegun l.frames }

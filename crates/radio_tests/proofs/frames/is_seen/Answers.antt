use Rattle.radio_tests.proofs.frames.is_seen.Goals as goal

pub bytes-init : goal.bytes-init
bytes-init c = record { begun = rw c.make-frames.ensures c.frame_law.ensures.none }

-- The drill of one drone.
use Rattle.drill_show.proofs.Prelude.{◌≡◌, refl, codes, digits, cue_lines, drill_line, drill_text, drone_line}

one : drill_text 1 ≡ codes "choreo 1\ndrone d1 0 0 1000000 0\nrepeat 10\ncue 3000\nd1 move 0 0 1000000 0\nend\ncue 3000\nd1 move 500000 0 1000000 0\nend\ncue 3000\nd1 move 500000 0 1000000 0\nend\ncue 3000\nd1 move 0 0 1000000 0\nend\nend\n"
unfolding digits drill_text
one = refl

eighth : drone_line 7 ≡ codes "drone d8 1000000 1000000 1000000 0\n"
unfolding digits
eighth = refl

second : cue_lines 2 1 ≡ codes "cue 3000\nd1 move 500000 0 1000000 0\nd2 move 1500000 0 2000000 0\nend\n"
unfolding digits
second = refl

line : drill_line 16 40 120 8816 392 4800 ≡ codes "drones 16 cues 40 pairs 120 bytes 8816 packets 392 nodes 4800\n"
unfolding digits drill_line
line = refl

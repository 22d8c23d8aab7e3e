-- Values of the definitions, computed here and compared with numbers that were computed elsewhere.
use Rattle.whole_numbers.proofs.Prelude.{◌≡◌, pos, negsuc, List, [], ◌∷◌, refl, choose, bern, bernstein, moment, moment_in, edge, Piece, durations, decoded}

-- three things chosen from seven
choose-row : choose 7 3 ≡ 35
choose-row = refl

-- a cubic at 1/3
cubic-row : bern (pos 0 ∷ pos 1 ∷ pos 0 ∷ pos 0 ∷ []) (pos 1) (pos 3) ≡ pos 12
unfolding bernstein
cubic-row = refl

-- a curve of degree seven at 3/7, its control values of both signs
seventh-row : bern (pos 1 ∷ negsuc 1 ∷ pos 3 ∷ negsuc 3 ∷ pos 5 ∷ negsuc 5 ∷ pos 7 ∷ negsuc 7 ∷ []) (pos 3) (pos 7) ≡ negsuc 19
unfolding bernstein
seventh-row = refl

-- a trajectory of three pieces, of the degrees 1, 3 and 0
pieces : List Piece
pieces = record { ms = 2; stored = pos 10 ∷ [] } ∷ record { ms = 3; stored = pos 4 ∷ negsuc 5 ∷ pos 1 ∷ [] } ∷ record { ms = 5; stored = [] } ∷ []

-- its position after 1 ms: halfway from 3 to 10, over 2^7
first-row : decoded (pos 3) pieces (moment (durations pieces) 1 1) ≡ pos 832
unfolding decoded moment bernstein pieces
first-row = refl

-- its position after 7/2 ms, over 6^7
second-row : decoded (pos 3) pieces (moment (durations pieces) 7 2) ≡ pos 174960
unfolding decoded moment bernstein pieces
second-row = refl

-- at 2 ms, the end of its first piece, the first piece is taken
edge-row : moment (durations pieces) (edge (durations pieces) 0 1) 1 ≡ record { cue = 0; a = 2; c = 2 }
unfolding moment pieces
edge-row = refl

-- and the second one begins
next-row : moment_in (durations pieces) 1 (edge (durations pieces) 0 1) 1 ≡ record { cue = 1; a = 0; c = 3 }
unfolding pieces
next-row = refl

-- Values of the definitions, compared with numbers that were computed elsewhere.
use Rattle.dynamics_bound.proofs.Prelude.{◌≡◌, pos, refl, [], ◌∷◌, at, bernstein, raised, raised_value, polar, acceleration_of, segment_acceleration, widest_bend, widest_bend_part, jump_between, rest}

-- a metre from rest to rest in two seconds, by its four control values in the middle: a bend of 1,000 mm, times 5,040
whole-row : acceleration_of 0 2000 5040000 ≡ 10500000
unfolding acceleration_of
whole-row = refl

-- the same by its eighths
eighths-row : acceleration_of 3 2000 30000000000 ≡ 1907349
unfolding acceleration_of
eighths-row = refl

-- one bend of the number 1 in seven milliseconds, rounded up
up-row : acceleration_of 0 7 1 ≡ 170069
unfolding acceleration_of
up-row = refl

-- three metres a second and back in a turn
turn-row : jump_between (record { step = pos 3000; ms = 1000 }) (record { step = pos 1; ms = 3 }) ≡ 2666667
unfolding jump_between
turn-row = refl

-- from rest
start-row : jump_between rest (record { step = pos 30000; ms = 1 }) ≡ 30000000000
unfolding jump_between
start-row = refl

-- a move over a metre in two seconds, as it is stored: by its whole, its halves and its quarters
move-row : segment_acceleration 0 2000 (at (raised (pos 0 ∷ pos 0 ∷ pos 0 ∷ pos 0 ∷ pos 1000 ∷ pos 1000 ∷ pos 1000 ∷ pos 1000 ∷ []))) ≡ 10500000
unfolding segment_acceleration acceleration_of widest_bend_part widest_bend polar bernstein raised_value
move-row = refl

halves-row : segment_acceleration 1 2000 (at (raised (pos 0 ∷ pos 0 ∷ pos 0 ∷ pos 0 ∷ pos 1000 ∷ pos 1000 ∷ pos 1000 ∷ pos 1000 ∷ []))) ≡ 2625000
unfolding segment_acceleration acceleration_of widest_bend_part widest_bend polar bernstein raised_value
halves-row = refl

quarters-row : segment_acceleration 2 2000 (at (raised (pos 0 ∷ pos 0 ∷ pos 0 ∷ pos 0 ∷ pos 1000 ∷ pos 1000 ∷ pos 1000 ∷ pos 1000 ∷ []))) ≡ 1968750
unfolding segment_acceleration acceleration_of widest_bend_part widest_bend polar bernstein raised_value
quarters-row = refl

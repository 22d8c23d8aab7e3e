-- Values of the definitions, compared with numbers that were computed elsewhere.
use Rattle.speed_bound.proofs.Prelude.{◌≡◌, [], ◌∷◌, ◌++◌, refl, speed_of}
use Rattle.std.specs.Fmt.{digits}
use Rattle.std.specs.Prelude.{codes}
use Rattle.speed_bound.specs.Lines.{speed_line}

speed-row : speed_line (codes "solo") 1093750 0 0 ≡ codes "speed solo 1093750 0 0" ++ 10 ∷ []
unfolding digits
speed-row = refl

-- a metre from rest to rest in two seconds, by its ends and its middle: a step of 1,000 mm, times 5,040
whole-row : speed_of 0 2000 5040000 ≡ 3500000
unfolding speed_of
whole-row = refl

-- a millimetre in three milliseconds, rounded up: a seventh of it is the step
up-row : speed_of 0 3 720 ≡ 333334
unfolding speed_of
up-row = refl

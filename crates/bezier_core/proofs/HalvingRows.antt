-- Values of the definitions, computed here and compared with numbers that were computed elsewhere.
use Rattle.bezier_core.proofs.Prelude.{◌≡◌, ℤ, pos, negsuc, List, [], ◌∷◌, refl, at, bernstein, polar, part_value}
use Rattle.bezier_core.specs.Raised.{eight}

-- a curve of degree seven with control values of both signs
waves : List ℤ
waves = pos 1 ∷ negsuc 1 ∷ pos 3 ∷ negsuc 3 ∷ pos 5 ∷ negsuc 5 ∷ pos 7 ∷ negsuc 7 ∷ []

-- its second quarter
quarter-row : eight (part_value 2 1 (at waves)) ≡ (negsuc 319 ∷ negsuc 127 ∷ pos 0 ∷ pos 0 ∷ pos 0 ∷ pos 0 ∷ pos 0 ∷ pos 0 ∷ [])
unfolding polar bernstein waves
quarter-row = refl

-- a control value of one of its smallest parts
small-row : part_value 8 200 (at waves) 5 ≡ negsuc 14665640441942015
unfolding polar bernstein waves
small-row = refl

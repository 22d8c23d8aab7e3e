-- Values of the definitions, computed here and compared with numbers that were computed elsewhere.
use Rattle.bezier_core.proofs.Prelude.{◌≡◌, pos, negsuc, [], ◌∷◌, refl, raised, raised_value}

-- a cubic, raised
cubic-row : raised (pos 5 ∷ negsuc 2 ∷ pos 100 ∷ negsuc 6 ∷ [])
    ≡ (pos 25200 ∷ pos 7920 ∷ pos 70560 ∷ pos 166896 ∷ pos 250704 ∷ pos 275760 ∷ pos 195840 ∷ negsuc 35279 ∷ [])
unfolding raised_value
cubic-row = refl

-- a line, raised
line-row : raised (pos 0 ∷ pos 7 ∷ [])
    ≡ (pos 0 ∷ pos 5040 ∷ pos 10080 ∷ pos 15120 ∷ pos 20160 ∷ pos 25200 ∷ pos 30240 ∷ pos 35280 ∷ [])
unfolding raised_value
line-row = refl

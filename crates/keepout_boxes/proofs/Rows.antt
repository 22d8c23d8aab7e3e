-- Values of the definitions, compared with lines and numbers that were written down elsewhere.
use Rattle.keepout_boxes.proofs.Prelude.{◌≡◌, pos, negsuc, [], ◌∷◌, ◌++◌, refl, codes, Ok, Err, Keepout, Volume, regions_of}
use Rattle.std.specs.Fmt.{digits}
use Rattle.keepout_boxes.specs.Lines.{kept_line}

-- the line of one region
kept-row : kept_line 1 ≡ codes "kept regions 1" ++ 10 ∷ []
unfolding digits
kept-row = refl

-- no region is no fault
none-row : regions_of [] ≡ Ok []
none-row = refl

-- one box and one volume
regions-row : regions_of (codes "keepout 400 -200 0 600 400 2000" ++ 10 ∷ 10 ∷ codes "volume 0 0 0 1 1 1")
    ≡ Ok (Keepout (pos 400 ∷ negsuc 199 ∷ pos 0 ∷ []) (pos 600 ∷ pos 400 ∷ pos 2000 ∷ [])
    ∷ Volume (pos 0 ∷ pos 0 ∷ pos 0 ∷ []) (pos 1 ∷ pos 1 ∷ pos 1 ∷ []) ∷ [])
regions-row = refl

-- a lower end above its upper one
ends-row : regions_of (codes "keepout 1 0 0 0 0 0") ≡ Err 1
ends-row = refl

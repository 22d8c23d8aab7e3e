-- The frame that changes nothing leaves each act.
use Rattle.figure_expand.proofs.Prelude.{◌≡◌, ℤ, List, [], ◌∷◌, refl, ap, ◌∙◌, arith, Act, FitsAct, FitsTriple, no_frame, FitsJob, Job, act_in, act_of, control_in}
use Rattle.std.proofs.Math.IntN.{+ℤ_idr}
use Rattle.choreo_show.specs.declared.parts.Act.TheVariants as act

triple_stays : (v : List ℤ) → FitsTriple v → control_in no_frame v ≡ v
triple_stays (x ∷ y ∷ z ∷ []) fits = simp +ℤ_idr
triple_stays v fits = absurd fits

act_stays : (a : Act) → FitsAct a → act_in no_frame a ≡ a
act_stays act.Hold fits = refl
act_stays (act.Curve p1 p2 to) fits = rw (triple_stays p1 fits.0, triple_stays p2 fits.1) (simp +ℤ_idr)
act_stays a fits = grind (arith, +ℤ_idr)

pub unmoved : (j : Job) → j.frame ≡ no_frame → FitsJob j → act_of j ≡ j.act
unmoved j still fits = ap (λ f. act_in f j.act) still ∙ act_stays j.act fits.1

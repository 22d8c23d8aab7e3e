use Rattle.bezier_core.proofs.Prelude.{common_steps, arith, ◌≡◌, ℕ, ℤ, pos, ◌+ℤ◌, ◌*ℤ◌, get_or-set_other, get_or-set_same, below_more, length-set, to_z-of_z, linear}
use Rattle.bezier_core.proofs.BlendLemmas.{length_bounds}
use Rattle.bezier_core.proofs.scaled.Goals as goal

plain : (m n : ℕ) (x : ℤ) → m ≡ n → pos m *ℤ x +ℤ pos 0 ≡ pos n *ℤ x
plain m n x e = rw e (omega (arith, linear))

pub loop-k-preserved : goal.loop-k-preserved
loop-k-preserved g c = grind (arith, common_steps, pos, to_z-of_z, plain, length_bounds, length-set, below_more, get_or-set_other, get_or-set_same)

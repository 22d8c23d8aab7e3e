use Rattle.flight_director.proofs.Prelude.{◌≡◌, ◌∙◌, ◌||◌, ◌+◌, ◌-◌, ℕ, List, Bool, false, length, sym, ap, arith, list_any, range_with_len, drones, has_risen}
use Rattle.traj_codec.specs.declared.traj.Traj.{Traj}
use Rattle.flight_director.proofs.Walks.{any-step}
use Rattle.flight_director.proofs.risen.any_risen.Goals as goal

pub loop-d-preserved : goal.loop-d-preserved
loop-d-preserved c =
    let p = λ (d : ℕ). has_risen c.args.f.now c.args.n d in
    let past : ℕ = drones c.args.f.now in
    let ends = ap (λ (ts : List Traj). length ts) c.as_slice-d-end.ensures in
    let here : p c.loop-d.d ≡ false = sym c.has_risen.ensures ∙ c.if-has_risen.false in
    sym (ap (λ (b : Bool). b || list_any p (range_with_len (c.loop-d.d + 1) (past - (c.loop-d.d + 1)))) here)
    ∙ (sym (any-step p c.loop-d.d past (omega (arith, ends, c.loop-d-test.true))) ∙ c.loop-d.invariant)

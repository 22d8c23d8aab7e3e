use Rattle.flight_director.proofs.Prelude.{◌≡◌, ◌∙◌, ◌*◌, ◌^◌, ℕ, FitsSigned, pos, arith, rules, get_or, w16, w64, ℤ, ◌*ℤ◌, ◌-ℤ◌, is_short, to_z-of_z, ints, common_steps}
use Rattle.whole_numbers.specs.Numbers.{IsBelow}
use Rattle.flight_director.proofs.curve.is_within.Goals as goal

pub aside-requires-2 : goal.aside-requires-2
aside-requires-2 c =
    let h : IsBelow (10 ^ 9) (get_or c.args.p.now 1 (pos 0)) = c.requires 1 (pos 0) (omega arith) in
    grind (arith, common_steps, to_z-of_z, h)

pub aside-requires-3 : goal.aside-requires-3
aside-requires-3 c =
    let h : IsBelow (10 ^ 9) (get_or c.args.p.now 2 (pos 0)) = c.requires 2 (pos 0) (omega arith) in
    grind (arith, common_steps, to_z-of_z, h)

pub returns : goal.returns
returns c =
    let p0 : IsBelow (10 ^ 9) (get_or c.args.p.now 0 (pos 0)) = c.requires 0 (pos 0) (omega arith) in
    let p1 : IsBelow (10 ^ 9) (get_or c.args.p.now 1 (pos 0)) = c.requires 1 (pos 0) (omega arith) in
    let p2 : IsBelow (10 ^ 9) (get_or c.args.p.now 2 (pos 0)) = c.requires 2 (pos 0) (omega arith) in
    let f0 : FitsSigned w64 (get_or c.args.p.now 0 (pos 0)) = omega (arith, ints, p0) in
    let f1 : FitsSigned w64 (get_or c.args.p.now 1 (pos 0)) = omega (arith, ints, p1) in
    let f2 : FitsSigned w64 (get_or c.args.p.now 2 (pos 0)) = omega (arith, ints, p2) in
    let g0 : FitsSigned w16 c.args.x.now.x = search rules in
    let g1 : FitsSigned w16 c.args.x.now.y = search rules in
    let g2 : FitsSigned w16 c.args.x.now.z = search rules in
    let h0 : FitsSigned w64 c.aside.result = search rules in
    let h1 : FitsSigned w64 c.aside-2.result = search rules in
    let h2 : FitsSigned w64 c.aside-3.result = search rules in
    let v0 : c.aside.result ≡ pos 1000 *ℤ c.args.x.now.x -ℤ get_or c.args.p.now 0 (pos 0) = (simp to_z-of_z at c.aside.ensures.value) in
    let v1 : c.aside-2.result ≡ pos 1000 *ℤ c.args.x.now.y -ℤ get_or c.args.p.now 1 (pos 0) = (simp to_z-of_z at c.aside-2.ensures.value) in
    let v2 : c.aside-3.result ≡ pos 1000 *ℤ c.args.x.now.z -ℤ get_or c.args.p.now 2 (pos 0) = (simp to_z-of_z at c.aside-3.ensures.value) in
    (simp to_z-of_z at c.is_short.ensures) ∙ same (1000 * c.args.stray) _ _ _ _ _ _ v0 v1 v2 where
      same : (most : ℕ) (x y z u v w : ℤ) → x ≡ u → y ≡ v → z ≡ w → is_short most x y z ≡ is_short most u v w
      same most x y z u v w p q r = cc

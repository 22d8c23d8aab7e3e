use Rattle.flight_director.proofs.Prelude.{FitsSigned, arith, rules, w16, w64, ◌-ℤ◌, to_z-of_z, ints}
use Rattle.flight_director.proofs.fit.is_at.Goals as goal

pub returns : goal.returns
returns c =
    let x : FitsSigned w16 c.args.x.now.x = search rules in
    let x8 : FitsSigned w64 c.args.x.now.x = omega (arith, ints, x) in
    let y : FitsSigned w16 c.args.x.now.y = search rules in
    let y8 : FitsSigned w64 c.args.x.now.y = omega (arith, ints, y) in
    let z : FitsSigned w16 c.args.x.now.z = search rules in
    let z8 : FitsSigned w64 c.args.x.now.z = omega (arith, ints, z) in
    let u : FitsSigned w16 c.args.p.now.x = search rules in
    let u8 : FitsSigned w64 c.args.p.now.x = omega (arith, ints, u) in
    let v : FitsSigned w16 c.args.p.now.y = search rules in
    let v8 : FitsSigned w64 c.args.p.now.y = omega (arith, ints, v) in
    let w : FitsSigned w16 c.args.p.now.z = search rules in
    let w8 : FitsSigned w64 c.args.p.now.z = omega (arith, ints, w) in
    let xu : FitsSigned w64 (c.args.x.now.x -ℤ c.args.p.now.x) = omega (arith, ints, x, u) in
    let yv : FitsSigned w64 (c.args.x.now.y -ℤ c.args.p.now.y) = omega (arith, ints, y, v) in
    let zw : FitsSigned w64 (c.args.x.now.z -ℤ c.args.p.now.z) = omega (arith, ints, z, w) in
    simp to_z-of_z at c.is_short.ensures

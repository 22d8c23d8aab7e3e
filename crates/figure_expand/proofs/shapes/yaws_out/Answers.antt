use Rattle.figure_expand.proofs.Prelude.{rules, FitsSigned, ◌≡◌, ◌<◌, ◌≤◌, ◌^◌, ℤ, map, length, to_z, of_z, to_z-of_z, w64, arith, ap, ◌∙◌, length-set, squares_left, yaw_out}
use Rattle.figure_expand.proofs.Eased.{filled_all, filled_more}
use Rattle.figure_expand.proofs.Reach.{kept, wider}
use Rattle.figure_expand.proofs.shapes.yaws_out.Goals as goal

pub loop-k-preserved : goal.loop-k-preserved
loop-k-preserved c =
    let eight : length c.squares_left-table.result.now ≡ 8 = ap length c.squares_left-table.ensures in
    let within : c.loop-k.k < length c.loop-k.points = omega (arith, c.loop-k.invariant.same_length, c.loop-k-test.true) in
    let also : c.loop-k.k < length c.squares_left-table.result.now = omega (arith, eight, c.loop-k-test.true) in
    let fits : FitsSigned w64 c.yaw_out.result = search rules in
    record {
      same_length = length-set _ _ _ ∙ c.loop-k.invariant.same_length;
      done = filled_more _ _ _ _ _ _ within also c.loop-k.invariant.done (to_z-of_z w64 c.yaw_out.result fits ∙ c.yaw_out.ensures);
    }

pub returns : goal.returns
returns c =
    let eight : length c.squares_left-table.result.now ≡ 8 = ap length c.squares_left-table.ensures in
    let all : length c.loop-k.points ≤ c.loop-k.k = omega (arith, c.loop-k.invariant.same_length, c.loop-k-test.false) in
    let also : length c.squares_left-table.result.now ≤ c.loop-k.k = omega (arith, eight, c.loop-k-test.false) in
    let d : to_z w64 (of_z w64 c.args.d) ≡ c.args.d = kept c.args.d (wider (2 ^ 40) (2 ^ 43) c.args.d (omega arith) c.requires.d) in
    let e : to_z w64 (of_z w64 c.args.e) ≡ c.args.e = kept c.args.e (wider (2 ^ 28) (2 ^ 43) c.args.e (omega arith) c.requires.e) in
    filled_all _ _ _ _ all also c.loop-k.invariant.done
    ∙ ap (map (yaw_out (to_z w64 (of_z w64 c.args.d)) (to_z w64 (of_z w64 c.args.e)))) c.squares_left-table.ensures
    ∙ ap (λ (z : ℤ). map (yaw_out z (to_z w64 (of_z w64 c.args.e))) squares_left) d
    ∙ ap (λ (z : ℤ). map (yaw_out c.args.d z) squares_left) e

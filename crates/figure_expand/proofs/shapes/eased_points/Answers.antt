use Rattle.figure_expand.proofs.Prelude.{rules, FitsSigned, ◌≡◌, ◌<◌, ◌≤◌, map, length, to_z-of_z, w64, arith, ap, ◌∙◌, length-set, eased_point}
use Rattle.figure_expand.proofs.Eased.{eight_shares, filled_all, filled_more}
use Rattle.figure_expand.proofs.shapes.eased_points.Goals as goal

pub loop-k-preserved : goal.loop-k-preserved
loop-k-preserved c =
    let eight : length c.shares-table.result.now ≡ 8 = ap length c.shares-table.ensures.value ∙ eight_shares c.args.ease in
    let within : c.loop-k.k < length c.loop-k.points = omega (arith, c.loop-k.invariant.same_length, c.loop-k-test.true) in
    let also : c.loop-k.k < length c.shares-table.result.now = omega (arith, eight, c.loop-k-test.true) in
    let fits : FitsSigned w64 c.eased_point.result = search rules in
    record {
      same_length = length-set _ _ _ ∙ c.loop-k.invariant.same_length;
      done = filled_more _ _ _ _ _ _ within also c.loop-k.invariant.done (to_z-of_z w64 c.eased_point.result fits ∙ c.eased_point.ensures);
    }

pub returns : goal.returns
returns c =
    let eight : length c.shares-table.result.now ≡ 8 = ap length c.shares-table.ensures.value ∙ eight_shares c.args.ease in
    let all : length c.loop-k.points ≤ c.loop-k.k = omega (arith, c.loop-k.invariant.same_length, c.loop-k-test.false) in
    let also : length c.shares-table.result.now ≤ c.loop-k.k = omega (arith, eight, c.loop-k-test.false) in
    filled_all _ _ _ _ all also c.loop-k.invariant.done
    ∙ ap (map (eased_point c.args.q.now.centre c.args.q.now.first c.args.q.now.last)) c.shares-table.ensures.value

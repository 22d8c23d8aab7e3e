use Rattle.sep_parts.proofs.Prelude.{rules, ◌≡◌, length, arith}
use Rattle.fleet_curves.proofs.Rows.{copied}
use Rattle.sep_parts.proofs.rows.widened.Goals as goal

pub returns : goal.returns
returns c =
    let len : length c.args.row.now ≡ 8 = search rules in
    copied 8 c.loop-k.k c.loop-k.b c.args.row.now c.loop-k.invariant.same_length len (omega arith) c.loop-k.invariant.done

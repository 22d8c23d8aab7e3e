use Rattle.sep_parts.proofs.Prelude.{rules, of_z, to_z, to_z-of_z, w64, ◌∙◌, ◌≡◌, ◌^◌, length, arith, FitsSigned, lit<, w128, at, below_at}
use Rattle.fleet_curves.proofs.Small.{kept}
use Rattle.sep_parts.proofs.NarrowLemmas.{half_fits}
use Rattle.fleet_curves.proofs.Rows.{copied, copied_len, copied_more}
use Rattle.sep_parts.proofs.rows.narrowed.Goals as goal

pub returns : goal.returns
returns c =
    let len : length c.args.curve.now.b ≡ 8 = search rules in
    copied 8 c.loop-k.k c.loop-k.row c.args.curve.now.b c.loop-k.invariant.same_length len (omega arith) c.loop-k.invariant.done

pub narrow-requires : goal.narrow-requires
narrow-requires c =
    let fits : FitsSigned w128 (at c.args.curve.now.b c.loop-k.k) = search rules in
    kept (2 ^ 62) (at c.args.curve.now.b c.loop-k.k) fits (below_at (2 ^ 62) c.args.curve.now.b c.loop-k.k (lit< tt) c.requires)

pub loop-k-preserved : goal.loop-k-preserved
loop-k-preserved c =
    let b = c.args.curve.now.b in
    let len : length b ≡ 8 = search rules in
    let fits : FitsSigned w128 (at b c.loop-k.k) = search rules in
    let short : FitsSigned w64 (at b c.loop-k.k) = half_fits (at b c.loop-k.k) (below_at (2 ^ 62) b c.loop-k.k (lit< tt) c.requires) in
    let value : c.narrow.result ≡ at b c.loop-k.k = c.narrow.ensures ∙ to_z-of_z w128 (at b c.loop-k.k) fits in
    let told : to_z w64 (of_z w64 c.narrow.result) ≡ at b c.loop-k.k = rw value (to_z-of_z w64 (at b c.loop-k.k) short) in
    record {
      same_length = copied_len 8 c.loop-k.k c.loop-k.row _ c.loop-k.invariant.same_length;
      done = copied_more 8 c.loop-k.k c.loop-k.row b _ c.loop-k.invariant.same_length (omega arith) len told c.loop-k.invariant.done;
    }

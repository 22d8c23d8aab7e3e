use Rattle.mm_rounding.proofs.Prelude.{rules, Some, ◌≡◌, ◌∙◌, ◌+◌, suc, FitsSigned, arith, map, pos, length, to_z-of_z, w16, w64, at, number_in, short, get_or-map, length-map, length-set}
use Rattle.mm_rounding.proofs.Elements.{all_kept, one_more, one_unfitted}
use Rattle.mm_rounding.proofs.rounding.numbers.Goals as goal

pub loop-k-preserved : goal.loop-k-preserved
loop-k-preserved g c =
    let v = c.args.v.now in
    let k = c.loop-k.k in
    let f = number_in g.row.UNIT in
    let number : FitsSigned w64 (at v k) = search rules in
    let fits : FitsSigned w16 c.in-Some.number = search rules in
    let len : length (map f v) ≡ g.row.N = length-map v f ∙ c.told-v in
    let said : Some c.in-Some.number ≡ short (at (map f v) k) = rw (get_or-map f v k (pos 0) (pos 0) (omega arith)) (simp to_z-of_z at c.in-Some.ensures) in
    let more = one_more c.loop-k.row (map f v) k _ c.in-Some.number (to_z-of_z w16 c.in-Some.number fits) (omega arith) (omega arith) said c.loop-k.invariant.fit c.loop-k.invariant.done in
    let e : k + 1 ≡ suc k = omega arith in
    record { same_length = length-set c.loop-k.row k _ ∙ c.loop-k.invariant.same_length; fit = rw e more.0; done = rw e more.1 }

pub returns : goal.returns
returns g c =
    let len : length (map (number_in g.row.UNIT) c.args.v.now) ≡ g.row.N = length-map c.args.v.now (number_in g.row.UNIT) ∙ c.told-v in
    all_kept c.loop-k.row (map (number_in g.row.UNIT) c.args.v.now) c.loop-k.k (omega arith) (omega arith) c.loop-k.invariant.fit c.loop-k.invariant.done

pub returns-in-None : goal.returns-in-None
returns-in-None g c =
    let v = c.args.v.now in
    let f = number_in g.row.UNIT in
    let number : FitsSigned w64 (at v c.loop-k.k) = search rules in
    let len : length (map f v) ≡ g.row.N = length-map v f ∙ c.told-v in
    one_unfitted (map f v) c.loop-k.k (omega arith) (rw (get_or-map f v c.loop-k.k (pos 0) (pos 0) (omega arith)) (simp to_z-of_z at c.in-None.ensures))

use Rattle.figure_expand.proofs.Prelude.{rules, FitsSigned, ◌≡◌, ◌^◌, ℕ, ℤ, ◌+ℤ◌, [], ◌∷◌, List, get_or, to_z, of_z, to_z-of_z, w64, arith, ap, ◌∙◌, Point, end_of}
use Rattle.figure_expand.specs.declared.shapes.Quarter.{Quarter}
use Rattle.figure_expand.specs.Steps.{quarter_on}
use Rattle.figure_expand.proofs.Reach.{kept, quarter_small, wider}
use Rattle.figure_expand.proofs.shapes.arc_end.Goals as goal

pub last_point-requires : goal.last_point-requires
last_point-requires c = quarter_small c.quarters.result _ _ _ 0 (omega arith) c.quarters.ensures.exact c.quarters.ensures.small

pub last_point-requires-2 : goal.last_point-requires-2
last_point-requires-2 c = quarter_small c.quarters.result _ _ _ 1 (omega arith) c.quarters.ensures.exact c.quarters.ensures.small

-- the last point of one of these
last_of : (qs rs : List Quarter) (k : ℕ) (d : Quarter) (z : ℤ) → FitsSigned w64 z → z ≡ (get_or qs k d).centre +ℤ (get_or qs k d).last → qs ≡ rs → to_z w64 (of_z w64 z) ≡ (get_or rs k d).centre +ℤ (get_or rs k d).last
last_of qs rs k d z fits is same = to_z-of_z w64 z fits ∙ is ∙ ap (λ (xs : List Quarter). (get_or xs k d).centre +ℤ (get_or xs k d).last) same

same_point : {x y z yaw x' y' z' yaw' : ℤ} → x ≡ x' → y ≡ y' → z ≡ z' → yaw ≡ yaw' →
    ◌≡◌ {A = Point} (record { x = x; y = y; z = z; yaw = yaw }) (record { x = x'; y = y'; z = z'; yaw = yaw' })
same_point {x} {y} {z} {yaw} {x'} {y'} {z'} {yaw'} a b c d = cc

pub returns : goal.returns
unfolding end_of
returns c =
    let both : ℤ → ℤ → List Quarter = λ (x y : ℤ). quarter_on c.args.p.now c.args.ccw x y 0 ∷ quarter_on c.args.p.now c.args.ccw x y 1 ∷ [] in
    let x_fits : FitsSigned w64 c.last_point.result = search rules in
    let y_fits : FitsSigned w64 c.last_point-2.result = search rules in
    let yaw_fits : FitsSigned w64 c.args.yaw = search rules in
    let cx : to_z w64 (of_z w64 c.args.cx) ≡ c.args.cx = kept c.args.cx (wider (2 ^ 28) (2 ^ 43) c.args.cx (omega arith) c.requires.x) in
    let cy : to_z w64 (of_z w64 c.args.cy) ≡ c.args.cy = kept c.args.cy (wider (2 ^ 28) (2 ^ 43) c.args.cy (omega arith) c.requires.y) in
    let are : c.quarters.result ≡ both c.args.cx c.args.cy = c.quarters.ensures.exact ∙ ap (λ (z : ℤ). both z (to_z w64 (of_z w64 c.args.cy))) cx ∙ ap (λ (z : ℤ). both c.args.cx z) cy in
    same_point (last_of c.quarters.result _ 0 _ c.last_point.result x_fits c.last_point.ensures are) (last_of c.quarters.result _ 1 _ c.last_point-2.result y_fits c.last_point-2.ensures are)
    (kept c.args.p.now.z (wider (2 ^ 40) (2 ^ 43) c.args.p.now.z (omega arith) c.requires.point.z)) (to_z-of_z w64 c.args.yaw yaw_fits)

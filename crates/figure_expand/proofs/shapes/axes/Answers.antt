use Rattle.figure_expand.proofs.Prelude.{common_steps, ◌≡◌, ◌^◌, [], ◌∷◌, w64, arith, subst, to_z-of_z, Axis, IsActUpTo}
use Rattle.figure_expand.proofs.Eased.{eight_on, eight_yaws}
use Rattle.figure_expand.proofs.Reach.{held, quarter_small}
use Rattle.figure_expand.proofs.shapes.axes.Goals as goal

-- four axes, one by one
each : (x y z w x' y' z' w' : Axis) → x ≡ x' → y ≡ y' → z ≡ z' → w ≡ w' → x ∷ y ∷ z ∷ w ∷ [] ≡ x' ∷ y' ∷ z' ∷ w' ∷ []
each x y z w x' y' z' w' a b c d = cc

pub returns-in-Line : goal.returns-in-Line
returns-in-Line c = grind (arith, common_steps, w64, to_z-of_z, each)

pub returns-in-Move : goal.returns-in-Move
returns-in-Move c = grind (arith, common_steps, w64, to_z-of_z, each)

pub returns-in-Arc : goal.returns-in-Arc
returns-in-Arc c = grind (arith, common_steps, w64, to_z-of_z, each)

pub returns-in-Eased : goal.returns-in-Eased
returns-in-Eased c = grind (arith, common_steps, w64, to_z-of_z, each, eight_on, eight_yaws)

pub returns-in-Curve : goal.returns-in-Curve
returns-in-Curve c = grind (arith, common_steps, w64, to_z-of_z, each)

pub returns-in-Hold : goal.returns-in-Hold
returns-in-Hold c = grind (arith, common_steps, w64, to_z-of_z, each)

pub returns-in-Turn : goal.returns-in-Turn
returns-in-Turn c = grind (arith, common_steps, w64, to_z-of_z, each)

pub quarters-requires-clause-point : goal.quarters-requires-clause-point
quarters-requires-clause-point c = c.requires.point

pub quarters-requires-clause-x : goal.quarters-requires-clause-x
quarters-requires-clause-x c = held (2 ^ 28) c.in-Arc.cx (omega arith) (subst (IsActUpTo (2 ^ 28)) c.in-Arc.is c.requires.act).0

pub quarters-requires-clause-y : goal.quarters-requires-clause-y
quarters-requires-clause-y c = held (2 ^ 28) c.in-Arc.cy (omega arith) (subst (IsActUpTo (2 ^ 28)) c.in-Arc.is c.requires.act).1

pub eased_yaw-requires-clause-d : goal.eased_yaw-requires-clause-d
eased_yaw-requires-clause-d c = held (2 ^ 40) c.args.p.now.yaw (omega arith) c.requires.point.yaw

pub eased_yaw-requires-clause-e : goal.eased_yaw-requires-clause-e
eased_yaw-requires-clause-e c = held (2 ^ 28) c.in-Eased.yaw (omega arith) (subst (IsActUpTo (2 ^ 28)) c.in-Eased.is c.requires.act).2

pub arc_points-requires : goal.arc_points-requires
arc_points-requires c = quarter_small c.quarters.result _ _ _ 0 (omega arith) c.quarters.ensures.exact c.quarters.ensures.small

pub arc_points-requires-in-Arc : goal.arc_points-requires-in-Arc
arc_points-requires-in-Arc c = quarter_small c.quarters.result _ _ _ 1 (omega arith) c.quarters.ensures.exact c.quarters.ensures.small

pub eased_points-requires : goal.eased_points-requires
eased_points-requires c = quarter_small c.quarters-in-Eased.result _ _ _ 0 (omega arith) c.quarters-in-Eased.ensures.exact c.quarters-in-Eased.ensures.small

pub eased_points-requires-in-Eased : goal.eased_points-requires-in-Eased
eased_points-requires-in-Eased c = quarter_small c.quarters-in-Eased.result _ _ _ 1 (omega arith) c.quarters-in-Eased.ensures.exact c.quarters-in-Eased.ensures.small

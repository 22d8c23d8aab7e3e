use Rattle.figure_expand.proofs.Prelude.{subst, FitsAct}
use Rattle.figure_expand.proofs.Reach.{coordinate_held, yaw_held}
use Rattle.figure_expand.proofs.acts.framed_act.Goals as goal

pub framed-requires-in-Curve-clause-point : goal.framed-requires-in-Curve-clause-point
framed-requires-in-Curve-clause-point c =
    let curve = c.in-Curve in
    (subst FitsAct curve.is c.requires.act).2

pub framed-requires-clause-frame : goal.framed-requires-clause-frame
framed-requires-clause-frame c = c.requires.frame

pub framed-requires-clause-point : goal.framed-requires-clause-point
framed-requires-clause-point c = subst FitsAct c.in-Line.is c.requires.act

pub framed-requires-in-Move-clause-point : goal.framed-requires-in-Move-clause-point
framed-requires-in-Move-clause-point c = subst FitsAct c.in-Move.is c.requires.act

pub framed-requires-in-Move-clause-frame : goal.framed-requires-in-Move-clause-frame
framed-requires-in-Move-clause-frame c = c.requires.frame

pub framed-requires-in-Curve-clause-frame : goal.framed-requires-in-Curve-clause-frame
framed-requires-in-Curve-clause-frame c = c.requires.frame

pub framed_centre-centre-requires-clause-frame : goal.framed_centre-centre-requires-clause-frame
framed_centre-centre-requires-clause-frame c = c.requires.frame

pub framed_centre-centre-requires-clause-x : goal.framed_centre-centre-requires-clause-x
framed_centre-centre-requires-clause-x c = coordinate_held c.in-Arc.cx (subst FitsAct c.in-Arc.is c.requires.act).0

pub framed_centre-centre-requires-clause-y : goal.framed_centre-centre-requires-clause-y
framed_centre-centre-requires-clause-y c = coordinate_held c.in-Arc.cy (subst FitsAct c.in-Arc.is c.requires.act).1

pub framed_centre-centre-requires-clause-yaw : goal.framed_centre-centre-requires-clause-yaw
framed_centre-centre-requires-clause-yaw c = yaw_held c.in-Arc.yaw (subst FitsAct c.in-Arc.is c.requires.act).2

pub framed_centre-centre-requires-in-Eased-clause-frame : goal.framed_centre-centre-requires-in-Eased-clause-frame
framed_centre-centre-requires-in-Eased-clause-frame c = c.requires.frame

pub framed_centre-centre-requires-in-Eased-clause-x : goal.framed_centre-centre-requires-in-Eased-clause-x
framed_centre-centre-requires-in-Eased-clause-x c = coordinate_held c.in-Eased.cx (subst FitsAct c.in-Eased.is c.requires.act).0

pub framed_centre-centre-requires-in-Eased-clause-y : goal.framed_centre-centre-requires-in-Eased-clause-y
framed_centre-centre-requires-in-Eased-clause-y c = coordinate_held c.in-Eased.cy (subst FitsAct c.in-Eased.is c.requires.act).1

pub framed_centre-centre-requires-in-Eased-clause-yaw : goal.framed_centre-centre-requires-in-Eased-clause-yaw
framed_centre-centre-requires-in-Eased-clause-yaw c = yaw_held c.in-Eased.yaw (subst FitsAct c.in-Eased.is c.requires.act).2

pub framed_triple-requires-clause-frame : goal.framed_triple-requires-clause-frame
framed_triple-requires-clause-frame c = c.requires.frame

pub framed_triple-requires-clause-point : goal.framed_triple-requires-clause-point
framed_triple-requires-clause-point c = (subst FitsAct c.in-Curve.is c.requires.act).0

pub framed_triple-requires-in-Curve-clause-frame : goal.framed_triple-requires-in-Curve-clause-frame
framed_triple-requires-in-Curve-clause-frame c = c.requires.frame

pub framed_triple-requires-in-Curve-clause-point : goal.framed_triple-requires-in-Curve-clause-point
framed_triple-requires-in-Curve-clause-point c = (subst FitsAct c.in-Curve.is c.requires.act).1

pub framed_yaw-requires-clause-frame : goal.framed_yaw-requires-clause-frame
framed_yaw-requires-clause-frame c = c.requires.frame

pub framed_yaw-requires-clause-yaw : goal.framed_yaw-requires-clause-yaw
framed_yaw-requires-clause-yaw c = yaw_held c.in-Turn.yaw (subst FitsAct c.in-Turn.is c.requires.act)

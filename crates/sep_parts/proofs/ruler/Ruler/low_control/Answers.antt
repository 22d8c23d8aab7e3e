use Rattle.sep_parts.proofs.Prelude.{common_steps, ◌<◌, length, sym, arith}
use Rattle.sep_parts.proofs.Parts.{level_small}
use Rattle.sep_parts.proofs.Rulers.{entries, few, low, positive, reaches, small}
use Rattle.sep_parts.proofs.ruler.Ruler.low_control.Goals as goal

pub low_control-requires-clause-values : goal.low_control-requires-clause-values
low_control-requires-clause-values g c = rw c.curves.ensures (level_small c.args.diff.now c.args.level.now c.requires.level c.raised_law.ensures.values)

pub low_control-requires-clause-positive : goal.low_control-requires-clause-positive
low_control-requires-clause-positive g c =
    let dir : c.args.dir < length c.self.inside.directions.n = rw (sym c.self.view_is) at c.requires.dir in
    rw c.as_slice-thresholds.ensures (positive c.self.inside.directions.n c.self.inside.thresholds c.self.inside.clearance c.args.dir c.self.invariant dir)

pub low_control-requires-clause-small : goal.low_control-requires-clause-small
low_control-requires-clause-small g c =
    let dir : c.args.dir < length c.self.inside.directions.n = rw (sym c.self.view_is) at c.requires.dir in
    rw c.as_slice-thresholds.ensures (small c.self.inside.directions.n c.self.inside.thresholds c.self.inside.clearance c.args.dir c.self.invariant dir)

pub returns : goal.returns
returns g c = grind (arith, common_steps, low)

pub offset_bounds-directions-dir : goal.offset_bounds-directions-dir
offset_bounds-directions-dir g c =
    let dir : c.args.dir < length c.self.inside.directions.n = rw (sym c.self.view_is) at c.requires.dir in
    omega (arith, few c.self.inside.directions.n c.self.inside.thresholds c.self.inside.clearance c.args.dir c.self.invariant dir)

pub bounds-directions-dir : goal.bounds-directions-dir
bounds-directions-dir g c =
    let dir : c.args.dir < length c.self.inside.directions.n = rw (sym c.self.view_is) at c.requires.dir in
    rw c.as_slice-directions.ensures dir

pub offset_bounds-thresholds-dir : goal.offset_bounds-thresholds-dir
offset_bounds-thresholds-dir g c =
    let dir : c.args.dir < length c.self.inside.directions.n = rw (sym c.self.view_is) at c.requires.dir in
    omega (arith, few c.self.inside.directions.n c.self.inside.thresholds c.self.inside.clearance c.args.dir c.self.invariant dir)

pub bounds-thresholds-dir : goal.bounds-thresholds-dir
bounds-thresholds-dir g c =
    let dir : c.args.dir < length c.self.inside.directions.n = rw (sym c.self.view_is) at c.requires.dir in
    rw c.as_slice-thresholds.ensures (reaches c.self.inside.directions.n c.self.inside.thresholds c.self.inside.clearance c.args.dir c.self.invariant dir)

pub low_control-requires-clause-r : goal.low_control-requires-clause-r
low_control-requires-clause-r g c = c.self.invariant.clear.across

pub low_control-requires-clause-h : goal.low_control-requires-clause-h
low_control-requires-clause-h g c = c.self.invariant.clear.upwards

pub low_control-requires-clause-entries : goal.low_control-requires-clause-entries
low_control-requires-clause-entries g c =
    let dir : c.args.dir < length c.self.inside.directions.n = rw (sym c.self.view_is) at c.requires.dir in
    rw c.as_slice-directions.ensures (entries c.self.inside.directions.n c.self.inside.thresholds c.self.inside.clearance c.args.dir c.self.invariant dir)

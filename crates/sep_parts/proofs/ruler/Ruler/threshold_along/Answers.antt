use Rattle.sep_parts.proofs.Prelude.{arith, ◌<◌, length, sym}
use Rattle.sep_parts.proofs.Rulers.{few, positive, reaches, small, told}
use Rattle.sep_parts.proofs.ruler.Ruler.threshold_along.Goals as goal

pub returns-clause-positive : goal.returns-clause-positive
returns-clause-positive g c =
    let dir : c.args.dir < length c.self.inside.directions.n = rw (sym c.self.view_is) at c.requires.dir in
    rw c.as_slice-thresholds.ensures (positive c.self.inside.directions.n c.self.inside.thresholds c.self.inside.clearance c.args.dir c.self.invariant dir)

pub returns-clause-small : goal.returns-clause-small
returns-clause-small g c =
    let dir : c.args.dir < length c.self.inside.directions.n = rw (sym c.self.view_is) at c.requires.dir in
    rw c.as_slice-thresholds.ensures (small c.self.inside.directions.n c.self.inside.thresholds c.self.inside.clearance c.args.dir c.self.invariant dir)

pub offset_bounds-thresholds-dir : goal.offset_bounds-thresholds-dir
offset_bounds-thresholds-dir g c =
    let dir : c.args.dir < length c.self.inside.directions.n = rw (sym c.self.view_is) at c.requires.dir in
    omega (arith, few c.self.inside.directions.n c.self.inside.thresholds c.self.inside.clearance c.args.dir c.self.invariant dir)

pub bounds-thresholds-dir : goal.bounds-thresholds-dir
bounds-thresholds-dir g c =
    let dir : c.args.dir < length c.self.inside.directions.n = rw (sym c.self.view_is) at c.requires.dir in
    rw c.as_slice-thresholds.ensures (reaches c.self.inside.directions.n c.self.inside.thresholds c.self.inside.clearance c.args.dir c.self.invariant dir)

pub returns-clause-exact : goal.returns-clause-exact
returns-clause-exact g c =
    let dir : c.args.dir < length c.self.inside.directions.n = rw (sym c.self.view_is) at c.requires.dir in
    rw (sym c.self.view_is) (rw c.as_slice-thresholds.ensures (told c.self.inside.directions.n c.self.inside.thresholds c.self.inside.clearance c.args.dir c.self.invariant dir))

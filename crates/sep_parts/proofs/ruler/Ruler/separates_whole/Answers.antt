use Rattle.sep_parts.proofs.Prelude.{arith, ◌<◌, length, sym}
use Rattle.sep_parts.proofs.Parts.{raised_level}
use Rattle.sep_parts.proofs.Rulers.{entries, few, none_low, positive, reaches, small}
use Rattle.sep_parts.proofs.ruler.Ruler.separates_whole.Goals as goal

pub separates_rows-requires-clause-positive : goal.separates_rows-requires-clause-positive
separates_rows-requires-clause-positive g c =
    let dir : c.args.dir < length c.self.inside.directions.n = rw (sym c.self.view_is) at c.requires.dir in
    rw c.as_slice-thresholds.ensures (positive c.self.inside.directions.n c.self.inside.thresholds c.self.inside.clearance c.args.dir c.self.invariant dir)

pub separates_rows-requires-clause-small : goal.separates_rows-requires-clause-small
separates_rows-requires-clause-small g c =
    let dir : c.args.dir < length c.self.inside.directions.n = rw (sym c.self.view_is) at c.requires.dir in
    rw c.as_slice-thresholds.ensures (small c.self.inside.directions.n c.self.inside.thresholds c.self.inside.clearance c.args.dir c.self.invariant dir)

pub returns : goal.returns
returns g c =
    let dir : c.args.dir < length c.self.inside.directions.n = rw (sym c.self.view_is) at c.requires.dir in
    rw (sym c.self.view_is)
    (none_low c.self.inside.directions.n c.self.inside.thresholds c.self.inside.clearance c.args.dir c.self.invariant dir c.args.diff.now _ c.separates_rows.result (raised_level c.args.diff.now c.raised_law.ensures)
    (rw (c.as_slice-thresholds.ensures, c.as_slice-directions.ensures, c.rows.ensures) at c.separates_rows.ensures))

pub offset_bounds-directions-dir : goal.offset_bounds-directions-dir
offset_bounds-directions-dir g c =
    let dir : c.args.dir < length c.self.inside.directions.n = rw (sym c.self.view_is) at c.requires.dir in
    omega (arith, few c.self.inside.directions.n c.self.inside.thresholds c.self.inside.clearance c.args.dir c.self.invariant dir)

pub bounds-directions-dir : goal.bounds-directions-dir
bounds-directions-dir g c =
    let dir : c.args.dir < length c.self.inside.directions.n = rw (sym c.self.view_is) at c.requires.dir in
    rw c.as_slice-directions.ensures dir

pub offset_bounds-thresholds-dir : goal.offset_bounds-thresholds-dir
offset_bounds-thresholds-dir g c =
    let dir : c.args.dir < length c.self.inside.directions.n = rw (sym c.self.view_is) at c.requires.dir in
    omega (arith, few c.self.inside.directions.n c.self.inside.thresholds c.self.inside.clearance c.args.dir c.self.invariant dir)

pub bounds-thresholds-dir : goal.bounds-thresholds-dir
bounds-thresholds-dir g c =
    let dir : c.args.dir < length c.self.inside.directions.n = rw (sym c.self.view_is) at c.requires.dir in
    rw c.as_slice-thresholds.ensures (reaches c.self.inside.directions.n c.self.inside.thresholds c.self.inside.clearance c.args.dir c.self.invariant dir)

pub separates_rows-requires-clause-r : goal.separates_rows-requires-clause-r
separates_rows-requires-clause-r g c = c.self.invariant.clear.across

pub separates_rows-requires-clause-h : goal.separates_rows-requires-clause-h
separates_rows-requires-clause-h g c = c.self.invariant.clear.upwards

pub separates_rows-requires-clause-entries : goal.separates_rows-requires-clause-entries
separates_rows-requires-clause-entries g c =
    let dir : c.args.dir < length c.self.inside.directions.n = rw (sym c.self.view_is) at c.requires.dir in
    rw c.as_slice-directions.ensures (entries c.self.inside.directions.n c.self.inside.thresholds c.self.inside.clearance c.args.dir c.self.invariant dir)

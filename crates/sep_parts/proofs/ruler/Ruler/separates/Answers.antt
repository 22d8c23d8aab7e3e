use Rattle.sep_parts.proofs.Prelude.{arith, ◌<◌, length, sym}
use Rattle.sep_parts.proofs.Parts.{level_narrow, level_small}
use Rattle.sep_parts.proofs.Rulers.{entries, few, none_low, positive, reaches, small}
use Rattle.sep_parts.proofs.ruler.Ruler.separates.Goals as goal

pub are_apart-requires-clause-values : goal.are_apart-requires-clause-values
are_apart-requires-clause-values g c = level_small c.args.diff.now c.args.level.now c.requires.level c.raised_law.ensures.values

pub are_apart-requires-clause-positive : goal.are_apart-requires-clause-positive
are_apart-requires-clause-positive g c =
    let dir : c.args.dir < length c.self.inside.directions.n = rw (sym c.self.view_is) at c.requires.dir in
    rw c.as_slice-thresholds.ensures (positive c.self.inside.directions.n c.self.inside.thresholds c.self.inside.clearance c.args.dir c.self.invariant dir)

pub are_apart-requires-clause-small : goal.are_apart-requires-clause-small
are_apart-requires-clause-small g c =
    let dir : c.args.dir < length c.self.inside.directions.n = rw (sym c.self.view_is) at c.requires.dir in
    rw c.as_slice-thresholds.ensures (small c.self.inside.directions.n c.self.inside.thresholds c.self.inside.clearance c.args.dir c.self.invariant dir)

pub returns : goal.returns
returns g c =
    let dir : c.args.dir < length c.self.inside.directions.n = rw (sym c.self.view_is) at c.requires.dir in
    rw (sym c.self.view_is)
    (none_low c.self.inside.directions.n c.self.inside.thresholds c.self.inside.clearance c.args.dir c.self.invariant dir c.args.diff.now c.args.level.now c.are_apart.result c.requires.level
    (rw (c.as_slice-thresholds.ensures, c.as_slice-directions.ensures, c.make.ensures) at c.are_apart.ensures))

pub offset_bounds-directions-dir : goal.offset_bounds-directions-dir
offset_bounds-directions-dir g c =
    let dir : c.args.dir < length c.self.inside.directions.n = rw (sym c.self.view_is) at c.requires.dir in
    omega (arith, few c.self.inside.directions.n c.self.inside.thresholds c.self.inside.clearance c.args.dir c.self.invariant dir)

pub bounds-directions-dir : goal.bounds-directions-dir
bounds-directions-dir g c =
    let dir : c.args.dir < length c.self.inside.directions.n = rw (sym c.self.view_is) at c.requires.dir in
    rw c.as_slice-directions.ensures dir

pub offset_bounds-thresholds-dir : goal.offset_bounds-thresholds-dir
offset_bounds-thresholds-dir g c =
    let dir : c.args.dir < length c.self.inside.directions.n = rw (sym c.self.view_is) at c.requires.dir in
    omega (arith, few c.self.inside.directions.n c.self.inside.thresholds c.self.inside.clearance c.args.dir c.self.invariant dir)

pub bounds-thresholds-dir : goal.bounds-thresholds-dir
bounds-thresholds-dir g c =
    let dir : c.args.dir < length c.self.inside.directions.n = rw (sym c.self.view_is) at c.requires.dir in
    rw c.as_slice-thresholds.ensures (reaches c.self.inside.directions.n c.self.inside.thresholds c.self.inside.clearance c.args.dir c.self.invariant dir)

pub are_apart-requires-clause-r : goal.are_apart-requires-clause-r
are_apart-requires-clause-r g c = c.self.invariant.clear.across

pub are_apart-requires-clause-h : goal.are_apart-requires-clause-h
are_apart-requires-clause-h g c = c.self.invariant.clear.upwards

pub are_apart-requires-clause-entries : goal.are_apart-requires-clause-entries
are_apart-requires-clause-entries g c =
    let dir : c.args.dir < length c.self.inside.directions.n = rw (sym c.self.view_is) at c.requires.dir in
    rw c.as_slice-directions.ensures (entries c.self.inside.directions.n c.self.inside.thresholds c.self.inside.clearance c.args.dir c.self.invariant dir)

pub are_apart-requires-clause-narrow : goal.are_apart-requires-clause-narrow
are_apart-requires-clause-narrow g c = λ shallow. level_narrow c.args.diff.now c.args.level.now (rw c.make.ensures at shallow) c.requires.level c.raised_law.ensures.values

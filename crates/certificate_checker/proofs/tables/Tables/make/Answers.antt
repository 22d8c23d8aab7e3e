use Rattle.certificate_checker.proofs.Prelude.{inl, inr, refl, lit<, table_of, small_table}
use Rattle.sep_parts.specs.declared.directions.TheConstants.{DIRECTIONS, WIDE}
use Rattle.certificate_checker.proofs.tables.Tables.make.Goals as goal

pub make-requires : goal.make-requires
make-requires c = (lit< tt, (lit< tt, (inl refl, (small_table DIRECTIONS.n refl, c.requires.clearance))))

pub make-requires-2 : goal.make-requires-2
make-requires-2 c = (lit< tt, (lit< tt, (inr refl, (small_table WIDE.n refl, c.requires.clearance))))

pub invariant_of-result : goal.invariant_of-result
unfolding table_of
invariant_of-result c = rw (c.make.ensures, c.make-2.ensures) (refl, refl)

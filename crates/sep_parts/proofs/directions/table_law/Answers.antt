use Rattle.sep_parts.proofs.Prelude.{refl}
use Rattle.sep_parts.specs.declared.directions.TheConstants.{DIRECTIONS, WIDE}
use Rattle.sep_parts.proofs.Table.{small_table}
use Rattle.sep_parts.proofs.directions.table_law.Goals as goal

pub returns-clause-small : goal.returns-clause-small
returns-clause-small c = small_table DIRECTIONS.n refl

pub returns-clause-wide_small : goal.returns-clause-wide_small
returns-clause-wide_small c = small_table WIDE.n refl

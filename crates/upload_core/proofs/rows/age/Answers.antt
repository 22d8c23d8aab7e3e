use Rattle.upload_core.proofs.Prelude.{common_steps, ◌≡◌, ◌∙◌, sym, set, arith, row_at}
use Rattle.upload_core.proofs.Windows.{row-at, row_at-set_other}
use Rattle.upload_core.proofs.Walks.{all-at, older-step}
use Rattle.upload_core.proofs.rows.age.Goals as goal
use Rattle.upload_core.proofs.rows.age.Goals.{After-index-rows-i}

-- the row that is indexed is the one from the beginning
elem : (c : After-index-rows-i) → c.index-rows-i.result ≡ row_at c.args.rows.now c.loop-i.i
elem c =
    sym (row-at c.loop-i.rows c.loop-i.i c.index-rows-i.result c.index-rows-i.is (omega arith))
    ∙ c.loop-i.invariant.rest c.loop-i.i (omega arith)

pub age-requires : goal.age-requires
age-requires c = grind (arith, common_steps, elem, all-at)

pub loop-i-preserved : goal.loop-i-preserved
loop-i-preserved c = grind (arith, common_steps, elem, set, older-step, row_at-set_other)

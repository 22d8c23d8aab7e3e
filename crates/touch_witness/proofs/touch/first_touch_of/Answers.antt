use Rattle.touch_witness.proofs.Shows.{first_told, no_touch, none_told}
use Rattle.touch_witness.proofs.touch.first_touch_of.Goals as goal

pub returns-clause-exact : goal.returns-clause-exact
returns-clause-exact c = first_told c.args.trajs.now c.args.axes.r c.args.axes.h c.args.fine c.requires.show c.formed_law.ensures c.first_site.result c.first_site.ensures

pub returns-clause-none : goal.returns-clause-none
returns-clause-none c =
    none_told c.args.trajs.now c.args.axes.r c.args.axes.h c.args.fine c.requires.show c.formed_law.ensures c.first_site.result
    (first_told c.args.trajs.now c.args.axes.r c.args.axes.h c.args.fine c.requires.show c.formed_law.ensures c.first_site.result c.first_site.ensures)

pub returns-clause-clear : goal.returns-clause-clear
returns-clause-clear c apart =
    none_told c.args.trajs.now c.args.axes.r c.args.axes.h c.args.fine c.requires.show c.formed_law.ensures c.first_site.result
    (first_told c.args.trajs.now c.args.axes.r c.args.axes.h c.args.fine c.requires.show c.formed_law.ensures c.first_site.result c.first_site.ensures)
    (no_touch c.args.trajs.now c.args.axes.r c.args.axes.h c.args.fine c.requires.show c.formed_law.ensures apart)

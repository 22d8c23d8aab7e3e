use Rattle.show_direct.proofs.MakingLemmas.{course_held, course_is}
use Rattle.show_direct.proofs.making.course_of.Goals as goal

pub returns-clause-value : goal.returns-clause-value
returns-clause-value c = λ s is. course_is c.args.way s c.late_of-late.result c.late_of-late.ensures c.requires is

pub returns-clause-held : goal.returns-clause-held
returns-clause-held c = course_held c.join_law.ensures.curve c.args.way c.late_of-late.result c.requires c.uploadable_law.ensures

use Rattle.show_looks.proofs.Prelude.{common_steps, All, sym, subst, arith, IsSendable, short_all}
use Rattle.show_looks.proofs.ReportLemmas.{numbers, packets_of, report_is, small_sizes}
use Rattle.show_looks.proofs.reporting.ReportVerbOneText.answer_accepted.Goals as goal

pub sizes-requires-clause-sendable : goal.sizes-requires-clause-sendable
sizes-requires-clause-sendable c = subst (All IsSendable) (sym c.as_slice.ensures) c.requires.valid.sendable

pub sizes-requires-clause-in_memory : goal.sizes-requires-clause-in_memory
sizes-requires-clause-in_memory c = grind (arith, common_steps, short_all)

pub packets-requires : goal.packets-requires
packets-requires c = grind (arith, common_steps, small_sizes, short_all)

pub returns-clause-text : goal.returns-clause-text
returns-clause-text c = grind (arith, common_steps, packets_of, numbers, report_is)

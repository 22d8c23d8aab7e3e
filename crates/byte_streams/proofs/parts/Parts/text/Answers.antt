use Rattle.byte_streams.proofs.Prelude.{stream, to_come}
use Rattle.byte_streams.proofs.ReadingLemmas.{meets_end, takes_few_after}
use Rattle.byte_streams.proofs.parts.Parts.text.Goals as goal

pub returns-in-Ok-clause-after : goal.returns-in-Ok-clause-after
returns-in-Ok-clause-after g c all may = takes_few_after _ (stream c.args.self.now (to_come all (g.S.Source.told c.args.source.now))) (to_come all (g.S.Source.told c.gather.new.source)) (c.in-Ok.ensures.part all (rw (← c.self.view_is) may)).rest c.gather.ensures.most

pub returns-in-Ok-clause-met : goal.returns-in-Ok-clause-met
returns-in-Ok-clause-met g c all may = meets_end _ _ _ _ _ all c.in-Ok.part.marker _ may (rw (← c.self.view_is) at c.in-Ok.ensures.to_end) (rw (← c.self.view_is) at c.in-Ok.ensures.fed)

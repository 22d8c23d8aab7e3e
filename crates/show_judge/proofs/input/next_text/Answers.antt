use Rattle.byte_streams.specs.declared.parts.IoFault.{IoFault}
use Rattle.show_judge.proofs.Prelude.{Err, ap, ◌∙◌, takes_at_most, to_come}
use Rattle.show_judge.proofs.FewLemmas.{long_text}
use Rattle.show_judge.proofs.input.next_text.Goals as goal

pub returns-in-Err-TooLong-clause-after : goal.returns-in-Err-TooLong-clause-after
returns-in-Err-TooLong-clause-after g c all may = λ none is.
    long_text c.args.parts.now (to_come all (g.S.Source.told c.args.source.now)) (to_come all (g.S.Source.told c.text.new.source)) c.args.limit none is
    (c.text.ensures.too_long all may (c.in-Err-TooLong.is ∙ ap (λ (f : IoFault). Err f) c.in-Err-TooLong.field-0-is)) (takes_at_most _ _ _ all _ c.text.ensures.went.gives may c.text.ensures.few)

use Rattle.show_direct.proofs.Prelude.{Err, ap, ◌∙◌}
use Rattle.byte_streams.specs.declared.parts.IoFault.{IoFault}
use Rattle.show_direct.proofs.ReadingLemmas.{read_failed, read_too_large, read_whole}
use Rattle.show_direct.proofs.reading.read_show.Goals as goal

pub returns-in-Ok-clause-gives : goal.returns-in-Ok-clause-gives
returns-in-Ok-clause-gives g c all may =
    read_whole c.args.depth c.args.parts.now c.text.new.self (g.S.Source.told c.args.source.now) (g.S.Source.told c.text.new.source) all c.in-Ok.part c.judge.result
    (c.in-Ok.ensures.part all may) c.in-Ok.ensures.fits c.in-Ok.ensures.to_end c.in-Ok.ensures.fed may (c.in-Ok.ensures.after all may) c.judge.ensures.gives

pub returns-in-Err-TooLong-clause-gives : goal.returns-in-Err-TooLong-clause-gives
returns-in-Err-TooLong-clause-gives g c all may =
    read_too_large c.args.depth c.args.parts.now c.text.new.self (g.S.Source.told c.args.source.now) (g.S.Source.told c.text.new.source) all may
    (c.text.ensures.too_long all may (c.in-Err-TooLong.is ∙ ap (λ (f : IoFault). Err f) c.in-Err-TooLong.field-0-is)) c.text.ensures.asks c.requires.holds

pub returns-in-Err-Read-clause-gives : goal.returns-in-Err-Read-clause-gives
returns-in-Err-Read-clause-gives g c all may =
    let failed = c.in-Err-Read.is ∙ ap (λ (f : IoFault). Err f) c.in-Err-Read.field-0-is in
    read_failed c.args.depth c.args.parts.now c.text.new.self (g.S.Source.told c.args.source.now) (g.S.Source.told c.text.new.source) all may
    (c.text.ensures.read failed) (c.text.ensures.unmarked failed)

use Rattle.show_uploads.proofs.Prelude.{most_text, TakesFewAfter, TookMarked, List, ℕ, Option, subst, sym, refl, common_steps, arith, Err, ap, ◌∙◌, consumed, of_source, stream, takes_at_most, to_come, long_text, stream_new}
use Rattle.byte_streams.specs.declared.parts.IoFault.{IoFault}
use Rattle.show_uploads.proofs.UploadLemmas.{fed_before, goes_on_ready, ready_of_text}
use Rattle.show_uploads.proofs.uploading.read_ready.Goals as goal

pub returns-in_ok-make_ready-in-Ok-clause-gives : goal.returns-in_ok-make_ready-in-Ok-clause-gives
returns-in_ok-make_ready-in-Ok-clause-gives g c all may =
    ready_of_text c.args.depth c.args.start c.args.readback (stream c.args.parts.now (to_come all (g.S.Source.told c.args.source.now))) (stream c.text.new.self (to_come all (g.S.Source.told c.text.new.source))) c.in-Ok.part _ (c.in-Ok.ensures.part all may) c.in-Ok.ensures.fits c.in_ok-make_ready-in-Ok.ensures.gives

pub returns-in_ok-make_ready-in-Ok-clause-goes_on : goal.returns-in_ok-make_ready-in-Ok-clause-goes_on
returns-in_ok-make_ready-in-Ok-clause-goes_on g c all may =
    let took = fed_before c.in-Ok.part.marker c.text.new.self.ended (TookMarked c.args.parts.now.waiting c.text.new.self.waiting (g.S.Source.told c.args.source.now) (g.S.Source.told c.text.new.source)) c.in-Ok.ensures.to_end c.in-Ok.ensures.fed in
    goes_on_ready _ c.text.new.self (stream c.args.parts.now (to_come all (g.S.Source.told c.args.source.now))) (stream c.text.new.self (to_come all (g.S.Source.told c.text.new.source))) c.in-Ok.ensures.sound (c.in-Ok.ensures.part all may).rest
    (λ off. let it = took off in (it.0, consumed _ _ _ all _ _ _ it.1 may, it.2))

pub returns-in-Err-TooLong-clause-gives : goal.returns-in-Err-TooLong-clause-gives
returns-in-Err-TooLong-clause-gives g c all may =
    let long = c.text.ensures.too_long all may (c.in-Err-TooLong.is ∙ ap (λ (f : IoFault). Err f) c.in-Err-TooLong.field-0-is) in
    grind (arith, common_steps, long)

pub returns-in-Err-TooLong-clause-few : goal.returns-in-Err-TooLong-clause-few
returns-in-Err-TooLong-clause-few g c all may =
    let new = to_come all (g.S.Source.told c.text.new.source) in
    subst (λ (left : Option (List ℕ)). TakesFewAfter left new) (sym (stream_new c.args.parts.now (to_come all (g.S.Source.told c.args.source.now)) c.requires.new))
    (long_text c.args.parts.now (to_come all (g.S.Source.told c.args.source.now)) new most_text c.requires.new refl (c.text.ensures.too_long all may (c.in-Err-TooLong.is ∙ ap (λ (f : IoFault). Err f) c.in-Err-TooLong.field-0-is)) (takes_at_most _ _ _ all _ c.text.ensures.went.gives may c.text.ensures.few))

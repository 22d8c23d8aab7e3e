use Rattle.link_upload.proofs.Prelude.{List, ℕ, ap, sym, take, ◌∙◌, frame_bytes, frame_of, moved}
use Rattle.std.proofs.lemmas.List.{take_at}
use Rattle.link_upload.proofs.exchange.LinkedMachine.take.Goals as goal

pub returns-in-Some-clause-gives : goal.returns-in-Some-clause-gives
returns-in-Some-clause-gives c start items stands going =
    let some = c.in-Some.ensures.some in
    let front = ap (λ (l : List ℕ). take c.size-size.result l) some.1.1 ∙ take_at (frame_bytes (frame_of c.in-Some.frame)) some.1.0 c.size-size.result (sym c.size-size.ensures.value) in
    moved _ _ _ _ _ _ _ _ (λ now stands. stands) (λ whole is. is ∙ sym front) (c.hear-status.ensures start.host.session items stands going)

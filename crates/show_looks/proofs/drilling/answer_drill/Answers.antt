use Rattle.show_looks.proofs.Prelude.{◌++◌, drop, length, ℕ, List, subst, refl, drill_text, cut_of, told_input}
use Rattle.byte_streams.proofs.CopiedLemmas.{empty}
use Rattle.byte_streams.specs.Memory.{SureIn, told_sure}
use Rattle.show_judge.specs.Input.{IsShowText}
use Rattle.show_looks.proofs.drilling.answer_drill.Goals as goal

pub returns-clause-gives : goal.returns-clause-gives
returns-clause-gives c =
    let s = c.make-source.result in
    let here = (c.in_ok-text.ensures.reads.fact (s.given ++ s.left) (told_input (told_sure s) _ s.left c.in_ok-text.ensures.reads.gives refl (empty s.left))).show in
    let there = subst (λ (x : SureIn). IsShowText c.in_ok-text.text (cut_of (drop (length x.given) (x.given ++ x.left)))) c.make-source.ensures here in
    c.in_ok-answer_text.ensures.gives (cut_of (drill_text c.args.drones)) (subst (λ (all : List ℕ). IsShowText c.in_ok-text.text (cut_of all)) c.in_ok-drill_text.ensures there)

pub returns-clause-safe : goal.returns-clause-safe
returns-clause-safe c =
    let s = c.make-source.result in
    let here = (c.in_ok-text.ensures.reads.fact (s.given ++ s.left) (told_input (told_sure s) _ s.left c.in_ok-text.ensures.reads.gives refl (empty s.left))).show in
    let there = subst (λ (x : SureIn). IsShowText c.in_ok-text.text (cut_of (drop (length x.given) (x.given ++ x.left)))) c.make-source.ensures here in
    c.in_ok-answer_text.ensures.safe (cut_of (drill_text c.args.drones)) (subst (λ (all : List ℕ). IsShowText c.in_ok-text.text (cut_of all)) c.in_ok-drill_text.ensures there)

use Rattle.sep_parts.proofs.Prelude.{arith, ◌≡◌, ◌∙◌, ◌+◌, ◌<◌, ◌≤◌, List, Level, length, subst, sym}
use Rattle.sep_parts.proofs.Stacks.{after_split, first_of, room_left, split_places}
use Rattle.sep_parts.proofs.waiting.Waiting.split.Goals as goal

pub halve-requires-clause-shallow : goal.halve-requires-clause-shallow
halve-requires-clause-shallow c =
    let from : c.split_at_mut-before.result.1.now ≡ c.args.self.now = c.split_at_mut-before.ensures.back ∙ c.self.view_is in
    first_of (λ (level : Level). level.place.depth < 8) c.split_at_mut-before.result.1.now _ (subst (λ (xs : List Level). 1 ≤ length xs) (sym from) c.requires.some)
    (λ level rest is. c.requires.shallow level rest (sym from ∙ is))

pub returns-clause-places : goal.returns-clause-places
returns-clause-places c level rest is =
    let from : c.split_at_mut-before.result.1.now ≡ c.args.self.now = c.split_at_mut-before.ensures.back ∙ c.self.view_is in
    let some : 1 ≤ length c.split_at_mut-before.result.1.now = subst (λ (xs : List Level). 1 ≤ length xs) (sym from) c.requires.some in
    let counted : length c.args.self.now + c.self.inside.top ≡ 9 = subst (λ (xs : List Level). length xs + c.self.inside.top ≡ 9) from (omega (arith, c.split_at_mut-before.ensures.back_len, c.self.invariant.1)) in
    let above : 1 ≤ c.self.inside.top = room_left c.args.diff.now c.args.self.now c.self.inside.top counted c.requires.some c.requires.stack c.requires.shallow in
    split_places c.split_at_mut-before.result.1.now rest _ level c.halve.new.first c.halve.new.self _
    (after_split c.self.inside.top c.split_at_mut-before.result.0.now c.split_at_mut-before.result.1.now c.halve.new.first c.halve.new.self above c.split_at_mut-before.ensures.front_len some)
    (from ∙ is) c.halve.ensures.left_place c.halve.ensures.right_place

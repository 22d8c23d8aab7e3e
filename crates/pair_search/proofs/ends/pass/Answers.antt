use Rattle.pair_search.proofs.EndLemmas.{leaf_many, leaf_told, room_told, split_many, split_told}
use Rattle.pair_search.proofs.ends.pass.Goals as goal

pub split-requires-clause-room : goal.split-requires-clause-room
split-requires-clause-room c = room_told c.args.diff.now c.args.waiting.now c.args.node _ c.requires.some c.requires.stack c.requires.shallow c.in-Split.is c.requires.as_many

pub returns-in-Leaf-clause-as_many : goal.returns-in-Leaf-clause-as_many
returns-in-Leaf-clause-as_many c =
    leaf_many c.args.waiting.now c.pass.new.self c.args.ends.now c.drop_next.new.self c.args.node c.requires.some c.requires.as_many c.pass.ensures.places c.in-Leaf.dir c.in-Leaf.is c.drop_next.ensures

pub returns-in-Leaf-clause-told : goal.returns-in-Leaf-clause-told
returns-in-Leaf-clause-told c = λ m few opposites tells.
    leaf_told c.args.waiting.now c.pass.new.self c.args.ends.now c.drop_next.new.self c.args.node c.requires.some c.requires.as_many c.pass.ensures.places m c.args.diff.now c.in-Leaf.dir c.in-Leaf.is c.drop_next.ensures tells

pub returns-in-Split-clause-as_many : goal.returns-in-Split-clause-as_many
returns-in-Split-clause-as_many c =
    split_many c.args.waiting.now c.pass.new.self c.args.ends.now c.split.new.self c.args.node c.requires.some c.requires.as_many c.pass.ensures.places c.marks_between-middle.result c.in-Split.is c.split.ensures

pub returns-in-Split-clause-told : goal.returns-in-Split-clause-told
returns-in-Split-clause-told c = λ m few opposites tells.
    split_told c.args.waiting.now c.pass.new.self c.args.ends.now c.split.new.self c.args.node c.requires.some c.requires.as_many c.pass.ensures.places m c.args.diff.now c.args.opposites.now c.marks_between-middle.result few opposites c.in-Split.is c.split.ensures
    c.pass.ensures.stack c.marks_between-middle.ensures tells

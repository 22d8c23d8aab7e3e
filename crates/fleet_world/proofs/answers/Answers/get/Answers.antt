use Rattle.fleet_world.proofs.Prelude.{common_steps, ◌∙◌, ℕ, List, Some, length, get_or, ap, sym, subst, arith, slice_get, slice_range, cut, AreEnds}
use Rattle.fleet_world.proofs.CutLemmas.{IsPiece, piece-at, piece-past}
use Rattle.fleet_world.proofs.answers.Answers.get.Goals as goal
use Rattle.fleet_world.proofs.answers.Answers.get.Goals.{After-as_slice}

pub returns-then-n-ends : goal.returns-then-n-ends
returns-then-n-ends c = grind (arith, common_steps, piece-past)

piece : (c : After-as_slice) → IsPiece 0 (length c.self.inside.bytes.items) c.self.inside.bytes.items c.as_slice-ends.result.now c.args.n
piece c =
    piece-at 0 (length c.self.inside.bytes.items) c.self.inside.bytes.items c.as_slice-ends.result.now c.args.n
    (subst (λ (es : List ℕ). AreEnds 0 es (length c.self.inside.bytes.items)) (sym c.as_slice-ends.ensures.value) c.self.invariant) c.if-n-ends.false

pub packet_of-requires-clause-some : goal.packet_of-requires-clause-some
packet_of-requires-clause-some c = let some = (piece (goal.at.packet_of-requires-clause-some c).After-as_slice).some in let start = c.begin-start.ensures in omega (arith, some, start)

pub packet_of-requires-clause-few : goal.packet_of-requires-clause-few
packet_of-requires-clause-few c = let few = (piece (goal.at.packet_of-requires-clause-few c).After-as_slice).few in let start = c.begin-start.ensures in omega (arith, few, start)

pub packet_of-requires-clause-inside : goal.packet_of-requires-clause-inside
packet_of-requires-clause-inside c =
    let inside = (piece (goal.at.packet_of-requires-clause-inside c).After-as_slice).inside in
    let n = ap (λ (bs : List ℕ). length bs) c.as_slice.ensures.value in omega (arith, inside, n)

pub returns : goal.returns
returns c =
    ap Some (c.packet_of.ensures
    ∙ ap (λ (bs : List ℕ). slice_range bs c.begin-start.result (get_or c.as_slice-ends.result.now c.args.n 0)) c.as_slice.ensures.value
    ∙ ap (λ (i : ℕ). slice_range c.self.inside.bytes.items i (get_or c.as_slice-ends.result.now c.args.n 0)) c.begin-start.ensures)
    ∙ sym (piece (goal.at.returns c).After-as_slice).found
    ∙ ap (λ (es : List ℕ). slice_get (cut 0 c.self.inside.bytes.items es) c.args.n) c.as_slice-ends.ensures.value
    ∙ ap (λ (ps : List (List ℕ)). slice_get ps c.args.n) c.self.view_is

use Rattle.traj_codec.proofs.Prelude.{◌≡◌, ◌+◌, length, take, ap, ◌∙◌, sym, arith, flat_map, take_all, segment}
use Rattle.traj_codec.proofs.Sizes.{total_size}
use Rattle.traj_codec.proofs.writing.size_of.Goals as goal

pub returns-clause-exact : goal.returns-clause-exact
returns-clause-exact c =
    let all : take c.loop-s.s-index c.args.t.now.segments ≡ c.args.t.now.segments = take_all _ _ (omega (arith, ap length c.as_slice-s-items.ensures)) in
    c.loop-s.invariant.so_far ∙ ap (λ xs. 11 + length (flat_map segment xs)) all ∙ sym (total_size c.args.t.now.start (flat_map segment c.args.t.now.segments) (omega arith))

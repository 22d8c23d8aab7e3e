use Rattle.sep_parts.proofs.Prelude.{arith, ◌≡◌, length}
use Rattle.sep_parts.proofs.Stacks.{begun}
use Rattle.sep_parts.proofs.waiting.Waiting.begin.Goals as goal

pub returns : goal.returns
returns c =
    let one : length c.split_at_mut-from.result.1.now ≡ 1 = omega (arith, c.split_at_mut-from.ensures.back_len, c.self.invariant.1) in
    begun c.split_at_mut-from.result.0.now c.split_at_mut-from.result.1.now c.begin.new.self _ c.split_at_mut-from.ensures.front_len one c.begin.ensures

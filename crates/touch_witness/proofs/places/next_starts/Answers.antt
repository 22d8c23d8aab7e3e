use Rattle.touch_witness.proofs.Prelude.{◌≡◌, ◌+◌, ◌<◌, length, length-set, arith, ◌∙◌, slice_get_within, Traj, Start, IsStart, no_start, item_there}
use Rattle.touch_witness.proofs.Begins.{filled_more}
use Rattle.touch_witness.proofs.places.next_starts.Goals as goal

pub next_start-requires-clause-start : goal.next_start-requires-clause-start
next_start-requires-clause-start c = c.requires.starts c.loop-k.k c.index-trajs-k.result (item_there c.args.trajs.now c.loop-k.k c.index-trajs-k.result c.index-trajs-k.is (omega arith))

pub loop-k-preserved : goal.loop-k-preserved
loop-k-preserved c =
    let len : length c.loop-k.all ≡ 32 = c.loop-k.invariant.size in
    record {
      size = length-set c.loop-k.all c.loop-k.k c.next_start.result ∙ len;
      starts = filled_more (λ (t : Traj) (s : Start). IsStart t (c.args.cue + 1) s) c.args.trajs.now c.loop-k.all c.loop-k.k c.index-trajs-k.result c.next_start.result no_start (omega arith) c.index-trajs-k.is c.loop-k.invariant.starts c.next_start.ensures;
    }

pub returns : goal.returns
returns c k t there = let inside : k < length c.args.trajs.now = slice_get_within c.args.trajs.now k t there in c.loop-k.invariant.starts k (omega arith) t there

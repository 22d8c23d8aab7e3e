use Rattle.touch_witness.proofs.Prelude.{common_steps, ◌≡◌, ◌<◌, ℕ, pos, length, length-set, refl, ◌∙◌, arith, ints, slice_get_within, Traj, Point, IsNear, IsPlace, IsShort, no_point, item_there, All-set}
use Rattle.touch_witness.proofs.Begins.{filled_more, all_copies}
use Rattle.touch_witness.proofs.places.places.Goals as goal

short_none : IsShort no_point
short_none = record { x = (omega (arith, ints), omega (arith, ints)); y = (omega (arith, ints), omega (arith, ints)); z = (omega (arith, ints), omega (arith, ints)) }

near_none : (fine : ℕ) → IsNear fine no_point
near_none fine = grind (arith, common_steps, ints, pos)

pub loop-k-init : goal.loop-k-init
loop-k-init c = record { size = refl; places = λ j low. absurd (omega arith); short = all_copies IsShort 32 no_point short_none; near = all_copies (IsNear c.args.fine) 32 no_point (near_none c.args.fine) }

pub place_of-requires-clause-start : goal.place_of-requires-clause-start
place_of-requires-clause-start c = c.requires.starts c.loop-k.k c.index-trajs-k.result (item_there c.args.trajs.now c.loop-k.k c.index-trajs-k.result c.index-trajs-k.is (omega arith))

pub loop-k-preserved : goal.loop-k-preserved
loop-k-preserved c =
    let len : length c.loop-k.all ≡ 32 = c.loop-k.invariant.size in
    record {
      size = length-set c.loop-k.all c.loop-k.k c.place_of.result ∙ len;
      places = filled_more (λ (t : Traj) (p : Point). IsPlace t c.args.fine c.args.cue c.args.at p) c.args.trajs.now c.loop-k.all c.loop-k.k c.index-trajs-k.result c.place_of.result no_point (omega arith) c.index-trajs-k.is c.loop-k.invariant.places c.place_of.ensures.place;
      short = All-set IsShort c.loop-k.all c.loop-k.k c.place_of.result c.place_of.ensures.short c.loop-k.invariant.short;
      near = All-set (IsNear c.args.fine) c.loop-k.all c.loop-k.k c.place_of.result c.place_of.ensures.near c.loop-k.invariant.near;
    }

pub returns-clause-places : goal.returns-clause-places
returns-clause-places c k t there = let inside : k < length c.args.trajs.now = slice_get_within c.args.trajs.now k t there in c.loop-k.invariant.places k (omega arith) t there

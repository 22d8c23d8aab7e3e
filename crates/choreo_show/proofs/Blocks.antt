-- The blocks of a body, seen without where they lie in memory.
use Rattle.std.proofs.Common.{◌≡◌, ℕ, suc, true, false, List, [], ◌∷◌, ◌++◌, length, refl, sym, ap, ◌∙◌}
use Rattle.std.specs.Prelude.{◌==◌, not}
use Rattle.std.proofs.Math.Dec.{eqb-suc-zero}
use Rattle.choreo_show.specs.Plain as plain
use Rattle.choreo_show.specs.Plain.{Body, ◌⨾◌, block_of, block_step, blocks_then, body_of, has_block}
use Rattle.choreo_show.specs.declared.show.Block.{Block, Block-F}
use Rattle.choreo_show.specs.declared.show.Block.TheOpen as layer
use Rattle.choreo_show.specs.declared.show.Block.TheVariants as block
use Rattle.choreo_show.specs.declared.show.Block.TheViews.{out-Block, roll-Block}
use Rattle.choreo_show.specs.declared.show.Block.TheFolds.{fold-roll-Block, fold_out-Block, map-Block}
use Rattle.choreo_show.specs.declared.show.ActLine.{ActLine}
use Rattle.std.specs.Prelude.{Vec}
use Rattle.std.specs.declared.alloc.Global.{Global}

-- a block by its layer
pub block_roll : (x : Block-F Block) → block_of (roll-Block x) ≡ block_step (map-Block Block (Body → Body) block_of x)
block_roll = fold-roll-Block (Body → Body) block_step

pub block_out : (b : Block) → block_of b ≡ block_step (map-Block Block (Body → Body) block_of (out-Block b))
block_out = fold_out-Block (Body → Body) block_step

pub cue_is : (line ms : ℕ) (acts : List ActLine) (rest : Body) → block_of (block.Cue line ms acts) rest ≡ plain.Cue line ms acts rest
cue_is line ms acts rest =
    ap (λ b. block_of b rest) (sym (block.rolls-Cue line ms acts)) ∙ ap (λ (f : Body → Body). f rest) (block_roll (layer.Cue line ms acts))

pub repeat_is : (line times : ℕ) (v : Vec Block Global) (rest : Body) → block_of (block.Repeat line times v) rest ≡ plain.Repeat line times (body_of v.items) rest
repeat_is line times v rest =
    ap (λ b. block_of b rest) (sym (block.rolls-Repeat line times v)) ∙ ap (λ (f : Body → Body). f rest) (block_roll (layer.Repeat line times v))

step_then : (x : Block-F (Body → Body)) (rest : Body) → block_step x rest ≡ block_step x plain.Done ⨾ rest
step_then (layer.Cue line ms acts) rest = refl
step_then (layer.Repeat line times v) rest = refl
step_then (layer.Perform line figure frame drones) rest = refl

pub block_then : (b : Block) (rest : Body) → block_of b rest ≡ block_of b plain.Done ⨾ rest
block_then b rest =
    ap (λ (f : Body → Body). f rest) (block_out b)
    ∙ step_then (map-Block Block (Body → Body) block_of (out-Block b)) rest
    ∙ ap (λ (f : Body → Body). f plain.Done ⨾ rest) (sym (block_out b))

pub body_assoc : (a b c : Body) → (a ⨾ b) ⨾ c ≡ a ⨾ (b ⨾ c)
body_assoc plain.Done b c = refl
body_assoc (plain.Cue line ms acts rest) b c = ap (plain.Cue line ms acts) (body_assoc rest b c)
body_assoc (plain.Repeat line times inside rest) b c = ap (plain.Repeat line times inside) (body_assoc rest b c)
body_assoc (plain.Perform line figure frame drones rest) b c = ap (plain.Perform line figure frame drones) (body_assoc rest b c)

pub body_done : (a : Body) → a ⨾ plain.Done ≡ a
body_done plain.Done = refl
body_done (plain.Cue line ms acts rest) = ap (plain.Cue line ms acts) (body_done rest)
body_done (plain.Repeat line times inside rest) = ap (plain.Repeat line times inside) (body_done rest)
body_done (plain.Perform line figure frame drones rest) = ap (plain.Perform line figure frame drones) (body_done rest)

-- one more block
pub body_push : (bs : List Block) (b : Block) → body_of (bs ++ b ∷ []) ≡ body_of bs ⨾ block_of b plain.Done
body_push [] b = refl
body_push (a ∷ bs) b =
    block_then a (body_of (bs ++ b ∷ []))
    ∙ ap (λ c. block_of a plain.Done ⨾ c) (body_push bs b)
    ∙ sym (body_assoc (block_of a plain.Done) (body_of bs) (block_of b plain.Done))
    ∙ ap (λ c. c ⨾ block_of b plain.Done) (sym (block_then a (body_of bs)))

suc_not_zero : (n : ℕ) → (suc n == 0) ≡ false
suc_not_zero n = eqb-suc-zero n

step_has : (x : Block-F (Body → Body)) (rest : Body) → has_block (block_step x rest) ≡ true
step_has (layer.Cue line ms acts) rest = refl
step_has (layer.Repeat line times v) rest = refl
step_has (layer.Perform line figure frame drones) rest = refl

-- a body is empty where its list of blocks is
pub blocks_none : (bs : List Block) → not (has_block (body_of bs)) ≡ (length bs == 0)
blocks_none [] = refl
blocks_none (b ∷ bs) =
    ap not (ap (λ (f : Body → Body). has_block (f (body_of bs))) (block_out b) ∙ step_has (map-Block Block (Body → Body) block_of (out-Block b)) (body_of bs))
    ∙ sym (suc_not_zero (length bs))

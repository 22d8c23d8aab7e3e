-- The first fault of some blocks.
use Rattle.cue_grid.proofs.Prelude.{common_steps, ◌≡◌, ℕ, ◌+◌, ◌<◌, ◌≤◌, List, [], ◌∷◌, ◌++◌, length, get_or, drop, drop-cons, add-one, Option, Some, None, refl, sym, ap, ◌∙◌, append_assoc, arith, Vec, drop_all, append-nil, Name, Body, PlainShow, ◌⨾◌, block_of, body_of, block_then, repeat_is, Block, Global, names_of, figure_named, first_of, act_faults, perform_faults, body_faults, GridFault}
use Rattle.choreo_show.specs.Plain as plain
use Rattle.choreo_show.specs.declared.show.Block.TheVariants as block

pub first_here : (xs ys : List GridFault) (f : GridFault) → first_of xs ≡ Some f → first_of (xs ++ ys) ≡ Some f
first_here [] ys f h = cc
first_here (x ∷ xs) ys f h = h

pub first_later : (xs ys : List GridFault) → first_of xs ≡ None → first_of (xs ++ ys) ≡ first_of ys
first_later [] ys h = refl
first_later (x ∷ xs) ys h = cc

pub body_faults-then : (s : PlainShow) (known : List Name) (a b : Body) → body_faults s known (a ⨾ b) ≡ body_faults s known a ++ body_faults s known b
body_faults-then s known plain.Done b = refl
body_faults-then s known (plain.Cue line ms acts rest) b =
    ap (λ xs. act_faults known s.formations [] acts ++ xs) (body_faults-then s known rest b)
    ∙ sym (append_assoc (act_faults known s.formations [] acts) (body_faults s known rest) (body_faults s known b))
body_faults-then s known (plain.Repeat line times inside rest) b =
    ap (λ xs. body_faults s known inside ++ xs) (body_faults-then s known rest b)
    ∙ sym (append_assoc (body_faults s known inside) (body_faults s known rest) (body_faults s known b))
body_faults-then s known (plain.Perform line figure frame drones rest) b =
    ap (λ xs. perform_faults (names_of s.drones) line (figure_named s.figures figure) drones ++ xs) (body_faults-then s known rest b)
    ∙ sym (append_assoc (perform_faults (names_of s.drones) line (figure_named s.figures figure) drones) (body_faults s known rest) (body_faults s known b))

body_first : (s : PlainShow) (known : List Name) (bs : List Block) (i : ℕ) (b : Block) → i < length bs → b ≡ get_or bs i b → body_faults s known (body_of (drop i bs)) ≡ body_faults s known (block_of b plain.Done) ++ body_faults s known (body_of (drop (i + 1) bs))
body_first s known bs i b h e = grind (arith, common_steps, drop-cons, block_then, drop, body_faults-then, add-one)

-- a fault of the block at hand is the first one
pub body_here : (s : PlainShow) (known : List Name) (bs : List Block) (i : ℕ) (b : Block) (o : Option GridFault) (f : GridFault) → i < length bs → b ≡ get_or bs i b → o ≡ first_of (body_faults s known (block_of b plain.Done)) → o ≡ Some f → Some f ≡ first_of (body_faults s known (body_of (drop i bs)))
body_here s known bs i b o f h e g k =
    sym (ap first_of (body_first s known bs i b h e) ∙ first_here (body_faults s known (block_of b plain.Done)) (body_faults s known (body_of (drop (i + 1) bs))) f (sym g ∙ k))

-- without one it is that of the blocks after it
pub body_later : (s : PlainShow) (known : List Name) (bs : List Block) (i : ℕ) (b : Block) (o : Option GridFault) → i < length bs → b ≡ get_or bs i b → o ≡ first_of (body_faults s known (block_of b plain.Done)) → o ≡ None → first_of (body_faults s known (body_of (drop i bs))) ≡ first_of (body_faults s known (body_of (drop (i + 1) bs)))
body_later s known bs i b o h e g k =
    ap first_of (body_first s known bs i b h e) ∙ first_later (body_faults s known (block_of b plain.Done)) (body_faults s known (body_of (drop (i + 1) bs))) (sym g ∙ k)

-- a repeat has the faults of its body
pub repeat_faults : (s : PlainShow) (known : List Name) (b : Block) (line times : ℕ) (v : Vec Block Global) (items : List Block) → b ≡ block.Repeat line times v → items ≡ v.items → first_of (body_faults s known (body_of items)) ≡ first_of (body_faults s known (block_of b plain.Done))
repeat_faults s known b line times v items e f = grind (arith, common_steps, append-nil, repeat_is)

pub body_end : (s : PlainShow) (known : List Name) (bs : List Block) (i : ℕ) → length bs ≤ i → first_of (body_faults s known (body_of (drop i bs))) ≡ None
body_end s known bs i h = ap (λ xs. first_of (body_faults s known (body_of xs))) (drop_all i bs h)

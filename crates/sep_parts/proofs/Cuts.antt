-- Nodes that are cut at places.
use Rattle.sep_parts.proofs.Prelude.{common_steps, ◌≡◌, ℕ, zero, suc, ◌+◌, ◌-◌, ◌<◌, ◌≤◌, List, [], ◌∷◌, ◌++◌, length, take, drop, get_or, refl, ap, ◌∙◌, arith, drop-append-le, take-append-le, take_all, length-drop, Node, begin_of, cut, AreEnds}
use Rattle.std.specs.Prelude.{slice_range}
use Rattle.std.proofs.Math.Seq.{drop-append_seam}

ends-after : (from to : ℕ) (ends : List ℕ) → AreEnds from ends to → from ≤ to
ends-after from to [] h = omega arith
ends-after from to (e ∷ ends) h = let l = h.0 in let m = ends-after e to ends h.1 in omega arith

-- ---- one piece
pub begin-later : (from : ℕ) (ends : List ℕ) (n : ℕ) → n < length ends → begin_of from ends (suc n) ≡ get_or ends n 0
begin-later from [] n l = absurd (omega arith)
begin-later from (e ∷ ends) zero l = refl
begin-later from (e ∷ ends) (suc n) l = begin-later e ends n (omega arith)

-- piece n lies inside
pub record IsPiece (from to : ℕ) (nodes : List Node) (ends : List ℕ) (n : ℕ) : Type 0 where
  pub found : get_or (cut from nodes ends) n [] ≡ slice_range nodes (begin_of from ends n) (get_or ends n 0)
  pub order : begin_of from ends n ≤ get_or ends n 0
  pub inside : get_or ends n 0 ≤ to

pub piece-at : (from to : ℕ) (nodes : List Node) (ends : List ℕ) (n : ℕ) → AreEnds from ends to → n < length ends → IsPiece from to nodes ends n
piece-at from to nodes [] n h l = absurd (omega arith)
piece-at from to nodes (e ∷ ends) zero h l = record { found = refl; order = h.0; inside = ends-after e to ends h.1 }
piece-at from to nodes (e ∷ ends) (suc n) h l =
    let rest = piece-at e to nodes ends n h.1 (omega arith) in record { found = rest.found; order = rest.order; inside = rest.inside }

pub length-cut : (from : ℕ) (nodes : List Node) (ends : List ℕ) → length (cut from nodes ends) ≡ length ends
length-cut from nodes [] = refl
length-cut from nodes (e ∷ ends) = ap suc (length-cut e nodes ends)

-- piece k of those that there are
pub piece-of : (nodes : List Node) (ends : List ℕ) (all : List (List Node)) (k : ℕ) → cut 0 nodes ends ≡ all → AreEnds 0 ends (length nodes) → k < length all →
    (k < length ends) × IsPiece 0 (length nodes) nodes ends k
piece-of nodes ends all k is h l =
    let inside : k < length ends = omega (arith, length-cut 0 nodes ends, ap (λ (ts : List (List Node)). length ts) is, l) in (inside, piece-at 0 (length nodes) nodes ends k h inside)

-- ---- one piece more
pub ends-more : (from to n : ℕ) (ends : List ℕ) → AreEnds from ends to → AreEnds from (ends ++ (to + n) ∷ []) (to + n)
ends-more from to n [] h = (omega (arith, h), refl)
ends-more from to n (e ∷ ends) h = (h.0, ends-more e to n ends h.1)

-- a piece stays when nodes are put behind
piece-stays : (nodes more : List Node) (a b : ℕ) → a ≤ b → b ≤ length nodes → slice_range (nodes ++ more) a b ≡ slice_range nodes a b
piece-stays nodes more a b l m =
    ap (take (b - a)) (drop-append-le a nodes more (omega arith))
    ∙ take-append-le (b - a) (drop a nodes) more (let n = length-drop a nodes in omega arith)

piece-last : (nodes more : List Node) → slice_range (nodes ++ more) (length nodes) (length nodes + length more) ≡ more
piece-last nodes more =
    ap (take (length nodes + length more - length nodes)) (drop-append_seam nodes more)
    ∙ take_all (length nodes + length more - length nodes) more (omega arith)

pub cut-more : (from : ℕ) (nodes more : List Node) (ends : List ℕ) → AreEnds from ends (length nodes) →
    cut from (nodes ++ more) (ends ++ (length nodes + length more) ∷ []) ≡ cut from nodes ends ++ more ∷ []
cut-more from nodes more [] h =
    ap (λ (p : List Node). p ∷ []) (ap (λ (i : ℕ). slice_range (nodes ++ more) i (length nodes + length more)) h ∙ piece-last nodes more)
cut-more from nodes more (e ∷ ends) h = grind (arith, common_steps, piece-stays, ends-after, (cut-more e nodes more ends h.1))

-- Bytes that are cut at places.
use Rattle.fleet_world.proofs.Prelude.{common_steps, ◌≡◌, ℕ, zero, suc, ◌+◌, ◌-◌, ◌<◌, ◌≤◌, List, [], ◌∷◌, ◌++◌, length, take, drop, get_or, refl, ap, ◌∙◌, arith, Some, None, slice_get, slice_range, drop-append-le, take-append-le, take_all, length-drop, slice_get_past, begin_of, cut, AreEnds}
use Rattle.std.proofs.Math.Seq.{drop-append_seam}

ends-after : (from to : ℕ) (ends : List ℕ) → AreEnds from ends to → from ≤ to
ends-after from to [] h = omega arith
ends-after from to (e ∷ ends) h = let l = h.0 in let m = ends-after e to ends h.2 in omega arith

-- ---- one piece

pub begin-later : (from : ℕ) (ends : List ℕ) (n : ℕ) → n < length ends → begin_of from ends (suc n) ≡ get_or ends n 0
begin-later from [] n l = absurd (omega arith)
begin-later from (e ∷ ends) zero l = refl
begin-later from (e ∷ ends) (suc n) l = begin-later e ends n (omega arith)

-- piece n: it is a packet, and lies inside
pub record IsPiece (from to : ℕ) (bytes ends : List ℕ) (n : ℕ) : Type 0 where
  pub found : slice_get (cut from bytes ends) n ≡ Some (slice_range bytes (begin_of from ends n) (get_or ends n 0))
  pub some : begin_of from ends n < get_or ends n 0
  pub few : get_or ends n 0 ≤ begin_of from ends n + 31
  pub inside : get_or ends n 0 ≤ to

pub piece-at : (from to : ℕ) (bytes ends : List ℕ) (n : ℕ) → AreEnds from ends to → n < length ends → IsPiece from to bytes ends n
piece-at from to bytes [] n h l = absurd (omega arith)
piece-at from to bytes (e ∷ ends) zero h l = record { found = refl; some = h.0; few = h.1; inside = ends-after e to ends h.2 }
piece-at from to bytes (e ∷ ends) (suc n) h l =
    let rest = piece-at e to bytes ends n h.2 (omega arith) in record { found = rest.found; some = rest.some; few = rest.few; inside = rest.inside }

length-cut : (from : ℕ) (bytes ends : List ℕ) → length (cut from bytes ends) ≡ length ends
length-cut from bytes [] = refl
length-cut from bytes (e ∷ ends) = ap suc (length-cut e bytes ends)

pub piece-past : (from : ℕ) (bytes ends : List ℕ) (n : ℕ) → length ends ≤ n → slice_get (cut from bytes ends) n ≡ None
piece-past from bytes ends n past = slice_get_past (cut from bytes ends) n (let same = length-cut from bytes ends in omega arith)

-- ---- one piece more

pub ends-more : (from to n : ℕ) (ends : List ℕ) → AreEnds from ends to → 1 ≤ n → n ≤ 31 → AreEnds from (ends ++ (to + n) ∷ []) (to + n)
ends-more from to n [] h some few = (omega (arith, h), omega (arith, h), refl)
ends-more from to n (e ∷ ends) h some few = (h.0, h.1, ends-more e to n ends h.2 some few)

-- a piece stays when bytes are put after it
piece-stays : (bytes more : List ℕ) (a b : ℕ) → a ≤ b → b ≤ length bytes → slice_range (bytes ++ more) a b ≡ slice_range bytes a b
piece-stays bytes more a b l m =
    ap (take (b - a)) (drop-append-le a bytes more (omega arith))
    ∙ take-append-le (b - a) (drop a bytes) more (let n = length-drop a bytes in omega arith)

piece-last : (bytes more : List ℕ) → slice_range (bytes ++ more) (length bytes) (length bytes + length more) ≡ more
piece-last bytes more =
    ap (take (length bytes + length more - length bytes)) (drop-append_seam bytes more)
    ∙ take_all (length bytes + length more - length bytes) more (omega arith)

pub cut-more : (from : ℕ) (bytes more ends : List ℕ) → AreEnds from ends (length bytes) →
    cut from (bytes ++ more) (ends ++ (length bytes + length more) ∷ []) ≡ cut from bytes ends ++ more ∷ []
cut-more from bytes more [] h =
    ap (λ (p : List ℕ). p ∷ []) (ap (λ (i : ℕ). slice_range (bytes ++ more) i (length bytes + length more)) h ∙ piece-last bytes more)
cut-more from bytes more (e ∷ ends) h = grind (arith, common_steps, piece-stays, ends-after, (cut-more e bytes more ends h.2))

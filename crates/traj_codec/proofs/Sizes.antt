-- How many bytes numbers take.
use Rattle.traj_codec.proofs.Prelude.{common_steps, ◌≡◌, ℕ, ◌+◌, ◌*◌, ℤ, List, [], ◌∷◌, ◌++◌, length, get_or, refl, ap, ◌∙◌, length-append, arith, flat_map, Element, number, numbers, stored, bodies}

pub length-numbers : (zs : List ℤ) → length (numbers zs) ≡ 2 * length zs
length-numbers [] = refl
length-numbers (z ∷ zs) = omega (arith, length-append (number z) (numbers zs), length-numbers zs)

pub length-elements : (x y z yaw : Element) → length (bodies (x ∷ y ∷ z ∷ yaw ∷ [])) ≡ 2 * (length (stored x) + length (stored y) + length (stored z) + length (stored yaw))
length-elements x y z yaw = grind (arith, common_steps, length-append, length-numbers)

pub four : {X : Type 0} (xs : List X) (d : X) → length xs ≡ 4 → xs ≡ get_or xs 0 d ∷ get_or xs 1 d ∷ get_or xs 2 d ∷ get_or xs 3 d ∷ []
four [] d e = absurd (omega arith)
four (a ∷ []) d e = absurd (omega arith)
four (a ∷ b ∷ []) d e = absurd (omega arith)
four (a ∷ b ∷ c ∷ []) d e = absurd (omega arith)
four (a ∷ b ∷ c ∷ f ∷ []) d e = refl
four (a ∷ b ∷ c ∷ f ∷ g ∷ xs) d e = absurd (omega arith)

pub elements_size : (es : List Element) (d : Element) → length es ≡ 4 → length (bodies es) ≡ 2 * (length (stored (get_or es 0 d)) + length (stored (get_or es 1 d)) + length (stored (get_or es 2 d)) + length (stored (get_or es 3 d)))
elements_size es d e = ap (λ (xs : List Element). length (flat_map (λ (x : Element). numbers (stored x)) xs)) (four es d e) ∙ length-elements (get_or es 0 d) (get_or es 1 d) (get_or es 2 d) (get_or es 3 d)

pub total_size : (start : List ℤ) (segments : List ℕ) → length start ≡ 4 → length ((numbers start ++ segments) ++ 0 ∷ 0 ∷ 0 ∷ []) ≡ 11 + length segments
total_size start segments four = omega (arith, length-append (numbers start ++ segments) (0 ∷ 0 ∷ 0 ∷ []), length-append (numbers start) segments, length-numbers start)

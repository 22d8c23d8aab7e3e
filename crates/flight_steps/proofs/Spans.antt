-- Spans with values more.
use Rattle.flight_steps.proofs.Prelude.{◌≡◌, ◌<◌, ◌+◌, ◌∷◌, ◌++◌, ◌∙◌, [], List, refl, sym, ap, Some, None, Option, ℕ, suc, length, drop, drop-cons, get_or, arith, flat_map, ℤ, pos, Traj, values_on, all_values, with_values, span_of, with_more, with_one, unwrap_or}
use Rattle.flight_model.specs.declared.flights.Span.{Span}
use Rattle.std.proofs.lemmas.Grind.{flat_map-append}

with_more-append : (s : Option Span) (us vs : List ℤ) → with_more s (us ++ vs) ≡ with_more (with_more s us) vs
with_more-append s [] vs = refl
with_more-append s (u ∷ us) vs = with_more-append (Some (with_one s u)) us vs

-- ---- one thing more of what is left

dropped : {A : Type 0} (xs : List A) (k : ℕ) (x d : A) → k < length xs → x ≡ get_or xs k d → drop k xs ≡ x ∷ drop (k + 1) xs
dropped xs k x d l is = drop-cons xs k d l ∙ (ap (λ z. z ∷ drop (suc k) xs) (sym is) ∙ (let e : suc k ≡ k + 1 = omega arith in ap (λ n. x ∷ drop n xs) e))

pub step-in : {A : Type 0} (h : A → List ℤ) (s t old : Option Span) (xs : List A) (k : ℕ) (x d : A) → k < length xs → x ≡ get_or xs k d → t ≡ with_more s (h x) →
    with_more s (flat_map h (drop k xs)) ≡ old → with_more t (flat_map h (drop (k + 1) xs)) ≡ old
step-in h s t old xs k x d l is more before =
    ap (λ u. with_more u (flat_map h (drop (k + 1) xs))) more
    ∙ (sym (with_more-append s (h x) (flat_map h (drop (k + 1) xs)))
    ∙ (ap (λ ys. with_more s (flat_map h ys)) (sym (dropped xs k x d l is)) ∙ before))

-- ---- all of them

some : (s : Span) (vs : List ℤ) → with_more (Some s) vs ≡ Some (with_values s vs)
some s [] = refl
some s (v ∷ vs) = some (with_one (Some s) v) vs

pub span-is : (vs : List ℤ) → unwrap_or (with_more None vs) (record { low = pos 0; high = pos 0 }) ≡ span_of vs
span-is [] = refl
span-is (v ∷ vs) = ap (λ (s : Option Span). unwrap_or s (record { low = pos 0; high = pos 0 })) (some (with_one None v) vs)

-- the values of three lists of curves, one after the other
pub three : (axis : ℕ) (s : Option Span) (ups shows downs : List Traj) →
    with_more (with_more (with_more s (all_values axis ups)) (all_values axis shows)) (all_values axis downs) ≡ with_more s (all_values axis (ups ++ (shows ++ downs)))
three axis s ups shows downs =
    sym (ap (λ vs. with_more s vs) (flat_map-append (values_on axis) ups (shows ++ downs) ∙ ap (λ vs. all_values axis ups ++ vs) (flat_map-append (values_on axis) shows downs))
    ∙ (with_more-append s (all_values axis ups) (all_values axis shows ++ all_values axis downs)
    ∙ with_more-append (with_more s (all_values axis ups)) (all_values axis shows) (all_values axis downs)))

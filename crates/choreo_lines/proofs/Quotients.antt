-- Quotients that are whole numbers.
use Rattle.choreo_lines.proofs.Prelude.{◌≡◌, ℕ, ◌+◌, ◌*◌, ◌/◌, ◌%◌, ◌<◌, Bool, true, false, cond, Some, None, refl, ap, ◌∙◌, arith, eqb-true, ne_eqb, ◌==◌, exactly, div-add-mod', div-mul-add, mod-mul-add}

by_rest : (a b r q : ℕ) → a % b ≡ r → a / b ≡ q → exactly a b ≡ cond (r == 0) (Some q) None
by_rest a b r q rest is = rw (rest, is) refl

pub exactly_is : (a b q : ℕ) → 0 < b → q * b ≡ a → exactly a b ≡ Some q
exactly_is a b q some is =
    let e : a ≡ q * b + 0 = omega (arith, is) in
    by_rest a b 0 q (ap (λ k. k % b) e ∙ mod-mul-add q b 0 some) (ap (λ k. k / b) e ∙ div-mul-add q b 0 some)

not_zero : (r q : ℕ) → 0 < r → cond (r == 0) (Some q) None ≡ None
not_zero r q h = ap (λ b. cond b (Some q) None) (ne_eqb r 0 (λ e. absurd (omega arith)))

pub exactly_not : (a b q r : ℕ) → a ≡ q * b + r → r < b → 0 < r → exactly a b ≡ None
exactly_not a b q r e small some =
    by_rest a b r q (ap (λ k. k % b) e ∙ mod-mul-add q b r small) (ap (λ k. k / b) e ∙ div-mul-add q b r small)
    ∙ not_zero r q some

back_by : (a b q : ℕ) (t : Bool) → (a % b == 0) ≡ t → cond t (Some (a / b)) None ≡ Some q → q * b ≡ a
back_by a b q true test is =
    let rest : a % b ≡ 0 = eqb-true (a % b) 0 test in
    let same : a / b ≡ q = cc in
    let product : a / b * b ≡ q * b = ap (λ k. k * b) same in
    omega (arith, div-add-mod' a b)
back_by a b q false test is = absurd (cc)

pub exactly_back : (a b q : ℕ) → exactly a b ≡ Some q → q * b ≡ a
exactly_back a b q is = back_by a b q (a % b == 0) refl is

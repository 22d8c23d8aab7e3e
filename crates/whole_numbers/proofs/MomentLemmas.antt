-- An instant of a row of durations lies in one of them.
use Rattle.whole_numbers.proofs.Prelude.{◌≡◌, ℕ, suc, ◌+◌, ◌-◌, ◌*◌, ◌≤◌, ◌<◌, Bool, true, false, cond, nat_le, arith, refl, List, [], ◌∷◌, length, All, sum, nat_tests, All-head, All-tail, Moment, moment, moment_from, sum_by-cons}

-- the moment lies in one of the cues below n
pub record IsInside (n : ℕ) (m : Moment) : Type 0 where
  pub cue : m.cue < n
  pub within : m.a ≤ m.c
  pub some : 1 ≤ m.c

-- the end of a cue, multiplied out
spread : (q t ms : ℕ) → q * (t + ms) ≡ q * t + q * ms
spread q t ms = omega arith

-- a part of a cue has a denominator of at least 1
some_product : (q ms : ℕ) → 1 ≤ q → 1 ≤ ms → 1 ≤ q * ms
some_product q ms first second = grind arith

-- an instant between the two ends of a cue lies in it
here : (t0 cue n p q ms : ℕ) → cue < n → 1 ≤ q → 1 ≤ ms → p ≤ q * (t0 + ms) → IsInside n (record { cue = cue; a = p - q * t0; c = q * ms })
here t0 cue n p q ms inside some lasting before = record { cue = inside; within = omega (arith, spread q t0 ms); some = some_product q ms some lasting }

-- the test, where it holds
le_told : (m n : ℕ) → nat_le m n ≡ true → m ≤ n
le_told m n e = grind (arith, nat_tests)

-- the test, where it fails
more_told : (m n : ℕ) → nat_le m n ≡ false → n < m
more_told m n e = grind (arith, nat_tests)

-- an instant past t0 and not past the last end lies in one of the cues that are left
pub moment_from-inside : (times : List ℕ) (t0 cue n p q : ℕ) → 1 ≤ q → All (λ ms. 1 ≤ ms) times → cue + length times ≤ n → q * t0 < p → p ≤ q * (t0 + sum times) →
    IsInside n (moment_from t0 cue times p q)
moment_from-inside [] t0 cue n p q some lasting few past before = let e : t0 + 0 ≡ t0 = omega arith in absurd (omega (arith, rw e at before))
moment_from-inside (ms ∷ rest) t0 cue n p q some lasting few past before =
    go (nat_le p (q * (t0 + ms))) refl
    (λ later. moment_from-inside rest (t0 + ms) (suc cue) n p q some (All-tail (λ (ms : ℕ). 1 ≤ ms) ms rest lasting) (omega arith) later
    (let e : t0 + ms + sum rest ≡ t0 + sum (ms ∷ rest) = omega (arith, sum_by-cons (λ (n : ℕ). n) ms rest) in rw e before))
  where
    go : (b : Bool) → nat_le p (q * (t0 + ms)) ≡ b → (q * (t0 + ms) < p → IsInside n (moment_from (t0 + ms) (suc cue) rest p q)) →
        IsInside n (cond b (record { cue = cue; a = p - q * t0; c = q * ms }) (moment_from (t0 + ms) (suc cue) rest p q))
    go true e next = here t0 cue n p q ms (omega arith) some (All-head (λ (ms : ℕ). 1 ≤ ms) ms rest lasting) (le_told p (q * (t0 + ms)) e)
    go false e next = next (more_told p (q * (t0 + ms)) e)

-- an instant that is not past the end lies in one of the cues
pub moment-inside : (times : List ℕ) (p q : ℕ) → 1 ≤ q → 1 ≤ length times → All (λ ms. 1 ≤ ms) times → p ≤ q * sum times → IsInside (length times) (moment times p q)
unfolding moment
moment-inside [] p q some lasting all before = absurd (omega arith)
moment-inside (ms ∷ rest) p q some many lasting before =
    go (nat_le p (q * (0 + ms))) refl
    (λ later. moment_from-inside rest (0 + ms) 1 (length (ms ∷ rest)) p q some (All-tail (λ (ms : ℕ). 1 ≤ ms) ms rest lasting) (omega arith) later
    (let e : 0 + ms + sum rest ≡ sum (ms ∷ rest) = omega (arith, sum_by-cons (λ (n : ℕ). n) ms rest) in rw e before))
  where
    go : (b : Bool) → nat_le p (q * (0 + ms)) ≡ b → (q * (0 + ms) < p → IsInside (length (ms ∷ rest)) (moment_from (0 + ms) 1 rest p q)) →
        IsInside (length (ms ∷ rest)) (cond b (record { cue = 0; a = p - q * 0; c = q * ms }) (moment_from (0 + ms) 1 rest p q))
    go true e next = here 0 0 (length (ms ∷ rest)) p q ms (omega arith) some (All-head (λ (ms : ℕ). 1 ≤ ms) ms rest lasting) (le_told p (q * (0 + ms)) e)
    go false e next = next (more_told p (q * (0 + ms)) e)

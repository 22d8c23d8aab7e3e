-- Where an instant of a row of durations lies: between the two ends of its moment's cue.
use Rattle.std.proofs.lemmas.Grind.{common_steps}
use Rattle.whole_numbers.proofs.Prelude.{◌≡◌, ℕ, zero, suc, ◌+◌, ◌-◌, ◌*◌, ◌≤◌, ◌<◌, Bool, true, false, cond, nat_le, arith, refl, List, [], ◌∷◌, length, get_or, sum, nat_tests, sum_by-cons, Moment, moment, moment_from, time_before}

-- a cue lasts from its beginning to its end
pub time_before-suc : (times : List ℕ) (cue : ℕ) → cue < length times → time_before times (suc cue) ≡ time_before times cue + get_or times cue 0
time_before-suc [] cue inside = absurd (omega arith)
time_before-suc (ms ∷ rest) zero inside = omega arith
time_before-suc (ms ∷ rest) (suc cue) inside = omega (arith, time_before-suc rest cue (omega arith))

-- The instant p / q lies in the cue with this number, of cues that begin at t0 and are counted from `first` on.
pub record LiesFrom (t0 first : ℕ) (times : List ℕ) (p q : ℕ) (m : Moment) : Type 0 where
  pub cue : ℕ
  pub inside : cue < length times
  pub is : m ≡ record { cue = first + cue; a = p - q * (t0 + time_before times cue); c = q * get_or times cue 0 }
  pub from : q * (t0 + time_before times cue) ≤ p
  pub to : p ≤ q * (t0 + time_before times (suc cue))

le_told : (m n : ℕ) → nat_le m n ≡ true → m ≤ n
le_told m n e = grind (arith, nat_tests)

more_told : (m n : ℕ) → nat_le m n ≡ false → n < m
more_told m n e = grind (arith, nat_tests)

-- in the first of the cues
here : (t0 first ms p q : ℕ) (rest : List ℕ) → q * t0 ≤ p → p ≤ q * (t0 + ms) → LiesFrom t0 first (ms ∷ rest) p q (record { cue = first; a = p - q * t0; c = q * ms })
here t0 first ms p q rest from to = grind (arith, common_steps)

-- in one of the later cues
there : (t0 first ms p q : ℕ) (rest : List ℕ) (m : Moment) → LiesFrom (t0 + ms) (suc first) rest p q m → LiesFrom t0 first (ms ∷ rest) p q m
there t0 first ms p q rest m lies =
    let before : t0 + (ms + time_before rest lies.cue) ≡ t0 + ms + time_before rest lies.cue = omega arith in
    let after : t0 + (ms + time_before rest (suc lies.cue)) ≡ t0 + ms + time_before rest (suc lies.cue) = omega arith in
    let number : first + suc lies.cue ≡ suc first + lies.cue = omega arith in
    record { cue = suc lies.cue; inside = omega (arith, lies.inside); is = rw (before, number) lies.is; from = rw before lies.from; to = rw after lies.to }

lies_from : (times : List ℕ) (t0 first p q : ℕ) → 1 ≤ length times → q * t0 ≤ p → p ≤ q * (t0 + sum times) → LiesFrom t0 first times p q (moment_from t0 first times p q)
lies_from [] t0 first p q some from to = absurd (omega arith)
lies_from (ms ∷ []) t0 first p q some from to = grind (arith, common_steps, sum, sum_by-cons, nat_le, nat_tests, here)
lies_from (ms ∷ next ∷ rest) t0 first p q some from to =
    go (nat_le p (q * (t0 + ms))) refl
    (λ later. lies_from (next ∷ rest) (t0 + ms) (suc first) p q (omega arith) later
    (let e : t0 + ms + sum (next ∷ rest) ≡ t0 + sum (ms ∷ next ∷ rest) = omega (arith, sum_by-cons (λ (n : ℕ). n) ms (next ∷ rest)) in rw e to))
  where
    go : (b : Bool) → nat_le p (q * (t0 + ms)) ≡ b → (q * (t0 + ms) ≤ p → LiesFrom (t0 + ms) (suc first) (next ∷ rest) p q (moment_from (t0 + ms) (suc first) (next ∷ rest) p q)) →
        LiesFrom t0 first (ms ∷ next ∷ rest) p q (cond b (record { cue = first; a = p - q * t0; c = q * ms }) (moment_from (t0 + ms) (suc first) (next ∷ rest) p q))
    go true e later = here t0 first ms p q (next ∷ rest) from (le_told p (q * (t0 + ms)) e)
    go false e later = there t0 first ms p q (next ∷ rest) _ (later (let past : q * (t0 + ms) < p = more_told p (q * (t0 + ms)) e in omega arith))

-- The instant p / q lies in this cue.
pub record Lies (times : List ℕ) (p q : ℕ) (m : Moment) : Type 0 where
  pub cue : ℕ
  pub inside : cue < length times
  pub is : m ≡ record { cue = cue; a = p - q * time_before times cue; c = q * get_or times cue 0 }
  pub from : q * time_before times cue ≤ p
  pub to : p ≤ q * time_before times (suc cue)

-- An instant that is not past the end lies in its moment's cue.
pub moment-lies : (times : List ℕ) (p q : ℕ) → 1 ≤ length times → p ≤ q * sum times → Lies times p q (moment times p q)
unfolding moment
moment-lies times p q some to =
    let whole : 0 + sum times ≡ sum times = omega arith in
    let lies : LiesFrom 0 0 times p q (moment_from 0 0 times p q) = lies_from times 0 0 p q some (omega arith) (rw whole to) in
    let before : 0 + time_before times lies.cue ≡ time_before times lies.cue = omega arith in
    let after : 0 + time_before times (suc lies.cue) ≡ time_before times (suc lies.cue) = omega arith in
    let number : 0 + lies.cue ≡ lies.cue = omega arith in
    record { cue = lies.cue; inside = lies.inside; is = rw (before, number) at lies.is; from = rw before at lies.from; to = rw after at lies.to }

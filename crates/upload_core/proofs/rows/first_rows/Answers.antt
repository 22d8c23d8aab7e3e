use Rattle.upload_core.proofs.Prelude.{◌≡◌, ℕ, zero, suc, ◌+◌, ◌<◌, ◌≤◌, List, [], ◌∷◌, ◌++◌, length, arith, refl, sym, ap, subst, length-append, row_at, Row, Upload, IsStarting}
use Rattle.whole_numbers.proofs.BernsteinLemmas.{by_lt}
use Rattle.upload_core.proofs.rows.first_rows.Goals as goal

-- a row behind others
row_before : (rows : List Row) (row : Row) (d : ℕ) → d < length rows → row_at (rows ++ row ∷ []) d ≡ row_at rows d
row_before [] row d before = absurd (omega arith)
row_before (r ∷ rows) row zero before = refl
row_before (r ∷ rows) row (suc d) before = row_before rows row d (omega arith)

row_last : (rows : List Row) (row : Row) → row_at (rows ++ row ∷ []) (length rows) ≡ row
row_last [] row = refl
row_last (r ∷ rows) row = row_last rows row

-- one drone more
more : (s : Upload) (rows : List Row) (row : Row) (k : ℕ) → length rows ≡ k → ((d : ℕ) → d < k → IsStarting s d (row_at rows d)) → IsStarting s k row
    → (d : ℕ) → d < k + 1 → IsStarting s d (row_at (rows ++ row ∷ []) d)
more s rows row k len before here d within =
    by_lt d k
    (λ (early : d < k). subst (IsStarting s d) (sym (row_before rows row d (omega arith))) (before d early))
    (λ (late : k ≤ d).
    let d_is : d ≡ length rows = omega arith in
    let k_is : k ≡ length rows = omega arith in
    subst (λ (n : ℕ). IsStarting s n (row_at (rows ++ row ∷ []) n)) (sym d_is)
    (subst (IsStarting s (length rows)) (sym (row_last rows row)) (subst (λ (n : ℕ). IsStarting s n row) k_is here)))

pub loop-drone-init : goal.loop-drone-init
loop-drone-init c = record { len = ap (λ (rows : List Row). length rows) c.in_ok-rows.ensures.items; each = λ d none. absurd (omega arith) }

pub loop-drone-preserved : goal.loop-drone-preserved
loop-drone-preserved c =
    let s : Upload = c.args.session.now in
    let rows : List Row = c.loop-drone.rows.items in
    record {
      len = omega (arith, ap (λ (rs : List Row). length rs) c.in_ok-push.ensures.items, length-append rows (c.first_row.result ∷ []), c.loop-drone.invariant.len);
      each = subst (λ (rs : List Row). (d : ℕ) → d < c.loop-drone.drone + 1 → IsStarting s d (row_at rs d)) (sym c.in_ok-push.ensures.items)
          (more s rows c.first_row.result c.loop-drone.drone c.loop-drone.invariant.len c.loop-drone.invariant.each c.first_row.ensures);
    }

pub returns-clause-each : goal.returns-clause-each
returns-clause-each c d within = c.loop-drone.invariant.each d (omega (arith, c.drones-drones.ensures.value, c.loop-drone-test.false))

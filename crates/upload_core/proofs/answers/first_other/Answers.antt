use Rattle.upload_core.proofs.Prelude.{ℕ, ◌≡◌, ◌==◌, ◌∙◌, not, get_or, ap, sym, arith, length, find, range_with_len, eq-eqb, ne_eqb, wanted}
use Rattle.upload_core.proofs.Walks.{find-walk, find-at}
use Rattle.upload_core.proofs.answers.first_other.Goals as goal

pub returns-then-wanted_byte-bytes-clause-value : goal.returns-then-wanted_byte-bytes-clause-value
returns-then-wanted_byte-bytes-clause-value c =
    let other : get_or (wanted c.args.session.now c.args.drone c.args.k) c.loop-i.i 0 ≡ get_or c.args.bytes.now c.loop-i.i 0 → ⊥ = λ e. c.if-wanted_byte-bytes.true (c.wanted_byte.ensures ∙ e) in
    sym (find-at (λ i. not (get_or (wanted c.args.session.now c.args.drone c.args.k) i 0 == get_or c.args.bytes.now i 0)) (length (wanted c.args.session.now c.args.drone c.args.k)) c.loop-i.i (omega arith) c.loop-i.invariant
    (ap not (ne_eqb (get_or (wanted c.args.session.now c.args.drone c.args.k) c.loop-i.i 0) (get_or c.args.bytes.now c.loop-i.i 0) other)))

pub loop-i-preserved : goal.loop-i-preserved
loop-i-preserved c =
    find-walk (λ i. not (get_or (wanted c.args.session.now c.args.drone c.args.k) i 0 == get_or c.args.bytes.now i 0)) c.loop-i.i c.loop-i.invariant
    (ap not (eq-eqb (get_or (wanted c.args.session.now c.args.drone c.args.k) c.loop-i.i 0) (get_or c.args.bytes.now c.loop-i.i 0) (sym c.wanted_byte.ensures ∙ c.if-wanted_byte-bytes.false)))

pub returns-clause-value : goal.returns-clause-value
returns-clause-value c =
    let whole : c.loop-i.i ≡ length (wanted c.args.session.now c.args.drone c.args.k) = omega arith in
    sym (ap (λ (n : ℕ). find (λ i. not (get_or (wanted c.args.session.now c.args.drone c.args.k) i 0 == get_or c.args.bytes.now i 0)) (range_with_len 0 n)) (sym whole) ∙ c.loop-i.invariant)

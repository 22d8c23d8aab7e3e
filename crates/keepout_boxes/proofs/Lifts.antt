-- From one cutting into segments to another.
use Rattle.keepout_boxes.proofs.Prelude.{◌≡◌, ℕ, ◌*◌, ◌≤◌, ℤ, pos, ◌+ℤ◌, ◌-ℤ◌, ◌*ℤ◌, ◌<ℤ◌, ◌≤ℤ◌, arith, refl, sym, subst, ◌∙◌, ap, inl, inr, get_or, power, at, ring, linear, lt_mul_ℤ, le_mul_ℤ, le_from_mul_ℤ, mul_comm_ℤ, Traj, decoded, durations, Keepout, Volume, KeepsLaw, KeepsTo, SentLaw, extent}
use Rattle.std.specs.List.{sum}
use Rattle.whole_numbers.proofs.DivisionLemmas.{lt_from_mul_ℤ}
use Rattle.traj_codec.specs.Joined.{IsLasting, JoinLaw, joined, own}
use Rattle.sep_parts.proofs.Lifts.{lasting_at, own_some, sent_at, seventh_positive}

-- x over P and y over Q are the same number: what holds of the one against a limit holds of the other
turn : (l p q : ℤ) → (l *ℤ p) *ℤ q ≡ (l *ℤ q) *ℤ p
turn l p q = simp ring refl

below_lifts : (x y l p q : ℤ) → pos 0 <ℤ p → pos 0 <ℤ q → q *ℤ x ≡ p *ℤ y → x <ℤ (l *ℤ p) → y <ℤ (l *ℤ q)
below_lifts x y l p q p_some q_some same below =
    let more : (x *ℤ q) <ℤ ((l *ℤ p) *ℤ q) = lt_mul_ℤ x (l *ℤ p) q q_some below in
    lt_from_mul_ℤ y (l *ℤ q) p p_some (omega (arith, linear, more, same, mul_comm_ℤ q x, mul_comm_ℤ p y, turn l p q))

above_lifts : (x y l p q : ℤ) → pos 0 <ℤ p → pos 0 <ℤ q → q *ℤ x ≡ p *ℤ y → (l *ℤ p) <ℤ x → (l *ℤ q) <ℤ y
above_lifts x y l p q p_some q_some same above =
    let more : ((l *ℤ p) *ℤ q) <ℤ (x *ℤ q) = lt_mul_ℤ (l *ℤ p) x q q_some above in
    lt_from_mul_ℤ (l *ℤ q) y p p_some (omega (arith, linear, more, same, mul_comm_ℤ q x, mul_comm_ℤ p y, turn l p q))

most_lifts : (x y l p q : ℤ) → pos 0 <ℤ p → pos 0 <ℤ q → q *ℤ x ≡ p *ℤ y → x ≤ℤ (l *ℤ p) → y ≤ℤ (l *ℤ q)
most_lifts x y l p q p_some q_some same below =
    let more : (q *ℤ x) ≤ℤ (q *ℤ (l *ℤ p)) = le_mul_ℤ q x (l *ℤ p) (omega (arith, linear, q_some)) below in
    le_from_mul_ℤ y (l *ℤ q) p p_some (omega (arith, linear, more, same, mul_comm_ℤ p y, mul_comm_ℤ q (l *ℤ p), turn l p q))

least_lifts : (x y l p q : ℤ) → pos 0 <ℤ p → pos 0 <ℤ q → q *ℤ x ≡ p *ℤ y → (l *ℤ p) ≤ℤ x → (l *ℤ q) ≤ℤ y
least_lifts x y l p q p_some q_some same above =
    let more : (q *ℤ (l *ℤ p)) ≤ℤ (q *ℤ x) = le_mul_ℤ q (l *ℤ p) x (omega (arith, linear, q_some)) above in
    le_from_mul_ℤ (l *ℤ q) y p p_some (omega (arith, linear, more, same, mul_comm_ℤ p y, mul_comm_ℤ q (l *ℤ p), turn l p q))

pub keeps_lifts : KeepsLaw
keeps_lifts t u r h (Keepout low high) p q some t_lasts u_lasts same keeps =
    let axis : ℕ = keeps.0 in
    let t_some : pos 0 <ℤ power (pos (own t p q).c) 7 = seventh_positive (own t p q).c (own_some t p q some t_lasts) in
    let u_some : pos 0 <ℤ power (pos (own u p q).c) 7 = seventh_positive (own u p q).c (own_some u p q some u_lasts) in (
      axis,
      keeps.1,
      elim (keeps.2) [
        | inl below ↦ inl (below_lifts (decoded t axis (own t p q)) (decoded u axis (own u p q)) (at low axis -ℤ extent r h axis) _ _ t_some u_some (same axis p q) below)
        | inr above ↦ inr (above_lifts (decoded t axis (own t p q)) (decoded u axis (own u p q)) (at high axis +ℤ extent r h axis) _ _ t_some u_some (same axis p q) above)
      ],
    )
keeps_lifts t u r h (Volume low high) p q some t_lasts u_lasts same keeps = λ axis near.
    let t_some : pos 0 <ℤ power (pos (own t p q).c) 7 = seventh_positive (own t p q).c (own_some t p q some t_lasts) in
    let u_some : pos 0 <ℤ power (pos (own u p q).c) 7 = seventh_positive (own u p q).c (own_some u p q some u_lasts) in (
      least_lifts (decoded t axis (own t p q)) (decoded u axis (own u p q)) (at low axis +ℤ extent r h axis) _ _ t_some u_some (same axis p q) (keeps axis near).0,
      most_lifts (decoded t axis (own t p q)) (decoded u axis (own u p q)) (at high axis -ℤ extent r h axis) _ _ t_some u_some (same axis p q) (keeps axis near).1,
    )

pub sent_clear : JoinLaw → SentLaw
sent_clear law r h regions trajs lasting clear drone u u_is p q some before k d near =
    let first = sent_at trajs drone u u_is in
    let one : IsLasting first.0 = lasting_at trajs drone first.0 lasting first.1 in
    let u_sum : sum (durations u.segments) ≡ sum (durations first.0.segments) = ap (λ (x : Traj). sum (durations x.segments)) first.2 ∙ law.lasts first.0 in
    let old : KeepsTo r h (get_or regions k d) first.0 (own first.0 p q) = clear drone first.0 first.1 p q some (subst (λ (n : ℕ). p ≤ q * n) u_sum before) k d near in
    subst (λ (x : Traj). KeepsTo r h (get_or regions k d) x (own x p q)) (sym first.2)
    (keeps_lifts first.0 (joined first.0) r h (get_or regions k d) p q some one (law.last first.0 one) (law.same first.0 one) old)

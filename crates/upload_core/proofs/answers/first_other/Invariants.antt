use Rattle.upload_core.proofs.Prelude.{◌≡◌, ◌==◌, None, not, get_or, find, range_with_len, wanted}
use Rattle.upload_core.proofs.answers.first_other.Given as goal

abbrev pub invariant-loop-i : goal.invariant-loop-i
invariant-loop-i l = find (λ i. not (get_or (wanted l.session l.drone l.k) i 0 == get_or l.bytes i 0)) (range_with_len 0 l.i) ≡ None

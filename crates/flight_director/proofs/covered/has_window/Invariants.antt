use Rattle.flight_director.proofs.Prelude.{◌≡◌, drop, list_any, Window, is_window}
use Rattle.flight_director.proofs.covered.has_window.Given as goal

abbrev pub invariant-loop-w : goal.invariant-loop-w
invariant-loop-w l = list_any (λ (w : Window). is_window l.n l.ms l.deaf w) (drop l.w-index l.windows) ≡ list_any (λ (w : Window). is_window l.n l.ms l.deaf w) l.windows

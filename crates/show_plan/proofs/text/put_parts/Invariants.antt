use Rattle.show_plan.proofs.Prelude.{◌≡◌, ◌++◌, false, true, drop, session_for, drone_parts}
use Rattle.show_plan.proofs.text.put_parts.Given as goal

-- the lines so far
abbrev pub invariant-loop-d : goal.invariant-loop-d
invariant-loop-d l =
    l.text ++ drone_parts (session_for l.settings l.trajs false true) l.d (drop l.d l.names) (drop l.d l.trajs)
    ≡ l.initial.text ++ drone_parts (session_for l.settings l.trajs false true) 0 l.names l.trajs

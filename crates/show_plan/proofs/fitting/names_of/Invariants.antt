use Rattle.show_plan.proofs.Prelude.{◌≡◌, map, take, DroneLine}
use Rattle.show_plan.proofs.fitting.names_of.Given as goal

-- the names so far
abbrev pub invariant-loop-start : goal.invariant-loop-start
invariant-loop-start l = l.names.items ≡ map (λ (d : DroneLine). d.name) (take l.start-index l.starts)

use Rattle.show_plan.proofs.Prelude.{common_steps, ◌≤◌, All, arith, sym, subst, length-map, Traj, IsSendable, size}
use Rattle.show_plan.proofs.Valid.{short_all}
use Rattle.show_plan.proofs.text.room_for.Goals as goal

pub total-requires-clause-few : goal.total-requires-clause-few
total-requires-clause-few c = grind (arith, common_steps, length-map)

pub total-requires-clause-sendable : goal.total-requires-clause-sendable
total-requires-clause-sendable c = subst (All IsSendable) (sym c.as_slice-2.ensures) c.requires.sendable

pub total-requires-clause-in_memory : goal.total-requires-clause-in_memory
total-requires-clause-in_memory c = subst (All (λ (t : Traj). size t ≤ 4096)) (sym c.as_slice-2.ensures) (short_all c.args.f.now.settings.offset c.args.f.now.sent c.requires.room)

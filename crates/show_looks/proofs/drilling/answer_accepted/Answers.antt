use Rattle.show_looks.proofs.Prelude.{common_steps, ℕ, ◌≤◌, All, length, map, sym, subst, arith, Fitted, IsSendable, IsValidFitted, size, short_all}
use Rattle.std.proofs.lemmas.List.{length-map}
use Rattle.show_looks.proofs.ReportLemmas.{packets_of, report_is, small_packets, small_sizes}
use Rattle.show_looks.proofs.drilling.answer_accepted.Goals as goal

-- the sizes of what is sent are few and small
sizes_few : (f : Fitted) → IsValidFitted f → length (map size f.sent) ≤ 32
sizes_few f valid = grind (arith, common_steps, length-map)

sizes_small : (f : Fitted) → IsValidFitted f → All (λ (n : ℕ). n ≤ 4096) (map size f.sent)
sizes_small f valid = small_sizes f.sent (short_all f.settings.offset f.sent valid.room)

pub sizes-requires-clause-sendable : goal.sizes-requires-clause-sendable
sizes-requires-clause-sendable c = subst (All IsSendable) (sym c.as_slice-2.ensures) c.requires.sendable

pub sizes-requires-clause-in_memory : goal.sizes-requires-clause-in_memory
sizes-requires-clause-in_memory c = grind (arith, common_steps, short_all)

pub packets-requires : goal.packets-requires
packets-requires c = grind (arith, common_steps, sizes_small)

pub total-requires-clause-few : goal.total-requires-clause-few
total-requires-clause-few c = grind (arith, common_steps, sizes_few)

pub total-requires-clause-small : goal.total-requires-clause-small
total-requires-clause-small c = grind (arith, common_steps, sizes_small)

pub total-requires-2-clause-few : goal.total-requires-2-clause-few
total-requires-2-clause-few c = grind (arith, common_steps, packets_of, length-map, sizes_few)

pub total-requires-2-clause-small : goal.total-requires-2-clause-small
total-requires-2-clause-small c = grind (arith, common_steps, packets_of, small_packets, sizes_small)

pub returns-clause-line : goal.returns-clause-line
returns-clause-line c = grind (arith, common_steps, length-map, packets_of, report_is)

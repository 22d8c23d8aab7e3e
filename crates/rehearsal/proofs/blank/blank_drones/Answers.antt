-- Why the loop of `blank_drones` goes on: one blank drone more.
use Rattle.rehearsal.proofs.Prelude.{◌≡◌, ◌∙◌, ℕ, None, replicate, ap, rules, All-push, Drone, shown, blank_drone}
use Rattle.rehearsal.proofs.blank.blank_drones.Goals as goal

pub loop-preserved : goal.loop-preserved
loop-preserved c =
    let one : shown c.make.result ≡ blank_drone c.args.session.now =
    c.make.ensures ∙ ap (λ (id : ℕ). record { memory_id = id; memory = replicate 4096 255; table = replicate 10 None; started = None }) c.settings-memory_id.ensures.memory_id in
    record {
      many = search rules;
      blank = rw c.in_ok-push.ensures.items (All-push (λ (d : Drone). shown d ≡ blank_drone c.args.session.now) c.loop.drones.items c.make.result c.loop.invariant.blank one);
    }

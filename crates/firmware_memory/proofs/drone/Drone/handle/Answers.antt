use Rattle.std.proofs.lemmas.Grind.{common_steps}
use Rattle.std.proofs.Common.{ap, ◌∙◌, arith}
use Rattle.upload_model.specs.Drones.{Handled}
use Rattle.firmware_memory.specs.Shown.{shown}
use Rattle.firmware_memory.proofs.Unanswered.{unanswered, unmoved}
use Rattle.firmware_memory.proofs.drone.Drone.handle.Goals as goal

pub returns-clause-unanswered : goal.returns-clause-unanswered
returns-clause-unanswered c = grind (arith, common_steps, unanswered, unmoved)

pub returns-clause-unchanged : goal.returns-clause-unchanged
returns-clause-unchanged c =
    λ other. c.step.ensures.state ∙ ap (λ (h : Handled). h.drone) (unmoved (shown c.args.self.now) c.args.packet.now other)

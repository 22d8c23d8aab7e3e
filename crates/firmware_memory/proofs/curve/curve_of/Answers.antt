-- Why `curve_of` keeps its contract, where the memory decodes to nothing.
use Rattle.std.proofs.lemmas.Grind.{common_steps}
use Rattle.std.proofs.Common.{◌≡◌, ◌<◌, length, Some, slice_get, rules, arith}
use Rattle.firmware_memory.specs.Shown.{shown}
use Rattle.firmware_memory.proofs.CurveLemmas.{unread, unlisted, listed_at, none_weaker}
use Rattle.firmware_memory.proofs.curve.curve_of.Goals as goal

pub returns-in-Some-clause-none : goal.returns-in-Some-clause-none
returns-in-Some-clause-none c =
    let many : c.args.id < length c.args.drone.now.defs = search rules in
    let listed : slice_get c.args.drone.now.defs c.args.id ≡ Some (Some c.in-Some.entry) = listed_at c.args.drone.now.defs c.args.id (Some c.in-Some.entry) many (search rules) in
    none_weaker c.front_of.result _ _ (λ none t is.
    unread (shown c.args.drone.now) c.args.id c.in-Some.entry t listed (rw c.bytes_from.ensures at none) is) c.front_of.ensures.none

pub returns-in-None-clause-none : goal.returns-in-None-clause-none
returns-in-None-clause-none c t is = grind (arith, common_steps, slice_get, listed_at, unlisted)

use Rattle.std.proofs.Common.{◌≡◌, All, length}
use Rattle.upload_model.specs.Sessions.{IsLoad}
use Rattle.upload_tests.proofs.sessions.loads_of.Given as goal

abbrev pub invariant-loop-row : goal.invariant-loop-row
invariant-loop-row l = record { many : length l.loads.items ≡ l.row-index; fit : All (IsLoad l.offset) l.loads.items }

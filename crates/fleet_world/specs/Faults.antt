-- What a fault of a schedule says of it.
use Rattle.std.specs.Prelude.{◌≡◌, ℕ, List, Result, Err}
use Rattle.fleet_world.specs.declared.schedule.ScheduleFault.{ScheduleFault}
use Rattle.fleet_world.specs.declared.schedule.ScheduleFault.TheVariants.{Line, Memory}

-- A line is the first faulty one of the schedule. Out of memory says nothing.
abbrev pub FaultGives : {E : Type 0} → ScheduleFault → Result (List E) ℕ → Type 0
FaultGives (Line line) schedule = schedule ≡ Err line
FaultGives Memory schedule = Unit {0}

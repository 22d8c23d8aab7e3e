use Rattle.flight_model.proofs.Telling as telling
use Rattle.flight_model.proofs.Beginning as beginning
use Rattle.flight_model.proofs.Rises as rises
use Rattle.flight_model.proofs.Turns as turns
use Rattle.flight_model.proofs.Ending as ending
use Rattle.flight_model.proofs.Alarms as alarms
use Rattle.flight_model.proofs.Holds as holds
use Rattle.flight_model.proofs.Outside as outside
use Rattle.flight_model.proofs.Wanted as wanted
use Rattle.flight_model.proofs.Ours as ours
use Rattle.flight_model.proofs.Flown as flown
use Rattle.flight_model.proofs.Kept as kept
use Rattle.flight_model.proofs.Quiet as quiet
use Rattle.flight_model.proofs.law.director_law.Goals as goal

pub returns-clause-only : goal.returns-clause-only
returns-clause-only c = telling.only_law

pub returns-clause-due : goal.returns-clause-due
returns-clause-due c = beginning.due_law

pub returns-clause-rise : goal.returns-clause-rise
returns-clause-rise c = rises.rise_law

pub returns-clause-turn : goal.returns-clause-turn
returns-clause-turn c = turns.turn_law

pub returns-clause-land : goal.returns-clause-land
returns-clause-land c = ending.land_law

pub returns-clause-fault : goal.returns-clause-fault
returns-clause-fault c = ending.fault_law

pub returns-clause-alarm : goal.returns-clause-alarm
returns-clause-alarm c = alarms.alarm_law

pub returns-clause-hold : goal.returns-clause-hold
returns-clause-hold c = holds.hold_law

pub returns-clause-outside : goal.returns-clause-outside
returns-clause-outside c = outside.outside_law

pub returns-clause-covered : goal.returns-clause-covered
returns-clause-covered c = wanted.covered_law

pub returns-clause-wanted : goal.returns-clause-wanted
returns-clause-wanted c = wanted.wanted_law

pub returns-clause-ours : goal.returns-clause-ours
returns-clause-ours c = ours.ours_law

pub returns-clause-halt : goal.returns-clause-halt
returns-clause-halt c = ending.halt_law

pub returns-clause-kept : goal.returns-clause-kept
returns-clause-kept c = kept.kept_law

pub returns-clause-over : goal.returns-clause-over
returns-clause-over c = flown.over_law

pub returns-clause-quiet : goal.returns-clause-quiet
returns-clause-quiet c = quiet.quiet_law

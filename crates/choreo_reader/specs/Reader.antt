-- What a reader stands for.
use Rattle.std.specs.Prelude.{◌≡◌, List, map, reverse, Result, Ok, Err, Option, Some, None}
use Rattle.choreo_show.specs.Plain.{body_of, figure_of, PlainShow}
use Rattle.choreo_reader.specs.Reading.{Open, InFormation, InFigure, InRepeat, InCue, Built, Step}
use Rattle.choreo_reader.specs.Text.{fault_at, Fault}
use Rattle.choreo_reader.specs.declared.fault.ShowFault.{ShowFault}
use Rattle.choreo_reader.specs.declared.fault.ShowFault.TheVariants.{Line, Memory}
use Rattle.choreo_reader.specs.declared.reader.OpenBlock.{OpenBlock}
use Rattle.choreo_reader.specs.declared.reader.OpenBlock.TheVariants.{Formation, Figure, Repeat, Cue}
use Rattle.choreo_reader.specs.declared.reader.Reader.{Reader}

-- an open block
abbrev pub open_of : OpenBlock → Open
open_of (Formation line name places) = InFormation line name places.items
open_of (Figure line name roles body) = InFigure line name roles (body_of body.items)
open_of (Repeat line times body) = InRepeat line times (body_of body.items)
open_of (Cue line ms acts) = InCue line ms acts.items

-- the open blocks, the innermost first
abbrev pub opens_of : List OpenBlock → List Open
opens_of os = map open_of (reverse os)

-- what a reader has read
abbrev pub built_of : Reader → Built
built_of r = record {
  memory = r.memory;
  trajectory = r.trajectory;
  ellipsoid = r.ellipsoid;
  stray = r.stray;
  late = r.late;
  drones = r.drones.items;
  formations = r.formations.items;
  figures = map figure_of r.figures.items;
  body = body_of r.body.items;
  open_blocks = opens_of r.opened.items;
}

-- a step of the code is this step, unless memory ran out
abbrev pub StepFails : ShowFault → Step → Type 0
StepFails (Line n k) step = step ≡ Err (fault_at n k)
StepFails Memory step = Unit {0}

-- what a function returned, with what is built then, is this step, unless memory ran out
abbrev pub Steps : {A : Type 0} → Result A ShowFault → Built → Step → Type 0
Steps (Ok x) new step = step ≡ Ok new
Steps (Err e) new step = StepFails e step

-- a refusal is that of the reading, unless memory ran out
abbrev pub ReadingFails : ShowFault → Result PlainShow Fault → Type 0
ReadingFails (Line n k) read = read ≡ Err (fault_at n k)
ReadingFails Memory read = Unit {0}

-- what a function returned, seen by view, is what reading gives, unless memory ran out
abbrev pub ShowGives : {A : Type 0} → (A → PlainShow) → Result A ShowFault → Result PlainShow Fault → Type 0
ShowGives view (Ok x) read = read ≡ Ok (view x)
ShowGives view (Err e) read = ReadingFails e read

-- what a function returned names the first fault, unless memory ran out
abbrev pub NamesFault : ShowFault → Option Fault → Type 0
NamesFault (Line n k) fault = fault ≡ Some (fault_at n k)
NamesFault Memory fault = Unit {0}

-- a refusal names this fault, and a show comes only where there is none
abbrev pub FaultGives : {A : Type 0} → Result A ShowFault → Option Fault → Type 0
FaultGives (Ok x) fault = fault ≡ None
FaultGives (Err e) fault = NamesFault e fault

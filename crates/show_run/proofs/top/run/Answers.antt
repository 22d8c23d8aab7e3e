use Rattle.show_run.proofs.Prelude.{Some, ap, refl, sym, ◌∙◌, IsInput-now, comes, Boxes, Compile, Direct, Drill, Dynamics, Explain, Speed, Upload, drill_text, behaves_left, flies_own, read_to_end, drill_of, report_of, verb_of}
use Rattle.show_judge.proofs.VerbLemmas.{outcomes}
use Rattle.show_looks.proofs.CompileLemmas.{headline_of}
use Rattle.show_run.proofs.TopLemmas.{behaves_as, does_as, known_small, never, one_command}
use Rattle.show_run.proofs.NameLemmas.{compiles, uploads}
use Rattle.show_run.proofs.VerbLaws.{laws}
use Rattle.show_run.proofs.top.run.Goals as goal

pub returns-in-Some-clause-two : goal.returns-in-Some-clause-two
returns-in-Some-clause-two g c = λ two. absurd (never 2 _ refl (c.run_command.ensures.behaves.behaves (g.S.Source.told c.run_command.new.source).given (IsInput-now (g.S.Source.told c.run_command.new.source))).runs.known two)

pub returns-in-Some-clause-behaves : goal.returns-in-Some-clause-behaves
returns-in-Some-clause-behaves g c = λ d is.
    does_as c.in-Some.command d _ _ (one_command _ c.in-Some.command d (sym c.command_of.ensures.value ∙ c.in-Some.is) is) c.run_command.ensures.behaves

pub returns-in-Some-clause-law : goal.returns-in-Some-clause-law
returns-in-Some-clause-law g c = laws c.verify_law.ensures c.rehearse_law.ensures c.uploading_law.ensures c.direct_law.ensures c.boxes_law.ensures

pub returns-in-None-clause-law : goal.returns-in-None-clause-law
returns-in-None-clause-law g c = laws c.verify_law.ensures c.rehearse_law.ensures c.uploading_law.ensures c.direct_law.ensures c.boxes_law.ensures

pub returns-in-Some-clause-outcomes : goal.returns-in-Some-clause-outcomes
returns-in-Some-clause-outcomes g c = λ d. outcomes c.show_law.ensures (verb_of d) (laws c.verify_law.ensures c.rehearse_law.ensures c.uploading_law.ensures c.direct_law.ensures c.boxes_law.ensures d)

pub returns-in-None-clause-outcomes : goal.returns-in-None-clause-outcomes
returns-in-None-clause-outcomes g c = λ d. outcomes c.show_law.ensures (verb_of d) (laws c.verify_law.ensures c.rehearse_law.ensures c.uploading_law.ensures c.direct_law.ensures c.boxes_law.ensures d)

pub returns-in-Some-clause-flies : goal.returns-in-Some-clause-flies
returns-in-Some-clause-flies g c = λ name input called judges left done.
    (uploads _ c.in-Some.command name called judges (sym c.command_of.ensures.value ∙ c.in-Some.is) input _ _ (c.run_command.ensures.behaves.behaves (g.S.Source.told c.run_command.new.source).given (IsInput-now (g.S.Source.told c.run_command.new.source))).runs (ap Some (comes (g.S.Source.told c.args.source.now) (g.S.Source.told c.run_command.new.source).given input left)) done).flies

pub returns-in-Some-clause-uploads : goal.returns-in-Some-clause-uploads
returns-in-Some-clause-uploads g c = λ name input called judges left done.
    uploads _ c.in-Some.command name called judges (sym c.command_of.ensures.value ∙ c.in-Some.is) input _ _ (c.run_command.ensures.behaves.behaves (g.S.Source.told c.run_command.new.source).given (IsInput-now (g.S.Source.told c.run_command.new.source))).runs (ap Some (comes (g.S.Source.told c.args.source.now) (g.S.Source.told c.run_command.new.source).given input left)) done

pub returns-in-Some-clause-begun : goal.returns-in-Some-clause-begun
returns-in-Some-clause-begun g c = λ depth start readback input is left begun.
    c.run_command.ensures.begun depth start readback input (one_command _ c.in-Some.command (Upload depth start readback) (sym c.command_of.ensures.value ∙ c.in-Some.is) is) left begun

pub returns-in-Some-clause-flight : goal.returns-in-Some-clause-flight
returns-in-Some-clause-flight g c = λ options input is left began.
    c.run_command.ensures.flight options input
    (one_command _ c.in-Some.command (Direct options) (sym c.command_of.ensures.value ∙ c.in-Some.is) is) left began

pub returns-in-Some-clause-flown : goal.returns-in-Some-clause-flown
returns-in-Some-clause-flown g c = λ options input is left done.
    let behaves = behaves_as c.in-Some.command (Direct options) _ _
    (one_command _ c.in-Some.command (Direct options) (sym c.command_of.ensures.value ∙ c.in-Some.is) is) (c.run_command.ensures.behaves.behaves (g.S.Source.told c.run_command.new.source).given (IsInput-now (g.S.Source.told c.run_command.new.source))) in
    rw (comes (g.S.Source.told c.args.source.now) (g.S.Source.told c.run_command.new.source).given input left) at (behaves.headline done)

pub returns-in-Some-clause-drilled : goal.returns-in-Some-clause-drilled
returns-in-Some-clause-drilled g c = λ drones depth is done.
    flies_own depth (drill_text drones) (λ s. drill_of (report_of s depth)) _ _
    (behaves_as c.in-Some.command (Drill drones depth) _ _ (one_command _ c.in-Some.command (Drill drones depth) (sym c.command_of.ensures.value ∙ c.in-Some.is) is) (c.run_command.ensures.behaves.behaves (g.S.Source.told c.run_command.new.source).given (IsInput-now (g.S.Source.told c.run_command.new.source)))).runs done

pub returns-in-Some-clause-headline : goal.returns-in-Some-clause-headline
returns-in-Some-clause-headline g c = λ input called left done.
    let compile = compiles _ c.in-Some.command called (sym c.command_of.ensures.value ∙ c.in-Some.is) in
    headline_of compile.0 input _ _ (behaves_as c.in-Some.command (Compile compile.0) _ _ (sym compile.1) (c.run_command.ensures.behaves.behaves (g.S.Source.told c.run_command.new.source).given (IsInput-now (g.S.Source.told c.run_command.new.source)))).runs (ap Some (comes (g.S.Source.told c.args.source.now) (g.S.Source.told c.run_command.new.source).given input left)) done

pub returns-in-Some-clause-regions : goal.returns-in-Some-clause-regions
returns-in-Some-clause-regions g c = λ depth input is left done.
    let behaves = behaves_as c.in-Some.command (Boxes depth) _ _ (one_command _ c.in-Some.command (Boxes depth) (sym c.command_of.ensures.value ∙ c.in-Some.is) is) (c.run_command.ensures.behaves.behaves (g.S.Source.told c.run_command.new.source).given (IsInput-now (g.S.Source.told c.run_command.new.source))) in
    rw (comes (g.S.Source.told c.args.source.now) (g.S.Source.told c.run_command.new.source).given input left) at (behaves.headline done)

pub returns-in-Some-clause-speeds : goal.returns-in-Some-clause-speeds
returns-in-Some-clause-speeds g c = λ depth limit input is left done.
    let behaves = behaves_as c.in-Some.command (Speed depth limit) _ _ (one_command _ c.in-Some.command (Speed depth limit) (sym c.command_of.ensures.value ∙ c.in-Some.is) is) (c.run_command.ensures.behaves.behaves (g.S.Source.told c.run_command.new.source).given (IsInput-now (g.S.Source.told c.run_command.new.source))) in
    rw (comes (g.S.Source.told c.args.source.now) (g.S.Source.told c.run_command.new.source).given input left) at (behaves.headline done)

pub returns-in-Some-clause-touches : goal.returns-in-Some-clause-touches
returns-in-Some-clause-touches g c = λ depth fine all input is left done.
    let behaves = behaves_as c.in-Some.command (Explain depth fine all) _ _ (one_command _ c.in-Some.command (Explain depth fine all) (sym c.command_of.ensures.value ∙ c.in-Some.is) is) (c.run_command.ensures.behaves.behaves (g.S.Source.told c.run_command.new.source).given (IsInput-now (g.S.Source.told c.run_command.new.source))) in
    rw (comes (g.S.Source.told c.args.source.now) (g.S.Source.told c.run_command.new.source).given input left) at (behaves.headline done)

pub returns-in-Some-clause-motions : goal.returns-in-Some-clause-motions
returns-in-Some-clause-motions g c = λ depth accel jump input is left done.
    let behaves = behaves_as c.in-Some.command (Dynamics depth accel jump) _ _
    (one_command _ c.in-Some.command (Dynamics depth accel jump) (sym c.command_of.ensures.value ∙ c.in-Some.is) is) (c.run_command.ensures.behaves.behaves (g.S.Source.told c.run_command.new.source).given (IsInput-now (g.S.Source.told c.run_command.new.source))) in
    rw (comes (g.S.Source.told c.args.source.now) (g.S.Source.told c.run_command.new.source).given input left) at (behaves.headline done)

pub returns-in-Some-clause-given : goal.returns-in-Some-clause-given
returns-in-Some-clause-given g c = λ seventeen. never 17 _ refl (c.run_command.ensures.behaves.behaves (g.S.Source.told c.run_command.new.source).given (IsInput-now (g.S.Source.told c.run_command.new.source))).runs.known seventeen

pub returns-in-Some-clause-known : goal.returns-in-Some-clause-known
returns-in-Some-clause-known g c = known_small _ (c.run_command.ensures.behaves.behaves (g.S.Source.told c.run_command.new.source).given (IsInput-now (g.S.Source.told c.run_command.new.source))).runs.known

pub returns-in-Some-clause-sink_later : goal.returns-in-Some-clause-sink_later
returns-in-Some-clause-sink_later g c =
    (c.run_command.ensures.behaves.behaves (g.S.Source.told c.run_command.new.source).given (IsInput-now (g.S.Source.told c.run_command.new.source))).runs.writes_later

pub returns-in-Some-clause-known_input : goal.returns-in-Some-clause-known_input
returns-in-Some-clause-known_input g c = λ d input is left at_end.
    behaves_left (verb_of d) _ _ input (does_as c.in-Some.command d _ _ (one_command _ c.in-Some.command d (sym c.command_of.ensures.value ∙ c.in-Some.is) is) c.run_command.ensures.behaves) left at_end

pub returns-in-Some-clause-to_end : goal.returns-in-Some-clause-to_end
returns-in-Some-clause-to_end g c = λ d is all done.
    read_to_end (verb_of d) _ _ (does_as c.in-Some.command d _ _ (one_command _ c.in-Some.command d (sym c.command_of.ensures.value ∙ c.in-Some.is) is) c.run_command.ensures.behaves) all done

pub returns-in-Some-clause-six : goal.returns-in-Some-clause-six
returns-in-Some-clause-six g c = λ six.
    ((c.run_command.ensures.behaves.behaves (g.S.Source.told c.run_command.new.source).given (IsInput-now (g.S.Source.told c.run_command.new.source))).runs.six six).0

pub returns-in-Some-clause-seven : goal.returns-in-Some-clause-seven
returns-in-Some-clause-seven g c = λ seven.
    ((c.run_command.ensures.behaves.behaves (g.S.Source.told c.run_command.new.source).given (IsInput-now (g.S.Source.told c.run_command.new.source))).runs.seven seven).0

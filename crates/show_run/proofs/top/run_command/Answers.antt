use Rattle.show_run.proofs.Prelude.{subst, sym, ◌∙◌, Command, FlightOptions, FlyAsOne, Does, during, verb_of}
use Rattle.show_run.proofs.TopLemmas.{flight_as}
use Rattle.show_run.proofs.top.run_command.Goals as goal

pub returns-in-Upload-clause-begun : goal.returns-in-Upload-clause-begun
returns-in-Upload-clause-begun g c = λ depth start readback input is given begun. c.upload.ensures.begun input given begun

pub returns-in-Direct-clause-flight : goal.returns-in-Direct-clause-flight
returns-in-Direct-clause-flight g c = λ options input is given began.
    flight_as (λ (p : FlightOptions). FlyAsOne p input) _ options (sym c.in-Direct.is ∙ is)
    (c.direct.ensures.begun input given began)

pub returns-in-Direct-clause-behaves : goal.returns-in-Direct-clause-behaves
returns-in-Direct-clause-behaves g c =
    let m = during g.S.Source.told g.K.Sink.written g.K.Sink.faults c.args.source.now c.direct.new.source c.args.sink.now c.direct.new.sink in
    subst (λ (d : Command). Does (verb_of d) m c.direct.result) (sym c.in-Direct.is) c.direct.ensures.behaves

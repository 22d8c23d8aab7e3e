use Rattle.show_direct.proofs.Prelude.{Err, Ok, Result, subst, during, Flight, Unflown, FlightRead, coming, left_of, up_exchange}
use Rattle.show_direct.proofs.FlownLemmas.{carried_flight}
use Rattle.show_direct.proofs.flying.fly.Goals as goal

pub returns-in-Ok-clause-carries : goal.returns-in-Ok-clause-carries
returns-in-Ok-clause-carries g c o all x t may was =
    let told = g.S.Source.told in
    let left = left_of all (told c.direct.new.source) in
    let m = during told g.K.Sink.written g.K.Sink.faults c.args.source.now c.direct.new.source c.args.sink.now c.direct.new.sink in
    let d = c.direct.ensures in
    let read : FlightRead o all (up_exchange o) x t c.args.parts.now (told c.args.source.now) (Ok c.in-Ok.flight) =
    subst (λ (r : Result Flight Unflown). FlightRead o all (up_exchange o) x t c.args.parts.now (told c.args.source.now) r) c.in-Ok.is was in
    read.5 left m c.direct.result
    (carried_flight o read.0 read.1 read.2 c.in-Ok.flight (coming c.args.parts.now all (told c.args.source.now)) left c.args.parts.now.ended m c.direct.result (read.3, read.4)
    (record { gives = d.gives all may; known = d.known; reads_later = d.went.gives.later; writes_later = d.sink_later }))

pub returns-in-Err-clause-carries : goal.returns-in-Err-clause-carries
returns-in-Err-clause-carries g c o all x t may was =
    let told = g.S.Source.told in
    let read : FlightRead o all (up_exchange o) x t c.args.parts.now (told c.args.source.now) (Err c.in-Err.why) =
    subst (λ (r : Result Flight Unflown). FlightRead o all (up_exchange o) x t c.args.parts.now (told c.args.source.now) r) c.in-Err.is was in
    read (during told g.K.Sink.written g.K.Sink.faults c.args.source.now c.args.source.now c.args.sink.now c.end_unflown.new.sink) c.end_unflown.result c.end_unflown.ensures

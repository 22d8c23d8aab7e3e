use Rattle.show_direct.proofs.Prelude.{Went-trans, back, during}
use Rattle.show_direct.proofs.RunLemmas.{begun_direct, does_direct}
use Rattle.show_direct.proofs.flying.direct.Goals as goal

pub returns-clause-behaves : goal.returns-clause-behaves
returns-clause-behaves g c =
    let o = c.args.options.now in
    let held = c.make-parts.result in
    let told = g.S.Source.told in
    let read = c.read_flight-read.ensures in
    let flown = c.fly.ensures in
    does_direct c.show_law.ensures o (c.direct_law.ensures.up o) held c.fly.new.parts.ended (during told g.K.Sink.written g.K.Sink.faults c.args.source.now c.fly.new.source c.args.sink.now c.fly.new.sink)
    c.fly.result c.make-parts.ensures (Went-trans _ _ _ _ _ _ read.went flown.went)
    (λ all may. flown.carries o all held (told c.args.source.now) may (read.read all (back _ _ _ _ all flown.went may)))
    (λ all may long. flown.little (told c.args.source.now) (read.little all (back _ _ _ _ all flown.went may) long))

pub returns-clause-begun : goal.returns-clause-begun
returns-clause-begun g c = λ given is began.
    let o = c.args.options.now in
    let held = c.make-parts.result in
    let told = g.S.Source.told in
    let read = c.read_flight-read.ensures in
    let flown = c.fly.ensures in
    begun_direct o held c.fly.new.parts.ended (during told g.K.Sink.written g.K.Sink.faults c.args.source.now c.fly.new.source c.args.sink.now c.fly.new.sink) c.fly.result given c.make-parts.ensures
    (Went-trans _ _ _ _ _ _ read.went flown.went) (λ all may. flown.carries o all held (told c.args.source.now) may (read.read all (back _ _ _ _ all flown.went may))) is began

use Rattle.hemtoghai.proofs.Prelude.{◌≡◌, [], Some, ap, refl, told_sure, IsInput-now, Upload, never_rose, never_seven, never_six, HasBegun}
use Rattle.hemtoghai.proofs.AnswerLemmas.{headline_over, none_written, not_rose, runs_over, uploads_over}
use Rattle.hemtoghai.proofs.BegunLemmas.{begun_over}
use Rattle.hemtoghai.proofs.answering.answer_of.Goals as goal

pub returns-clause-behaves : goal.returns-clause-behaves
returns-clause-behaves c = λ d is.
    rw c.in_ok-bytes.ensures.ok (runs_over _ _ _ c.run-status.new.sink _ c.in_ok-bytes.ensures.quiet (rw (c.make-source.ensures, c.make-sink.ensures) at (c.run-status.ensures.behaves d is)))

pub returns-clause-flies : goal.returns-clause-flies
returns-clause-flies c = λ name called judges done.
    (uploads_over _ name c.args.input.now c.run-status.new.sink.written _ called judges (λ none. (c.run-status.ensures.usage none).0) (λ d is. runs_over _ _ _ c.run-status.new.sink _ c.in_ok-bytes.ensures.quiet (rw (c.make-source.ensures, c.make-sink.ensures) at (c.run-status.ensures.behaves d is))) done).flies

pub returns-clause-uploads : goal.returns-clause-uploads
returns-clause-uploads c = λ name called judges done.
    uploads_over _ name c.args.input.now c.run-status.new.sink.written _ called judges (λ none. (c.run-status.ensures.usage none).0) (λ d is. runs_over _ _ _ c.run-status.new.sink _ c.in_ok-bytes.ensures.quiet (rw (c.make-source.ensures, c.make-sink.ensures) at (c.run-status.ensures.behaves d is))) done

pub returns-clause-headline : goal.returns-clause-headline
returns-clause-headline c = λ called done.
    rw c.in_ok-bytes.ensures.ok (headline_over _ c.args.input.now c.run-status.new.sink.written _ called (λ none. (c.run-status.ensures.usage none).0) (λ d is. runs_over _ _ _ c.run-status.new.sink _ c.in_ok-bytes.ensures.quiet (rw (c.make-source.ensures, c.make-sink.ensures) at (c.run-status.ensures.behaves d is))) done)

pub returns-clause-begun : goal.returns-clause-begun
returns-clause-begun c = λ depth start readback is begun.
    let wrote : HasBegun (Some []) (Some c.run-status.new.sink.written) = rw c.in_ok-bytes.ensures.ok at begun in
    begun_over depth start readback c.args.input.now c.run-status.new.source c.run-status.new.sink _ c.in_ok-bytes.ensures.quiet
    (rw (c.make-source.ensures, c.make-sink.ensures) at (c.run-status.ensures.behaves (Upload depth start readback) is))
    ((rw (c.make-source.ensures, c.make-sink.ensures) at (c.run-status.ensures.begun depth start readback c.run-status.new.source.given is)) refl wrote)
    wrote

pub returns-clause-memory : goal.returns-clause-memory
returns-clause-memory c = λ one.
    none_written _ _ _ c.in_ok-bytes.bytes.items (λ none. (c.run-status.ensures.usage none).0)
    (λ d is. (c.run-status.ensures.behaves d is).behaves (told_sure c.run-status.new.source).given (IsInput-now (told_sure c.run-status.new.source)))
    (ap (λ s. Some s.written) c.make-sink.ensures) (ap Some c.in_ok-bytes.ensures.ok) one

pub returns-clause-read : goal.returns-clause-read
returns-clause-read c = λ six.
    never_six _ _ _ (λ none. (c.run-status.ensures.usage none).0)
    (λ d is. (c.run-status.ensures.behaves d is).behaves (told_sure c.run-status.new.source).given (IsInput-now (told_sure c.run-status.new.source))) never_rose six

pub returns-clause-write : goal.returns-clause-write
returns-clause-write c = λ seven.
    let first : c.make-sink.result.faults ≡ 0 = ap (λ s. s.faults) c.make-sink.ensures in
    never_seven _ _ _ (λ none failed. (c.run-status.ensures.usage_failed none failed).0)
    (λ d is. (c.run-status.ensures.behaves d is).behaves (told_sure c.run-status.new.source).given (IsInput-now (told_sure c.run-status.new.source)))
    (not_rose _ _ first c.in_ok-bytes.ensures.quiet) seven

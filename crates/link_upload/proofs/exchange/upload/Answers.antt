use Rattle.link_upload.proofs.Prelude.{arith, sym, ◌∙◌, refl, frame_law, events_in, link_of, progress}
use Rattle.link_upload.proofs.SendLemmas.{sent-none}
use Rattle.link_upload.proofs.StatusLemmas.{known, own}
use Rattle.link_upload.proofs.UploadLemmas.{is_dialogue}
use Rattle.link_upload.proofs.exchange.upload.Goals as goal

pub run-requires-clause-law : goal.run-requires-clause-law
run-requires-clause-law g c start = is_dialogue (link_of start.host.session)

pub run-requires-clause-new : goal.run-requires-clause-new
run-requires-clause-new g c = record { session = refl; host = c.requires.new; reads = c.make.ensures; begun = frame_law.none }

pub run-requires-clause-own : goal.run-requires-clause-own
run-requires-clause-own g c frames status is =
    let o = own (progress c.args.host.session (events_in (link_of c.args.host.session) frames)) status is in (o.0, o.1)

pub run-requires-clause-first : goal.run-requires-clause-first
run-requires-clause-first g c = rw (c.put_all.ensures, c.as_slice.ensures.value, c.first.ensures.sent) (sym (sent-none (link_of c.args.host.session)))

pub returns-clause-known : goal.returns-clause-known
returns-clause-known g c = known c.args.host.session c.run.result c.run.ensures.known

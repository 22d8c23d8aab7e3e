use Rattle.link_upload.proofs.Prelude.{ap, ◌∙◌, frame_law, link_of, moved}
use Rattle.upload_core.specs.HostStandsFor.{HostStandsFor}
use Rattle.upload_core.specs.HostState.{view_of}
use Rattle.link_upload.proofs.CarryLemmas.{answered}
use Rattle.link_upload.proofs.exchange.Linked.hear.Goals as goal

pub returns : goal.returns
returns c s frames stands going =
    let took = answered (link_of s) (link_of c.args.self.now.host.session) (HostStandsFor (view_of c.args.self.now.host)) (HostStandsFor (view_of c.take_frame-status.new.host)) _ _ c.take_frame-status.new.out.items _ frames
    (ap link_of stands.session) stands.host going c.requires.formed (rw (c.as_slice.ensures.value, c.take_frame-status.ensures.session) at c.put_all.ensures) c.take_frame-status.ensures.stands c.take_frame-status.ensures.answer c.take_frame-status.ensures.sent in
    moved _ _ _ _ _ _ _ _ (λ now host. record { session = c.take_frame-status.ensures.session ∙ stands.session; host = host; reads = stands.reads; begun = frame_law.none }) (λ whole is. is) took

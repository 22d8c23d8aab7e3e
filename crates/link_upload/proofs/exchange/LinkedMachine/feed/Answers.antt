use Rattle.link_upload.proofs.Prelude.{◌≡◌, ◌++◌, ◌∷◌, [], List, ℕ, ap, append_assoc, sym, ◌∙◌, frame_law, fed, moved}
use Rattle.link_frames.specs.declared.frame.Fed.TheVariants as fed_is
use Rattle.link_upload.proofs.exchange.LinkedMachine.feed.Goals as goal

pub feed-requires : goal.feed-requires
feed-requires c = let stands = c.requires.going.1.2 in rw stands.reads stands.begun

pub hear-requires : goal.hear-requires
hear-requires c =
    let going = c.requires.going in
    let stands = going.1.2 in
    let whole = frame_law.whole going.0 c.args.byte c.in-Frame.f stands.begun (rw stands.reads at (sym c.feed.ensures.value ∙ c.in-Frame.is)) in
    record { formed = rw c.view.ensures whole.0 }

pub returns-in-More : goal.returns-in-More
returns-in-More c = record {
  gives = λ start items begun stands going. (
      let more : fed begun c.args.byte ≡ fed_is.More = rw stands.reads at (sym c.feed.ensures.value ∙ c.in-More.is) in
      let now = rw (stands.reads, more) at c.feed.ensures.begun in
      let is = frame_law.more begun c.args.byte stands.begun more in
      (record { session = stands.session; host = stands.host; reads = now; begun = is }, is));
}

pub returns-in-Frame : goal.returns-in-Frame
returns-in-Frame c = record {
  gives = λ start items begun stands going. (
      let fed_so = rw stands.reads at (sym c.feed.ensures.value ∙ c.in-Frame.is) in
      let whole = frame_law.whole begun c.args.byte c.in-Frame.f stands.begun fed_so in
      let took = c.hear.ensures start.host.session items (record { session = stands.session; host = stands.host; reads = rw (stands.reads, fed_so) at c.feed.ensures.begun; begun = frame_law.none }) going in
      moved _ _ _ _ _ _ _ _ (λ now stands. stands) (λ bytes is. is ∙ rw c.view.ensures whole.1) took);
}

pub returns-in-Bad : goal.returns-in-Bad
returns-in-Bad c = record {
  gives = λ start items begun stands going later.
      rw (append_assoc begun (c.args.byte ∷ []) later) (frame_law.bad begun later c.args.byte _ stands.begun (rw stands.reads at (sym c.feed.ensures.value ∙ c.in-Bad.is)));
}

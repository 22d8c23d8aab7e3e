use Rattle.flight_link.proofs.Prelude.{◌++◌, ◌∷◌, [], drones, sym, ◌∙◌, IsBegun, moved}
use Rattle.flight_link.proofs.EventLemmas.{none_begun}
use Rattle.flight_link.proofs.exchange.LinkedMachine.feed.Goals as goal

pub feed-requires : goal.feed-requires
feed-requires c = let stands = c.requires.going.1.2 in rw (stands.counted, stands.reads) stands.begun

pub returns-in-More : goal.returns-in-More
returns-in-More c = record {
  gives = λ start events begun stands going. (
      let now = rw stands.reads at c.feed.ensures.bytes in
      let is : IsBegun (drones start.director.flight) (begun ++ c.args.byte ∷ []) = rw (now, stands.counted) at (rw c.in-More.is at c.feed.ensures.gives) in
      (record { flight = stands.flight; counted = stands.counted; state = stands.state; reads = now; begun = is }, is));
}

pub returns-in-Whole : goal.returns-in-Whole
returns-in-Whole c = record {
  gives = λ start events begun stands going. (
      let now = rw stands.reads at c.feed.ensures.bytes in
      let whole = rw (now, stands.counted) at (rw c.in-Whole.is at c.feed.ensures.gives) in
      moved _ _ _ _ _ _ _ _ (λ now stands. stands) (λ bytes is. is ∙ sym whole.1) (c.hear.ensures start.director.flight events (record { flight = stands.flight; counted = stands.counted; state = stands.state; reads = c.make-self.ensures; begun = none_begun (drones start.director.flight) }) going whole.0));
}

pub returns-in-Bad : goal.returns-in-Bad
returns-in-Bad c = record { gives = λ start events begun stands going. rw (rw stands.reads at c.feed.ensures.bytes, stands.counted) at (rw c.in-Bad.is at c.feed.ensures.gives) }

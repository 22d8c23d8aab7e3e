use Rattle.show_verify.proofs.Prelude.{IsInput-now, of_source, ◌≡◌, ◌+◌, ◌++◌, ◌<◌, ◌≤◌, Bool, [], length, length-append, take, refl, ap, ◌∙◌, arith, length-take-le, stream, begins_after, List, ℕ, MayGive, Went-none, Went-trans, at_its_end, back, to_come}
use Rattle.show_verify.proofs.SecondLemmas.{fed_marked, fed_more, fed_none, fed_over, fed_whole, few_marked, few_whole, number_more}
use Rattle.show_verify.proofs.verifying.take_second.Goals as goal

pub pieces-init : goal.pieces-init
pieces-init g c = record {
  feeds = λ all may. record { fed = []; count = refl; has_read = c.requires.unfed; number_is = refl; is_fed = fed_none c.part_law.ensures (stream c.args.parts.now (to_come all (g.S.Source.told c.args.source.now))) _ c.requires.at_line };
  most = omega arith;
  small = omega arith;
  clearance = refl;
  sound = c.requires.sound;
  lines = c.requires.lines;
  at_end = c.requires.at_end;
  went = Went-none _ _ _ refl c.requires.at_end;
}

pub returns-then-more-count-clause-gives : goal.returns-then-more-count-clause-gives
returns-then-more-count-clause-gives g c all may =
    let f = (c.pieces.invariant.feeds all (back _ _ _ _ all c.part_bytes.ensures.went may)) in
    let waiting = c.part_bytes.new.self.waiting in
    let within = rw c.in-Bytes.is at c.in_ok-ask.ensures.within in
    let sized : length (take c.in-Bytes.more waiting) ≡ c.in-Bytes.more = length-take-le c.in-Bytes.more waiting within.1 in
    let over : 400000000 < length (f.fed ++ take c.in-Bytes.more waiting) = omega (arith, c.if-more-count.true, f.count, c.pieces.invariant.most, sized, length-append f.fed (take c.in-Bytes.more waiting)) in
    fed_over 400000000 (stream c.args.parts.now (to_come all (g.S.Source.told c.args.source.now))) _ _ _ over
    (fed_more (stream c.args.parts.now (to_come all (g.S.Source.told c.args.source.now))) c.pieces.parts.at_line (stream c.pieces.parts (to_come all (g.S.Source.told c.pieces.source))) f.fed waiting (to_come all (g.S.Source.told c.part_bytes.new.source)) c.in-Bytes.more f.is_fed (rw c.in-Bytes.is at (c.in_ok-ask.ensures.asks all may)))

pub pieces-preserved : goal.pieces-preserved
pieces-preserved g c =
    let waiting = c.part_bytes.new.self.waiting in
    let piece = take c.in-Bytes.more waiting in
    let within = rw c.in-Bytes.is at c.in_ok-ask.ensures.within in
    let sized : length piece ≡ c.in-Bytes.more = length-take-le c.in-Bytes.more waiting within.1 in
    let feeds : c.feeds-line.result ≤ length piece = rw c.waiting.ensures.value at c.feeds-line.ensures.most in
    record {
      feeds = λ all may. (
          let mid : MayGive c.part_bytes.new.self.ended (g.S.Source.told c.part_bytes.new.source) all = rw (← c.consume.ensures.ended) may in
          let before = back _ _ _ _ all c.part_bytes.ensures.went mid in
          let f = c.pieces.invariant.feeds all before in
          let waiting = c.part_bytes.new.self.waiting in
          let piece = take c.in-Bytes.more waiting in
          let within = rw c.in-Bytes.is at c.in_ok-ask.ensures.within in
          let sized : length piece ≡ c.in-Bytes.more = length-take-le c.in-Bytes.more waiting within.1 in
          let short : length f.fed + length piece ≤ 400000000 = omega (arith, c.if-more-count.false, f.count, c.pieces.invariant.most, sized) in
          let line : c.consume.new.self.at_line ≡ begins_after c.pieces.parts.at_line piece = c.consume.ensures.line ∙ ap (λ (b : Bool). begins_after b piece) (rw c.in-Bytes.is at c.in_ok-ask.ensures.line) in
          let feeds : c.feeds-line.result ≤ length piece = rw c.waiting.ensures.value at c.feeds-line.ensures.most in
          record {
            fed = f.fed ++ piece;
            count = omega (arith, f.count, sized, length-append f.fed piece);
            has_read = (rw c.waiting.ensures.value at c.feed.ensures.has_read) f.fed short f.has_read;
            number_is = number_more f.fed piece c.pieces.line c.feeds-line.result f.number_is (rw c.waiting.ensures.value at c.feeds-line.ensures.exact);
            is_fed = rw (line, c.consume.ensures.waiting)
                (fed_more (stream c.args.parts.now (to_come all (g.S.Source.told c.args.source.now))) c.pieces.parts.at_line (stream c.pieces.parts (to_come all (g.S.Source.told c.pieces.source))) f.fed waiting (to_come all (g.S.Source.told c.part_bytes.new.source)) c.in-Bytes.more f.is_fed (rw c.in-Bytes.is at (c.in_ok-ask.ensures.asks all mid)));
          });
      most = omega (arith, c.if-more-count.false, c.pieces.invariant.most);
      small = omega (arith, feeds, sized, c.pieces.invariant.small);
      clearance = c.feed.ensures.clearance ∙ c.pieces.invariant.clearance;
      sound = c.consume.ensures.sound ∙ c.in_ok-ask.ensures.sound;
      lines = c.consume.ensures.lines ∙ c.part_bytes.ensures.lines ∙ c.pieces.invariant.lines;
      at_end = λ ended. c.part_bytes.ensures.went.at_end (rw c.consume.ensures.ended at ended);
      went = rw c.consume.ensures.ended (Went-trans _ _ _ _ _ _ c.pieces.invariant.went c.part_bytes.ensures.went);
    }

pub returns-in-Marker-clause-gives : goal.returns-in-Marker-clause-gives
returns-in-Marker-clause-gives g c all may =
    let f = (c.pieces.invariant.feeds all (back _ _ _ _ all c.part_bytes.ensures.went may)) in (
      f.fed,
      omega (arith, f.count, c.pieces.invariant.most),
      f.has_read,
      fed_marked (stream c.args.parts.now (to_come all (g.S.Source.told c.args.source.now))) c.pieces.parts.at_line (stream c.pieces.parts (to_come all (g.S.Source.told c.pieces.source))) f.fed c.part_bytes.new.self.waiting (to_come all (g.S.Source.told c.part_bytes.new.source))
          c.pieces.line f.number_is f.is_fed (rw c.in-Marker.is at (c.in_ok-ask.ensures.asks all may)),
    )

pub returns-in-Marker-clause-few : goal.returns-in-Marker-clause-few
returns-in-Marker-clause-few g c all may =
    few_marked (stream c.args.parts.now (to_come all (g.S.Source.told c.args.source.now))) c.pieces.parts.at_line (stream c.pieces.parts (to_come all (g.S.Source.told c.pieces.source))) (c.pieces.invariant.feeds all (back _ _ _ _ all c.part_bytes.ensures.went may)).fed c.part_bytes.new.self.waiting (to_come all (g.S.Source.told c.part_bytes.new.source)) (c.pieces.invariant.feeds all (back _ _ _ _ all c.part_bytes.ensures.went may)).is_fed
    (rw c.in-Marker.is at (c.in_ok-ask.ensures.asks all may)) c.part_bytes.ensures.most

pub returns-in-End-clause-gives : goal.returns-in-End-clause-gives
returns-in-End-clause-gives g c all may =
    let f = (c.pieces.invariant.feeds all (back _ _ _ _ all c.part_bytes.ensures.went may)) in (
      f.fed,
      omega (arith, f.count, c.pieces.invariant.most),
      f.has_read,
      fed_whole (stream c.args.parts.now (to_come all (g.S.Source.told c.args.source.now))) c.pieces.parts.at_line (stream c.pieces.parts (to_come all (g.S.Source.told c.pieces.source))) f.fed c.part_bytes.new.self.waiting (to_come all (g.S.Source.told c.part_bytes.new.source))
          f.is_fed (rw c.in-End.is at (c.in_ok-ask.ensures.asks all may)),
    )

pub returns-in-End-clause-few : goal.returns-in-End-clause-few
returns-in-End-clause-few g c all may =
    few_whole (stream c.args.parts.now (to_come all (g.S.Source.told c.args.source.now))) c.pieces.parts.at_line (stream c.pieces.parts (to_come all (g.S.Source.told c.pieces.source))) (c.pieces.invariant.feeds all (back _ _ _ _ all c.part_bytes.ensures.went may)).fed c.part_bytes.new.self.waiting (to_come all (g.S.Source.told c.part_bytes.new.source)) (c.pieces.invariant.feeds all (back _ _ _ _ all c.part_bytes.ensures.went may)).is_fed
    (rw c.in-End.is at (c.in_ok-ask.ensures.asks all may)) c.part_bytes.ensures.most

pub returns-in_err-ask-clause-went : goal.returns-in_err-ask-clause-went
returns-in_err-ask-clause-went g c = Went-trans _ _ _ _ _ _ c.pieces.invariant.went c.part_bytes.ensures.went

pub returns-then-more-count-clause-went : goal.returns-then-more-count-clause-went
returns-then-more-count-clause-went g c = Went-trans _ _ _ _ _ _ c.pieces.invariant.went c.part_bytes.ensures.went

pub returns-in-Marker-clause-went : goal.returns-in-Marker-clause-went
returns-in-Marker-clause-went g c = Went-trans _ _ _ _ _ _ c.pieces.invariant.went c.part_bytes.ensures.went

pub returns-in-End-clause-went : goal.returns-in-End-clause-went
returns-in-End-clause-went g c = Went-trans _ _ _ _ _ _ c.pieces.invariant.went c.part_bytes.ensures.went

pub feed-requires : goal.feed-requires
feed-requires g c =
    let told = g.S.Source.told c.pieces.source in
    let f = c.pieces.invariant.feeds told.given (of_source _ told _ c.pieces.invariant.at_end (IsInput-now told)) in
    let waiting = c.part_bytes.new.self.waiting in
    let within = rw c.in-Bytes.is at c.in_ok-ask.ensures.within in
    let sized : length (take c.in-Bytes.more waiting) ≡ c.in-Bytes.more = length-take-le c.in-Bytes.more waiting within.1 in
    (f.fed, rw c.waiting.ensures.value (omega (arith, c.if-more-count.false, f.count, c.pieces.invariant.most, sized)), f.has_read)

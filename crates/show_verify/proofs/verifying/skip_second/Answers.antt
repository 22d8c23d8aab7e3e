use Rattle.show_verify.proofs.Prelude.{◌≡◌, ◌++◌, ◌<◌, Bool, [], length, length-append, take, refl, ap, ◌∙◌, arith, IsTrue, IsAtEnd, length-take-le, stream, begins_after, List, ℕ, MayGive, Went-none, Went-trans, at_its_end, back, to_come}
use Rattle.show_verify.proofs.SecondLemmas.{ended_whole, fed_more, fed_none, few_marked, few_whole, skipped_marked, skipped_over}
use Rattle.show_verify.proofs.verifying.skip_second.Goals as goal

pub pieces-init : goal.pieces-init
pieces-init g c = record {
  skips = λ all may. record { fed = []; count = refl; is_fed = fed_none c.part_law.ensures (stream c.args.parts.now (to_come all (g.S.Source.told c.args.source.now))) _ c.requires.at_line };
  sound = c.requires.sound;
  lines = c.requires.lines;
  at_end = c.requires.at_end;
  went = Went-none _ _ _ refl c.requires.at_end;
}

pub pieces-preserved : goal.pieces-preserved
pieces-preserved g c =
    let waiting = c.part_bytes.new.self.waiting in
    let piece = take c.in-Bytes.more waiting in
    let within = rw c.in-Bytes.is at c.in_ok-ask.ensures.within in
    let sized : length piece ≡ c.in-Bytes.more = length-take-le c.in-Bytes.more waiting within.1 in
    record {
      skips = λ all may. (
          let mid : MayGive c.part_bytes.new.self.ended (g.S.Source.told c.part_bytes.new.source) all = rw (← c.consume.ensures.ended) may in
          let before = back _ _ _ _ all c.part_bytes.ensures.went mid in
          let s = c.pieces.invariant.skips all before in
          let waiting = c.part_bytes.new.self.waiting in
          let piece = take c.in-Bytes.more waiting in
          let within = rw c.in-Bytes.is at c.in_ok-ask.ensures.within in
          let sized : length piece ≡ c.in-Bytes.more = length-take-le c.in-Bytes.more waiting within.1 in
          let line : c.consume.new.self.at_line ≡ begins_after c.pieces.parts.at_line piece = c.consume.ensures.line ∙ ap (λ (b : Bool). begins_after b piece) (rw c.in-Bytes.is at c.in_ok-ask.ensures.line) in
          record {
            fed = s.fed ++ piece;
            count = omega (arith, s.count, sized, length-append s.fed piece);
            is_fed = rw (line, c.consume.ensures.waiting)
                (fed_more (stream c.args.parts.now (to_come all (g.S.Source.told c.args.source.now))) c.pieces.parts.at_line (stream c.pieces.parts (to_come all (g.S.Source.told c.pieces.source))) s.fed waiting (to_come all (g.S.Source.told c.part_bytes.new.source)) c.in-Bytes.more s.is_fed (rw c.in-Bytes.is at (c.in_ok-ask.ensures.asks all mid)));
          });
      sound = c.consume.ensures.sound ∙ c.in_ok-ask.ensures.sound;
      lines = c.consume.ensures.lines ∙ c.part_bytes.ensures.lines ∙ c.pieces.invariant.lines;
      at_end = λ ended. c.part_bytes.ensures.went.at_end (rw c.consume.ensures.ended at ended);
      went = rw c.consume.ensures.ended (Went-trans _ _ _ _ _ _ c.pieces.invariant.went c.part_bytes.ensures.went);
    }

pub returns-in_err-ask-clause-went : goal.returns-in_err-ask-clause-went
returns-in_err-ask-clause-went g c = Went-trans _ _ _ _ _ _ c.pieces.invariant.went c.part_bytes.ensures.went

pub returns-in-Marker : goal.returns-in-Marker
returns-in-Marker g c =
    record {
      whole = λ all may. (
          let before = back _ _ _ _ all c.part_bytes.ensures.went may in
          let s = c.pieces.invariant.skips all before in
          let waiting = c.part_bytes.new.self.waiting in
          let now = stream c.pieces.parts (to_come all (g.S.Source.told c.pieces.source)) in
          let left = to_come all (g.S.Source.told c.part_bytes.new.source) in
          let asks = rw c.in-Marker.is at (c.in_ok-ask.ensures.asks all may) in
          skipped_marked (stream c.args.parts.now (to_come all (g.S.Source.told c.args.source.now))) c.pieces.count c.pieces.parts.at_line now waiting left s asks
          (few_marked (stream c.args.parts.now (to_come all (g.S.Source.told c.args.source.now))) c.pieces.parts.at_line now s.fed waiting left s.is_fed asks c.part_bytes.ensures.most));
      failed = tt;
      went = Went-trans _ _ _ _ _ _ c.pieces.invariant.went c.part_bytes.ensures.went;
    }

pub returns-in-End : goal.returns-in-End
returns-in-End g c =
    let ended : IsTrue c.part_bytes.new.self.ended = c.in_ok-ask.ensures.ended c.in-End.is in
    record {
      whole = λ all may. (
          let before = back _ _ _ _ all c.part_bytes.ensures.went may in
          let s = c.pieces.invariant.skips all before in
          let left = to_come all (g.S.Source.told c.part_bytes.new.source) in
          let at_end : IsAtEnd left = at_its_end _ _ all may ended in
          ended_whole (stream c.args.parts.now (to_come all (g.S.Source.told c.args.source.now))) left at_end
          (few_whole (stream c.args.parts.now (to_come all (g.S.Source.told c.args.source.now))) c.pieces.parts.at_line (stream c.pieces.parts (to_come all (g.S.Source.told c.pieces.source))) s.fed c.part_bytes.new.self.waiting left s.is_fed
          (rw c.in-End.is at (c.in_ok-ask.ensures.asks all may)) c.part_bytes.ensures.most));
      failed = tt;
      went = Went-trans _ _ _ _ _ _ c.pieces.invariant.went c.part_bytes.ensures.went;
    }

pub returns-clause-whole : goal.returns-clause-whole
returns-clause-whole g c all may =
    let over : 400000000 < c.pieces.count = omega (arith, c.pieces-test.false) in
    skipped_over (stream c.args.parts.now (to_come all (g.S.Source.told c.args.source.now))) c.pieces.count c.pieces.parts.at_line (stream c.pieces.parts (to_come all (g.S.Source.told c.pieces.source))) (to_come all (g.S.Source.told c.pieces.source)) over (c.pieces.invariant.skips all may)

use Rattle.link_dialogue.proofs.Prelude.{◌≡◌, ◌++◌, ◌∷◌, [], append_assoc, length-append, refl, sym, arith, rules, length, List, ℕ, Took-none, Took-trans, Went-none, Went-trans, back, consumed, nothing_before, stream, to_come, BeginsNone}
use Rattle.link_dialogue.proofs.ItemLemmas.{bad_front, cut_front, end_front}
use Rattle.link_dialogue.proofs.CarryLemmas.{moved, took_front}
use Rattle.link_dialogue.proofs.driver.step.Goals as goal

pub returns-in-Some-clause-gives : goal.returns-in-Some-clause-gives
returns-in-Some-clause-gives g c all may = λ start items stands going.
    moved _ _ _ _ _ _ _ _ (λ now stands. stands) (λ whole is. rw is (rw c.waiting.ensures.value (consumed _ _ _ all _ _ _ (took_front _ _ _ _ c.take_waiting.ensures.waiting) may))) (c.in-Some.ensures.gives start items stands going)

pub bytes-init : goal.bytes-init
bytes-init g c = record {
  begun = ([], Took-none _ _, refl, (λ start items stands going. (c.in-None.ensures.stays start items stands, (c.requires.law start).none)));
  sound = c.requires.sound;
  holds = c.requires.holds;
  at_end = c.requires.at_end;
  began = λ e. e;
  went = Went-none _ _ _ refl c.requires.at_end;
}

pub feed-requires : goal.feed-requires
feed-requires g c =
    let going = c.requires.going in
    let b = c.bytes.invariant.begun in
    record { going = (b.0, (going.0, going.1, (b.3 going.0 going.1 going.2 going.3).0, going.3)) }

pub returns-in-Whole-clause-gives : goal.returns-in-Whole-clause-gives
returns-in-Whole-clause-gives g c all may = λ start items stands going.
    let b = c.bytes.invariant.begun in
    let took = rw c.in-Whole.is at (c.feed.ensures.gives start items b.0 (b.3 start items stands going).0 going) in
    moved _ _ _ _ _ _ _ _ (λ now stands. stands) (λ whole is. rw is (consumed _ _ _ all _ _ _ (Took-trans _ _ _ _ _ _ _ _ b.1 (rw (c.in_ok-byte.was, c.in-Some-2.is) at c.byte.ensures.took)) may)) took

pub returns-in-Bad-clause-gives : goal.returns-in-Bad-clause-gives
returns-in-Bad-clause-gives g c all may = λ start items stands going.
    let b = c.bytes.invariant.begun in
    let none = rw c.in-Bad.is at (c.feed.ensures.gives start items b.0 (b.3 start items stands going).0 going) in
    bad_front (BeginsNone (g.M.Machine.dialogue start)) (stream c.args.parts.now (to_come all (g.S.Source.told c.args.source.now))) (stream c.byte.new.self (to_come all (g.S.Source.told c.byte.new.source))) (b.0 ++ c.in-Some-2.byte ∷ []) (consumed _ _ _ all _ _ _ (Took-trans _ _ _ _ _ _ _ _ b.1 (rw (c.in_ok-byte.was, c.in-Some-2.is) at c.byte.ensures.took)) may)
    (omega (arith, length-append b.0 (c.in-Some-2.byte ∷ []))) none

pub bytes-preserved : goal.bytes-preserved
bytes-preserved g c =
    let b = c.bytes.invariant.begun in
    record {
      begun = (
        b.0 ++ c.in-Some-2.byte ∷ [],
        Took-trans _ _ _ _ _ _ _ _ b.1 (rw (c.in_ok-byte.was, c.in-Some-2.is) at c.byte.ensures.took),
        omega (arith, length-append b.0 (c.in-Some-2.byte ∷ []), b.2),
        (λ start items stands going. rw c.in-More.is at (c.feed.ensures.gives start items b.0 (b.3 start items stands going).0 going)),
      );
      sound = search rules;
      holds = c.byte.ensures.most;
      at_end = c.byte.ensures.went.at_end;
      began = search rules;
      went = Went-trans _ _ _ _ _ _ c.bytes.invariant.went c.byte.ensures.went;
    }

pub unreachable-requires : goal.unreachable-requires
unreachable-requires g c =
    let going = c.requires.going in
    let b = c.bytes.invariant.begun in
    omega (arith, (c.requires.law going.0).short b.0 (b.3 going.0 going.1 going.2 going.3).1, b.2)

pub returns-in-None-2-clause-gives : goal.returns-in-None-2-clause-gives
returns-in-None-2-clause-gives g c all may = λ start items stands going.
    let none = rw c.in-None-2.is at c.in_ok-byte.ensures.none in
    let told = g.S.Source.told c.byte.new.source in
    let b = c.bytes.invariant.begun in
    let at_end = nothing_before _ _ told all c.bytes.parts.waiting c.byte.new.self.waiting _ c.byte.ensures.took (rw (c.in_ok-byte.was, c.in-None-2.is) refl) may none.2 none.1 in
    end_front (stream c.args.parts.now (to_come all (g.S.Source.told c.args.source.now))) (stream c.bytes.parts (to_come all (g.S.Source.told c.bytes.source))) b.0 (consumed _ _ _ all _ _ _ b.1 (back _ _ _ _ all c.byte.ensures.went may)) at_end (omega (arith, b.2))

pub returns-in-None-2-2-clause-gives : goal.returns-in-None-2-2-clause-gives
returns-in-None-2-2-clause-gives g c all may = λ start items stands going.
    let none = rw c.in-None-2-2.is at c.in_ok-byte.ensures.none in
    let told = g.S.Source.told c.byte.new.source in
    let b = c.bytes.invariant.begun in
    let at_end = nothing_before _ _ told all c.bytes.parts.waiting c.byte.new.self.waiting _ c.byte.ensures.took (rw (c.in_ok-byte.was, c.in-None-2-2.is) refl) may none.2 none.1 in
    cut_front (BeginsNone (g.M.Machine.dialogue start)) (stream c.args.parts.now (to_come all (g.S.Source.told c.args.source.now))) (stream c.bytes.parts (to_come all (g.S.Source.told c.bytes.source))) b.0 (consumed _ _ _ all _ _ _ b.1 (back _ _ _ _ all c.byte.ensures.went may)) at_end
    (λ empty. omega (arith, empty, b.2)) ((c.requires.law start).begun b.0 (b.3 start items stands going).1)

pub returns-in_err-byte-clause-went : goal.returns-in_err-byte-clause-went
returns-in_err-byte-clause-went g c = Went-trans _ _ _ _ _ _ c.bytes.invariant.went c.byte.ensures.went

pub returns-in-None-2-clause-went : goal.returns-in-None-2-clause-went
returns-in-None-2-clause-went g c = Went-trans _ _ _ _ _ _ c.bytes.invariant.went c.byte.ensures.went

pub returns-in-None-2-2-clause-went : goal.returns-in-None-2-2-clause-went
returns-in-None-2-2-clause-went g c = Went-trans _ _ _ _ _ _ c.bytes.invariant.went c.byte.ensures.went

pub returns-in-Whole-clause-went : goal.returns-in-Whole-clause-went
returns-in-Whole-clause-went g c = Went-trans _ _ _ _ _ _ c.bytes.invariant.went c.byte.ensures.went

pub returns-in-Bad-clause-went : goal.returns-in-Bad-clause-went
returns-in-Bad-clause-went g c = Went-trans _ _ _ _ _ _ c.bytes.invariant.went c.byte.ensures.went

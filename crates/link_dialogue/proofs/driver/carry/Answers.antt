use Rattle.link_dialogue.proofs.Prelude.{inl, inr, refl, sym, ◌∙◌, arith, IsInput-now, Went-none, Went-trans, back, consumed, of_source, stream, to_come}
use Rattle.link_dialogue.proofs.ItemLemmas.{Rose-later, grown_by, grown_more}
use Rattle.link_dialogue.proofs.CarryLemmas.{Carries-none, Carries-push, breaks, breaks_first, carried, end_answered, end_faulty, end_full, end_none, fails, prompt_answered, prompt_broken, prompt_carried, prompt_first, short_begun, short_end, short_faulty, short_item, short_waiting, stops_before, stops_first, stops_waiting}
use Rattle.link_dialogue.proofs.driver.carry.Goals as goal

-- ---- before any item

pub returns-in-Err-clause-gives : goal.returns-in-Err-clause-gives
returns-in-Err-clause-gives g c all may =
    let t = g.M.Machine.dialogue c.args.machine.now in
    record {
      ends = breaks_first t (c.requires.law c.args.machine.now) (stream c.args.parts.now (to_come all (g.S.Source.told c.args.source.now))) _ _ (rw (c.answer.ensures, c.requires.first) at c.in-Err.ensures.front);
      prompt = prompt_first t c.args.parts.now.waiting _ _ _ c.requires.holds;
      stops = stops_first t c.args.parts.now.waiting _ c.requires.holds;
    }

pub returns-in-Err-clause-grown : goal.returns-in-Err-clause-grown
returns-in-Err-clause-grown g c = (c.in-Err.ensures.front.0, c.in-Err.ensures.front.3)

pub items-init : goal.items-init
items-init g c =
    let first = rw (c.answer.ensures, c.requires.first) at c.in-Ok.ensures.ok in
    record {
      carries = λ all may. Carries-none (g.M.Machine.dialogue c.args.machine.now) _ _ _ _ c.requires.new c.requires.going first;
      grown = (_, first);
      sound = c.requires.sound;
      holds = c.requires.holds;
      at_end = c.requires.at_end;
      began = λ e. e;
      went = Went-none _ _ _ refl c.requires.at_end;
      sink_later = c.in-Ok.ensures.cause.later;
    }

-- ---- no item comes

pub step-requires-clause-going : goal.step-requires-clause-going
step-requires-clause-going g c =
    let carries = c.items.invariant.carries (g.S.Source.told c.items.source).given (of_source _ _ _ c.items.invariant.at_end (IsInput-now (g.S.Source.told c.items.source))) in
    (c.args.machine.now, carries.items, carries.stands, carries.going)

pub returns-in-Err-step-clause-gives : goal.returns-in-Err-step-clause-gives
returns-in-Err-step-clause-gives g c all may =
    let t = g.M.Machine.dialogue c.args.machine.now in
    let law = c.requires.law c.args.machine.now in
    let carries = c.items.invariant.carries all (back _ _ _ _ all c.step.ensures.went may) in
    let failed = c.in-Err-step.ensures.failed c.args.machine.now carries.items carries.stands carries.going in
    let left = consumed _ _ _ all _ _ _ failed.2.2 may in
    carried t law _ (stream c.args.parts.now (to_come all (g.S.Source.told c.args.source.now))) (stream c.items.parts (to_come all (g.S.Source.told c.items.source))) (to_come all (g.S.Source.told c.step.new.source)) _ _ _ _ carries c.items-test.true
    (short_begun t law (stream c.items.parts (to_come all (g.S.Source.told c.items.source))) (to_come all (g.S.Source.told c.step.new.source)) failed.2.0 failed.2.1 left)
    (fails t (stream c.args.parts.now (to_come all (g.S.Source.told c.args.source.now))) (stream c.items.parts (to_come all (g.S.Source.told c.items.source))) (to_come all (g.S.Source.told c.step.new.source)) _ _ _ _ carries c.items-test.true failed.2.0 failed.2.1 left)

pub returns-in-Err-step-clause-read : goal.returns-in-Err-step-clause-read
returns-in-Err-step-clause-read g c = λ _.
    let inv = c.items.invariant in
    let carries = inv.carries (g.S.Source.told c.items.source).given (of_source _ _ _ inv.at_end (IsInput-now (g.S.Source.told c.items.source))) in
    let failed = c.in-Err-step.ensures.failed c.args.machine.now carries.items carries.stands carries.going in
    (Rose-later _ _ _ inv.went.gives.later c.in-Err-step.ensures.cause, inv.began failed.0)

pub returns-in-Err-step-clause-went : goal.returns-in-Err-step-clause-went
returns-in-Err-step-clause-went g c = Went-trans _ _ _ _ _ _ c.items.invariant.went c.step.ensures.went

pub returns-in-End-clause-went : goal.returns-in-End-clause-went
returns-in-End-clause-went g c = Went-trans _ _ _ _ _ _ c.items.invariant.went c.step.ensures.went

pub returns-in-Faulty-clause-went : goal.returns-in-Faulty-clause-went
returns-in-Faulty-clause-went g c = Went-trans _ _ _ _ _ _ c.items.invariant.went c.step.ensures.went

pub returns-in-End-clause-gives : goal.returns-in-End-clause-gives
returns-in-End-clause-gives g c all may =
    let t = g.M.Machine.dialogue c.args.machine.now in
    let law = c.requires.law c.args.machine.now in
    let carries = c.items.invariant.carries all (back _ _ _ _ all c.step.ensures.went may) in
    let none = rw c.in-End.is at (c.in-Ok-step.ensures.gives all may c.args.machine.now carries.items carries.stands carries.going) in
    carried t law _ _ _ _ _ _ _ _ carries c.items-test.true (short_end t law _ _ none) (end_none t _ _ _ _ _ _ carries c.items-test.true none)

pub returns-in-Faulty-clause-gives : goal.returns-in-Faulty-clause-gives
returns-in-Faulty-clause-gives g c all may =
    let t = g.M.Machine.dialogue c.args.machine.now in
    let carries = c.items.invariant.carries all (back _ _ _ _ all c.step.ensures.went may) in
    let faulty = rw c.in-Faulty.is at (c.in-Ok-step.ensures.gives all may c.args.machine.now carries.items carries.stands carries.going) in
    carried t (c.requires.law c.args.machine.now) _ _ _ _ _ _ _ _ carries c.items-test.true (short_faulty t _ _ faulty) (end_faulty t _ _ _ _ _ _ carries c.items-test.true faulty)

-- ---- an item

pub returns-in-Err-write_whole-clause-gives : goal.returns-in-Err-write_whole-clause-gives
returns-in-Err-write_whole-clause-gives g c all may =
    let t = g.M.Machine.dialogue c.args.machine.now in
    let law = c.requires.law c.args.machine.now in
    let carries = c.items.invariant.carries all (back _ _ _ _ all c.step.ensures.went may) in
    let took = rw c.in-Answered.is at (c.in-Ok-step.ensures.gives all may c.args.machine.now carries.items carries.stands carries.going) in
    let is_short = short_item t law (stream c.items.parts (to_come all (g.S.Source.told c.items.source))) c.step.new.parts.waiting (to_come all (g.S.Source.told c.step.new.source)) took.item took.formed c.step.ensures.holds took.taken in
    let front = rw c.answer-in-items.ensures at c.in-Err-write_whole.ensures.front in
    record {
      ends = breaks t law (stream c.args.parts.now (to_come all (g.S.Source.told c.args.source.now))) (stream c.items.parts (to_come all (g.S.Source.told c.items.source))) (stream c.step.new.parts (to_come all (g.S.Source.told c.step.new.source))) _ _ _ _ _ _ carries _ _ took c.items-test.true front;
      prompt = prompt_broken t law _ _ _ _ _ _ _ _ _ carries front is_short;
      stops = stops_before t law _ _ _ _ _ _ _ carries c.items-test.true is_short;
    }

pub returns-in-Err-write_whole-clause-write : goal.returns-in-Err-write_whole-clause-write
returns-in-Err-write_whole-clause-write g c = λ _. Rose-later _ _ _ c.items.invariant.sink_later c.in-Err-write_whole.ensures.cause.failed

pub returns-in-Err-write_whole-clause-grown : goal.returns-in-Err-write_whole-clause-grown
returns-in-Err-write_whole-clause-grown g c = grown_more _ _ _ _ _ c.items.invariant.grown.1 c.in-Err-write_whole.ensures.front

pub returns-in-Some-clause-gives : goal.returns-in-Some-clause-gives
returns-in-Some-clause-gives g c all may =
    let t = g.M.Machine.dialogue c.args.machine.now in
    let law = c.requires.law c.args.machine.now in
    let carries = c.items.invariant.carries all (back _ _ _ _ all c.step.ensures.went may) in
    let took = rw c.in-Answered.is at (c.in-Ok-step.ensures.gives all may c.args.machine.now carries.items carries.stands carries.going) in
    let out = rw c.answer-in-items.ensures at c.in-Ok-write_whole.ensures.ok in
    record {
      ends = end_answered t (stream c.args.parts.now (to_come all (g.S.Source.told c.args.source.now))) (stream c.items.parts (to_come all (g.S.Source.told c.items.source))) (stream c.step.new.parts (to_come all (g.S.Source.told c.step.new.source))) _ _ _ _ _ _ carries _ _ took c.items-test.true out c.in-Some.status c.in-Some.is;
      prompt = prompt_answered t law _ _ _ _ _ _ _ _ _ _ carries _ _ took out (short_waiting t c.step.new.parts.waiting _ c.step.ensures.holds);
      stops = stops_before t law _ _ _ _ _ _ _ carries c.items-test.true (short_item t law (stream c.items.parts (to_come all (g.S.Source.told c.items.source))) c.step.new.parts.waiting (to_come all (g.S.Source.told c.step.new.source)) took.item took.formed c.step.ensures.holds took.taken);
    }

pub returns-in-Err-write_whole-clause-went : goal.returns-in-Err-write_whole-clause-went
returns-in-Err-write_whole-clause-went g c = Went-trans _ _ _ _ _ _ c.items.invariant.went c.step.ensures.went

pub returns-in-Some-clause-went : goal.returns-in-Some-clause-went
returns-in-Some-clause-went g c = Went-trans _ _ _ _ _ _ c.items.invariant.went c.step.ensures.went

pub returns-in-Some-clause-grown : goal.returns-in-Some-clause-grown
returns-in-Some-clause-grown g c = grown_by _ _ _ _ _ c.items.invariant.grown.1 c.in-Ok-write_whole.ensures.ok

pub returns-in-Some-clause-known : goal.returns-in-Some-clause-known
returns-in-Some-clause-known g c =
    let carries = c.items.invariant.carries (g.S.Source.told c.step.new.source).given (back _ _ _ _ _ c.step.ensures.went (of_source _ _ _ c.step.ensures.went.at_end (IsInput-now (g.S.Source.told c.step.new.source)))) in
    let took = rw c.in-Answered.is at (c.in-Ok-step.ensures.gives _ (of_source _ _ _ c.step.ensures.went.at_end (IsInput-now (g.S.Source.told c.step.new.source))) c.args.machine.now carries.items carries.stands carries.going) in
    inl (_, sym took.ended ∙ c.in-Some.is)

pub items-preserved : goal.items-preserved
items-preserved g c =
    let inv = c.items.invariant in
    let out = rw c.answer-in-items.ensures at c.in-Ok-write_whole.ensures.ok in
    record {
      carries = λ all may. (
          let carries = inv.carries all (back _ _ _ _ all c.step.ensures.went may) in
          let took = rw c.in-Answered.is at (c.in-Ok-step.ensures.gives all may c.args.machine.now carries.items carries.stands carries.going) in
          Carries-push (g.M.Machine.dialogue c.args.machine.now) _ _ _ _ _ _ _ _ _ _ carries _ _ took out (omega arith) c.in-None.is);
      grown = grown_by _ _ _ _ _ inv.grown.1 out;
      sound = c.in-Ok-step.ensures.sound;
      holds = c.step.ensures.holds;
      at_end = c.step.ensures.went.at_end;
      began = λ e. inv.began (c.step.ensures.began e);
      went = Went-trans _ _ _ _ _ _ inv.went c.step.ensures.went;
      sink_later = omega (arith, inv.sink_later, c.in-Ok-write_whole.ensures.cause.later);
    }

-- ---- this many items

pub returns-clause-gives : goal.returns-clause-gives
returns-clause-gives g c all may =
    let t = g.M.Machine.dialogue c.args.machine.now in
    let law = c.requires.law c.args.machine.now in
    let carries = c.items.invariant.carries all may in
    record {
      ends = end_full t _ _ _ _ _ _ carries (omega arith);
      prompt = prompt_carried t law _ _ _ _ _ _ _ carries (short_waiting t c.items.parts.waiting _ c.items.invariant.holds);
      stops = stops_waiting t law _ _ _ c.items.parts.waiting _ _ _ carries (omega arith) c.items.invariant.holds;
    }

-- ---- the statuses

pub returns-in-End-clause-known : goal.returns-in-End-clause-known
returns-in-End-clause-known g c = inr (inl refl)

pub returns-in-Faulty-clause-known : goal.returns-in-Faulty-clause-known
returns-in-Faulty-clause-known g c = inr (inr (inl refl))

pub returns-clause-known : goal.returns-clause-known
returns-clause-known g c = inr (inr (inr refl))

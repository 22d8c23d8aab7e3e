use Rattle.fleet_world.proofs.Prelude.{◌∙◌, ◌+◌, ◌<◌, ℕ, List, Option, Result, length, map, sym, ap, arith, common_steps, Absent, Line, numbered, WorldEvent, events_of, put_event, prepended}
use Rattle.fleet_world.proofs.LineLemmas.{blank_line, line_front}
use Rattle.fleet_world.proofs.ScheduleLaws.{prepended-more}
use Rattle.fleet_world.proofs.schedule.put_line.Goals as goal

pub returns-then-is_empty-clause-ok : goal.returns-then-is_empty-clause-ok
returns-then-is_empty-clause-ok c = grind (arith, common_steps, blank_line)

pub returns-in-Some-clause-ok : goal.returns-in-Some-clause-ok
returns-in-Some-clause-ok c = λ later.
    let names : List (List ℕ) = map (λ name. name.items) c.args.names.now in
    let old : List WorldEvent = c.args.events.now.items in
    let lines : List Line = numbered Absent (c.args.number + 1) later in
    let rest : Result (List WorldEvent) ℕ = events_of c.args.readback names lines in
    let some : 0 < length c.in_ok-words.words.items = rw c.as_slice.ensures.value at (let n = c.line_word_count-count.ensures.some in let m = c.line_word_count-count.ensures.within in let l : 0 < length c.as_slice.result.now = omega arith in l) in
    let front = line_front c.requires.line.0 c.args.line.now c.requires.line.1 c.in_ok-words.words.items c.line_word_count-count.result _ c.args.number lines
    c.requires.line.2 c.in_ok-words.ensures some (rw c.as_slice.ensures.value at c.line_word_count-count.ensures.line c.args.line.now) in
    ap (λ (es : List WorldEvent). prepended es rest) c.in_ok-put-in-Some.ensures
    ∙ prepended-more old c.in-Some.event c.args.number rest
    ∙ ap (λ (o : Option WorldEvent). prepended old (put_event c.args.number o rest)) (sym c.in-Some.is ∙ (rw c.as_slice-2.ensures.value at c.event_on.ensures))
    ∙ ap (λ (ls : List Line). prepended old (events_of c.args.readback names ls)) (sym front)

pub returns-clause-fault : goal.returns-clause-fault
returns-clause-fault c = λ later.
    let names : List (List ℕ) = map (λ name. name.items) c.args.names.now in
    let lines : List Line = numbered Absent (c.args.number + 1) later in
    let rest : Result (List WorldEvent) ℕ = events_of c.args.readback names lines in
    let some : 0 < length c.in_ok-words.words.items = rw c.as_slice.ensures.value at (let n = c.line_word_count-count.ensures.some in let m = c.line_word_count-count.ensures.within in let l : 0 < length c.as_slice.result.now = omega arith in l) in
    let front = line_front c.requires.line.0 c.args.line.now c.requires.line.1 c.in_ok-words.words.items c.line_word_count-count.result _ c.args.number lines
    c.requires.line.2 c.in_ok-words.ensures some (rw c.as_slice.ensures.value at c.line_word_count-count.ensures.line c.args.line.now) in
    ap (events_of c.args.readback names) front
    ∙ ap (λ (o : Option WorldEvent). put_event c.args.number o rest) (sym (rw c.as_slice-2.ensures.value at c.event_on.ensures) ∙ c.in-None.is)

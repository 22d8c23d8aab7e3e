use Rattle.byte_streams.proofs.Prelude.{◌≡◌, eqb, true, false, ◌+◌, drop, first_piece, length, sym, ap, ◌∙◌, Held, stream, is_marked_here, plain_len, MayGive, ℕ, to_come}
use Rattle.byte_streams.proofs.ByteLemmas.{asks_bytes, asks_marker, tells}
use Rattle.byte_streams.proofs.ToldLemmas.{at_its_end, kept}
use Rattle.byte_streams.proofs.parts.Parts.part_bytes.Goals as goal

pub returns-clause-asks : goal.returns-clause-asks
returns-clause-asks g c all may =
    let held = c.fill.new.self in
    let left = to_come all (g.S.Source.told c.fill.new.source) in
    let some : eqb (length held.waiting) 0 ≡ false = rw c.waiting-2.ensures.value at (sym c.is_empty.ensures ∙ c.if-is_empty.false) in
    let count : c.plain_len.result ≡ plain_len held.waiting = rw c.waiting-3.ensures.value at c.plain_len.ensures.value in
    let inside : is_marked_here c.self.inside.at_line held.waiting ≡ false = rw c.waiting.ensures.value at (sym c.is_marked_here.ensures ∙ c.if-is_marked_here.false) in
    let off : is_marked_here held.at_line held.waiting ≡ false = ap (λ (h : Held). is_marked_here h.at_line held.waiting) (sym c.self.view_is) ∙ inside in
    rw (← c.fill.ensures.at_line)
    (asks_bytes held.at_line (stream c.args.self.now (to_come all (g.S.Source.told c.args.source.now))) left held.waiting c.plain_len.result some count (kept _ _ _ all _ _ c.fill.ensures.took may)
    (tells held.at_line held.waiting left held.ended c.in-Ok.ensures.tells (at_its_end _ _ all may)) off)

pub returns-then-is_marked_here-clause-asks : goal.returns-then-is_marked_here-clause-asks
returns-then-is_marked_here-clause-asks g c all may =
    let held = c.fill.new.self in
    let left = to_come all (g.S.Source.told c.fill.new.source) in
    let met : c.skip.new.self.ended ≡ held.ended = c.skip.ensures.ended in
    let whole : MayGive held.ended (g.S.Source.told c.fill.new.source) all = rw (← met) may in
    let inside : is_marked_here c.self.inside.at_line held.waiting ≡ true = rw c.waiting.ensures.value at (sym c.is_marked_here.ensures ∙ c.if-is_marked_here.true) in
    let is : is_marked_here held.at_line held.waiting ≡ true = ap (λ (h : Held). is_marked_here h.at_line held.waiting) (sym c.self.view_is) ∙ inside in
    let len : c.line_len-len.result ≡ length (first_piece held.waiting) = rw c.waiting-then-is_marked_here.ensures.value at c.line_len-len.ensures.value in
    let skips : c.skip.new.self.waiting ≡ drop (length (first_piece held.waiting) + 1) held.waiting = c.skip.ensures.waiting ∙ ap (λ (n : ℕ). drop (n + 1) held.waiting) len in
    rw (← c.fill.ensures.at_line)
    (asks_marker held.at_line (stream c.args.self.now (to_come all (g.S.Source.told c.args.source.now))) left held.waiting c.skip.new.self.waiting (kept _ _ _ all _ _ c.fill.ensures.took whole)
    (tells held.at_line held.waiting left held.ended c.in-Ok.ensures.tells (at_its_end _ _ all whole)) is skips)

use Rattle.byte_streams.proofs.Prelude.{◌≡◌, ◌-◌, suc, take, sym, ◌∙◌, ap, arith, begins_after}
use Rattle.byte_streams.proofs.ByteLemmas.{last_tells}
use Rattle.byte_streams.proofs.parts.Parts.consume.Goals as goal

pub returns-clause-line : goal.returns-clause-line
returns-clause-line c =
    let held = c.args.self.now in
    let last : suc (c.args.count - 1) ≡ c.args.count = omega (arith, c.requires.some) in
    rw c.waiting.ensures.value (sym (last_tells held.at_line held.waiting (c.args.count - 1) (omega (arith, c.requires.some, c.requires.within)))
    ∙ ap (λ (n : _). begins_after held.at_line (take n held.waiting)) last)

use Rattle.byte_streams.proofs.Prelude.{arith, common_steps, append_assoc}
use Rattle.byte_streams.proofs.PlaceLemmas.{filled_all, filled_byte}
use Rattle.byte_streams.proofs.lines.put_next.Goals.{then-byte-eq63+in_default, else-byte-eq63}
use Rattle.byte_streams.proofs.lines.put_next.Goals as goal

pub returns-clause-filled : goal.returns-clause-filled
returns-clause-filled c = λ rest. elim c.if-byte-eq63.branch [
  | then-byte-eq63+in_default w ↦ let e = filled_all c.args.byte rest c.args.words.now (omega (arith, w.in_default.ensures.item.3)) in grind (arith, common_steps, append_assoc)
  | else-byte-eq63 w ↦ let e = filled_byte c.args.byte rest c.args.words.now w.if-byte-eq63.false in grind (arith, common_steps, append_assoc)
]

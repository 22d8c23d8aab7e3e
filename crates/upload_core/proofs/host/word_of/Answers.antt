use Rattle.upload_core.proofs.Prelude.{◌+◌, ◌*◌, ◌&&◌, ◌∙◌, Bool, ap, sym, subst, arith, nat_lt, lt-ltb, le-ltb, is_marked}
use Rattle.upload_core.proofs.Looking.{AreBits, bits-one, bits-other}
use Rattle.upload_core.proofs.Numbers.{shut}
use Rattle.upload_core.proofs.host.word_of.Goals as goal
use Rattle.upload_core.proofs.host.word_of.Goals.{then-packet-count+then-is_past, else-packet-count, else-packet-count-via-then-packet-count+else-is_past, else-packet-count-via-else-packet-count}

pub loop-k-preserved : goal.loop-k-preserved
loop-k-preserved c = elim c.if-packet-count.branch [
  | then-packet-count+then-is_past w ↦
      subst (AreBits (λ j. nat_lt (64 * c.args.w + j) c.args.count && is_marked c.args.row.now (64 * c.args.w + j)) (c.loop-k.k + 1)) (sym w.word-is)
      (bits-one (λ j. nat_lt (64 * c.args.w + j) c.args.count && is_marked c.args.row.now (64 * c.args.w + j)) c.loop-k.k c.loop-k.word (omega arith) c.loop-k.invariant
      (ap (λ (b : Bool). b && is_marked c.args.row.now (64 * c.args.w + c.loop-k.k)) (lt-ltb (64 * c.args.w + c.loop-k.k) c.args.count w.if-packet-count.true)
      ∙ sym w.is_past.ensures ∙ w.if-is_past.true))
  | else-packet-count w ↦
      subst (AreBits (λ j. nat_lt (64 * c.args.w + j) c.args.count && is_marked c.args.row.now (64 * c.args.w + j)) (c.loop-k.k + 1)) (sym w.word-is)
      (bits-other (λ j. nat_lt (64 * c.args.w + j) c.args.count && is_marked c.args.row.now (64 * c.args.w + j)) c.loop-k.k c.loop-k.word c.loop-k.invariant
      (elim w.else-packet-count.branch [
        | else-packet-count-via-then-packet-count+else-is_past v ↦
            ap (λ (b : Bool). nat_lt (64 * c.args.w + c.loop-k.k) c.args.count && b) (sym v.is_past.ensures ∙ v.if-is_past.false)
            ∙ shut (nat_lt (64 * c.args.w + c.loop-k.k) c.args.count)
        | else-packet-count-via-else-packet-count v ↦
            ap (λ (b : Bool). b && is_marked c.args.row.now (64 * c.args.w + c.loop-k.k)) (le-ltb (64 * c.args.w + c.loop-k.k) c.args.count (omega arith))
      ]))
]

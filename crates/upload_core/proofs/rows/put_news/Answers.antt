use Rattle.upload_core.proofs.Prelude.{common_steps, ◌≡◌, ◌∙◌, ◌-◌, ℕ, ap, arith, range_with_len, sent_to}
use Rattle.upload_core.proofs.Windows.{sent-more}
use Rattle.upload_core.proofs.rows.put_news.Goals as goal

pub loop-packet-preserved : goal.loop-packet-preserved
loop-packet-preserved c = grind (arith, common_steps, sent-more)

pub returns : goal.returns
returns c =
    c.loop-packet.invariant.0
    ∙ ap (λ (n : ℕ). sent_to c.args.drone (range_with_len c.args.from n)) (let last = c.loop-packet.invariant.2 in let e : c.loop-packet.packet - c.args.from ≡ c.args.to - c.args.from = omega arith in e)

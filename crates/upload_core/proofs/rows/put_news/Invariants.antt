use Rattle.upload_core.proofs.Prelude.{◌≡◌, ◌≤◌, ◌+◌, ◌-◌, length, range_with_len, sent_to}
use Rattle.upload_core.proofs.rows.put_news.Given as goal

abbrev pub invariant-loop-packet : goal.invariant-loop-packet
invariant-loop-packet l =
    (l.out.items ≡ sent_to l.drone (range_with_len l.from (l.packet - l.from))) × (length l.out.items ≤ l.packet - l.from) × (l.packet ≤ l.from + (l.to - l.from))

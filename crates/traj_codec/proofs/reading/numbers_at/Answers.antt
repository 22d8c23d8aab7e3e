use Rattle.traj_codec.proofs.Prelude.{◌+◌, ◌-◌, length, Option, None, ap, arith, option_or, err_from_is_err_and, CodecFault}
use Rattle.traj_codec.proofs.ReadingLemmas.{fault_among}
use Rattle.traj_codec.proofs.reading.numbers_at.Goals as goal

pub returns-in_err-z : goal.returns-in_err-z
returns-in_err-z c =
    let p = err_from_is_err_and c.from_residual.result c.from_residual.ensures.1 in
    let count = length c.args.out.now in
    let first = ap (λ (f : Option CodecFault). option_or f None) c.in_err-z.ensures in
    rw (p.1, p.2)
    (fault_among c.args.bytes.now c.loop-z.z-index 1 (count - (c.loop-z.z-index + 1)) count c.args.at c.loop-z.next _ (omega arith) (omega arith) (omega arith) first)

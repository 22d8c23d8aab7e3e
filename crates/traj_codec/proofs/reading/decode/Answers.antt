use Rattle.traj_codec.proofs.Prelude.{◌≡◌, length, Err, Ok, arith, err_from_is_err_and, DecodeGives}
use Rattle.traj_codec.proofs.DecodeLemmas.{gives_ok, gives_fault, only_one}
use Rattle.traj_codec.proofs.reading.decode.Goals as goal

pub returns-in_err-segments : goal.returns-in_err-segments
returns-in_err-segments c =
    let p = err_from_is_err_and c.from_residual-in_err-segments.result c.from_residual-in_err-segments.ensures.1 in
    let bytes = c.args.bytes.now in
    let fault = c.in_err-segments.field-0.0 in
    let four : length c.numbers_at.new.out ≡ 4 = omega arith in
    let gives : DecodeGives bytes c.args.pieces (Err fault) = gives_fault bytes c.args.pieces c.in_ok-next.next c.numbers_at.new.out fault four c.in_ok-next.ensures c.in_err-segments.ensures in
    record { gives = rw (p.1, p.2) gives; only = rw (p.1, p.2) (only_one bytes c.args.pieces (Err fault) gives) }

pub returns : goal.returns
returns c =
    let bytes = c.args.bytes.now in
    let start = c.numbers_at.new.out in
    let segments = c.in_ok-segments.segments in
    let used = c.in_ok-segments.used in
    let four : length start ≡ 4 = omega arith in
    let gives = gives_ok bytes c.args.pieces c.in_ok-next.next used start segments four c.in_ok-next.ensures c.in_ok-segments.ensures.0 c.in_ok-segments.ensures.1 in
    record { gives = gives; only = only_one bytes c.args.pieces (Ok (record { start = start; segments = segments }, used)) gives }

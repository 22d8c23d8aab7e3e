use Rattle.traj_codec.proofs.Prelude.{◌+◌, ◌/◌, ◌%◌, ◌≤◌, length, arith, err_from_is_err_and, count_of_kind, count_under}
use Rattle.traj_codec.proofs.ReadingLemmas.{fault_among, element_next}
use Rattle.traj_codec.proofs.reading.elements_at.Goals as goal

pub returns-in_err-x : goal.returns-in_err-x
returns-in_err-x c =
    let p = err_from_is_err_and c.from_residual.result c.from_residual.ensures.1 in
    let h = c.args.header in
    let behind = count_of_kind (h / 4 % 4) + (count_of_kind (h / 16 % 4) + count_of_kind (h / 64)) in
    rw (p.1, p.2)
    (fault_among c.args.bytes.now 0 (count_of_kind (h % 4)) behind (count_under h) c.args.at c.args.at _ (omega arith) (omega arith) (omega arith) c.in_err-x.ensures)

pub returns-in_err-y : goal.returns-in_err-y
returns-in_err-y c =
    let p = err_from_is_err_and c.from_residual-in_err-y.result c.from_residual-in_err-y.ensures.1 in
    let h = c.args.header in
    let before = count_of_kind (h % 4) in
    let behind = count_of_kind (h / 16 % 4) + count_of_kind (h / 64) in
    let x = element_next c.args.bytes.now c.args.at (h % 4) c.in_ok-x.x c.in_ok-x.next (omega arith) c.in_ok-x.ensures in
    let inside : c.in_ok-x.next ≤ length c.args.bytes.now = c.in_ok-x.ensures.spans.within in
    rw (p.1, p.2)
    (fault_among c.args.bytes.now before (count_of_kind (h / 4 % 4)) behind (count_under h) c.args.at c.in_ok-x.next _ (omega arith) x inside c.in_err-y.ensures)

pub returns-in_err-z : goal.returns-in_err-z
returns-in_err-z c =
    let p = err_from_is_err_and c.from_residual-in_err-z.result c.from_residual-in_err-z.ensures.1 in
    let h = c.args.header in
    let before = count_of_kind (h % 4) + count_of_kind (h / 4 % 4) in
    let behind = count_of_kind (h / 64) in
    let x = element_next c.args.bytes.now c.args.at (h % 4) c.in_ok-x.x c.in_ok-x.next (omega arith) c.in_ok-x.ensures in
    let inside_x : c.in_ok-x.next ≤ length c.args.bytes.now = c.in_ok-x.ensures.spans.within in
    let y = element_next c.args.bytes.now c.in_ok-x.next (h / 4 % 4) c.in_ok-y.y c.in_ok-y.next inside_x c.in_ok-y.ensures in
    let inside : c.in_ok-y.next ≤ length c.args.bytes.now = c.in_ok-y.ensures.spans.within in
    rw (p.1, p.2)
    (fault_among c.args.bytes.now before (count_of_kind (h / 16 % 4)) behind (count_under h) c.args.at c.in_ok-y.next _ (omega arith) (omega arith) inside c.in_err-z.ensures)

pub returns-in_err-yaw : goal.returns-in_err-yaw
returns-in_err-yaw c =
    let p = err_from_is_err_and c.from_residual-in_err-yaw.result c.from_residual-in_err-yaw.ensures.1 in
    let h = c.args.header in
    let before = count_of_kind (h % 4) + count_of_kind (h / 4 % 4) + count_of_kind (h / 16 % 4) in
    let x = element_next c.args.bytes.now c.args.at (h % 4) c.in_ok-x.x c.in_ok-x.next (omega arith) c.in_ok-x.ensures in
    let inside_x : c.in_ok-x.next ≤ length c.args.bytes.now = c.in_ok-x.ensures.spans.within in
    let y = element_next c.args.bytes.now c.in_ok-x.next (h / 4 % 4) c.in_ok-y.y c.in_ok-y.next inside_x c.in_ok-y.ensures in
    let inside_y : c.in_ok-y.next ≤ length c.args.bytes.now = c.in_ok-y.ensures.spans.within in
    let z = element_next c.args.bytes.now c.in_ok-y.next (h / 16 % 4) c.in_ok-z.z c.in_ok-z.next inside_y c.in_ok-z.ensures in
    let inside : c.in_ok-z.next ≤ length c.args.bytes.now = c.in_ok-z.ensures.spans.within in
    rw (p.1, p.2)
    (fault_among c.args.bytes.now before (count_of_kind (h / 64)) 0 (count_under h) c.args.at c.in_ok-z.next _ (omega arith) (omega arith) inside c.in_err-yaw.ensures)

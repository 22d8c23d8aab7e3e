use Rattle.std.specs.Int.{w16}
use Rattle.std.proofs.lemmas.Int.{to_z-of_z}
use Rattle.flight_link.proofs.FrameLaws.{go_put}
use Rattle.flight_link.proofs.frames.put_go.Goals as goal

pub returns : goal.returns
returns c =
    go_put c.args.x _ c.args.y _ c.args.z _ c.args.yaw _ c.args.ms c.args.out.now.items c.put.new.out.items c.put_position.new.out.items c.put_turn.new.out.items
    (to_z-of_z w16 c.args.x c.ranges.x) (to_z-of_z w16 c.args.y c.ranges.y) (to_z-of_z w16 c.args.z c.ranges.z) (to_z-of_z w16 c.args.yaw c.ranges.yaw)
    c.put.ensures c.put_position.ensures c.put_turn.ensures

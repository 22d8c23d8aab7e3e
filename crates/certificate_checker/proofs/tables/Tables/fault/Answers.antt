use Rattle.certificate_checker.proofs.Prelude.{lit<, IsKnown}
use Rattle.certificate_checker.proofs.Parts.{known_old, known_wide, not_old}
use Rattle.certificate_checker.proofs.tables.Tables.fault.Goals as goal

pub node_fault-requires : goal.node_fault-requires
node_fault-requires c =
    (lit< tt, (c.requires.level, known_old c.self.inside.old _ c.args.node c.self.invariant.0 (rw c.if-version-eq1.true at c.requires.known)))

pub node_fault-requires-else-version-eq1 : goal.node_fault-requires-else-version-eq1
node_fault-requires-else-version-eq1 c =
    let known : IsKnown 98 c.args.node = not_old c.args.version c.args.node c.requires.version c.if-version-eq1.false c.requires.known in
    (lit< tt, (c.requires.level, known_wide c.self.inside.wide _ c.args.node c.self.invariant.1 known))

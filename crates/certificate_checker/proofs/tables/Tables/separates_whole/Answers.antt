use Rattle.certificate_checker.proofs.Prelude.{lit<, IsKnown, Leaf}
use Rattle.certificate_checker.proofs.Parts.{known_old, known_wide, not_old}
use Rattle.certificate_checker.proofs.tables.Tables.separates_whole.Goals as goal

pub separates_whole-requires : goal.separates_whole-requires
separates_whole-requires c =
    (lit< tt, known_old c.self.inside.old _ (Leaf c.args.dir) c.self.invariant.0 (rw c.if-version-eq1.true at c.requires.dir))

pub separates_whole-requires-else-version-eq1 : goal.separates_whole-requires-else-version-eq1
separates_whole-requires-else-version-eq1 c =
    let known : IsKnown 98 (Leaf c.args.dir) =
    not_old c.args.version (Leaf c.args.dir) c.requires.version c.if-version-eq1.false c.requires.dir in
    (lit< tt, known_wide c.self.inside.wide _ (Leaf c.args.dir) c.self.invariant.1 known)

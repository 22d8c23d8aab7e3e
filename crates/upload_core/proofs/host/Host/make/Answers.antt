use Rattle.upload_core.proofs.Prelude.{subst, IsSession}
use Rattle.upload_core.proofs.Beginning.{rows-begin, phase-begin, ready-begin, stands-begin}
use Rattle.upload_core.proofs.host.Host.make.Goals as goal

pub invariant_of-result : goal.invariant_of-result
invariant_of-result c =
    let valid : IsSession c.args.session = subst IsSession c.session.view_is c.session.invariant in (
      rows-begin c.args.session valid.some_drones c.in_ok-rows.rows.items c.in_ok-rows.ensures.len c.in_ok-rows.ensures.each,
      valid,
      phase-begin c.args.session valid.some_drones c.in_ok-rows.rows.items c.in_ok-rows.ensures.len c.in_ok-rows.ensures.each,
      (λ going. ready-begin c.args.session valid.some_drones c.in_ok-rows.rows.items c.in_ok-rows.ensures.len c.in_ok-rows.ensures.each),
    )

pub returns-clause-stands : goal.returns-clause-stands
returns-clause-stands c =
    let valid : IsSession c.args.session = subst IsSession c.session.view_is c.session.invariant in
    stands-begin c.args.session valid.some_drones c.in_ok-rows.rows.items c.in_ok-rows.ensures.len c.in_ok-rows.ensures.each

use Rattle.dynamics_bound.proofs.Prelude.{◌≡◌, ℕ, ◌∙◌, ap, List, length, Segment, is_rest_at, jump}
use Rattle.dynamics_bound.proofs.jumping.rests.Goals as goal

pub returns-clause-first : goal.returns-clause-first
returns-clause-first c = c.are_none.ensures (λ axis. jump c.args.t.now axis 0) c.jumps-first.ensures.exact

pub returns-clause-last : goal.returns-clause-last
returns-clause-last c =
    let end : length c.as_slice-segments.result.now ≡ length c.args.t.now.segments = ap (λ (ss : List Segment). length ss) c.as_slice-segments.ensures in
    c.are_none-2.ensures (λ axis. jump c.args.t.now axis (length c.as_slice-segments.result.now)) c.jumps.ensures.exact ∙ ap (λ (n : ℕ). is_rest_at c.args.t.now n) end

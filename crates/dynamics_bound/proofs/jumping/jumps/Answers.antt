use Rattle.dynamics_bound.proofs.Prelude.{◌≡◌, ℕ, suc, ◌+◌, arith, ◌∙◌, ap, List, [], ◌∷◌, length, Segment, Traj, pieces_formed, arrival, departure, greatest_jump, jump, greatest_before}
use Rattle.dynamics_bound.specs.declared.jumping.Greatest.{Greatest}
use Rattle.dynamics_bound.specs.declared.jumping.Jump.{Jump}
use Rattle.dynamics_bound.proofs.Ends.{has_velocities}
use Rattle.dynamics_bound.proofs.Greatest.{is_greatest}
use Rattle.dynamics_bound.proofs.Velocities.{none_same, same_none}
use Rattle.dynamics_bound.proofs.Walks.{arrival-lasts, departure-lasts}
use Rattle.dynamics_bound.proofs.jumping.jumps.Goals as goal

pub loop-k-init : goal.loop-k-init
loop-k-init c = record {
  walk = c.start-walk.ensures;
  most = c.none-most.ensures c.args.t.now;
}

pub loop-k-preserved : goal.loop-k-preserved
loop-k-preserved c =
    let up : suc c.loop-k.k ≡ c.loop-k.k + 1 = omega arith in
    record {
      walk = c.next-walk.ensures;
      most = c.greater-most.ensures c.args.t.now c.loop-k.invariant.most c.jumps.ensures.exact ∙ ap (λ (k : ℕ). greatest_before c.args.t.now k) up;
    }

abbrev three_of : Greatest → List Jump
three_of m = m.x ∷ m.y ∷ m.z ∷ []

-- the greatest of all edges
all_edges : (t : Traj) (n : ℕ) (most : Greatest) → n ≡ length t.segments → most ≡ greatest_before t (suc n) → ◌≡◌ {A = List Jump} (most.x ∷ most.y ∷ most.z ∷ []) (greatest_jump t 0 ∷ greatest_jump t 1 ∷ greatest_jump t 2 ∷ [])
all_edges t n most last is =
    ap three_of (is ∙ ap (λ (k : ℕ). greatest_before t (suc k)) last)

pub returns-clause-exact : goal.returns-clause-exact
returns-clause-exact c =
    let end : length c.as_slice-segments.result.now ≡ length c.args.t.now.segments = ap (λ (ss : List Segment). length ss) c.as_slice-segments.ensures in
    let all : c.loop-k.k ≡ length c.as_slice-segments.result.now = omega arith in
    all_edges c.args.t.now (length c.as_slice-segments.result.now) c.greater-most-2.result end
    (c.greater-most-2.ensures c.args.t.now (c.loop-k.invariant.most ∙ ap (λ (k : ℕ). greatest_before c.args.t.now k) all) c.jumps-2.ensures.exact)

pub returns-clause-greatest : goal.returns-clause-greatest
returns-clause-greatest c axis = is_greatest c.args.t.now axis

pub returns-clause-velocities : goal.returns-clause-velocities
returns-clause-velocities c axis near = has_velocities axis c.args.t.now (pieces_formed axis c.args.t.now.segments near c.requires.durations c.formed_law.ensures)

pub returns-clause-none : goal.returns-clause-none
unfolding jump
returns-clause-none c axis edge inside none =
    none_same (arrival c.args.t.now axis edge) (departure c.args.t.now axis edge) (arrival-lasts c.args.t.now axis edge inside c.requires.durations) (departure-lasts c.args.t.now axis edge c.requires.durations) none

pub returns-clause-same : goal.returns-clause-same
unfolding jump
returns-clause-same c axis edge inside same =
    same_none (arrival c.args.t.now axis edge) (departure c.args.t.now axis edge) (arrival-lasts c.args.t.now axis edge inside c.requires.durations) (departure-lasts c.args.t.now axis edge c.requires.durations) same

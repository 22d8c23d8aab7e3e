use Rattle.show_studies.proofs.Prelude.{◌≡◌, ◌≤◌, List, get_or, length, sym, ap, ◌∙◌, arith, durations, Segment, Traj}
use Rattle.cue_grid.specs.Cues.{grid_of}
use Rattle.show_studies.proofs.DynamicsLemmas.{first_has, times_are}
use Rattle.show_studies.proofs.accelerating.cues_of.Goals as goal

pub returns-clause-times : goal.returns-clause-times
returns-clause-times c = λ s is.
    let trajs = c.args.fitted.now.trajs in
    let t = c.index-as_slice-0.result in
    let some : 1 ≤ length trajs = omega (arith, c.requires.some_drone, c.requires.trajs_counted) in
    ap (λ (segments : List Segment). durations segments) c.as_slice-2.ensures
    ∙ ap (λ (u : Traj). durations u.segments) (sym c.index-as_slice-0.is)
    ∙ first_has (λ (u : Traj). durations u.segments ≡ c.requires.times) trajs t (c.index-as_slice-0.is ∙ ap (λ (ts : List Traj). get_or ts 0 t) c.as_slice.ensures) some c.requires.same_times
    ∙ times_are (grid_of s) c.requires.times trajs is.trajs some c.requires.same_times

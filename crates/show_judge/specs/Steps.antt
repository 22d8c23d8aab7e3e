-- What steps of judging a show hand on, which no public contract cites.
use Rattle.std.specs.Prelude.{◌≡◌, ℕ, Some, None}
use Rattle.choreo_show.specs.Plain.{PlainShow}
use Rattle.cue_grid.specs.Cues.{grid_of}
use Rattle.show_judge.specs.declared.ways.Ways.{Ways}
use Rattle.show_plan.specs.declared.fitted.Fitted.{Fitted}
use Rattle.show_plan.specs.Fitting.{IsFitted}
use Rattle.show_plan.specs.Flight.{KeepsNearShow}
use Rattle.show_plan.specs.Separation.{FlyApart}
use Rattle.show_plan.specs.Uploading.{Uploads}
use Rattle.show_judge.specs.declared.judging.Judged.{Judged}
use Rattle.show_judge.specs.declared.judging.Judged.TheVariants as judged
use Rattle.show_judge.specs.declared.judging.Planned.{Planned}
use Rattle.show_judge.specs.declared.judging.Planned.TheVariants as planned
use Rattle.show_judge.specs.Refused.{blocked_by, show_refusal}
use Rattle.show_judge.specs.Shows.{Cut, nodes_of, sent_of}

-- What fits is this show, and nothing is left to refuse but that two drones aren't kept apart.
pub record FitsAs (c : Ways) (cut : Cut) (s : PlainShow) (f : Fitted) : Type 0 where
  pub left : show_refusal c cut s ≡ blocked_by c.depth s
  pub fitted : IsFitted f s
  pub near : KeepsNearShow (grid_of s) (sent_of s)
  pub uploads : FlyApart s.settings (sent_of s) → Uploads (grid_of s) s.settings (sent_of s)

abbrev pub ShowPlanned : Ways → Cut → PlainShow → Planned → Type 0
ShowPlanned c cut s (planned.Fits f) = FitsAs c cut s f
ShowPlanned c cut s (planned.Refused r) = show_refusal c cut s ≡ Some r

-- A show that fits is kept apart at this depth, with the nodes of its certificate counted; or a part of it is blocked.
abbrev pub Separated : ℕ → Fitted → Judged → Type 0
Separated depth f (judged.Accepted a) =
    (a.fitted ≡ f) × FlyApart f.settings f.sent
    × ((s : PlainShow) → IsFitted f s → (blocked_by (Some depth) s ≡ None) × (a.nodes ≡ nodes_of s depth))
Separated depth f (judged.Refused r) = (s : PlainShow) → IsFitted f s → blocked_by (Some depth) s ≡ Some r

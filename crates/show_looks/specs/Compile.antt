-- What `compile` gives.
use Rattle.std.specs.Prelude.{ℕ, List, Option}
use Rattle.std.specs.Io.KnownBytes.{Appends}
use Rattle.choreo_reader.specs.Grammar.{StandsFor}
use Rattle.choreo_show.specs.Plain.{PlainShow}
use Rattle.cue_grid.specs.Cues.{grid_of}
use Rattle.traj_codec.specs.declared.traj.Traj.{Traj}
use Rattle.show_plan.specs.Flight.{KeepsNearShow}
use Rattle.show_plan.specs.Separation.{FlyApart}
use Rattle.show_plan.specs.Texts.{plan_text}
use Rattle.show_plan.specs.Uploading.{Uploads}
use Rattle.show_judge.specs.Shows.{names_of, sent_of}
use Rattle.show_judge.specs.Verb.{Verb, of_show}

abbrev pub plan_of : PlainShow → List ℕ
plan_of s = plan_text s.settings (names_of s) (sent_of s)

abbrev pub compile_verb : ℕ → Verb
compile_verb depth = of_show depth plan_of

-- The input stands for a show, and what was written is the plan of some trajectories, one for each drone. These same
-- trajectories are near to what the show says at every instant, and keep any two drones apart at every instant, however
-- far the drones stray from them and however late they are, by what the show's settings allow. Of them it also says
-- what an upload leaves and what is flown, with anything in the drones at the start:
--  1. Once all packets of an upload are acknowledged, over a link that may lose, repeat, delay or reorder, each drone
--     carries its trajectory, near to what the show says at every instant, and any two drones keep apart, however far
--     they stray from their curves and however late they are, by what the show's settings allow.
--  2. The same holds once the drones accepted the packets of the plan, from any sender, in any order, each any number
--     of times.
--  3. No start is sent before each drone carries its own trajectory, and each carries it from then on; so that is what
--     it flies.
--  4. With read-back each byte of each load was right when it was read, also where others alter bytes, and no start was
--     sent before.
-- Nobody else writes to a memory in 1 to 3. How the trajectories are computed is not said here: `compile_verb` says it.
pub record Headline (input : List ℕ) (old new : Option (List ℕ)) : Type 0 where
  pub s : PlainShow
  pub sent : List Traj
  pub stands : StandsFor input s
  pub planned : Appends old new (plan_text s.settings (names_of s) sent)
  pub near : KeepsNearShow (grid_of s) sent
  pub apart : FlyApart s.settings sent
  pub uploads : Uploads (grid_of s) s.settings sent

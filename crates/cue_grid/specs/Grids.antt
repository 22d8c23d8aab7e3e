-- Which grids are valid: those of which every count and every number is as the language lets it be.
use Rattle.std.specs.Prelude.{◌≡◌, ℕ, ◌≤◌, List, [], ◌∷◌, length}
use Rattle.std.specs.List.{All}
use Rattle.whole_numbers.specs.Limits.{most_cues, most_drones}
use Rattle.choreo_show.specs.Valid.{FitsPoint, FitsFrame, FitsAct}
use Rattle.choreo_show.specs.declared.show.DroneLine.{DroneLine}
use Rattle.cue_grid.specs.declared.grid.Job.{Job}
use Rattle.cue_grid.specs.declared.grid.Cue.{Cue}
use Rattle.cue_grid.specs.declared.grid.Grid.{Grid}

-- the numbers of the frame and of the act are in their ranges
abbrev pub FitsJob : Job → Type 0
FitsJob j = FitsFrame j.frame × FitsAct j.act

abbrev pub FitJobs : List Job → Type 0
FitJobs [] = Unit {0}
FitJobs (j ∷ js) = FitsJob j × FitJobs js

-- a cue of 1 to 65,535 ms, with this many jobs
pub record FitsCue (n : ℕ) (c : Cue) : Type 0 where
  pub lasts : 1 ≤ c.ms
  pub short : c.ms ≤ 65535
  pub count : length c.jobs ≡ n
  pub jobs : FitJobs c.jobs

abbrev pub FitCues : ℕ → List Cue → Type 0
FitCues n [] = Unit {0}
FitCues n (c ∷ cs) = FitsCue n c × FitCues n cs

-- 1 to 32 drones, 1 to 1,000 cues, one job for each drone in each cue, and each number in its range
pub record IsGrid (g : Grid) : Type 0 where
  pub some_start : 1 ≤ length g.starts
  pub few_starts : length g.starts ≤ most_drones
  pub starts : All (λ (s : DroneLine). FitsPoint s.at) g.starts
  pub some_cue : 1 ≤ length g.cues
  pub few_cues : length g.cues ≤ most_cues
  pub cues : FitCues (length g.starts) g.cues

-- The lines that say how fast a drone's speed changes at most, and where it jumps.
use Rattle.std.specs.Prelude.{ℕ, Bool, true, false, List, [], ◌∷◌, ◌++◌, codes, decimal}
use Rattle.byte_streams.specs.Words.{line}
use Rattle.dynamics_bound.specs.declared.motion.Axes.{Axes}
use Rattle.dynamics_bound.specs.declared.motion.Extremes.{Extremes}
use Rattle.dynamics_bound.specs.declared.motion.Motion.{Motion}

abbrev pub axes_words : Axes → List (List ℕ)
axes_words a = decimal a.x ∷ decimal a.y ∷ decimal a.z ∷ []

-- each jump with its cue
abbrev pub jump_words : Axes → Axes → List (List ℕ)
jump_words jumps cues =
    decimal jumps.x ∷ codes "cue" ∷ decimal cues.x ∷ decimal jumps.y ∷ codes "cue" ∷ decimal cues.y ∷ decimal jumps.z
    ∷ codes "cue" ∷ decimal cues.z ∷ []

abbrev pub rest_word : Bool → List ℕ
rest_word true = codes "rest"
rest_word false = codes "moving"

-- the line of the drone with this name
abbrev pub motion_line : List ℕ → Motion → List ℕ
motion_line name m =
    line (codes "dynamics")
    (name ∷ codes "acceleration" ∷ axes_words m.most.accelerations ++ codes "jump" ∷ jump_words m.most.jumps m.cues
    ++ codes "begins" ∷ rest_word m.begins_at_rest ∷ codes "ends" ∷ rest_word m.ends_at_rest ∷ [])

-- the line of the greatest of all drones
abbrev pub extremes_line : Extremes → List ℕ
extremes_line most =
    line (codes "greatest")
    (codes "acceleration" ∷ axes_words most.accelerations ++ codes "jump" ∷ axes_words most.jumps)

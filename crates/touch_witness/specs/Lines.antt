-- The lines that say where drones are closest, and where they touch. Drones, cues and fractions are named as people
-- count: drones by their names, cues from 1, fractions from 0.
use Rattle.std.specs.Prelude.{ℕ, ◌+◌, ◌*◌, ◌^◌, List, [], ◌∷◌, ◌++◌, codes, decimal}
use Rattle.byte_streams.specs.Words.{line}
use Rattle.touch_witness.specs.declared.site.Touch.{Touch}
use Rattle.touch_witness.specs.declared.site.Closest.{Closest}

-- two drones by their names, a cue, and the fraction at / 2^fine of it
abbrev pub site_words : List ℕ → List ℕ → ℕ → ℕ → ℕ → List (List ℕ)
site_words first second fine cue at =
    codes "pair" ∷ first ∷ second ∷ codes "cue" ∷ decimal (cue + 1) ∷ codes "at" ∷ decimal at ∷ codes "of"
    ∷ decimal (2 ^ fine) ∷ []

-- each part of each cue is separated
abbrev pub separated_line : List ℕ
separated_line = line (codes "separated") []

-- the pair and the part of a cue, one of 2^depth, that no direction separates
abbrev pub blocked_pair_line : List ℕ → List ℕ → ℕ → ℕ → ℕ → List ℕ
blocked_pair_line first second cue index depth =
    line (codes "blocked")
    (codes "pair" ∷ first ∷ second ∷ codes "cue" ∷ decimal (cue + 1) ∷ codes "part" ∷ decimal index ∷ codes "of"
    ∷ decimal (2 ^ depth) ∷ [])

-- the same, and where the two are closest in the cue, with the level there
abbrev pub blocked_closest_line : List ℕ → List ℕ → ℕ → ℕ → ℕ → Closest → List ℕ
blocked_closest_line first second index depth fine c =
    line (codes "blocked")
    (codes "pair" ∷ first ∷ second ∷ codes "cue" ∷ decimal (c.cue + 1) ∷ codes "part" ∷ decimal index ∷ codes "of"
    ∷ decimal (2 ^ depth) ∷ codes "closest" ∷ codes "at" ∷ decimal c.at ∷ codes "of" ∷ decimal (2 ^ fine)
    ∷ codes "level" ∷ decimal c.level ∷ [])

-- more pairs and cues are blocked than lines say
abbrev pub more_blocked_line : List ℕ
more_blocked_line = line (codes "blocked") (codes "more" ∷ codes "than" ∷ codes "200" ∷ [])

-- where two drones are closest, and the level there
abbrev pub closest_line : List ℕ → List ℕ → ℕ → Closest → List ℕ
closest_line first second fine c =
    line (codes "closest") (site_words first second fine c.cue c.at ++ codes "level" ∷ decimal c.level ∷ [])

-- where two drones touch first
abbrev pub touch_line : List ℕ → List ℕ → ℕ → Touch → List ℕ
touch_line first second fine s = line (codes "touch") (site_words first second fine s.cue s.at)

-- no two drones touch at a listed instant: how many there are, 2^fine + 1 for each cue
abbrev pub no_touch_line : ℕ → ℕ → List ℕ
no_touch_line cues fine = line (codes "no-touch") (codes "instants" ∷ decimal (cues * (2 ^ fine + 1)) ∷ [])

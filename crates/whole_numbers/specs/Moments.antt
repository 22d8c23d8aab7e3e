-- Where an instant lies in a row of durations. An instant is a fraction p / q of milliseconds, with q at least 1.
use Rattle.std.specs.Prelude.{ℕ, zero, suc, ◌+◌, ◌-◌, ◌*◌, List, [], ◌∷◌, nat_le, if◌then◌else◌, slice_index_or}

-- an instant of a cue: the part a / c of it
pub record Moment : Type 0 where
  pub cue : ℕ
  pub a : ℕ
  pub c : ℕ

-- the first cue, from number cue on and from the time t0 on, whose end is not before p / q
abbrev pub moment_from : ℕ → ℕ → List ℕ → ℕ → ℕ → Moment
moment_from t0 cue [] p q = record { cue = cue; a = 0; c = q }
moment_from t0 cue (ms ∷ rest) p q =
    if nat_le p (q * (t0 + ms)) then record { cue = cue; a = p - q * t0; c = q * ms }
    else moment_from (t0 + ms) (suc cue) rest p q

-- the cue of the instant p / q, and where in it the instant lies
unfoldable pub moment : List ℕ → ℕ → ℕ → Moment
moment durations p q = moment_from 0 0 durations p q

-- how many milliseconds pass before the cue with this number begins
abbrev pub time_before : List ℕ → ℕ → ℕ
time_before durations zero = 0
time_before [] (suc cue) = 0
time_before (ms ∷ rest) (suc cue) = ms + time_before rest cue

-- the instant p / q as a part of the cue with this number, whether or not it is the first whose end is not before it
abbrev pub moment_in : List ℕ → ℕ → ℕ → ℕ → Moment
moment_in durations cue p q =
    record { cue = cue; a = p - q * time_before durations cue; c = q * slice_index_or durations cue 0 }

-- the instant with which the cue with this number ends, as a numerator over q
abbrev pub edge : List ℕ → ℕ → ℕ → ℕ
edge durations cue q = q * time_before durations (suc cue)

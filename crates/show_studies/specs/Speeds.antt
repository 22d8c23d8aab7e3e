-- What `speed` gives: how fast the drones of a show are at most.
use Rattle.std.specs.Prelude.{◌≡◌, ℕ, ◌≤◌, nat_lt, pos, List, [], ◌∷◌, ◌++◌, Option, Some, None, IfSome, if◌then◌else◌}
use Rattle.std.specs.List.{All}
use Rattle.std.specs.Io.KnownBytes.{Appends}
use Rattle.std.specs.Option.{option_or}
use Rattle.choreo_show.specs.Name.{Name}
use Rattle.choreo_reader.specs.Grammar.{StandsFor}
use Rattle.choreo_show.specs.Plain.{PlainShow}
use Rattle.refusals.specs.declared.refusal.Refusal.{Refusal}
use Rattle.refusals.specs.declared.refusal.Refusal.TheVariants as refusal
use Rattle.speed_bound.specs.Lines.{speed_line}
use Rattle.speed_bound.specs.Speed.{KeepsSpeed, speed}
use Rattle.traj_codec.specs.declared.traj.Traj.{Traj}
use Rattle.show_judge.specs.Outcome.{refused}
use Rattle.show_judge.specs.Shows.{names_of, sent_of}
use Rattle.show_judge.specs.Verb.{Outcome, Verb, of_any, outcome}

-- a bound on a drone's speed on an axis is above the limit; where there is none, none is
abbrev pub above : Option ℕ → Name → ℕ → ℕ → Option Refusal
above None name axis v = None
above (Some limit) name axis v = if nat_lt limit v then Some (refusal.TooFast name axis (pos v)) else None

-- the first axis on which one of a drone's bounds on x, y and z is above the limit
abbrev pub too_fast_of : Option ℕ → Name → ℕ → ℕ → ℕ → Option Refusal
too_fast_of limit name x y z =
    option_or (above limit name 0 x) (option_or (above limit name 1 y) (above limit name 2 z))

abbrev pub too_fast_by : Option ℕ → ℕ → Traj → Name → Option Refusal
too_fast_by limit depth t name = too_fast_of limit name (speed depth t 0) (speed depth t 1) (speed depth t 2)

-- the first drone, and its first axis, whose bound is above the limit
abbrev pub first_too_fast : Option ℕ → ℕ → List Traj → List Name → Option Refusal
first_too_fast limit depth [] names = None
first_too_fast limit depth (t ∷ ts) [] = None
first_too_fast limit depth (t ∷ ts) (name ∷ names) =
    option_or (too_fast_by limit depth t name) (first_too_fast limit depth ts names)

abbrev pub too_fast : Option ℕ → ℕ → PlainShow → Option Refusal
too_fast limit depth s = first_too_fast limit depth (sent_of s) (names_of s)

-- the line of a drone: its bounds on x, y and z
abbrev pub speed_of_drone : ℕ → Traj → Name → List ℕ
speed_of_drone depth t name = speed_line name.items (speed depth t 0) (speed depth t 1) (speed depth t 2)

abbrev pub speed_text : ℕ → List Traj → List Name → List ℕ
speed_text depth [] names = []
speed_text depth (t ∷ ts) [] = []
speed_text depth (t ∷ ts) (name ∷ names) = speed_of_drone depth t name ++ speed_text depth ts names

-- Between any two of its instants a drone moves on each axis by at most its bound times the time between them, and no
-- bound is above the limit, if there is one.
pub record KeepsBounds (limit : Option ℕ) (depth : ℕ) (t : Traj) : Type 0 where
  pub keeps : (axis : ℕ) → axis ≤ 2 → KeepsSpeed t axis (speed depth t axis)
  pub within : IfSome limit (λ most. (axis : ℕ) → axis ≤ 2 → speed depth t axis ≤ most)

-- a number that is above its limit gives its refusal, and else the text is written
abbrev pub refused_or : Option Refusal → List ℕ → Outcome
refused_or (Some r) text = refused r
refused_or None text = outcome 0 text

-- The input stands for a show, and the bounds on its drones' speeds were written. With what it is sent, each drone
-- moves on each axis between any two instants by at most its bound times the time between them; and no bound is above
-- the limit, if there is one.
pub record KeepsSpeeds (limit : Option ℕ) (depth : ℕ) (input : List ℕ) (old new : Option (List ℕ)) : Type 0 where
  pub s : PlainShow
  pub stands : StandsFor input s
  pub keeps : All (KeepsBounds limit depth) (sent_of s)
  pub written : Appends old new (speed_text depth (sent_of s) (names_of s))

abbrev pub speed_verb : ℕ → Option ℕ → Verb
speed_verb depth limit =
    of_any None (λ s cut o. o ≡ refused_or (too_fast limit depth s) (speed_text depth (sent_of s) (names_of s)))
    (λ s cut. Unit {0})
    (λ s cut. All (KeepsBounds limit depth) (sent_of s)) (λ s cut. too_fast limit depth s ≡ None)
    (λ input old new. KeepsSpeeds limit depth input old new)

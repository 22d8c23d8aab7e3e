-- What the definitions of apart drones say of small flights.
use Rattle.std.specs.Prelude.{pos, List, [], ◌∷◌}
use Rattle.traj_codec.specs.declared.traj.Traj.{Traj}
use Rattle.sep_parts.specs.Apart.{AreTogether, FlyApart, MayBeAt, ShareNoPoint}
use Rattle.definition_tests.specs.Flights.{flight}
use Rattle.definition_tests.specs.Places.{place}

-- two drones, 7 mm apart, that fly 10 mm in 10 ms, one behind the other
abbrev pub behind : List Traj
behind = flight (pos 0) (pos 10) ∷ flight (pos 7) (pos 17) ∷ []

-- Instants that are 5 ms apart are not together where 4 ms are allowed. Ellipsoids of half axes 1 mm touch where the
-- second drone is 5 ms late.
pub record LateRows : Type 0 where
  pub together : AreTogether 5 5 1 0 1
  pub not_together : AreTogether 4 5 1 0 1 → ⊥
  pub together_turned : AreTogether 5 0 1 5 1
  pub not_together_turned : AreTogether 4 0 1 5 1 → ⊥
  pub touch : FlyApart 1 1 0 5 behind → ⊥
  pub touch_turned : FlyApart 1 1 0 5 (flight (pos 7) (pos 17) ∷ flight (pos 0) (pos 10) ∷ []) → ⊥

-- Drones that touch between whole milliseconds, at the end, or that are the last two of three, don't fly apart.
pub record TouchRows : Type 0 where
  pub between : FlyApart 1 1 0 0 (flight (pos 0) (pos 1000) ∷ flight (pos 150) (pos 150) ∷ []) → ⊥
  pub at_the_end : FlyApart 1 1 0 0 (flight (pos 0) (pos 10) ∷ flight (pos 20) (pos 11) ∷ []) → ⊥
  pub last_two : FlyApart 1 1 0 0 (flight (pos 0) (pos 0) ∷ flight (pos 50) (pos 50) ∷ flight (pos 51) (pos 51) ∷ []) →
      ⊥

-- two drones that stay, 7 mm apart
abbrev pub beside : List Traj
beside = flight (pos 0) (pos 0) ∷ flight (pos 7) (pos 7) ∷ []

-- A point at (1, 2, 2) is 3 mm off. Drones that stray by 3 mm may touch.
pub record StrayRows : Type 0 where
  pub near : MayBeAt 3 (flight (pos 0) (pos 0)) 0 1 (place (pos 1) (pos 2) (pos 2))
  pub far : MayBeAt 2 (flight (pos 0) (pos 0)) 0 1 (place (pos 1) (pos 2) (pos 2)) → ⊥
  pub touch : FlyApart 1 1 3 0 beside → ⊥

-- Drones fly apart that are up to 4 ms late one behind the other, and that stray by up to 2 mm beside each other.
pub record ApartRows : Type 0 where
  pub late_by_four : FlyApart 1 1 0 4 behind
  pub strayed_by_two : FlyApart 1 1 2 0 beside

-- Half axes of 1 mm, and a height of 2 mm: 2 mm aside or 4 mm above they touch, a millimetre more and they don't.
pub record MarginRows : Type 0 where
  pub aside : ShareNoPoint 1 2 (place (pos 0) (pos 0) (pos 0)) (place (pos 0) (pos 3) (pos 0))
  pub touch_aside : ShareNoPoint 1 2 (place (pos 0) (pos 0) (pos 0)) (place (pos 0) (pos 2) (pos 0)) → ⊥
  pub above : ShareNoPoint 1 2 (place (pos 0) (pos 0) (pos 0)) (place (pos 0) (pos 0) (pos 5))
  pub touch_above : ShareNoPoint 1 2 (place (pos 0) (pos 0) (pos 0)) (place (pos 0) (pos 0) (pos 4)) → ⊥

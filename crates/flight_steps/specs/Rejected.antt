-- Small ways that are no flight, each beside a neighbour that is one.
use Rattle.std.specs.Prelude.{◌≡◌, List, [], ◌∷◌, Some, ℤ, pos, negsuc}
use Rattle.traj_codec.specs.declared.traj.Segment.{Segment}
use Rattle.traj_codec.specs.declared.traj.Traj.{Traj}
use Rattle.traj_codec.specs.declared.traj.Element.{Element}
use Rattle.traj_codec.specs.declared.traj.Element.TheVariants.{Constant, Linear, Cubic}
use Rattle.flight_model.specs.Legs.{Routes, IsFlight}
use Rattle.flight_model.specs.Example.{rest}
use Rattle.flight_steps.specs.declared.faults.Way.TheVariants as way
use Rattle.flight_steps.specs.declared.faults.Seam.TheVariants as seam
use Rattle.flight_steps.specs.declared.faults.FlightFault.{FlightFault}
use Rattle.flight_steps.specs.declared.faults.FlightFault.TheVariants as fault
use Rattle.flight_steps.specs.Faults.{route_fault}

-- ---- the ways of one drone

-- two seconds on x and z
abbrev pub leg_by : Element → Element → Segment
leg_by x z = record { ms = 2000; elements = x ∷ Constant ∷ z ∷ Constant ∷ [] }

-- from x and z on, by these
abbrev pub way_from : ℤ → ℤ → List Segment → Traj
way_from x z segments = record { start = x ∷ pos 0 ∷ z ∷ pos 0 ∷ []; segments = segments }

-- straight up by a metre, and straight down again
abbrev pub ascent : Segment
ascent = leg_by Constant (rest (pos 0) (pos 1000))

abbrev pub descent : Segment
descent = leg_by Constant (rest (pos 1000) (pos 0))

-- aside by a millimetre, and back again
abbrev pub aside : Segment
aside = leg_by (rest (pos 0) (pos 1)) Constant

abbrev pub back : Segment
back = leg_by (rest (pos 1) (pos 0)) Constant

-- up and aside at once, and down and back at once
abbrev pub slanted_up : Segment
slanted_up = leg_by (rest (pos 0) (pos 1)) (rest (pos 0) (pos 1000))

abbrev pub slanted_down : Segment
slanted_down = leg_by (rest (pos 1) (pos 0)) (rest (pos 1000) (pos 0))

-- from this height to that one
abbrev pub lift : ℤ → ℤ → Segment
lift z to = leg_by Constant (rest z to)

-- holds at this x and z
abbrev pub held_at : ℤ → ℤ → Traj
held_at x z = way_from x z (leg_by Constant Constant ∷ [])

-- the ways of one drone
abbrev pub alone : Traj → Traj → Traj → Routes
alone up show down = record { up = up ∷ []; show = show ∷ []; down = down ∷ []; stray = 100; near = 100; at_place = 50 }

-- a metre up, and this show and this way down
abbrev pub after_ascent : Traj → Traj → Routes
after_ascent show down = alone (way_from (pos 0) (pos 0) (ascent ∷ [])) show down

-- a metre up, a hold and a metre down
abbrev pub hop : Routes
hop = after_ascent (held_at (pos 0) (pos 1000)) (way_from (pos 0) (pos 1000) (descent ∷ []))

-- up, then aside; a hold; back, then down
abbrev pub bent_hop : Routes
bent_hop =
    alone (way_from (pos 0) (pos 0) (ascent ∷ aside ∷ [])) (held_at (pos 1) (pos 1000))
    (way_from (pos 1) (pos 1000) (back ∷ descent ∷ []))

-- up to two metres, and then to one metre; a hold; up to two metres again, and down: first and last moves alone count
abbrev pub high_hop : Routes
high_hop =
    alone (way_from (pos 0) (pos 0) (lift (pos 0) (pos 2000) ∷ lift (pos 2000) (pos 1000) ∷ [])) (held_at (pos 0) (pos 1000))
    (way_from (pos 0) (pos 1000) (lift (pos 1000) (pos 2000) ∷ lift (pos 2000) (pos 0) ∷ []))

-- ---- the rows

-- This is the first cause, and the three are no flight.
pub record Refuses (w : Routes) (f : FlightFault) : Type 0 where
  pub first : route_fault w ≡ Some f
  pub none : IsFlight w → ⊥

-- Each has one thing in another way than `hop`, `bent_hop` or `high_hop`.
pub record FlightRows : Type 0 where
  pub straight : IsFlight hop
  pub bent : IsFlight bent_hop
  pub high : IsFlight high_hop
  -- as many drones up, in the show and down
  pub none_up : IsFlight (record hop { up = [] }) → ⊥
  pub none_down : IsFlight (record hop { down = [] }) → ⊥
  -- the ends are a millimetre apart: before the show, after it, and at the pad
  pub high_show : Refuses
      (after_ascent (held_at (pos 0) (pos 1001)) (way_from (pos 0) (pos 1001) (lift (pos 1001) (pos 0) ∷ [])))
      (fault.Gap seam.UpToShow 0)
  pub low_return : Refuses
      (after_ascent (held_at (pos 0) (pos 1000)) (way_from (pos 0) (pos 999) (lift (pos 999) (pos 0) ∷ [])))
      (fault.Gap seam.ShowToDown 0)
  pub high_pad : Refuses
      (after_ascent (held_at (pos 0) (pos 1000)) (way_from (pos 0) (pos 1000) (lift (pos 1000) (pos 1) ∷ [])))
      (fault.Gap seam.DownToUp 0)
  -- not from rest to rest: a curve, and a constant speed in the second cue
  pub restless_up : Refuses
      (record hop {
        up = way_from (pos 0) (pos 0) (leg_by Constant (Cubic (pos 0 ∷ pos 1000 ∷ pos 1000 ∷ [])) ∷ [])
            ∷ [];
      })
      (fault.Restless way.Up 0 0)
  pub restless_down : Refuses
      (after_ascent (held_at (pos 0) (pos 1000))
      (way_from (pos 0) (pos 1000) (leg_by Constant Constant ∷ leg_by Constant (Linear (pos 0)) ∷ [])))
      (fault.Restless way.Down 0 1)
  -- each drone moves
  pub still_up : Refuses
      (alone (held_at (pos 0) (pos 1000)) (held_at (pos 0) (pos 1000))
      (way_from (pos 0) (pos 1000) (lift (pos 1000) (pos 2000) ∷ lift (pos 2000) (pos 1000) ∷ [])))
      (fault.Still way.Up 0)
  pub still_down : Refuses
      (alone (way_from (pos 0) (pos 1000) (lift (pos 1000) (pos 2000) ∷ lift (pos 2000) (pos 1000) ∷ []))
      (held_at (pos 0) (pos 1000))
      (held_at (pos 0) (pos 1000)))
      (fault.Still way.Down 0)
  -- at first straight up, at last straight down
  pub slant_up : Refuses
      (alone (way_from (pos 0) (pos 0) (slanted_up ∷ [])) (held_at (pos 1) (pos 1000))
      (way_from (pos 1) (pos 1000) (back ∷ descent ∷ [])))
      (fault.Slanted way.Up 0)
  pub slant_down : Refuses
      (alone (way_from (pos 0) (pos 0) (ascent ∷ aside ∷ [])) (held_at (pos 1) (pos 1000))
      (way_from (pos 1) (pos 1000) (slanted_down ∷ [])))
      (fault.Slanted way.Down 0)
  -- at first up and not down, at last down and not up
  pub falls_first : Refuses
      (record high_hop {
        up = way_from (pos 0) (pos 0) (lift (pos 0) (negsuc 0) ∷ lift (negsuc 0) (pos 1000) ∷ []) ∷ [];
      })
      (fault.Slanted way.Up 0)
  pub rises_last : Refuses
      (record high_hop {
        down = way_from (pos 0) (pos 1000) (lift (pos 1000) (negsuc 0) ∷ lift (negsuc 0) (pos 0) ∷ []) ∷ [];
      })
      (fault.Slanted way.Down 0)
  -- drones may stand as far from their pads as they may stray from their ways up, and no farther
  pub narrow : Refuses (record hop { stray = 99 }) (fault.Narrow 100 99)

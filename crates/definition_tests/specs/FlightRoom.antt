-- The room of a small flight, and who is outside of it, by hand: each beside a neighbour that isn't.
use Rattle.std.specs.Prelude.{◌≡◌, true, false, ◌++◌, ℤ, pos, negsuc}
use Rattle.flight_model.specs.declared.events.Sample.{Sample}
use Rattle.flight_model.specs.Rooms.{IsInRoom, is_in_room, room_of}
use Rattle.flight_model.specs.Example.{down_at, room, sample, show_at, two, up_at}

-- a drone there
abbrev pub there : ℤ → ℤ → ℤ → Sample
there x y z = sample x y z true false

pub record RoomRows : Type 0 where
  -- the room of the small flight, whose texts allow their drones at most 100 mm of stray
  pub made : room_of 300 (two up_at ++ (two show_at ++ two down_at)) ≡ room
  -- at each end, and a millimetre farther
  pub right : IsInRoom room (there (pos 2300) (pos 0) (pos 0))
  pub past_right : IsInRoom room (there (pos 2301) (pos 0) (pos 0)) → ⊥
  pub left : IsInRoom room (there (negsuc 299) (pos 0) (pos 0))
  pub past_left : IsInRoom room (there (negsuc 300) (pos 0) (pos 0)) → ⊥
  pub near : IsInRoom room (there (pos 0) (negsuc 299) (pos 1300))
  pub past_near : IsInRoom room (there (pos 0) (negsuc 300) (pos 0)) → ⊥
  pub far : IsInRoom room (there (pos 0) (pos 600) (pos 0))
  pub past_far : IsInRoom room (there (pos 0) (pos 601) (pos 0)) → ⊥
  pub past_top : IsInRoom room (there (pos 0) (pos 0) (pos 1301)) → ⊥
  pub floor : IsInRoom room (there (pos 0) (pos 0) (negsuc 299))
  pub below : IsInRoom room (there (pos 0) (pos 0) (negsuc 300)) → ⊥
  -- the director finds the same
  pub is_right : is_in_room room (there (pos 2300) (pos 0) (pos 0)) ≡ true
  pub isnt_right : is_in_room room (there (pos 2301) (pos 0) (pos 0)) ≡ false
  pub is_near : is_in_room room (there (pos 0) (negsuc 299) (pos 1300)) ≡ true
  pub isnt_near : is_in_room room (there (pos 0) (negsuc 300) (pos 0)) ≡ false
  pub isnt_top : is_in_room room (there (pos 0) (pos 0) (pos 1301)) ≡ false

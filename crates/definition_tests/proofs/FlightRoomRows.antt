-- The room of a small flight, by hand.
use Rattle.definition_tests.proofs.Prelude.{refl, arith, ints}
use Rattle.definition_tests.specs.FlightRoom.{RoomRows}
unfoldable use Rattle.flight_model.specs.Rooms.{room_of}

pub room_rows : RoomRows
unfolding room_of
room_rows = record {
  made = refl;
  right = record { x_low = omega (arith, ints); x_high = omega (arith, ints); y_low = omega (arith, ints); y_high = omega (arith, ints); z_low = omega (arith, ints); z_high = omega (arith, ints) };
  past_right = λ i. let h = i.x_high in omega (arith, ints, h);
  left = record { x_low = omega (arith, ints); x_high = omega (arith, ints); y_low = omega (arith, ints); y_high = omega (arith, ints); z_low = omega (arith, ints); z_high = omega (arith, ints) };
  past_left = λ i. let h = i.x_low in omega (arith, ints, h);
  near = record { x_low = omega (arith, ints); x_high = omega (arith, ints); y_low = omega (arith, ints); y_high = omega (arith, ints); z_low = omega (arith, ints); z_high = omega (arith, ints) };
  past_near = λ i. let h = i.y_low in omega (arith, ints, h);
  far = record { x_low = omega (arith, ints); x_high = omega (arith, ints); y_low = omega (arith, ints); y_high = omega (arith, ints); z_low = omega (arith, ints); z_high = omega (arith, ints) };
  past_far = λ i. let h = i.y_high in omega (arith, ints, h);
  past_top = λ i. let h = i.z_high in omega (arith, ints, h);
  floor = record { x_low = omega (arith, ints); x_high = omega (arith, ints); y_low = omega (arith, ints); y_high = omega (arith, ints); z_low = omega (arith, ints); z_high = omega (arith, ints) };
  below = λ i. let h = i.z_low in omega (arith, ints, h);
  is_right = refl;
  isnt_right = refl;
  is_near = refl;
  isnt_near = refl;
  isnt_top = refl;
}

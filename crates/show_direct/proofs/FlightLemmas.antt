-- What three shows are as a flight.
use Rattle.show_direct.proofs.Prelude.{◌≡◌, ◌≤◌, ◌∷◌, [], ◌++◌, length, map, None, refl, sym, ◌∙◌, arith, length-append, length-map, flat_map, range_with_len, PlainShow, DroneLine, grid_of, Routes, arm_step, down_step, last_step, lasts, leg_count, legs_of, start_step, up_step, Crew, Crews, Ways, AreFitted, flight-of, by_cue_counted, names_of, trajectories_of, FlightOptions, AreFlight, ellipsoid_of, fault_of}
unfoldable use Rattle.flight_model.specs.Legs.{steps_of}

-- a flight has steps: the start, and the last one
pub some_steps : (w : Routes) → 1 ≤ length (steps_of w)
unfolding steps_of
some_steps w =
    let ups = map legs_of w.up in
    let downs = map legs_of w.down in
    let before = flat_map (λ k. arm_step w ups k ∷ up_step w ups k ∷ []) (range_with_len 0 (leg_count ups)) in
    let after = map (down_step w (lasts w.show) downs) (range_with_len 0 (leg_count downs)) ++ last_step w downs ∷ [] in
    omega (arith, length-append before (start_step w (lasts w.show) ups ∷ after))

-- a show has a trajectory for each of its names
pub counted : (s : PlainShow) → length (trajectories_of s) ≡ length (names_of s)
counted s = by_cue_counted (grid_of s) ∙ sym (length-map s.drones (λ (d : DroneLine). d.name))

crew_of : PlainShow → Crew
crew_of s = record { names = record { ref_ptr = (0, 0); now = names_of s }; ellipsoid = ellipsoid_of s }

crews_of : PlainShow → PlainShow → PlainShow → Crews
crews_of up show down = record {
  up = crew_of up;
  show = crew_of show;
  down = crew_of down;
}

ways_of : FlightOptions → PlainShow → PlainShow → PlainShow → Ways
ways_of o up show down = record {
  up = record { ref_ptr = (0, 0); now = trajectories_of up };
  show = record { ref_ptr = (0, 0); now = trajectories_of show };
  down = record { ref_ptr = (0, 0); now = trajectories_of down };
  show_ms = lasts (trajectories_of show);
  stray = up.settings.stray;
  near = o.near;
  at_place = o.at_place;
}

-- where nothing keeps three shows from being a flight, they are one
pub are_flight : (o : FlightOptions) (up show down : PlainShow) → fault_of o up show down ≡ None → AreFlight o up show down
unfolding crew_of crews_of ways_of
are_flight o up show down none =
    let fitted : AreFitted (crews_of up show down) (ways_of o up show down) = record { up = counted up; show = counted show; down = counted down; duration = refl } in
    let is = flight-of (crews_of up show down) (ways_of o up show down) fitted none in
    record { up_names = is.up; down_names = is.down; up_ellipsoid = is.up_ellipsoid; down_ellipsoid = is.down_ellipsoid; flight = is.flight }

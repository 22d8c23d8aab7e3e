-- What the proofs of this crate cite from elsewhere, passed on from one place. Declares nothing.
pub use Rattle.std.proofs.Common.{Bool, FitsSigned, List, None, Option, Some, [], ap, arith, cond, drop, false, get_or, length, min, pos, refl, replicate, rules, set, subst, suc, sym, take, to_z, true, w16, w64, zero, ℕ, ◌&&◌, ◌*◌, ◌++◌, ◌+◌, ◌-◌, ◌/◌, ◌<◌, ◌^◌, ◌||◌, ◌∙◌, ◌∷◌, ◌≡◌, ◌≤◌}
pub use Rattle.std.proofs.lemmas.Grind.{common_steps}
pub use Rattle.std.proofs.lemmas.Int.{ints, to_z-of_z}
pub use Rattle.std.proofs.lemmas.List.{append-nil, append_assoc, get_or-set_other, length-set, take_all}
pub use Rattle.std.proofs.lemmas.Option.{slice_get-get_or, slice_get_past}
pub use Rattle.std.specs.List.{list_any, range_with_len}
pub use Rattle.std.specs.Prelude.{int_le, map, slice_get, slice_set, ℤ, ◌*ℤ◌, ◌+ℤ◌, ◌-ℤ◌}
unfoldable pub use Rattle.flight_model.specs.Directors.{notes}
pub use Rattle.flight_model.specs.Directors.{State, aged, all_answered, all_down, all_fit, all_seen, any_risen, chosen, deaf_from, done, drones, first_unfit, frames_from, frames_of_step, has_risen, is_disarmed, is_down, is_grave, is_silent, is_window, land_order, noticed, older, overdue, renewed, silent_from, track_with, tracked, unanswered}
pub use Rattle.flight_model.specs.Samples.{instants_near, instants_until, is_fit, is_short, is_within, square}
pub use Rattle.flight_model.specs.declared.events.Frame.TheVariants.{Noted, To}
pub use Rattle.flight_model.specs.declared.events.Note.{Note}
pub use Rattle.flight_model.specs.declared.events.Order.{Order}
pub use Rattle.flight_model.specs.declared.flights.Window.{Window}
pub use Rattle.flight_model.specs.declared.states.Track.{Track}
pub use Rattle.integer_player.specs.Played.{played}
pub use Rattle.flight_director.specs.Held.{AreFew, with_tracks}

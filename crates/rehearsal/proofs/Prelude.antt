-- What the proofs of this crate cite from elsewhere, passed on from one place. Declares nothing.
pub use Rattle.std.proofs.Common.{All, Bool, List, None, OnOk, Option, Some, [], ap, append-nil, append_assoc, arith, codes, cond, drop, false, get_or, length, lit<, map, nat_lt, of_z, pos, refl, replicate, rules, subst, suc, sym, take, to_z, true, w16, w64, zero, ℕ, ℤ, ◌++◌, ◌+◌, ◌<◌, ◌∙◌, ◌∷◌, ◌≡◌}
pub use Rattle.std.proofs.lemmas.Grind.{common_steps, flat_map-append, take_at_read}
pub use Rattle.std.proofs.lemmas.List.{drop_more, length-map, length-take, map-append, take_all}
pub use Rattle.std.proofs.lemmas.List.Elements.{All-head, All-push, All-tail}
pub use Rattle.std.specs.List.{flat_map, fold, range_with_len}
pub use Rattle.firmware_memory.specs.Shown.{shown}
pub use Rattle.firmware_memory.specs.declared.drone.Drone.{Drone}
pub use Rattle.fleet_world.specs.WorldState.{WorldStandsAt, WorldStandsFor, WorldState, state_at, state_of}
pub use Rattle.upload_model.specs.Drones.{DroneState}
pub use Rattle.upload_model.specs.Sessions.{Upload, drone_count}
pub use Rattle.upload_model.specs.declared.events.WorldEvent.{WorldEvent}
pub use Rattle.rehearsal.specs.Rehearsed.{blank_drone, rehearsed}
unfoldable pub use Rattle.rehearsal.specs.Texts.{memory_lines}
pub use Rattle.rehearsal.specs.Texts.{AreTexts, IsFound, drone_text, entry_lines, memory_line, title_line}

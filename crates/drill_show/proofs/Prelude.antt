-- What the proofs of this crate cite from elsewhere, passed on from one place. Declares nothing.
pub use Rattle.std.proofs.Common.{Global, List, OnOk, Vec, [], ap, append-nil, append_assoc, arith, codes, decimal, refl, string_bytes, subst, suc, sym, ℕ, ◌++◌, ◌+◌, ◌-◌, ◌<◌, ◌∙◌, ◌∷◌, ◌≡◌, ◌≤◌}
unfoldable pub use Rattle.std.specs.Fmt.{digits}
pub use Rattle.std.specs.List.{flat_map, range_with_len}
unfoldable pub use Rattle.drill_show.specs.Drill.{drill_line, drill_text}
pub use Rattle.drill_show.specs.Drill.{cue_lines, drone_line, height_in, move_line, name_of, shift_in, x_of, y_of}

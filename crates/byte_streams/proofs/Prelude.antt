-- What the proofs of this crate cite from elsewhere, passed on from one place. Declares nothing.
pub use Rattle.std.proofs.Common.{Bool, List, None, Option, Some, [], ap, append-nil, append_assoc, arith, cond, drop, eqb, false, flat_map, get_or, inl, inr, length, length-append, map, min, refl, subst, suc, sym, take, true, zero, ℕ, ◌&&◌, ◌++◌, ◌+◌, ◌-◌, ◌<◌, ◌||◌, ◌∙◌, ◌∷◌, ◌≡◌, ◌≤◌, ◌⊎◌}
pub use Rattle.std.proofs.Math.Seq.{take-append-add}
pub use Rattle.std.proofs.lemmas.Bool.{cases_Bool, cases_lt, eqb-true, ne_eqb}
pub use Rattle.std.proofs.lemmas.Grind.{common_steps}
pub use Rattle.std.proofs.lemmas.List.{drop-append-le, drop-drop, drop-take, drop_all, length-drop, length-take, length-take-le, take-append-drop, take-append-le, take-take, take_all, take_at, take_min, take_rest}
pub use Rattle.std.proofs.lemmas.List.Splits.{join_with_byte-slice_split}
pub use Rattle.std.proofs.lemmas.Slice.Eq.{bytes_eq-Decides}
pub use Rattle.std.specs.Io.KnownBytes.{Appends, Consumes, IsAtEnd, Keeps, prepend_known}
pub use Rattle.std.specs.List.{copy_within, join_with_byte, onto_first, position_or_len, slice_split}
pub use Rattle.std.specs.Prelude.{Err, IfErr, IfOk, IfSome, IsTrue, Ok, Result}
pub use Rattle.text_lines.specs.Lines.{between_feeds}
unfoldable pub use Rattle.text_lines.specs.Marker.{part_of, rest_of}
pub use Rattle.text_lines.specs.Marker.{ended, has_marker, is_marker, lines_after, lines_before}
pub use base.Logic.{SProp, ent}
pub use contract.Monad.{Fun}
unfoldable pub use contract.Running.{tables_of}
pub use contract.Running.{tables}
pub use denote.RattleType.{RattleType, Valss, owns}
pub use denote.Signature.{named_lft, plain, types_at}
pub use denote.Steps.{nothing}
pub use denote.Triple.Clauses.{Clauses, Ended, closing}
pub use denote.Triple.Entry.{alive}
pub use denote.Triple.Spec.{Meets, triple_of}
pub use denote.Triple.Table.{entered}
pub use denote.Triple.Walked.{Goes-dropped, Stays, ends_at, says, stay_dropped, walk_Meets, walk_of}
pub use mir.Syntax.{Fn}
pub use mir.Val.{Val, vnil, vptr, vstruct}
pub use prog.Memory.{Memory}
pub use prog.Routine.{Routine}
pub use prog.Wp.{Calls, Loops, Tables, WpFn}
pub use seplogic.Ra.Ura.{Ura}
pub use sound.WpLaws.{WpFn-mono}
pub use types.ByLocal.{alloc_all, free_all, look_at, pass_all, sets}
pub use types.Kit.{ !, Goal, Item, Step, done, feq_i, feq_l, fjoin, fpack, fsplit, keep, move, prop, qed, raw, regoal, split, step, suffices, ‵, ◌$◌, ◌∵◌, ◌⊛◌}
pub use types.Logic.{Logic}
pub use types.Part.{agg}
pub use types.Run.{enter, no_more, returns}
pub use Rattle.byte_streams.specs.Held.{Asked, Held, buffer_bytes, byte_of, has_whole_marker, stream, without_last}
pub use Rattle.byte_streams.specs.PartBytes.{ArePlain, AsksNext, PartLaw, after_piece, begins_after, first_piece, is_marked_here, is_marked_left, is_untold, may_be_marker, part_left, plain_len, rest_left}
pub use Rattle.byte_streams.specs.Parts.{MarkerLaw, TakesFewAfter, TakesPart, TookMarked}
pub use Rattle.byte_streams.specs.Steps.{Goes, Runs}
pub use Rattle.byte_streams.specs.Taken.{TakesAtMost, TakesFront}
pub use Rattle.byte_streams.specs.Told.{Gives, IsInput, MayGive, Reads, Told, Took, Went, to_come}
pub use Rattle.byte_streams.specs.Words.{filled, hex_word, word_bytes, words_room}
pub use Rattle.byte_streams.specs.declared.parts.IoFault.{IoFault}
pub use Rattle.byte_streams.specs.declared.parts.Part.{Part}

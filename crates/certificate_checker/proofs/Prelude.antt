-- What the proofs of this crate cite from elsewhere, passed on from one place. Declares nothing.
pub use Rattle.std.proofs.Common.{All, Bool, List, None, Option, Some, [], ap, append-nil, append_assoc, arith, bytes_eq, cond, false, get_or, inl, inr, length, length-append, lit<, map, nat_lt, refl, slice_index, subst, suc, sym, take, true, zero, ℕ, ℤ, ◌*◌, ◌++◌, ◌+◌, ◌-◌, ◌<◌, ◌==◌, ◌^◌, ◌∙◌, ◌∷◌, ◌≡◌, ◌≤◌}
pub use Rattle.std.proofs.lemmas.Bool.Decides.{nat_tests}
pub use Rattle.std.proofs.lemmas.Grind.{common_steps}
pub use Rattle.std.proofs.lemmas.List.{length-take-le, take_more}
pub use Rattle.std.proofs.lemmas.List.Elements.{All-append, All-cons, All-head, All-nil, All-tail}
pub use Rattle.std.specs.Str.Lines.{lines, lines_of_parts, strip_carriage_return}
pub use Rattle.fleet_curves.specs.Raised.{Raised, difference}
pub use Rattle.sep_certificate.proofs.Grammar.{counted_old, counted_wide, line_spelled}
pub use Rattle.sep_certificate.proofs.Readers.{header_from, header_told, same_told}
unfoldable pub use Rattle.sep_certificate.specs.Certificates.{first_fault_of}
pub use Rattle.sep_certificate.specs.Certificates.{IsWhole, fault_of, node_fault, rules_of, spelled_fault, tree_fault}
pub use Rattle.sep_certificate.specs.Steps.{is_spelled, is_spelled_wide, node_of_byte, wide_nodes}
pub use Rattle.sep_certificate.specs.Texts.{Says, bad_from, bad_line, bad_tree, depth_line, head_lines, is_depth_line, is_digit, is_letter, is_tree_line, is_wide_leaf, tree_line, two_digits, version_line}
pub use Rattle.sep_certificate.specs.declared.certificate.CertFault.{CertFault}
pub use Rattle.sep_certificate.specs.declared.certificate.CertFault.TheVariants.{Extra, Missing}
pub use Rattle.sep_certificate.specs.declared.certificate.Certificate.{Certificate}
pub use Rattle.sep_parts.proofs.Orders.{IsAhead, first_ahead, next_ahead}
pub use Rattle.sep_parts.proofs.Table.{small_table, table_small}
pub use Rattle.sep_parts.specs.Slots.{following, slot_at, slots}
pub use Rattle.sep_parts.specs.Trees.{IsKnown, IsTree, Tree, preorder}
unfoldable pub use Rattle.sep_parts.specs.Versions.{table_of}
pub use Rattle.sep_parts.specs.Versions.{IsVersion, known_in}
pub use Rattle.sep_parts.specs.declared.clearance.Clearance.{Clearance}
pub use Rattle.sep_parts.specs.declared.node.Node.{Node}
pub use Rattle.sep_parts.specs.declared.node.Node.TheVariants.{Leaf, Split}
pub use Rattle.sep_parts.specs.declared.rules.Rules.{Rules}
pub use Rattle.certificate_checker.specs.Bytes.{ApartWhereValid, HasRead, NamesFault, Seen, most_bytes}
unfoldable pub use Rattle.certificate_checker.specs.Checking.{checked_all}
pub use Rattle.certificate_checker.specs.Checking.{Checking, Clear, DepthLine, Faulty, FirstLine, Judged, Reading, TreeLine, TreesRead, Wrong, after_node, at_places, before_tree, byte_read, checked, closed, depth_read, digit_read, first_tree, fresh, judged_verdict, kept, letter_read, line_byte, line_read, node_read, nothing_checked, rules_in, verdict_of, with_node, with_return, with_tree}
pub use Rattle.certificate_checker.specs.Judgments.{AreFew, AreWithin, HasAtMost, IsNextIn}
pub use Rattle.certificate_checker.specs.Steps.{HasRoom, IsReader, IsTextReader, checking_of, measure_of, reading_by, reading_of}
pub use Rattle.certificate_checker.specs.Verdicts.{VerdictGives}
pub use Rattle.certificate_checker.specs.declared.verdict.Verdict.TheVariants.{Line, Refused, Valid}

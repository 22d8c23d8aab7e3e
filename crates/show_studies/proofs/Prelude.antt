-- What the proofs of this crate cite from elsewhere, passed on from one place. Declares nothing.
pub use Rattle.std.proofs.Common.{All, Bool, Contains, Err, IfOk, IfSome, List, None, Ok, Option, Result, Some, [], ap, append-nil, append_assoc, arith, cond, drop, false, get_or, inl, inr, length, nat_lt, pos, refl, subst, suc, sum, sym, zero, ℕ, ℤ, ◌*ℤ◌, ◌*◌, ◌++◌, ◌+ℤ◌, ◌+◌, ◌-ℤ◌, ◌-◌, ◌<ℤ◌, ◌<◌, ◌^◌, ◌↔◌, ◌∙◌, ◌∷◌, ◌≡◌, ◌≤ℤ◌, ◌≤◌, ◌⊎◌}
pub use Rattle.std.proofs.lemmas.Grind.{common_steps}
pub use Rattle.std.proofs.lemmas.Int.{by_lt_z, ints}
pub use Rattle.std.proofs.lemmas.List.{drop_all, drop_more, length-map}
pub use Rattle.std.proofs.lemmas.List.Elements.{All-cons, All-head, All-nil, All-tail}
pub use Rattle.std.specs.Io.KnownBytes.{Appends}
pub use Rattle.std.specs.Option.{option_map, option_or}
pub use Rattle.std.specs.Prelude.{MatchOption, slice_get, true}
pub use Rattle.std.specs.declared.alloc.AllocError.{AllocError}
pub use Rattle.choreo_show.specs.Name.{Name}
pub use Rattle.choreo_show.specs.Plain.{PlainShow}
pub use Rattle.dynamics_bound.specs.Lines.{motion_line}
pub use Rattle.dynamics_bound.specs.Motions.{KeepsMotion, extremes_of, greater, motion}
unfoldable pub use Rattle.fleet_curves.specs.Raised.{raised_of}
pub use Rattle.fleet_curves.specs.Raised.{Raised, curves_at, difference}
pub use Rattle.whole_numbers.specs.Limits.{most_text}
pub use Rattle.keepout_boxes.specs.Kept.{AllAbove, AllBelow, AllBetween, IsFirstEntry, IsKept, JudgeGives, KeepClear, KeptAt, Spot, extent, part_of}
pub use Rattle.keepout_boxes.specs.Regions.{regions_of}
pub use Rattle.keepout_boxes.specs.declared.judging.Judged.{Judged}
pub use Rattle.keepout_boxes.specs.declared.judging.Judged.TheVariants.{Enters, Kept}
pub use Rattle.keepout_boxes.specs.declared.region.Region.{Region}
pub use Rattle.pair_search.specs.Search.{SearchGives, blocked_place, first_by}
pub use Rattle.refusals.specs.declared.refusal.Refusal.{Refusal}
pub use Rattle.sep_parts.proofs.Orders.{IsAhead, first_ahead, next_ahead, some_ahead}
pub use Rattle.sep_parts.specs.Rulers.{Measure}
pub use Rattle.sep_parts.specs.Slots.{IsSlot, following, slots}
pub use Rattle.sep_parts.specs.declared.clearance.Clearance.{Clearance}
pub use Rattle.sep_parts.specs.declared.slot.Slot.{Slot}
pub use Rattle.show_judge.proofs.AnswerLemmas.{input_two, refused_some, two_fitted}
pub use Rattle.show_judge.proofs.HeadlineLemmas.{none_both, whole_input}
pub use Rattle.show_judge.proofs.VerbLemmas.{none_mapped, nothing_refused, read_given, refused_as, within_limit}
pub use Rattle.show_judge.specs.Answers.{EndsWell, outcome_of}
pub use Rattle.show_judge.specs.Outcome.{IsSafe, IsVerb}
pub use Rattle.show_judge.specs.Refused.{faulty_line, second_refusal}
pub use Rattle.show_judge.specs.Shows.{Cut, cues_in, cut_of, name_at, names_of, sent_of, trajectories_of}
pub use Rattle.show_judge.specs.Verb.{Outcome, outcome}
pub use Rattle.show_judge.specs.declared.ends.Answer.{Answer}
pub use Rattle.show_plan.specs.Fitting.{IsFitted, IsValidFitted}
unfoldable pub use Rattle.show_plan.specs.Separation.{measure_of}
pub use Rattle.show_plan.specs.Separation.{FlyApart, blocked_at, blocked_in, clearance_of, direction_at, searched, slots_of}
pub use Rattle.show_plan.specs.declared.fitted.Fitted.{Fitted}
pub use Rattle.show_plan.specs.declared.separation.BlockedPart.{BlockedPart}
pub use Rattle.touch_witness.specs.Lines.{blocked_closest_line, more_blocked_line}
pub use Rattle.touch_witness.specs.Sites.{DisjointAt, IsBefore, IsClosest, IsClosestIn, IsFirstTouch, IsListed, LeftAbove, LeftFrom, LeftIs, NoTouch, TouchAt, instant_of, left_of, listed, right_of, site_of}
pub use Rattle.touch_witness.specs.declared.site.Closest.{Closest}
pub use Rattle.touch_witness.specs.declared.site.Touch.{Touch}
pub use Rattle.traj_codec.specs.Positions.{durations}
pub use Rattle.traj_codec.specs.declared.traj.Segment.{Segment}
pub use Rattle.traj_codec.specs.declared.traj.Traj.{Traj}
pub use Rattle.show_studies.specs.Boxes.{BoxesLaw, RegionsGive, StaysInRegions, aside_of, boxes_verb, regions_end, upwards_of}
pub use Rattle.show_studies.specs.Dynamics.{KeepsDynamics, dynamics_of, dynamics_text, dynamics_verb, excess_by, excess_in, first_excess_of, limits_of, motion_lines, times_of}
pub use Rattle.show_studies.specs.Explained.{BlockedLaw, BlockedLines, Explains, SaysBlocked, SeparationSays, TellsTouches, blocked_among, blocked_of, blocked_parts, explain_text, explain_verb, most_blocked, with_part, word_at}
pub use Rattle.show_studies.specs.Speeds.{KeepsBounds, KeepsSpeeds, above, first_too_fast, refused_or, speed_of_drone, speed_text, speed_verb, too_fast, too_fast_by}
pub use Rattle.show_studies.specs.Steps.{Ends, EndsRegions, IsPartOf, NextGives, SaysOf, part_in}

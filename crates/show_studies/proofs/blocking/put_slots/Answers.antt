use Rattle.show_studies.proofs.Prelude.{◌≡◌, ℕ, ◌<◌, Option, None, Some, ap, arith, sym, subst, ◌∙◌, Raised, blocked_among, blocked_parts, IsAhead, first_ahead, next_ahead, some_ahead, following, slots, Measure, Slot, BlockedPart, clearance_of, measure_of, most_blocked, Ends, NextGives, SaysOf, part_in}
use Rattle.show_studies.proofs.ListingLemmas.{part_of, slot_last, slot_next, slots_over}
use Rattle.show_studies.proofs.blocking.put_slots.Goals as goal

pub loop-alloc-init : goal.loop-alloc-init
loop-alloc-init c = (
  slots c.args.curves.now.drones c.args.curves.now.cues,
  rw c.first-slot.ensures (first_ahead c.args.curves.now.drones c.args.curves.now.cues (omega arith) (omega arith)),
  λ end ends.
      subst (λ (cv : Raised). Ends (SaysOf c.args.fitted.now c.args.study.depth c.args.study.fine) most_blocked (blocked_among (clearance_of c.args.fitted.now.settings c.args.fitted.now.trajs) c.args.study.depth cv (slots cv.drones cv.cues)) c.args.text.now end)
      c.requires.curves ends,
)

pub put_next-requires-clause-part : goal.put_next-requires-clause-part
put_next-requires-clause-part c =
    let here : c.loop-alloc.slot.b < c.args.curves.now.drones = omega arith in
    part_of c.args.fitted.now c.args.curves.now c.loop-alloc.slot c.in_ok-part.part c.requires.curves
    (some_ahead c.args.curves.now.drones c.args.curves.now.cues c.loop-alloc.slot c.loop-alloc.invariant.0 here c.loop-alloc.invariant.1).is_slot c.in_ok-part.ensures.slot

pub returns-in_default : goal.returns-in_default
returns-in_default c =
    let here : c.loop-alloc.slot.b < c.args.curves.now.drones = omega arith in
    let next = next_ahead c.args.curves.now.drones c.args.curves.now.cues c.loop-alloc.slot c.loop-alloc.invariant.0 (some_ahead c.args.curves.now.drones c.args.curves.now.cues c.loop-alloc.slot c.loop-alloc.invariant.0 here c.loop-alloc.invariant.1) in
    let part : c.in_ok-part.part ≡ part_in (measure_of (clearance_of c.args.fitted.now.settings c.args.fitted.now.trajs)) c.args.study.depth c.args.curves.now c.loop-alloc.slot =
    c.in_ok-part.ensures.part ∙ ap (λ (m : Measure). part_in m c.args.study.depth c.args.curves.now c.loop-alloc.slot) c.requires.ruler in
    let gives : NextGives (SaysOf c.args.fitted.now c.args.study.depth c.args.study.fine) c.loop-alloc.left c.in_ok-part.part c.loop-alloc.text c.put_next.new.text None =
    subst (λ (o : Option ℕ). NextGives (SaysOf c.args.fitted.now c.args.study.depth c.args.study.fine) c.loop-alloc.left c.in_ok-part.part c.loop-alloc.text c.put_next.new.text o) c.in_default.is c.in_ok-more.ensures in
    slot_last (SaysOf c.args.fitted.now c.args.study.depth c.args.study.fine) (clearance_of c.args.fitted.now.settings c.args.fitted.now.trajs) c.args.study.depth c.args.curves.now most_blocked c.loop-alloc.left
    (blocked_parts c.args.fitted.now.settings c.args.study.depth c.args.fitted.now.trajs) c.args.text.now c.loop-alloc.text c.put_next.new.text c.loop-alloc.invariant.0 next.0 c.loop-alloc.slot c.in_ok-part.part next.1 part gives c.loop-alloc.invariant.2

pub loop-alloc-preserved : goal.loop-alloc-preserved
loop-alloc-preserved c =
    let here : c.loop-alloc.slot.b < c.args.curves.now.drones = omega arith in
    let next = next_ahead c.args.curves.now.drones c.args.curves.now.cues c.loop-alloc.slot c.loop-alloc.invariant.0 (some_ahead c.args.curves.now.drones c.args.curves.now.cues c.loop-alloc.slot c.loop-alloc.invariant.0 here c.loop-alloc.invariant.1) in
    let after : c.next-slot.result ≡ following c.args.curves.now.drones c.args.curves.now.cues c.loop-alloc.slot =
    c.next-slot.ensures ∙ ap (λ (n : ℕ). following n c.cues-cues.result c.loop-alloc.slot) c.drones-drones.ensures.exact ∙ ap (λ (n : ℕ). following c.args.curves.now.drones n c.loop-alloc.slot) c.cues-cues.ensures.exact in
    let part : c.in_ok-part.part ≡ part_in (measure_of (clearance_of c.args.fitted.now.settings c.args.fitted.now.trajs)) c.args.study.depth c.args.curves.now c.loop-alloc.slot =
    c.in_ok-part.ensures.part ∙ ap (λ (m : Measure). part_in m c.args.study.depth c.args.curves.now c.loop-alloc.slot) c.requires.ruler in
    let gives : NextGives (SaysOf c.args.fitted.now c.args.study.depth c.args.study.fine) c.loop-alloc.left c.in_ok-part.part c.loop-alloc.text c.put_next.new.text (Some c.in-Some.more) =
    subst (λ (o : Option ℕ). NextGives (SaysOf c.args.fitted.now c.args.study.depth c.args.study.fine) c.loop-alloc.left c.in_ok-part.part c.loop-alloc.text c.put_next.new.text o) c.in-Some.is c.in_ok-more.ensures in (
      next.0,
      subst (λ (s : Slot). IsAhead c.args.curves.now.drones c.args.curves.now.cues s next.0) (sym after) next.2,
      slot_next (SaysOf c.args.fitted.now c.args.study.depth c.args.study.fine) (clearance_of c.args.fitted.now.settings c.args.fitted.now.trajs) c.args.study.depth c.args.curves.now most_blocked c.loop-alloc.left c.in-Some.more
          (blocked_parts c.args.fitted.now.settings c.args.study.depth c.args.fitted.now.trajs) c.args.text.now c.loop-alloc.text c.put_next.new.text c.loop-alloc.invariant.0 next.0 c.loop-alloc.slot c.in_ok-part.part next.1 part gives c.loop-alloc.invariant.2,
    )

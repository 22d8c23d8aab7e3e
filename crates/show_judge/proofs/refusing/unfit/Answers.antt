use Rattle.show_judge.proofs.Prelude.{◌≡◌, ◌∙◌, ◌≤◌, ap, sym, arith, rules, SFits, w64, to_z, of_z, plain, Name, Some, option_or, marker_refusal}
use Rattle.refusals.specs.declared.refusal.Refusal.TheVariants as refusal
use Rattle.std.proofs.lemmas.Int.{to_z-of_z}
use Rattle.show_plan.specs.declared.fitted.PlanFault.TheVariants as fault
use Rattle.show_judge.proofs.RefusalLemmas.{early_refused, late_drone, late_refused, refused_axis}
use Rattle.show_judge.proofs.refusing.unfit.Goals as goal

pub returns-in-Grid-clause-gives : goal.returns-in-Grid-clause-gives
returns-in-Grid-clause-gives c = λ cut is.
    early_refused c.args.ways.now cut (plain c.args.show.now) (fault.Grid c.in-Grid.fault) (λ late. late) (rw c.in-Grid.is at c.requires.fault)

pub returns-in-OutOfRange-clause-gives : goal.returns-in-OutOfRange-clause-gives
returns-in-OutOfRange-clause-gives c = λ cut is.
    let v = c.in-OutOfRange.found in
    let fits : SFits w64 v.value = search rules in
    let same : to_z w64 (of_z w64 v.value) ≡ v.value = to_z-of_z w64 v.value fits in
    rw same (early_refused c.args.ways.now cut (plain c.args.show.now) (fault.OutOfRange v) (λ late. late) (rw c.in-OutOfRange.is at c.requires.fault))

pub returns-in-OutOfRange-clause-said : goal.returns-in-OutOfRange-clause-said
returns-in-OutOfRange-clause-said c =
    let v = c.in-OutOfRange.found in
    let axis : v.axis ≤ 3 = refused_axis (plain c.args.show.now) v (rw c.in-OutOfRange.is at c.requires.fault) in
    record { sayable = axis; command = λ is. omega (arith, is); read = λ is. omega (arith, is) }

pub drone_name-drone-requires-clause-drone : goal.drone_name-drone-requires-clause-drone
drone_name-drone-requires-clause-drone c = late_drone (plain c.args.show.now) (fault.TooManySegments c.in-TooManySegments.drone c.in-TooManySegments.segments) tt (rw c.in-TooManySegments.is at c.requires.fault)

pub after_marker-requires-clause-said : goal.after_marker-requires-clause-said
after_marker-requires-clause-said c = record { sayable = c.drone_name-drone.ensures.word; command = λ is. omega (arith, is); read = λ is. omega (arith, is) }

pub returns-in-TooManySegments-clause-gives : goal.returns-in-TooManySegments-clause-gives
returns-in-TooManySegments-clause-gives c = λ cut is.
    late_refused c.args.ways.now cut (plain c.args.show.now) (fault.TooManySegments c.in-TooManySegments.drone c.in-TooManySegments.segments) tt (rw c.in-TooManySegments.is at c.requires.fault)
    ∙ ap (λ (n : Name). option_or (marker_refusal c.args.ways.now cut) (Some (refusal.Segments n c.in-TooManySegments.segments))) (sym c.drone_name-drone.ensures.name) ∙ c.after_marker.ensures.gives cut is

pub drone_name-drone-requires-in-TooLong-clause-drone : goal.drone_name-drone-requires-in-TooLong-clause-drone
drone_name-drone-requires-in-TooLong-clause-drone c = late_drone (plain c.args.show.now) (fault.TooLong c.in-TooLong.drone c.in-TooLong.bytes c.in-TooLong.room) tt (rw c.in-TooLong.is at c.requires.fault)

pub after_marker-requires-in-TooLong-clause-said : goal.after_marker-requires-in-TooLong-clause-said
after_marker-requires-in-TooLong-clause-said c = record { sayable = c.drone_name-drone-in-TooLong.ensures.word; command = λ is. omega (arith, is); read = λ is. omega (arith, is) }

pub returns-in-TooLong-clause-gives : goal.returns-in-TooLong-clause-gives
returns-in-TooLong-clause-gives c = λ cut is.
    late_refused c.args.ways.now cut (plain c.args.show.now) (fault.TooLong c.in-TooLong.drone c.in-TooLong.bytes c.in-TooLong.room) tt (rw c.in-TooLong.is at c.requires.fault)
    ∙ ap (λ (n : Name). option_or (marker_refusal c.args.ways.now cut) (Some (refusal.Room n c.in-TooLong.bytes c.in-TooLong.room))) (sym c.drone_name-drone-in-TooLong.ensures.name) ∙ c.after_marker-in-TooLong.ensures.gives cut is

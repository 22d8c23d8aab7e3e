use Rattle.show_studies.proofs.Prelude.{◌≡◌, suc, ◌-◌, Option, Some, arith, subst, sym, BlockedPart, NextGives, SaysOf}
use Rattle.show_studies.proofs.ListingLemmas.{next_line}
use Rattle.show_studies.proofs.blocking.put_next.Goals as goal

pub returns : goal.returns
returns c =
    let count : c.args.left ≡ suc (c.args.left - 1) = omega arith in
    subst (λ (p : Option BlockedPart). NextGives (SaysOf c.args.fitted.now c.args.depth c.args.fine) c.args.left p c.args.text.now c.put_part.new.text (Some (c.args.left - 1))) (sym c.in-Some.is)
    (next_line (SaysOf c.args.fitted.now c.args.depth c.args.fine) c.args.left (c.args.left - 1) c.in-Some.part c.args.text.now c.put_part.new.text count c.in_ok-put_part.ensures)

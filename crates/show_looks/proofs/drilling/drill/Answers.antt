use Rattle.show_looks.proofs.Prelude.{Gives-none, refl, drill_text, own_behaves, report_of}
use Rattle.show_looks.specs.Drilled.{drill_of}
use Rattle.show_looks.proofs.drilling.drill.Goals as goal

pub returns : goal.returns
returns g c =
    let it = c.answer_drill-answer in
    record {
      gives = Gives-none _ _ refl;
      behaves = λ all is.
          own_behaves c.show_law.ensures c.args.depth (drill_text c.args.drones) (λ s. drill_of (report_of s c.args.depth)) it.result _ _ _ _ _ _ c.respond.result it.ensures.gives it.ensures.safe it.ensures.said it.ensures.read c.respond.ensures;
    }

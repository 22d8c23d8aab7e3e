use Rattle.std.proofs.Common.{◌≡◌, ℕ, List, map, take, ap, ◌∙◌}
use Rattle.std.proofs.lemmas.List.{take_all}
use Rattle.serde_json.specs.Data.{Data, array, number, unsigned}
use Rattle.serde_json.specs.View.{items_of}
use Rattle.report_text.proofs.ReportLemmas.{numbers_are}
use Rattle.report_text.proofs.report.numbers_of.Goals as goal

pub returns : goal.returns
returns c =
    let whole : take c.loop-number.number-index c.args.numbers.now ≡ c.args.numbers.now =
    take_all c.loop-number.number-index c.args.numbers.now c.loop-number-test.false in
    c.from-2.ensures
    ∙ ap (λ (ds : List Data). array (items_of ds)) (c.loop-number.invariant ∙ ap (map (λ (n : ℕ). number (unsigned n))) whole)
    ∙ ap array (numbers_are c.args.numbers.now)

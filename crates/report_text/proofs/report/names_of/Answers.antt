use Rattle.std.proofs.Common.{◌≡◌, ℕ, List, map, take, ap, sym, subst, ◌∙◌, get_or}
use Rattle.std.proofs.lemmas.List.{take_all}
use Rattle.std.proofs.lemmas.List.Elements.{All-get_or}
use Rattle.std.proofs.lemmas.Str.{IsUtf8-from_ascii}
use Rattle.std.specs.Str.{IsAscii}
use Rattle.arrayvec.specs.ArrayVec.{ArrayVec}
use Rattle.serde_json.specs.Data.{Data, array, string}
use Rattle.serde_json.specs.View.{items_of}
use Rattle.report_text.proofs.ReportLemmas.{names_are, read_ok}
use Rattle.report_text.proofs.report.names_of.Goals as goal

pub unwrap-text-requires : goal.unwrap-text-requires
unwrap-text-requires c =
    let listed : IsAscii (get_or c.args.names.now c.loop-name.name-index c.name-item.result).items =
    All-get_or (λ (name : ArrayVec ℕ). IsAscii name.items) c.args.names.now c.loop-name.name-index c.name-item.result c.loop-name-test.true c.requires in
    let ascii : IsAscii c.as_slice.result.now =
    subst IsAscii (sym (c.as_slice.ensures.value ∙ ap (λ (name : ArrayVec ℕ). name.items) c.name-item.is)) listed in
    read_ok c.from_utf8.result _ _ _ c.from_utf8.ensures.cases (IsUtf8-from_ascii c.as_slice.result.now ascii)

pub returns : goal.returns
returns c =
    let whole : take c.loop-name.name-index c.args.names.now ≡ c.args.names.now =
    take_all c.loop-name.name-index c.args.names.now c.loop-name-test.false in
    c.from.ensures
    ∙ ap (λ (ds : List Data). array (items_of ds)) (c.loop-name.invariant ∙ ap (map (λ (name : ArrayVec ℕ). string name.items)) whole)
    ∙ ap array (names_are (λ (name : ArrayVec ℕ). name.items) c.args.names.now)

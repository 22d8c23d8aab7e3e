use Rattle.std.proofs.Common.{◌≡◌, ◌++◌, ◌∷◌, [], ℕ, List, map, ap, ◌∙◌, subst, IfOk, Vec, Global, string_bytes}
use Rattle.arrayvec.specs.ArrayVec.{ArrayVec}
use Rattle.serde_json.specs.View.{view}
use Rattle.serde_json.specs.Written.{compact_text, has_float}
use Rattle.report_text.specs.Report.{Report, report_data, report_text}
use Rattle.report_text.proofs.ReportLemmas.{no_float, report_is}
use Rattle.report_text.proofs.report.report_text.Goals as goal

pub returns : goal.returns
unfolding report_text
returns c =
    let r : Report = record {
      bytes = c.args.bytes.now;
      cues = c.args.cues;
      drones = map (λ (name : ArrayVec ℕ). name.items) c.args.names.now;
      duration_ms = c.args.duration_ms;
      nodes = c.args.nodes;
      packets = c.args.packets.now;
    } in
    let value_is : view c.in_ok-value.value ≡ report_data r =
    report_is r (view c.in_ok-value.value) (view c.in_ok-bytes.bytes) (view c.in_ok-drones.drones) (view c.in_ok-packets.packets)
    c.in_ok-bytes.ensures c.in_ok-drones.ensures c.in_ok-packets.ensures c.in_ok-value.ensures in
    let text_is : string_bytes c.in_ok-to_string.field-0 ≡ compact_text (view c.in_ok-value.value) =
    c.in_ok-to_string.ensures.text (ap has_float value_is ∙ no_float r) in
    subst (λ (t : List ℕ). IfOk c.with_line_feed.result (λ (line : Vec ℕ Global). line.items ≡ t ++ 10 ∷ []))
    (text_is ∙ ap compact_text value_is) c.with_line_feed.ensures

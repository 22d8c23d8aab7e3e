use Rattle.drill_show.proofs.Prelude.{◌++◌, List, ℕ, ◌∙◌, ap, codes, Vec, Global, flat_map, range_with_len, drone_line, cue_lines}
use Rattle.drill_show.proofs.DrillLemmas.{show_made}
use Rattle.drill_show.proofs.show.drill_text.Goals as goal

pub returns : goal.returns
returns c =
    let drones : List ℕ = flat_map drone_line (range_with_len 0 c.args.n) in
    let cues : List ℕ = flat_map (cue_lines c.args.n) (range_with_len 0 4) in
    ap (λ (v : Vec ℕ Global). v.items) c.into_bytes.ensures.value
    ∙ c.in_ok-push_str-3.ensures.bytes
    ∙ ap (λ (t : List ℕ). t ++ codes "end\n") (
    c.in_ok-put_all_cues.ensures ∙ ap (λ (t : List ℕ). t ++ cues) (
    c.in_ok-push_str-2.ensures.bytes ∙ ap (λ (t : List ℕ). t ++ codes "repeat 10\n") (
    c.in_ok-put_drone_lines.ensures ∙ ap (λ (t : List ℕ). t ++ drones) (
    c.in_ok-push_str.ensures.bytes ∙ ap (λ (t : List ℕ). t ++ codes "choreo 1\n") c.new-text.ensures.bytes
    )
    )
    )
    )
    ∙ show_made c.args.n

use Rattle.choreo_lines.proofs.Prelude.{◌≡◌, ℕ, List, length, sym, ap, ◌∙◌, words_in, word_in, act_places, act_read, length-map, Token}
use Rattle.choreo_lines.proofs.Acts.{hold_values, line_values, move_values, turn_values, arc_values, eased_values, curve_values}
use Rattle.choreo_lines.proofs.act.act_by.Goals as goal

size : (text : List ℕ) (words : List Token) (n : ℕ) → length words ≡ n → length (words_in text words) ≡ n
size text words n e = length-map words (word_in text) ∙ e

pub returns-in-Hold : goal.returns-in-Hold
returns-in-Hold c =
    sym (hold_values c.args.form (words_in c.args.text.now c.args.words.now))
    ∙ ap (λ a. act_read c.args.form a (words_in c.args.text.now c.args.words.now)) (sym c.in-Hold.is)

pub returns-in-Line : goal.returns-in-Line
returns-in-Line c =
    let same = c.in-Line.is in
    let ws = words_in c.args.text.now c.args.words.now in
    c.line_act.ensures
    ∙ sym (line_values c.args.form ws (size c.args.text.now c.args.words.now _ (c.requires ∙ ap (λ a. length (act_places a)) same)))
    ∙ ap (λ a. act_read c.args.form a ws) (sym same)

pub returns-in-Move : goal.returns-in-Move
returns-in-Move c =
    let same = c.in-Move.is in
    let ws = words_in c.args.text.now c.args.words.now in
    c.move_act.ensures
    ∙ sym (move_values c.args.form ws (size c.args.text.now c.args.words.now _ (c.requires ∙ ap (λ a. length (act_places a)) same)))
    ∙ ap (λ a. act_read c.args.form a ws) (sym same)

pub returns-in-Turn : goal.returns-in-Turn
returns-in-Turn c =
    let same = c.in-Turn.is in
    let ws = words_in c.args.text.now c.args.words.now in
    c.turn_act.ensures
    ∙ sym (turn_values c.args.form ws (size c.args.text.now c.args.words.now _ (c.requires ∙ ap (λ a. length (act_places a)) same)))
    ∙ ap (λ a. act_read c.args.form a ws) (sym same)

pub returns-in-Arc : goal.returns-in-Arc
returns-in-Arc c =
    let same = c.in-Arc.is in
    let ws = words_in c.args.text.now c.args.words.now in
    c.arc_act.ensures
    ∙ sym (arc_values c.args.form ws (size c.args.text.now c.args.words.now _ (c.requires ∙ ap (λ a. length (act_places a)) same)))
    ∙ ap (λ a. act_read c.args.form a ws) (sym same)

pub returns-in-Eased : goal.returns-in-Eased
returns-in-Eased c =
    let same = c.in-Eased.is in
    let ws = words_in c.args.text.now c.args.words.now in
    c.eased_act.ensures
    ∙ sym (eased_values c.args.form c.in-Eased.ease ws (size c.args.text.now c.args.words.now _ (c.requires ∙ ap (λ a. length (act_places a)) same)))
    ∙ ap (λ a. act_read c.args.form a ws) (sym same)

pub returns-in-Curve : goal.returns-in-Curve
returns-in-Curve c =
    let same = c.in-Curve.is in
    let ws = words_in c.args.text.now c.args.words.now in
    c.curve_act.ensures
    ∙ sym (curve_values c.args.form ws (size c.args.text.now c.args.words.now _ (c.requires ∙ ap (λ a. length (act_places a)) same)))
    ∙ ap (λ a. act_read c.args.form a ws) (sym same)

use Rattle.pair_search.proofs.Prelude.{◌≡◌, ℤ, pos, ◌+ℤ◌, ◌*ℤ◌, ◌∙◌, ap, to_z-of_z, w32, at, slack_on}
use Rattle.pair_search.proofs.LaneLemmas.{weight_fits}
use Rattle.pair_search.proofs.ShortLemmas.{short_told}
use Rattle.pair_search.proofs.short.short_low.Goals as goal

pub overflow_add-result : goal.overflow_add-result
overflow_add-result c =
    (short_told (at c.args.lanes.now.low c.args.i) c.from.result c.slack.result c.slack-2.result c.slack-3.result (c.requires.lanes c.args.i c.requires.i).low c.from.ensures c.slack.ensures.small c.slack-2.ensures.small c.slack-3.ensures.small).0

pub returns-clause-exact : goal.returns-clause-exact
returns-clause-exact c =
    let lane = c.requires.lanes c.args.i c.requires.i in
    let x : c.slack.result ≡ slack_on (at c.args.lanes.now.x c.args.i) = c.slack.ensures.exact ∙ ap slack_on (to_z-of_z w32 (at c.args.lanes.now.x c.args.i) (weight_fits _ lane.x)) in
    let y : c.slack-2.result ≡ slack_on (at c.args.lanes.now.y c.args.i) = c.slack-2.ensures.exact ∙ ap slack_on (to_z-of_z w32 (at c.args.lanes.now.y c.args.i) (weight_fits _ lane.y)) in
    let z : c.slack-3.result ≡ slack_on (at c.args.lanes.now.z c.args.i) = c.slack-3.ensures.exact ∙ ap slack_on (to_z-of_z w32 (at c.args.lanes.now.z c.args.i) (weight_fits _ lane.z)) in
    (short_told (at c.args.lanes.now.low c.args.i) c.from.result c.slack.result c.slack-2.result c.slack-3.result lane.low c.from.ensures c.slack.ensures.small c.slack-2.ensures.small c.slack-3.ensures.small).1
    ∙ same (at c.args.lanes.now.low c.args.i) x y z
  where
    same : {a b c u v w : ℤ} (low : ℤ) → a ≡ u → b ≡ v → c ≡ w → pos 8 *ℤ low +ℤ pos 7 *ℤ (a +ℤ b +ℤ c) ≡ pos 8 *ℤ low +ℤ pos 7 *ℤ (u +ℤ v +ℤ w)
    same {a} {b} {c} {u} {v} {w} low p q r = cc

pub returns-clause-small : goal.returns-clause-small
returns-clause-small c =
    let told = short_told (at c.args.lanes.now.low c.args.i) c.from.result c.slack.result c.slack-2.result c.slack-3.result (c.requires.lanes c.args.i c.requires.i).low c.from.ensures c.slack.ensures.small c.slack-2.ensures.small c.slack-3.ensures.small in
    rw (told.1) (told.2)

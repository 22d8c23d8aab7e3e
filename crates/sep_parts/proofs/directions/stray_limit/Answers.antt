use Rattle.sep_parts.proofs.Prelude.{ap, ◌∙◌, length_squared}
use Rattle.sep_parts.proofs.Limits.{product_held, product_told, sum_held}
use Rattle.sep_parts.proofs.directions.stray_limit.Goals as goal

pub long_weights-requires-clause-entries : goal.long_weights-requires-clause-entries
long_weights-requires-clause-entries c = c.requires.entries

pub long_weights-requires-clause-r : goal.long_weights-requires-clause-r
long_weights-requires-clause-r c = c.requires.clearance.across

pub long_weights-requires-clause-h : goal.long_weights-requires-clause-h
long_weights-requires-clause-h c = c.requires.clearance.upwards

pub stray_area-requires : goal.stray_area-requires
stray_area-requires c = c.requires.clearance.stray

pub squared_weights-requires : goal.squared_weights-requires
squared_weights-requires c = c.long_weights.ensures.small

pub returns-clause-exact : goal.returns-clause-exact
returns-clause-exact c =
    product_told _ _ _ _ _ c.stray_area.ensures.exact (c.squared_weights.ensures.exact ∙ ap length_squared c.long_weights.ensures.exact)
    c.squared_weights.ensures.positive c.squared_weights.ensures.small c.product.ensures.exact c.product.ensures.positive c.product.ensures.small

pub product-requires-clause-factor : goal.product-requires-clause-factor
product-requires-clause-factor c = c.stray_area.ensures.small

pub product-requires-clause-positive : goal.product-requires-clause-positive
product-requires-clause-positive c = (sum_held _ c.squared_weights.ensures.positive c.squared_weights.ensures.small).0

pub product-requires-clause-small : goal.product-requires-clause-small
product-requires-clause-small c = (sum_held _ c.squared_weights.ensures.positive c.squared_weights.ensures.small).1

pub returns-clause-positive : goal.returns-clause-positive
returns-clause-positive c = (product_held _ c.product.ensures.positive c.product.ensures.small).0

pub returns-clause-small : goal.returns-clause-small
returns-clause-small c = (product_held _ c.product.ensures.positive c.product.ensures.small).1

use Rattle.sep_parts.proofs.Limits.{product_held, product_told, sum_held}
use Rattle.sep_parts.proofs.directions.limit.Goals as goal

pub area-requires-clause-r : goal.area-requires-clause-r
area-requires-clause-r c = c.requires.r

pub area-requires-clause-h : goal.area-requires-clause-h
area-requires-clause-h c = c.requires.h

pub squared_length-requires : goal.squared_length-requires
squared_length-requires c = c.requires.entries

pub product-requires-clause-factor : goal.product-requires-clause-factor
product-requires-clause-factor c = c.area.ensures.small

pub product-requires-clause-positive : goal.product-requires-clause-positive
product-requires-clause-positive c = (sum_held _ c.squared_length.ensures.positive c.squared_length.ensures.small).0

pub product-requires-clause-small : goal.product-requires-clause-small
product-requires-clause-small c = (sum_held _ c.squared_length.ensures.positive c.squared_length.ensures.small).1

pub returns-clause-exact : goal.returns-clause-exact
returns-clause-exact c =
    product_told _ _ _ _ _ c.area.ensures.exact c.squared_length.ensures.exact
    c.squared_length.ensures.positive c.squared_length.ensures.small c.product.ensures.exact c.product.ensures.positive c.product.ensures.small

pub returns-clause-positive : goal.returns-clause-positive
returns-clause-positive c = (product_held _ c.product.ensures.positive c.product.ensures.small).0

pub returns-clause-small : goal.returns-clause-small
returns-clause-small c = (product_held _ c.product.ensures.positive c.product.ensures.small).1

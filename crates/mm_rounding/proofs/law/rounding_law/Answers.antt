use Rattle.mm_rounding.proofs.Elements.{keeps_near, keeps_equal, stays_near, rounded_is_axis, rounded_edges, ends_there}
use Rattle.mm_rounding.proofs.law.rounding_law.Goals as goal

pub returns : goal.returns
returns c = record {
  near = keeps_near;
  same = keeps_equal;
  pieces = stays_near;
  whole = rounded_is_axis;
  first = λ axis is. (rounded_edges axis is).0;
  last = λ axis is. (rounded_edges axis is).1;
  ends = ends_there;
}

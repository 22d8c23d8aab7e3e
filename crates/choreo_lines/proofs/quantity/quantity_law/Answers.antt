use Rattle.choreo_lines.proofs.Found.{found_is_quantity}
use Rattle.choreo_lines.proofs.Written.{quantity_is_found}
use Rattle.choreo_lines.proofs.QuantityLaws.{one_quantity, quantity_is_read, read_is_quantity}
use Rattle.choreo_lines.proofs.quantity.quantity_law.Goals as goal

pub returns : goal.returns
returns c = record {
  one = one_quantity;
  found = λ counts word value. (quantity_is_found counts word value, found_is_quantity counts word value);
  within = λ counts low high word value. (quantity_is_read counts low high word value, read_is_quantity counts low high word value);
}

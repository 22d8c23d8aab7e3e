use Rattle.sep_parts.proofs.Sizes.{small_numbers}
use Rattle.sep_parts.proofs.part.size_law.Goals as goal

pub returns : goal.returns
returns c clearance diff place n clear small is_place values = small_numbers clearance diff place n clear small is_place values

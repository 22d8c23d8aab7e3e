use Rattle.hemtoghai.proofs.Prelude.{arith, nat_tests}
use Rattle.hemtoghai.proofs.WordLemmas.{not_one}
use Rattle.hemtoghai.proofs.words.put_word.Goals as goal

pub returns-in_default-clause-not_text : goal.returns-in_default-clause-not_text
returns-in_default-clause-not_text c = λ same. not_one c.args.word.now c.in_default.ensures.cases.0 (grind (arith, nat_tests))

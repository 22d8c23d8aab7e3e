use Rattle.sep_certificate.proofs.TextLaws.{texts}
use Rattle.sep_certificate.proofs.text.text_law.Goals as goal

pub returns : goal.returns
returns c = texts

use Rattle.upload_core.proofs.Prelude.{◌∙◌, sym, wanted-at}
use Rattle.upload_core.proofs.session.Session.wanted_byte.Goals as goal

pub returns : goal.returns
returns c = c.load_byte.ensures ∙ sym (wanted-at c.args.self.now c.args.drone c.args.k c.args.i c.requires.inside)

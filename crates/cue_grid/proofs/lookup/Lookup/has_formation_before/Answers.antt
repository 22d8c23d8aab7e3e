use Rattle.cue_grid.proofs.Prelude.{sym, ap, ◌∙◌, option_copied, Formation}
use Rattle.cue_grid.proofs.Tables.{not_before, is_before}
use Rattle.cue_grid.proofs.lookup.Lookup.has_formation_before.Goals as goal

pub returns-in-None : goal.returns-in-None
returns-in-None c = not_before (λ (x : Formation). x.name) _ _ _ _ c.args.self.now.formations_numbered (sym (ap option_copied c.in-None.is) ∙ c.get.ensures.value)

pub returns-in-Some : goal.returns-in-Some
returns-in-Some c = is_before (λ (x : Formation). x.name) _ _ _ _ _ c.args.self.now.formations_numbered (sym (ap option_copied c.in-Some.is) ∙ c.get.ensures.value)

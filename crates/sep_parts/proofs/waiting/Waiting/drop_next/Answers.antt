use Rattle.sep_parts.proofs.Stacks.{drop_one}
use Rattle.sep_parts.proofs.waiting.Waiting.drop_next.Goals as goal

pub returns : goal.returns
returns c = drop_one c.self.inside.top c.self.inside.levels c.args.self.now c.self.view_is

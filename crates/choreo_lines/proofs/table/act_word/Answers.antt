use Rattle.choreo_lines.proofs.table.act_word.Goals as goal

pub returns : goal.returns
returns c = c.act_among.ensures

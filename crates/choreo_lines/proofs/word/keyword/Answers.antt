use Rattle.choreo_lines.proofs.word.keyword.Goals as goal

pub returns : goal.returns
returns c = c.keyword_among.ensures

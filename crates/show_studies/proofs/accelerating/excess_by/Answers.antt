use Rattle.show_studies.proofs.accelerating.excess_by.Goals as goal

pub cue_of-cue-requires-clause-inside : goal.cue_of-cue-requires-clause-inside
cue_of-cue-requires-clause-inside c = c.in_ok-excess.ensures.named.1

pub refusal_as-requires-clause-axis : goal.refusal_as-requires-clause-axis
refusal_as-requires-clause-axis c = c.in_ok-excess.ensures.named.0

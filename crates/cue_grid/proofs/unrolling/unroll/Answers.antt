use Rattle.cue_grid.proofs.Prelude.{ap, sym, subst, plain, IsValid}
use Rattle.cue_grid.specs.Unrolled.{GridGives}
use Rattle.cue_grid.proofs.unrolling.unroll.Goals as goal

pub unrolled-requires : goal.unrolled-requires
unrolled-requires c = subst IsValid (sym (ap plain c.in_ok-lookup.ensures)) c.requires

pub returns : goal.returns
returns c = record {
  gives = subst (GridGives c.unrolled.result) (ap plain c.in_ok-lookup.ensures) c.unrolled.ensures.gives;
  valid = c.unrolled.ensures.valid;
  names = c.unrolled.ensures.names;
  distinct = c.unrolled.ensures.distinct;
}

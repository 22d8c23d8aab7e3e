use Rattle.std.proofs.Common.{◌+◌, ◌^◌, List, length, sym, ap, subst, arith}
use Rattle.std.specs.List.{All}
use Rattle.choreo_show.specs.Valid.{FitsPoint}
use Rattle.choreo_show.specs.declared.show.DroneLine.{DroneLine}
use Rattle.figure_expand.specs.Bounds.{reach}
use Rattle.figure_expand.proofs.Reach.{start_in_reach, wider_point}
use Rattle.text_tests.proofs.figures.last_piece.Goals as goal

pub step-requires-clause-point : goal.step-requires-clause-point
step-requires-clause-point c =
    wider_point (reach 0 + 2 ^ 30) (2 ^ 40) c.step-first.new.point (omega arith)
    (c.step-first.ensures.reach (reach 0)
    (start_in_reach c.as_slice.result.now 0 c.index-as_slice-0.result (omega (arith, ap (λ (starts : List DroneLine). length starts) c.as_slice.ensures, c.requires.some_start))
    (subst (All (λ (s : DroneLine). FitsPoint s.at)) (sym c.as_slice.ensures) c.requires.starts)))

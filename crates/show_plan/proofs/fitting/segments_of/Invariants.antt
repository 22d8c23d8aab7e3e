use Rattle.show_plan.proofs.Prelude.{◌≡◌, All, ◌++◌, map, drop, IsPointUpTo, segment_of, IsSegment, reach, pieces_from, RoundsWell}
use Rattle.show_plan.proofs.fitting.segments_of.Given as goal

-- the segments so far, and where the drone is after them
abbrev pub invariant-loop-cue : goal.invariant-loop-cue
invariant-loop-cue l = record {
  reached : IsPointUpTo (reach l.cue-index) l.point;
  so_far : l.segments.items ++ map segment_of (pieces_from l.point l.d (drop l.cue-index l.cues)) ≡ map segment_of (pieces_from l.start l.d l.cues);
  formed : All IsSegment l.segments.items;
  well : All RoundsWell (pieces_from l.point l.d (drop l.cue-index l.cues)) → All RoundsWell (pieces_from l.start l.d l.cues);
  unwell : All RoundsWell (pieces_from l.start l.d l.cues) → All RoundsWell (pieces_from l.point l.d (drop l.cue-index l.cues));
}

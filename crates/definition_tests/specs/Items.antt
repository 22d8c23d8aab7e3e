-- What the grammar says of items, and of settings that stand more than once.
use Rattle.std.specs.Prelude.{[], ◌∷◌, codes}
use Rattle.choreo_show.specs.Plain as plain
use Rattle.choreo_reader.specs.Grammar.{HasSingleSettings, IsItem, parts_of}
use Rattle.choreo_reader.specs.Grammar.Item.{Blocks, Drone, Ellipsoid, Figured, Formed, Late, Memory, Stray, Trajectory}
use Rattle.definition_tests.specs.Ranges.{drone, formation}
use Rattle.definition_tests.specs.Shapes.{cue, figure_of, form_line, nested, one_cue, one_line, performed, twice}

-- Each setting may stand once, beside the others. None may stand twice, be it with one value or with two, nor with
-- other lines between.
pub record SingleRows : Type 0 where
  pub each : HasSingleSettings (parts_of (Memory 2 0 ∷ Trajectory 0 ∷ Ellipsoid 120 300 ∷ Stray 5 ∷ Late 6 ∷ []))
  pub none : HasSingleSettings (parts_of [])
  pub memory : HasSingleSettings (parts_of (Memory 2 0 ∷ Memory 2 0 ∷ [])) → ⊥
  pub trajectory : HasSingleSettings (parts_of (Trajectory 0 ∷ Trajectory 1 ∷ [])) → ⊥
  pub ellipsoid : HasSingleSettings (parts_of (Ellipsoid 120 300 ∷ Ellipsoid 120 300 ∷ [])) → ⊥
  pub stray : HasSingleSettings (parts_of (Stray 5 ∷ Stray 6 ∷ [])) → ⊥
  pub late : HasSingleSettings (parts_of (Late 6 ∷ Late 6 ∷ [])) → ⊥
  pub between : HasSingleSettings
      (parts_of (Stray 5 ∷ Drone (drone (codes "a")) ∷ Late 6 ∷ Blocks one_cue ∷ Stray 5 ∷ [])) → ⊥

-- No formation, figure or repeat of a text is empty, no repeat stands inside eight others, and no figure has a perform
-- or a `form` line.
pub record ItemRows : Type 0 where
  pub formation_of_one : IsItem (Formed (formation (drone (codes "a") ∷ [])))
  pub empty_formation : IsItem (Formed (formation [])) → ⊥
  pub blocks : IsItem (Blocks (twice (cue (form_line ∷ []) plain.Done) (performed plain.Done)))
  pub empty_repeat : IsItem (Blocks (twice plain.Done plain.Done)) → ⊥
  pub eight_deep : IsItem (Blocks (nested 2 8))
  pub nine_deep : IsItem (Blocks (nested 2 9)) → ⊥
  pub figure : IsItem (Figured (figure_of (twice (cue (one_line ∷ []) plain.Done) plain.Done)))
  pub empty_figure : IsItem (Figured (figure_of plain.Done)) → ⊥
  pub figure_with_an_empty_repeat : IsItem (Figured (figure_of (twice plain.Done plain.Done))) → ⊥
  pub figure_eight_deep : IsItem (Figured (figure_of (nested 2 8)))
  pub figure_nine_deep : IsItem (Figured (figure_of (nested 2 9))) → ⊥
  pub figure_with_a_form : IsItem (Figured (figure_of (cue (form_line ∷ []) plain.Done))) → ⊥
  pub figure_with_a_perform : IsItem (Figured (figure_of (cue [] (performed plain.Done)))) → ⊥

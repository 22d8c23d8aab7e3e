-- What status 0 says of a command that judges whether drones keep apart: from the text to every instant of the flight.
use Rattle.std.specs.Prelude.{ℕ, List, Option}
use Rattle.std.specs.Io.KnownBytes.{Appends}
use Rattle.choreo_reader.specs.Grammar.{StandsFor}
use Rattle.choreo_show.specs.Plain.{PlainShow}
use Rattle.cue_grid.specs.Cues.{grid_of}
use Rattle.show_plan.specs.Flight.{KeepsNearShow}
use Rattle.show_plan.specs.Separation.{FlyApart}
use Rattle.show_plan.specs.Uploading.{Uploads}
use Rattle.show_judge.specs.Shows.{sent_of}

-- The text stands for a show. At every instant what its drones are sent is near to what the show says, and any two
-- drones keep apart, however far they stray from these curves and however late they are against one another, by what
-- the show's settings allow.
pub record FliesText (text : List ℕ) : Type 0 where
  pub s : PlainShow
  pub stands : StandsFor text s
  pub near : KeepsNearShow (grid_of s) (sent_of s)
  pub apart : FlyApart s.settings (sent_of s)

-- The text is that of such a show, and of what its drones are sent each upload goes right, with read-back or without
-- and with starts or without: `Uploads` says what that is.
pub record UploadsText (text : List ℕ) : Type 0 where
  pub flies : FliesText text
  pub uploads : Uploads (grid_of flies.s) flies.s.settings (sent_of flies.s)

-- The text is that of such a show, and what was written is what a command says of it.
pub record SaysOf (said : PlainShow → List ℕ) (text : List ℕ) (old new : Option (List ℕ)) : Type 0 where
  pub s : PlainShow
  pub stands : StandsFor text s
  pub near : KeepsNearShow (grid_of s) (sent_of s)
  pub apart : FlyApart s.settings (sent_of s)
  pub written : Appends old new (said s)

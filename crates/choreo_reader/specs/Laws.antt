-- What holds of all texts, whether or not they are read.
use Rattle.std.specs.Prelude.{◌≡◌, ◌↔◌, ℕ, List, None}
use Rattle.choreo_show.specs.Plain.{PlainShow}
use Rattle.choreo_reader.specs.Grammar.{StandsFor}
use Rattle.choreo_show.specs.Valid.{IsValid}
use Rattle.choreo_reader.specs.Context.{fault}

-- A text stands for at most one show, which is valid, and for one exactly where it has no fault.
pub record ShowLaw : Type 0 where
  pub one : (text : List ℕ) (show other : PlainShow) → StandsFor text show → StandsFor text other → show ≡ other
  pub valid : (text : List ℕ) (show : PlainShow) → StandsFor text show → IsValid show
  pub faultless : (text : List ℕ) → ((show : PlainShow) × StandsFor text show) ↔ (fault text ≡ None)

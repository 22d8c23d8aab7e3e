-- What the parts of a checker stand for. No public contract uses these words.
use Rattle.std.specs.Prelude.{◌≡◌, ℕ, ◌^◌, ◌<◌}
use Rattle.sep_parts.specs.declared.clearance.Clearance.{Clearance}
use Rattle.sep_parts.specs.Rulers.{Measure}
use Rattle.sep_parts.specs.Versions.{IsVersion, table_of}
use Rattle.fleet_curves.specs.Raised.{Raised}
use Rattle.certificate_checker.specs.declared.reader.Reader.{Reader}
use Rattle.certificate_checker.specs.declared.reader.Stage.{Stage}
use Rattle.certificate_checker.specs.declared.reader.Stage.TheVariants as stage
use Rattle.certificate_checker.specs.declared.text.TextReader.{TextReader}
use Rattle.certificate_checker.specs.Bytes.{most_bytes}
use Rattle.certificate_checker.specs.Checking.{Checking, DepthLine, Faulty, FirstLine, Reading, TreeLine, TreesRead}
use Rattle.certificate_checker.specs.Judgments.{HasAtMost, IsNext}

-- ---- the line that is read
abbrev pub trees_of : Reader → TreesRead
trees_of r = record {
  version = r.version;
  depth = r.depth;
  line = r.line;
  owed = r.owed;
  digit = r.digit;
  judged = r.judging.judged;
}

abbrev pub reading_by : Reader → Stage → Reading
reading_by r stage.First = FirstLine r.head.items
reading_by r stage.Depth = DepthLine r.head.items
reading_by r stage.Tree = TreeLine (trees_of r)
reading_by r stage.Faulty = Faulty r.line

abbrev pub reading_of : Reader → Reading
reading_of r = reading_by r r.stage

-- what holds whatever the curves are
abbrev pub IsSound : Reader → Type 0
IsSound r = IsVersion r.version

-- what holds for these curves
pub record IsReader (curves : Raised) (r : Reader) : Type 0 where
  pub judging : r.stage ≡ stage.Tree → IsNext curves r.judging.judged r.judging.diff
  pub sound : IsSound r

-- one tree more may be to come in the line
abbrev pub HasRoom : Reader → Type 0
HasRoom r = r.stage ≡ stage.Tree → r.owed < 2 ^ 31

-- one line more may be whole, and one tree
abbrev pub HasTreeRoom : Reader → Type 0
HasTreeRoom r = r.stage ≡ stage.Tree → (r.line < 2 ^ 31) × HasAtMost most_bytes r.judging.judged

-- ---- the text
abbrev pub IsTextSound : TextReader → Type 0
IsTextSound t = IsSound t.reader

abbrev pub IsTextReader : Raised → TextReader → Type 0
IsTextReader curves t = IsReader curves t.reader

abbrev pub checking_of : TextReader → Checking
checking_of t = record { reading = reading_of t.reader; is_returned = t.returned; is_begun = t.begun }

-- ---- the tables of both versions
abbrev pub measure_of : ℕ → Clearance → Measure
measure_of version clearance = record { directions = table_of version; clearance = clearance }

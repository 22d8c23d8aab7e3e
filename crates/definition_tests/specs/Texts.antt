-- What the definitions of a show's text and of its faults say of texts that are a show by a hair, or aren't.
use Rattle.std.specs.Prelude.{◌≡◌, ℕ, zero, suc, List, [], ◌∷◌, ◌++◌, Some, codes}
use Rattle.std.specs.List.{flat_map}
use Rattle.choreo_lines.specs.declared.line.LineKind.{LineKind}
use Rattle.choreo_lines.specs.declared.line.LineKind.TheVariants as kind
use Rattle.choreo_show.specs.Plain.{PlainShow}
use Rattle.choreo_reader.specs.Context.{fault}
use Rattle.choreo_reader.specs.Grammar.{StandsFor}
use Rattle.choreo_reader.specs.Text.{fault_at}
use Rattle.definition_tests.specs.Stands.{line_of}

-- the header and these lines
abbrev pub text_of : List (List ℕ) → List ℕ
text_of lines = flat_map line_of (codes "choreo 1" ∷ lines)

-- this is the text of some show
abbrev pub IsShow : List (List ℕ) → Type 0
IsShow lines = (s : PlainShow) × StandsFor (text_of lines) s

-- this is the text of no show: its first fault is of this kind, on this line of the text
abbrev pub IsNoShow : List (List ℕ) → ℕ → LineKind → Type 0
IsNoShow lines n k = (fault (text_of lines) ≡ Some (fault_at n k)) × ((s : PlainShow) → StandsFor (text_of lines) s → ⊥)

-- this many repeats, one inside the other, around these lines
abbrev pub in_repeats : ℕ → List (List ℕ) → List (List ℕ)
in_repeats zero lines = lines
in_repeats (suc n) lines = codes "repeat 2" ∷ (in_repeats n lines ++ codes "end" ∷ [])

-- Each setting may stand once, in any order. None may stand twice, be it with one value or with two, nor with lines
-- between.
pub record TwiceRows : Type 0 where
  pub each : IsShow
      (codes "late 6" ∷ codes "stray 5" ∷ codes "ellipsoid 120 300" ∷ codes "trajectory 0" ∷ codes "memory 2 0" ∷ [])
  pub memory : IsNoShow (codes "memory 2 0" ∷ codes "memory 2 0" ∷ []) 3 kind.DoubleSetting
  pub trajectory : IsNoShow (codes "trajectory 0" ∷ codes "trajectory 1" ∷ []) 3 kind.DoubleSetting
  pub ellipsoid : IsNoShow (codes "ellipsoid 120 300" ∷ codes "ellipsoid 120 300" ∷ []) 3 kind.DoubleSetting
  pub stray : IsNoShow (codes "stray 5" ∷ codes "stray 6" ∷ []) 3 kind.DoubleSetting
  pub late : IsNoShow (codes "late 6" ∷ codes "late 6" ∷ []) 3 kind.DoubleSetting
  pub between : IsNoShow (codes "stray 5" ∷ codes "drone a 0 0 0 0" ∷ codes "cue 10" ∷ codes "end" ∷ codes "stray 5"
      ∷ []) 6 kind.DoubleSetting

-- A formation, a figure and a repeat have a line in them; a cue need not. A figure has no perform and no `form` line.
-- Eight repeats stand inside each other, and a ninth doesn't. A block ends, once.
pub record BlockRows : Type 0 where
  pub cue : IsShow (codes "cue 10" ∷ codes "end" ∷ [])
  pub formation : IsShow (codes "formation f" ∷ codes "at a 0 0 0 0" ∷ codes "end" ∷ [])
  pub empty_formation : IsNoShow (codes "formation f" ∷ codes "end" ∷ []) 3 kind.EmptyBlock
  pub repeated : IsShow (codes "repeat 2" ∷ codes "cue 10" ∷ codes "end" ∷ codes "end" ∷ [])
  pub empty_repeat : IsNoShow (codes "repeat 2" ∷ codes "end" ∷ []) 3 kind.EmptyBlock
  pub empty_inside : IsNoShow (codes "repeat 2" ∷ codes "cue 10" ∷ codes "end" ∷ codes "repeat 2" ∷ codes "end"
      ∷ codes "end" ∷ []) 6 kind.EmptyBlock
  pub figure : IsShow (codes "figure g r" ∷ codes "cue 10" ∷ codes "r hold" ∷ codes "end" ∷ codes "end" ∷ [])
  pub empty_figure : IsNoShow (codes "figure g r" ∷ codes "end" ∷ []) 3 kind.EmptyBlock
  pub performing : IsNoShow (codes "figure g r" ∷ codes "perform g none 0 0 0 0 r" ∷ codes "end" ∷ []) 3 kind.BadWord
  pub formed : IsShow (codes "cue 10" ∷ codes "form f move" ∷ codes "end" ∷ [])
  pub formed_in_a_figure : IsNoShow
      (codes "figure g r" ∷ codes "cue 10" ∷ codes "form f move" ∷ codes "end" ∷ codes "end" ∷ []) 4 kind.BadName
  pub eight_deep : IsShow (in_repeats 8 (codes "cue 10" ∷ codes "end" ∷ []))
  pub nine_deep : IsNoShow (in_repeats 9 (codes "cue 10" ∷ codes "end" ∷ [])) 10 kind.Nesting
  pub unfinished : IsNoShow (codes "cue 10" ∷ []) 2 kind.NoEnd
  pub closed_twice : IsNoShow (codes "cue 10" ∷ codes "end" ∷ codes "end" ∷ []) 4 kind.BadWord

-- A number at the end of its range is one, and the next isn't.
pub record LimitRows : Type 0 where
  pub memory : IsShow (codes "memory 255 4095" ∷ [])
  pub memory_id : IsNoShow (codes "memory 256 0" ∷ []) 2 kind.Range
  pub offset : IsNoShow (codes "memory 0 4096" ∷ []) 2 kind.Range
  pub trajectory : IsShow (codes "trajectory 9" ∷ [])
  pub trajectory_id : IsNoShow (codes "trajectory 10" ∷ []) 2 kind.Range
  pub ellipsoid : IsShow (codes "ellipsoid 1 2000" ∷ [])
  pub thin : IsNoShow (codes "ellipsoid 0 2000" ∷ []) 2 kind.Range
  pub high : IsNoShow (codes "ellipsoid 1 2001" ∷ []) 2 kind.Range
  pub stray : IsShow (codes "stray 1000" ∷ codes "late 1000" ∷ [])
  pub strayed : IsNoShow (codes "stray 1001" ∷ []) 2 kind.Range
  pub late : IsNoShow (codes "late 1001" ∷ []) 2 kind.Range
  pub negative : IsNoShow (codes "late -1" ∷ []) 2 kind.Range
  pub drone : IsShow (codes "drone a 100000000 -100000000 0 -32768" ∷ [])
  pub east : IsNoShow (codes "drone a 100000001 0 0 0" ∷ []) 2 kind.Range
  pub south : IsNoShow (codes "drone a 0 -100000001 0 0" ∷ []) 2 kind.Range
  pub turned : IsNoShow (codes "drone a 0 0 0 32768" ∷ []) 2 kind.Range
  pub turned_back : IsNoShow (codes "drone a 0 0 0 -32769" ∷ []) 2 kind.Range
  pub cue : IsShow (codes "cue 65535" ∷ codes "end" ∷ codes "cue 1" ∷ codes "end" ∷ [])
  pub longer : IsNoShow (codes "cue 65536" ∷ codes "end" ∷ []) 2 kind.Range
  pub no_time : IsNoShow (codes "cue 0" ∷ codes "end" ∷ []) 2 kind.Range
  pub often : IsShow (codes "repeat 1000000000" ∷ codes "cue 1" ∷ codes "end" ∷ codes "end" ∷ [])
  pub oftener : IsNoShow (codes "repeat 1000000001" ∷ codes "cue 1" ∷ codes "end" ∷ codes "end" ∷ []) 2 kind.Range
  pub quarters : IsShow (codes "perform g none 3 0 0 0 a" ∷ [])
  pub full_turn : IsNoShow (codes "perform g none 4 0 0 0 a" ∷ []) 2 kind.Range
  pub named : IsShow (codes "drone abcdefghijklmno9 0 0 0 0" ∷ [])
  pub long_name : IsNoShow (codes "drone abcdefghijklmnop9 0 0 0 0" ∷ []) 2 kind.BadName
  pub capital : IsNoShow (codes "drone aB 0 0 0 0" ∷ []) 2 kind.BadName
  pub keyword : IsNoShow (codes "drone end 0 0 0 0" ∷ []) 2 kind.BadName
  pub nameless : IsNoShow (codes "drone 0 0 0 0" ∷ []) 2 kind.BadCount

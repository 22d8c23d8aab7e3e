-- Texts that are a show by a hair, or aren't, read.
use Rattle.definition_tests.proofs.Prelude.{◌≡◌, ℕ, List, [], ◌∷◌, None, Some, codes, refl, act_in, act_line, names_in, row_line, values_in, fault, ShowLaw, fault_at}
use Rattle.choreo_lines.specs.declared.line.LineKind.{LineKind}
use Rattle.choreo_lines.specs.declared.line.LineKind.TheVariants as kind
use Rattle.definition_tests.specs.Texts.{BlockRows, IsNoShow, IsShow, LimitRows, TwiceRows, in_repeats, text_of}

-- a text without a fault is that of a show
accepted : ShowLaw → (lines : List (List ℕ)) → fault (text_of lines) ≡ None → IsShow lines
accepted law lines none = (law.faultless (text_of lines)).1 none

-- a text with a fault is that of none
refused : ShowLaw → (lines : List (List ℕ)) (n : ℕ) (k : LineKind) → fault (text_of lines) ≡ Some (fault_at n k) → IsNoShow lines n k
refused law lines n k found = (found, λ s is. let none : fault (text_of lines) ≡ None = (law.faultless (text_of lines)).0 (s, is) in cc)

pub twice : ShowLaw → TwiceRows
unfolding row_line values_in names_in act_line act_in
twice law = record {
  each = accepted law (codes "late 6" ∷ codes "stray 5" ∷ codes "ellipsoid 120 300" ∷ codes "trajectory 0" ∷ codes "memory 2 0" ∷ []) refl;
  memory = refused law (codes "memory 2 0" ∷ codes "memory 2 0" ∷ []) 3 kind.DoubleSetting refl;
  trajectory = refused law (codes "trajectory 0" ∷ codes "trajectory 1" ∷ []) 3 kind.DoubleSetting refl;
  ellipsoid = refused law (codes "ellipsoid 120 300" ∷ codes "ellipsoid 120 300" ∷ []) 3 kind.DoubleSetting refl;
  stray = refused law (codes "stray 5" ∷ codes "stray 6" ∷ []) 3 kind.DoubleSetting refl;
  late = refused law (codes "late 6" ∷ codes "late 6" ∷ []) 3 kind.DoubleSetting refl;
  between = refused law (codes "stray 5" ∷ codes "drone a 0 0 0 0" ∷ codes "cue 10" ∷ codes "end" ∷ codes "stray 5" ∷ []) 6 kind.DoubleSetting refl;
}

pub blocks : ShowLaw → BlockRows
unfolding row_line values_in names_in act_line act_in
blocks law = record {
  cue = accepted law (codes "cue 10" ∷ codes "end" ∷ []) refl;
  formation = accepted law (codes "formation f" ∷ codes "at a 0 0 0 0" ∷ codes "end" ∷ []) refl;
  empty_formation = refused law (codes "formation f" ∷ codes "end" ∷ []) 3 kind.EmptyBlock refl;
  repeated = accepted law (codes "repeat 2" ∷ codes "cue 10" ∷ codes "end" ∷ codes "end" ∷ []) refl;
  empty_repeat = refused law (codes "repeat 2" ∷ codes "end" ∷ []) 3 kind.EmptyBlock refl;
  empty_inside = refused law (codes "repeat 2" ∷ codes "cue 10" ∷ codes "end" ∷ codes "repeat 2" ∷ codes "end" ∷ codes "end" ∷ []) 6 kind.EmptyBlock refl;
  figure = accepted law (codes "figure g r" ∷ codes "cue 10" ∷ codes "r hold" ∷ codes "end" ∷ codes "end" ∷ []) refl;
  empty_figure = refused law (codes "figure g r" ∷ codes "end" ∷ []) 3 kind.EmptyBlock refl;
  performing = refused law (codes "figure g r" ∷ codes "perform g none 0 0 0 0 r" ∷ codes "end" ∷ []) 3 kind.BadWord refl;
  formed = accepted law (codes "cue 10" ∷ codes "form f move" ∷ codes "end" ∷ []) refl;
  formed_in_a_figure = refused law (codes "figure g r" ∷ codes "cue 10" ∷ codes "form f move" ∷ codes "end" ∷ codes "end" ∷ []) 4 kind.BadName refl;
  eight_deep = accepted law (in_repeats 8 (codes "cue 10" ∷ codes "end" ∷ [])) refl;
  nine_deep = refused law (in_repeats 9 (codes "cue 10" ∷ codes "end" ∷ [])) 10 kind.Nesting refl;
  unfinished = refused law (codes "cue 10" ∷ []) 2 kind.NoEnd refl;
  closed_twice = refused law (codes "cue 10" ∷ codes "end" ∷ codes "end" ∷ []) 4 kind.BadWord refl;
}

pub limits : ShowLaw → LimitRows
unfolding row_line values_in names_in act_line act_in
limits law = record {
  memory = accepted law (codes "memory 255 4095" ∷ []) refl;
  memory_id = refused law (codes "memory 256 0" ∷ []) 2 kind.Range refl;
  offset = refused law (codes "memory 0 4096" ∷ []) 2 kind.Range refl;
  trajectory = accepted law (codes "trajectory 9" ∷ []) refl;
  trajectory_id = refused law (codes "trajectory 10" ∷ []) 2 kind.Range refl;
  ellipsoid = accepted law (codes "ellipsoid 1 2000" ∷ []) refl;
  thin = refused law (codes "ellipsoid 0 2000" ∷ []) 2 kind.Range refl;
  high = refused law (codes "ellipsoid 1 2001" ∷ []) 2 kind.Range refl;
  stray = accepted law (codes "stray 1000" ∷ codes "late 1000" ∷ []) refl;
  strayed = refused law (codes "stray 1001" ∷ []) 2 kind.Range refl;
  late = refused law (codes "late 1001" ∷ []) 2 kind.Range refl;
  negative = refused law (codes "late -1" ∷ []) 2 kind.Range refl;
  drone = accepted law (codes "drone a 100000000 -100000000 0 -32768" ∷ []) refl;
  east = refused law (codes "drone a 100000001 0 0 0" ∷ []) 2 kind.Range refl;
  south = refused law (codes "drone a 0 -100000001 0 0" ∷ []) 2 kind.Range refl;
  turned = refused law (codes "drone a 0 0 0 32768" ∷ []) 2 kind.Range refl;
  turned_back = refused law (codes "drone a 0 0 0 -32769" ∷ []) 2 kind.Range refl;
  cue = accepted law (codes "cue 65535" ∷ codes "end" ∷ codes "cue 1" ∷ codes "end" ∷ []) refl;
  longer = refused law (codes "cue 65536" ∷ codes "end" ∷ []) 2 kind.Range refl;
  no_time = refused law (codes "cue 0" ∷ codes "end" ∷ []) 2 kind.Range refl;
  often = accepted law (codes "repeat 1000000000" ∷ codes "cue 1" ∷ codes "end" ∷ codes "end" ∷ []) refl;
  oftener = refused law (codes "repeat 1000000001" ∷ codes "cue 1" ∷ codes "end" ∷ codes "end" ∷ []) 2 kind.Range refl;
  quarters = accepted law (codes "perform g none 3 0 0 0 a" ∷ []) refl;
  full_turn = refused law (codes "perform g none 4 0 0 0 a" ∷ []) 2 kind.Range refl;
  named = accepted law (codes "drone abcdefghijklmno9 0 0 0 0" ∷ []) refl;
  long_name = refused law (codes "drone abcdefghijklmnop9 0 0 0 0" ∷ []) 2 kind.BadName refl;
  capital = refused law (codes "drone aB 0 0 0 0" ∷ []) 2 kind.BadName refl;
  keyword = refused law (codes "drone end 0 0 0 0" ∷ []) 2 kind.BadName refl;
  nameless = refused law (codes "drone 0 0 0 0" ∷ []) 2 kind.BadCount refl;
}

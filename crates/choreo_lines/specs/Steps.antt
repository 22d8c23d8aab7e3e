-- Words that no public contract cites.
use Rattle.std.specs.Prelude.{ℕ, ◌+◌, Bool, List, [], ◌∷◌, Option, Some, None, Result, Ok, ℤ, pos, neg_ℤ, ◌≤ℤ◌}
use Rattle.std.specs.Prelude.{bytes_eq, if◌then◌else◌}
use Rattle.choreo_lines.specs.declared.unit.Counts.TheVariants.{Micrometres, TenthsOfADegree}
use Rattle.choreo_lines.specs.Fields.{ccw_in, quantity_in, values_in, ◌>>=◌, act_with}
use Rattle.choreo_lines.specs.Table.{Word, word, act_places}
use Rattle.choreo_lines.specs.declared.table.Form.{Form}
use Rattle.choreo_lines.specs.declared.line.Keyword.{Keyword}
use Rattle.choreo_lines.specs.declared.line.Keyword.TheVariants.{Other}
use Rattle.choreo_lines.specs.declared.line.LineKind.{LineKind}
use Rattle.choreo_show.specs.declared.parts.Act.{Act}
use Rattle.choreo_show.specs.declared.parts.Act.TheVariants as made
use Rattle.choreo_show.specs.declared.parts.Ease.{Ease}
use Rattle.choreo_show.specs.declared.parts.Point.{Point}
use Rattle.choreo_lines.specs.declared.table.ActWord.{ActWord}

-- a number that is not negative, and at most this
abbrev pub IsNatural : ℕ → ℤ → Type 0
IsNatural most v = (pos 0 ≤ℤ v) × (v ≤ℤ pos most)

-- what a first word is by a table of words
abbrev pub keyword_among : List (Word × Keyword) → Word → Keyword
keyword_among [] w = Other
keyword_among (entry ∷ entries) w = if bytes_eq w entry.0 then entry.1 else keyword_among entries w

-- the act of a word by a table of words
abbrev pub act_among : List (Word × ActWord) → Word → Option ActWord
act_among [] w = None
act_among (entry ∷ entries) w = if bytes_eq w entry.0 then Some entry.1 else act_among entries w

-- a word in the place of a coordinate
abbrev pub coordinate_in : Form → Word → Result ℤ LineKind
coordinate_in form w = quantity_in form Micrometres (neg_ℤ (pos 100000000)) (pos 100000000) w

-- a word in the place of a yaw
abbrev pub yaw_in : Form → Word → Result ℤ LineKind
yaw_in form w = quantity_in form TenthsOfADegree (neg_ℤ (pos 32768)) (pos 32767) w

-- three coordinates, or the first fault among them
abbrev pub triple_by : Result ℤ LineKind → Result ℤ LineKind → Result ℤ LineKind → Result (List ℤ) LineKind
triple_by a b c = a >>= (λ x. b >>= (λ y. c >>= (λ z. Ok (x ∷ y ∷ z ∷ []))))

-- a point, or the first fault in it
abbrev pub point_by : Result ℤ LineKind → Result ℤ LineKind → Result ℤ LineKind → Result ℤ LineKind →
    Result Point LineKind
point_by a b c d =
    a >>= (λ x. b >>= (λ y. c >>= (λ z. d >>= (λ w. Ok (record { x = x; y = y; z = z; yaw = w })))))

-- words as three coordinates, the first at a place
abbrev pub triple_in : Form → List Word → ℕ → Result (List ℤ) LineKind
triple_in form ws k =
    triple_by (coordinate_in form (word ws k)) (coordinate_in form (word ws (k + 1)))
    (coordinate_in form (word ws (k + 2)))

-- words as a point, its x at a place
abbrev pub point_in : Form → List Word → ℕ → Result Point LineKind
point_in form ws k =
    point_by (coordinate_in form (word ws k)) (coordinate_in form (word ws (k + 1)))
    (coordinate_in form (word ws (k + 2)))
    (yaw_in form (word ws (k + 3)))

-- words as the sense, the middle and the yaw of a quarter circle
abbrev pub quarter_by : Result Bool LineKind → Result ℤ LineKind → Result ℤ LineKind → Result ℤ LineKind →
    Result (Bool × ℤ × ℤ × ℤ) LineKind
quarter_by a b c d = a >>= (λ s. b >>= (λ x. c >>= (λ y. d >>= (λ w. Ok (s, x, y, w)))))

abbrev pub quarter_in : Form → List Word → Result (Bool × ℤ × ℤ × ℤ) LineKind
quarter_in form ws =
    quarter_by (ccw_in (word ws 0)) (coordinate_in form (word ws 1)) (coordinate_in form (word ws 2))
    (yaw_in form (word ws 3))

-- words as the places of each act

abbrev pub line_in : Form → List Word → Result Act LineKind
line_in form ws = point_in form ws 0 >>= (λ p. Ok (made.Line p))

abbrev pub move_in : Form → List Word → Result Act LineKind
move_in form ws = point_in form ws 0 >>= (λ p. Ok (made.Move p))

abbrev pub turn_in : Form → List Word → Result Act LineKind
turn_in form ws = yaw_in form (word ws 0) >>= (λ w. Ok (made.Turn w))

abbrev pub arc_in : Form → List Word → Result Act LineKind
arc_in form ws = quarter_in form ws >>= (λ q. Ok (made.Arc q.0 q.1 q.2 q.3))

abbrev pub eased_in : Form → Ease → List Word → Result Act LineKind
eased_in form how ws = quarter_in form ws >>= (λ q. Ok (made.Eased how q.0 q.1 q.2 q.3))

abbrev pub curve_in : Form → List Word → Result Act LineKind
curve_in form ws =
    triple_in form ws 0 >>= (λ p. triple_in form ws 3 >>= (λ q. point_in form ws 6 >>= (λ r. Ok (made.Curve p q r))))

-- the words in the places of an act
abbrev pub act_read : Form → ActWord → List Word → Result Act LineKind
act_read form a ws = values_in form (act_places a) ws >>= (λ vs. Ok (act_with a vs))

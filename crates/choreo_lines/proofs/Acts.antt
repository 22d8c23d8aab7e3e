-- The values of an act are what its words are, one by one.
use Rattle.choreo_lines.proofs.Prelude.{◌≡◌, Bool, List, [], ◌∷◌, length, refl, arith, Result, Ok, Err, ℤ, ◌>>=◌, Word, act_with, ccw_in, values_in, LineKind, Form, Value, act_read, coordinate_in, yaw_in, triple_by, point_by, quarter_by, line_in, move_in, turn_in, arc_in, eased_in, curve_in, Ccw, Number}
use Rattle.choreo_show.specs.declared.parts.Act.TheVariants as made
use Rattle.choreo_show.specs.declared.parts.Ease.{Ease}
use Rattle.choreo_lines.specs.declared.table.ActWord.TheVariants as act

-- one more number in front of values
abbrev then : Result ℤ LineKind → Result (List Value) LineKind → Result (List Value) LineKind
then r rest = (r >>= (λ v. Ok (Number v))) >>= (λ v. rest >>= (λ vs. Ok (v ∷ vs)))

abbrev four : Result ℤ LineKind → Result ℤ LineKind → Result ℤ LineKind → Result ℤ LineKind → Result (List Value) LineKind
four a b c d = then a (then b (then c (then d (Ok []))))

line_by : (a b c d : Result ℤ LineKind) → (four a b c d >>= (λ vs. Ok (act_with act.Line vs))) ≡ (point_by a b c d >>= (λ p. Ok (made.Line p)))
line_by (Err k) b c d = refl
line_by (Ok x) (Err k) c d = refl
line_by (Ok x) (Ok y) (Err k) d = refl
line_by (Ok x) (Ok y) (Ok z) (Err k) = refl
line_by (Ok x) (Ok y) (Ok z) (Ok w) = refl

move_by : (a b c d : Result ℤ LineKind) → (four a b c d >>= (λ vs. Ok (act_with act.Move vs))) ≡ (point_by a b c d >>= (λ p. Ok (made.Move p)))
move_by (Err k) b c d = refl
move_by (Ok x) (Err k) c d = refl
move_by (Ok x) (Ok y) (Err k) d = refl
move_by (Ok x) (Ok y) (Ok z) (Err k) = refl
move_by (Ok x) (Ok y) (Ok z) (Ok w) = refl

turn_by : (a : Result ℤ LineKind) → (then a (Ok []) >>= (λ vs. Ok (act_with act.Turn vs))) ≡ (a >>= (λ w. Ok (made.Turn w)))
turn_by (Err k) = refl
turn_by (Ok w) = refl

-- a sense in front of three numbers
abbrev sensed : Result Bool LineKind → Result ℤ LineKind → Result ℤ LineKind → Result ℤ LineKind → Result (List Value) LineKind
sensed a b c d = (a >>= (λ s. Ok (Ccw s))) >>= (λ v. then b (then c (then d (Ok []))) >>= (λ vs. Ok (v ∷ vs)))

arc_by : (a : Result Bool LineKind) (b c d : Result ℤ LineKind) → (sensed a b c d >>= (λ vs. Ok (act_with act.Arc vs))) ≡ (quarter_by a b c d >>= (λ q. Ok (made.Arc q.0 q.1 q.2 q.3)))
arc_by (Err k) b c d = refl
arc_by (Ok s) (Err k) c d = refl
arc_by (Ok s) (Ok x) (Err k) d = refl
arc_by (Ok s) (Ok x) (Ok y) (Err k) = refl
arc_by (Ok s) (Ok x) (Ok y) (Ok w) = refl

eased_by : (how : Ease) (a : Result Bool LineKind) (b c d : Result ℤ LineKind) → (sensed a b c d >>= (λ vs. Ok (act_with (act.Eased how) vs))) ≡ (quarter_by a b c d >>= (λ q. Ok (made.Eased how q.0 q.1 q.2 q.3)))
eased_by how (Err k) b c d = refl
eased_by how (Ok s) (Err k) c d = refl
eased_by how (Ok s) (Ok x) (Err k) d = refl
eased_by how (Ok s) (Ok x) (Ok y) (Err k) = refl
eased_by how (Ok s) (Ok x) (Ok y) (Ok w) = refl

curve_by : (a b c d e f g h i j : Result ℤ LineKind) → (then a (then b (then c (then d (then e (then f (four g h i j)))))) >>= (λ vs. Ok (act_with act.Curve vs))) ≡ (triple_by a b c >>= (λ p. triple_by d e f >>= (λ q. point_by g h i j >>= (λ r. Ok (made.Curve p q r)))))
curve_by (Err k) b c d e f g h i j = refl
curve_by (Ok x) (Err k) c d e f g h i j = refl
curve_by (Ok x) (Ok y) (Err k) d e f g h i j = refl
curve_by (Ok x) (Ok y) (Ok z) (Err k) e f g h i j = refl
curve_by (Ok x) (Ok y) (Ok z) (Ok u) (Err k) f g h i j = refl
curve_by (Ok x) (Ok y) (Ok z) (Ok u) (Ok v) (Err k) g h i j = refl
curve_by (Ok x) (Ok y) (Ok z) (Ok u) (Ok v) (Ok w) (Err k) h i j = refl
curve_by (Ok x) (Ok y) (Ok z) (Ok u) (Ok v) (Ok w) (Ok p) (Err k) i j = refl
curve_by (Ok x) (Ok y) (Ok z) (Ok u) (Ok v) (Ok w) (Ok p) (Ok q) (Err k) j = refl
curve_by (Ok x) (Ok y) (Ok z) (Ok u) (Ok v) (Ok w) (Ok p) (Ok q) (Ok r) (Err k) = refl
curve_by (Ok x) (Ok y) (Ok z) (Ok u) (Ok v) (Ok w) (Ok p) (Ok q) (Ok r) (Ok s) = refl

pub hold_values : (form : Form) (ws : List Word) → act_read form act.Hold ws ≡ Ok made.Hold
unfolding values_in
hold_values form ws = refl

pub line_values : (form : Form) (ws : List Word) → length ws ≡ 4 → act_read form act.Line ws ≡ line_in form ws
unfolding values_in
line_values form (a ∷ b ∷ c ∷ d ∷ []) n = line_by (coordinate_in form a) (coordinate_in form b) (coordinate_in form c) (yaw_in form d)
line_values form ws n = absurd (omega arith)

pub move_values : (form : Form) (ws : List Word) → length ws ≡ 4 → act_read form act.Move ws ≡ move_in form ws
unfolding values_in
move_values form (a ∷ b ∷ c ∷ d ∷ []) n = move_by (coordinate_in form a) (coordinate_in form b) (coordinate_in form c) (yaw_in form d)
move_values form ws n = absurd (omega arith)

pub turn_values : (form : Form) (ws : List Word) → length ws ≡ 1 → act_read form act.Turn ws ≡ turn_in form ws
unfolding values_in
turn_values form (a ∷ []) n = turn_by (yaw_in form a)
turn_values form ws n = absurd (omega arith)

pub arc_values : (form : Form) (ws : List Word) → length ws ≡ 4 → act_read form act.Arc ws ≡ arc_in form ws
unfolding values_in
arc_values form (a ∷ b ∷ c ∷ d ∷ []) n = arc_by (ccw_in a) (coordinate_in form b) (coordinate_in form c) (yaw_in form d)
arc_values form ws n = absurd (omega arith)

pub eased_values : (form : Form) (how : Ease) (ws : List Word) → length ws ≡ 4 → act_read form (act.Eased how) ws ≡ eased_in form how ws
unfolding values_in
eased_values form how (a ∷ b ∷ c ∷ d ∷ []) n = eased_by how (ccw_in a) (coordinate_in form b) (coordinate_in form c) (yaw_in form d)
eased_values form how ws n = absurd (omega arith)

pub curve_values : (form : Form) (ws : List Word) → length ws ≡ 10 → act_read form act.Curve ws ≡ curve_in form ws
unfolding values_in
curve_values form (a ∷ b ∷ c ∷ d ∷ e ∷ f ∷ g ∷ h ∷ i ∷ j ∷ []) n = curve_by (coordinate_in form a) (coordinate_in form b) (coordinate_in form c) (coordinate_in form d) (coordinate_in form e) (coordinate_in form f) (coordinate_in form g) (coordinate_in form h) (coordinate_in form i) (yaw_in form j)
curve_values form ws n = absurd (omega arith)

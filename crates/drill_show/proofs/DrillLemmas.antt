-- Texts that are put together line by line.
use Rattle.drill_show.proofs.Prelude.{◌≡◌, ℕ, suc, ◌+◌, ◌-◌, ◌<◌, ◌≤◌, List, [], ◌∷◌, ◌++◌, refl, ap, ◌∙◌, append_assoc, append-nil, arith, flat_map, range_with_len, codes, decimal, OnOk, digits, name_of, x_of, y_of, drone_line, shift_in, height_in, move_line, cue_lines, drill_text}
use Rattle.std.specs.Prelude.{Result, Ok, Err, is_ok, if◌then◌else◌}
use Rattle.byte_streams.specs.Words.{line}

-- what is to come after one more is less by it
pub part_next : (f : ℕ → List ℕ) (text more : List ℕ) (i n : ℕ) → i < n → more ≡ text ++ f i →
    more ++ flat_map f (range_with_len (i + 1) (n - (i + 1))) ≡ text ++ flat_map f (range_with_len i (n - i))
part_next f text more i n within is =
    let e : n - i ≡ suc (n - (i + 1)) = omega arith in
    rw (e, is) (append_assoc text (f i) (flat_map f (range_with_len (i + 1) (n - (i + 1)))))

-- after the last nothing is to come
pub parts_over : (f : ℕ → List ℕ) (text : List ℕ) (i n : ℕ) → n ≤ i → text ++ flat_map f (range_with_len i (n - i)) ≡ text
parts_over f text i n over =
    let e : n - i ≡ 0 = omega arith in
    rw e (append-nil text)

-- ---- lines

metre : codes "1000000" ≡ decimal 1000000
unfolding digits
metre = refl

nought : codes "0" ≡ decimal 0
unfolding digits
nought = refl

three_seconds : codes "3000" ≡ decimal 3000
unfolding digits
three_seconds = refl

ten : codes "10" ≡ decimal 10
unfolding digits
ten = refl

-- the words of a drone and their spaces are its line
drone_words : (number x y : List ℕ) → codes "drone d" ++ (number ++ 32 ∷ (x ++ 32 ∷ (y ++ codes " 1000000 0\n")))
    ≡ line (codes "drone") ((100 ∷ number) ∷ x ∷ y ∷ codes "1000000" ∷ codes "0" ∷ [])
drone_words number x y = simp append_assoc

pub drone_made : (i : ℕ) → codes "drone d" ++ (decimal (i + 1) ++ 32 ∷ (decimal (x_of i) ++ 32 ∷ (decimal (y_of i) ++ codes " 1000000 0\n"))) ≡ drone_line i
drone_made i =
    drone_words (decimal (i + 1)) (decimal (x_of i)) (decimal (y_of i))
    ∙ ap (λ (z : List ℕ). line (codes "drone") (name_of i ∷ decimal (x_of i) ∷ decimal (y_of i) ∷ z ∷ codes "0" ∷ [])) metre
    ∙ ap (λ (yaw : List ℕ). line (codes "drone") (name_of i ∷ decimal (x_of i) ∷ decimal (y_of i) ∷ decimal 1000000 ∷ yaw ∷ [])) nought

-- the words of a move and their spaces are its line
move_words : (number x y z : List ℕ) → codes "d" ++ (number ++ (codes " move " ++ (x ++ 32 ∷ (y ++ 32 ∷ (z ++ codes " 0\n")))))
    ≡ line (100 ∷ number) (codes "move" ∷ x ∷ y ∷ z ∷ codes "0" ∷ [])
move_words number x y z = simp append_assoc

pub move_made : (cue i : ℕ) → codes "d" ++ (decimal (i + 1) ++ (codes " move " ++ (decimal (x_of i + shift_in cue) ++ 32 ∷ (decimal (y_of i) ++ 32 ∷ (decimal (height_in cue i) ++ codes " 0\n")))))
    ≡ move_line cue i
move_made cue i =
    move_words (decimal (i + 1)) (decimal (x_of i + shift_in cue)) (decimal (y_of i)) (decimal (height_in cue i))
    ∙ ap (λ (yaw : List ℕ). line (name_of i) (codes "move" ∷ decimal (x_of i + shift_in cue) ∷ decimal (y_of i) ∷ decimal (height_in cue i) ∷ yaw ∷ [])) nought

-- moves between their lines are those of a cue
cue_words : (text moves : List ℕ) → ((text ++ codes "cue 3000\n") ++ moves) ++ codes "end\n" ≡ text ++ (line (codes "cue") (codes "3000" ∷ []) ++ moves ++ line (codes "end") [])
cue_words text moves = simp append_assoc

pub cue_made : (text : List ℕ) (n cue : ℕ) → ((text ++ codes "cue 3000\n") ++ flat_map (move_line cue) (range_with_len 0 n)) ++ codes "end\n" ≡ text ++ cue_lines n cue
cue_made text n cue =
    let moves : List ℕ = flat_map (move_line cue) (range_with_len 0 n) in
    cue_words text moves ∙ ap (λ (ms : List ℕ). text ++ (line (codes "cue") (ms ∷ []) ++ moves ++ line (codes "end") [])) three_seconds

-- drones and cues between their lines are the show
show_words : (drones cues : List ℕ) → (((codes "choreo 1\n" ++ drones) ++ codes "repeat 10\n") ++ cues) ++ codes "end\n"
    ≡ line (codes "choreo") (codes "1" ∷ []) ++ drones ++ line (codes "repeat") (codes "10" ∷ []) ++ cues ++ line (codes "end") []
show_words drones cues = refl

pub show_made : (n : ℕ) → (((codes "choreo 1\n" ++ flat_map drone_line (range_with_len 0 n)) ++ codes "repeat 10\n") ++ flat_map (cue_lines n) (range_with_len 0 4)) ++ codes "end\n" ≡ drill_text n
unfolding drill_text
show_made n =
    let drones : List ℕ = flat_map drone_line (range_with_len 0 n) in
    let cues : List ℕ = flat_map (cue_lines n) (range_with_len 0 4) in
    show_words drones cues ∙ ap (λ (times : List ℕ). line (codes "choreo") (codes "1" ∷ []) ++ drones ++ line (codes "repeat") (times ∷ []) ++ cues ++ line (codes "end") []) ten

-- what was pushed stands at the end, where there was memory
pub pushed : {T E : Type 0} (r : Result T E) (new more old made : List ℕ) → new ≡ (if is_ok r then more else old) → more ≡ made → OnOk r (new ≡ made)
pushed (Ok u) new more old made is made_is = is ∙ made_is
pushed (Err e) new more old made is made_is = tt

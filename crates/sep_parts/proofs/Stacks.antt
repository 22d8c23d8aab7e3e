-- The stack of the places of a tree.
use Rattle.sep_parts.proofs.Prelude.{common_steps, ◌≡◌, ℕ, zero, suc, ◌+◌, ◌-◌, ◌≤◌, ◌<◌, ◌++◌, refl, get_or, drop-append-le, arith, sym, subst, ◌∙◌, ap, List, [], ◌∷◌, length, drop, All, drop-drop, All-get_or, Bez, Level, IsLevel, IsStack, left_half, right_half, root}
use Rattle.std.proofs.lemmas.List.{length-set}
use Rattle.std.specs.Prelude.{set}
use Rattle.sep_parts.specs.Levels.{places_of}
use Rattle.sep_parts.proofs.Parts.{root_level}

-- a stack with the two halves of a level on it
pub pushed : (diff : List (Bez 8)) (level left right : Level) (old middle new : List Level) →
    IsStack diff old → length old ≤ level.place.depth → left.place ≡ left_half level.place → right.place ≡ right_half level.place →
    IsLevel diff left → IsLevel diff right → middle ≡ right ∷ old → new ≡ left ∷ middle → IsStack diff new
pushed diff level left right old middle new is room left_is right_is left_level right_level middle_is new_is = grind (arith, common_steps)

-- a stack of the whole cue
pub first_stack : (diff : List (Bez 8)) (stack : List Level) → length diff ≡ 3 → All (λ (curve : Bez 8). length curve.b ≡ 8) diff → stack ≡ record { place = root; part = diff } ∷ [] → IsStack diff stack
first_stack diff stack len sizes is =
    rw is (omega arith, root_level diff len (λ axis small. All-get_or (λ (curve : Bez 8). length curve.b ≡ 8) diff axis (record { b = [] }) (omega arith) sizes), tt)

-- ---- parts that wait
-- one part less
pub drop_one : (t : ℕ) (xs now : List Level) → drop t xs ≡ now → drop (t + 1) xs ≡ drop 1 now
drop_one t xs now is = sym (drop-drop 1 t xs) ∙ ap (λ (l : List Level). drop 1 l) is

-- what is known of the next part
pub next_told : (diff : List (Bez 8)) (old : List Level) (level : Level) → old ≡ level ∷ drop 1 old → IsStack diff old → (length (drop 1 old) ≤ level.place.depth) × IsLevel diff level × IsStack diff (drop 1 old)
next_told diff old level is stack = subst (λ (s : List Level). IsStack diff s) is stack

-- the next part is one part alone
pub next_same : (old rest other : List Level) (level next : Level) → old ≡ level ∷ rest → old ≡ next ∷ other → (level ≡ next) × (rest ≡ other)
next_same old rest other level next is same = (cc, cc)

pub some_next : (old rest : List Level) (level : Level) → old ≡ level ∷ rest → 1 ≤ length old
some_next old rest level is = rw is (omega arith)

-- ---- a part whose halves take its place, the first one before those that wait
-- the last of some, set
last_set : (n : ℕ) (front : List Level) (x : Level) → length front ≡ suc n → drop n (set front n x) ≡ x ∷ []
last_set n [] x e = absurd (omega arith)
last_set zero (y ∷ []) x e = refl
last_set zero (y ∷ z ∷ ys) x e = absurd (omega arith)
last_set (suc n) (y ∷ ys) x e = last_set n ys x (omega arith)

first_set : (from : List Level) (x : Level) → 1 ≤ length from → set from 0 x ≡ x ∷ drop 1 from
first_set [] x some = absurd (omega arith)
first_set (y ∷ ys) x some = refl

-- what waits after a split
pub after_split : (top : ℕ) (front from : List Level) (first second : Level) → 1 ≤ top → length front ≡ top → 1 ≤ length from
    → drop (top - 1) (set front (top - 1) first ++ set from 0 second) ≡ first ∷ second ∷ drop 1 from
after_split zero front from first second above len some = absurd (omega arith)
after_split (suc n) front from first second above len some =
    let room : n ≤ length (set front n first) = rw (length-set front n first) (omega (arith, len)) in
    let below : suc n - 1 ≡ n = omega arith in
    rw below (drop-append-le n (set front n first) (set from 0 second) room ∙ ap (λ (xs : List Level). xs ++ set from 0 second) (last_set n front first len) ∙ ap (λ (xs : List Level). first ∷ xs) (first_set from second some))

-- what holds of the next part holds of the first of a list
pub first_of : (P : Level → Type 0) (xs : List Level) (d : Level) → 1 ≤ length xs → ((level : Level) (rest : List Level) → xs ≡ level ∷ rest → P level) → P (get_or xs 0 d)
first_of P [] d some all = absurd (omega arith)
first_of P (x ∷ xs) d some all = all x xs refl

-- the places of what waits after a split
pub split_places : (from rest all : List Level) (level first second d : Level) → all ≡ first ∷ second ∷ drop 1 from → from ≡ level ∷ rest
    → first.place ≡ left_half (get_or from 0 d).place → second.place ≡ right_half (get_or from 0 d).place
    → places_of all ≡ left_half level.place ∷ right_half level.place ∷ places_of rest
split_places [] rest all level first second d is from left right = absurd (cc from)
split_places (x ∷ xs) rest all level first second d is from left right =
    ap (λ (levels : List Level). places_of levels) is ∙ same (next_same (x ∷ xs) xs rest x level refl from)
  where
    same : (x ≡ level) × (xs ≡ rest) → first.place ∷ second.place ∷ places_of xs ≡ left_half level.place ∷ right_half level.place ∷ places_of rest
    same e = rw (left, right, e.0, e.1) refl

-- there is room for a part more
pub room_left : (diff : List (Bez 8)) (now : List Level) (top : ℕ) → length now + top ≡ 9 → 1 ≤ length now → IsStack diff now
    → ((level : Level) (rest : List Level) → now ≡ level ∷ rest → level.place.depth < 8) → 1 ≤ top
room_left diff [] top counted some stack shallow = absurd (omega arith)
room_left diff (x ∷ xs) top counted some stack shallow = omega (arith, counted, stack.0, shallow x xs refl)

none_left : (n : ℕ) (xs : List Level) → length xs ≡ n → drop n xs ≡ []
none_left zero [] e = refl
none_left zero (x ∷ xs) e = absurd (omega arith)
none_left (suc n) [] e = absurd (omega arith)
none_left (suc n) (x ∷ xs) e = none_left n xs (omega arith)

one_set : (back : List Level) (x : Level) → length back ≡ 1 → set back 0 x ≡ x ∷ []
one_set [] x e = absurd (omega arith)
one_set (y ∷ []) x e = refl
one_set (y ∷ z ∷ ys) x e = absurd (omega arith)

-- one part that waits alone
pub begun : (front back : List Level) (x whole : Level) → length front ≡ 8 → length back ≡ 1 → x ≡ whole → drop 8 (front ++ set back 0 x) ≡ whole ∷ []
begun front back x whole len one is =
    let room : 8 ≤ length front = omega (arith, len) in
    drop-append-le 8 front (set back 0 x) room ∙ ap (λ (xs : List Level). xs ++ set back 0 x) (none_left 8 front len) ∙ one_set back x one ∙ ap (λ (y : Level). y ∷ []) is

-- Names on `at` lines and their numbers: a number is one name's alone, and new names leave the numbers of others.
use Rattle.cue_grid.proofs.Prelude.{common_steps, ◌≡◌, ℕ, zero, suc, ◌+◌, ◌<◌, Bool, true, false, cond, List, [], ◌∷◌, ◌++◌, length, get_or, take, Option, Some, None, refl, sym, ap, subst, ◌∙◌, arith, option_map, slice_get, option_copied, MatchOption, Bor, position, ◌||◌, nat_lt, map, lookup, position_or_len, map-append, take_more, insert_key, Name, DroneLine, Formation, same_name, has_name, names_of, formation_named, number_from, number_or, formation_names, IsNumbered, number_in, Keeps, HasNumbers, IsPlaced, ArePlaced, AllPlaced, cases_lt}
use Rattle.std.proofs.lemmas.List.Quantifiers.{position-Some}
use Rattle.std.proofs.lemmas.List.Recursion.{is_position_or_len}
use Rattle.cue_grid.proofs.Tables.{same_is, same_self, number_more, number_shift, both_suc, first_below, formation_at, at_number}

-- The number of a name is where it stands first.

-- the place of the first name that is equal to this one, or how many there are
abbrev first : Name → List Name → ℕ
first n [] = 0
first n (m ∷ ms) = cond (same_name n m) 0 (1 + first n ms)

first_is : (n : Name) (ks : List Name) → first n ks ≡ position_or_len (same_name n) ks
first_is n ks = is_position_or_len (first n) (same_name n) refl (λ x xs. refl) ks

one_more : (f : ℕ) → 1 + f ≡ suc f
one_more f = omega arith

shift_cond : (f l : ℕ) → option_map suc (cond (nat_lt f l) (Some f) None) ≡ cond (nat_lt (1 + f) (suc l)) (Some (1 + f)) None
shift_cond f l = grind (arith, common_steps, nat_lt, cond, both_suc, cases_lt, one_more, option_map)

by_first_one : (n m : Name) (ms : List Name) (b : Bool) → number_from 0 ms n ≡ cond (nat_lt (first n ms) (length ms)) (Some (first n ms)) None → cond b (Some 0) (number_from (0 + 1) ms n) ≡ cond (nat_lt (cond b 0 (1 + first n ms)) (suc (length ms))) (Some (cond b 0 (1 + first n ms))) None
by_first_one n m ms true h = ap (λ b. cond b (Some 0) None) (first_below (length ms))
by_first_one n m ms false h = number_shift 0 ms n ∙ ap (option_map suc) h ∙ shift_cond (first n ms) (length ms)

by_first : (ks : List Name) (n : Name) → number_from 0 ks n ≡ cond (nat_lt (first n ks) (length ks)) (Some (first n ks)) None
by_first [] n = refl
by_first (m ∷ ms) n = by_first_one n m ms (same_name n m) (by_first ms n)

-- the place that a set finds is the number
pub place_is : (ks : List Name) (n : Name) → position (same_name n) ks ≡ number_in ks n
place_is ks n = ap (λ f. cond (nat_lt f (length ks)) (Some f) None) (sym (first_is n ks)) ∙ sym (by_first ks n)

-- the name with a number stands there
pub found : (ks : List Name) (n d : Name) (k : ℕ) → number_in ks n ≡ Some k → (k < length ks) × (same_name n (get_or ks k d) ≡ true)
found ks n d k h = let p = position-Some (same_name n) ks k d (place_is ks n ∙ h) in (p.0, p.1)

-- names with one number are one name
pub one_name : (ks : List Name) (n m : Name) (k : ℕ) → number_in ks n ≡ Some k → number_in ks m ≡ Some k → n ≡ m
one_name ks n m k h g = same_is n (get_or ks k n) (found ks n n k h).1 ∙ sym (same_is m (get_or ks k n) (found ks m n k g).1)

-- A name that is put into a set.

known_one : (n m : Name) (ms : List Name) (b : Bool) → (has_name ms n ≡ true → number_from 0 ms n ≡ Some (first n ms)) → b || has_name ms n ≡ true → cond b (Some 0) (number_from (0 + 1) ms n) ≡ Some (cond b 0 (1 + first n ms))
known_one n m ms true h g = refl
known_one n m ms false h g = number_shift 0 ms n ∙ ap (option_map suc) (h g) ∙ ap (λ f. Some f) (sym (one_more (first n ms)))

-- a name that stands there has the number of its place
known_number : (ks : List Name) (n : Name) → has_name ks n ≡ true → number_from 0 ks n ≡ Some (first n ks)
known_number [] n h = cc
known_number (m ∷ ms) n h = known_one n m ms (same_name n m) (known_number ms n) h

new_one : (n m : Name) (ms : List Name) (b : Bool) → (has_name ms n ≡ false → (number_from 0 ms n ≡ None) × (first n ms ≡ length ms)) → b || has_name ms n ≡ false → (cond b (Some 0) (number_from (0 + 1) ms n) ≡ None) × (cond b 0 (1 + first n ms) ≡ suc (length ms))
new_one n m ms true h g = cc
new_one n m ms false h g = (number_shift 0 ms n ∙ ap (option_map suc) (h g).0, one_more (first n ms) ∙ ap suc (h g).1)

-- a name that doesn't has none
new_number : (ks : List Name) (n : Name) → has_name ks n ≡ false → (number_from 0 ks n ≡ None) × (first n ks ≡ length ks)
new_number [] n h = (refl, refl)
new_number (m ∷ ms) n h = new_one n m ms (same_name n m) (new_number ms n) h

put_number : (ks : List Name) (n : Name) (b : Bool) → has_name ks n ≡ b → number_in (cond b ks (ks ++ n ∷ [])) n ≡ Some (first n ks)
put_number ks n true h = known_number ks n h
put_number ks n false h = grind (arith, common_steps, new_number, number_more, cond, same_self)

-- the number that a set gives a name
pub put_in : (old new : List Name) (key name : Name) (k : ℕ) → new ≡ insert_key same_name old key → k ≡ position_or_len (same_name key) old → key ≡ name → number_in new name ≡ Some k
put_in old new key name k e f g = grind (arith, common_steps, put_number, first_is)

put_keeps : (ks : List Name) (m : Name) (b : Bool) → Keeps ks (cond b ks (ks ++ m ∷ []))
put_keeps ks m true n k h = h
put_keeps ks m false n k h = number_more 0 ks m n ∙ ap (λ o. number_or o (same_name n m) (0 + length ks)) h

-- the numbers that stand stay
pub keeps_in : (old new : List Name) (key : Name) → new ≡ insert_key same_name old key → Keeps old new
keeps_in old new key e = subst (λ xs. Keeps old xs) (sym e) (put_keeps old key (has_name old key))

pub keeps_then : (xs ys zs : List Name) → Keeps xs ys → Keeps ys zs → Keeps xs zs
keeps_then xs ys zs h g n k e = g n k (h n k e)

-- The numbers of places.

numbers_keep : (old new ns : List Name) (ks : List ℕ) → Keeps old new → HasNumbers old ns ks → HasNumbers new ns ks
numbers_keep old new [] [] h g = g
numbers_keep old new [] (k ∷ ks) h g = g
numbers_keep old new (n ∷ ns) [] h g = g
numbers_keep old new (n ∷ ns) (k ∷ ks) h g = (h n k g.0, numbers_keep old new ns ks h g.1)

numbers_push : (keys ns : List Name) (ks : List ℕ) (n : Name) (k : ℕ) → HasNumbers keys ns ks → number_in keys n ≡ Some k → HasNumbers keys (ns ++ n ∷ []) (ks ++ k ∷ [])
numbers_push keys [] [] n k h g = (g, tt)
numbers_push keys [] (j ∷ ks) n k h g = absurd h
numbers_push keys (m ∷ ns) [] n k h g = absurd h
numbers_push keys (m ∷ ns) (j ∷ ks) n k h g = (h.0, numbers_push keys ns ks n k h.1 g)

-- the loop that numbers places
pub place_numbered : (old new : List Name) (ps : List DroneLine) (i : ℕ) (p : DroneLine) (ks next : List ℕ) (k : ℕ) → i < length ps → p ≡ get_or ps i p → HasNumbers old (names_of (take i ps)) ks → Keeps old new → number_in new p.name ≡ Some k → next ≡ ks ++ k ∷ [] → HasNumbers new (names_of (take (i + 1) ps)) next
place_numbered old new ps i p ks next k h e inv keep num f = grind (arith, common_steps, take, take_more, map-append, numbers_push, numbers_keep)

placed_keep : {V : Type 0} (items : V → List ℕ) (old new : List Name) (fs : List Formation) (vs : List V) → Keeps old new → ArePlaced items old fs vs → ArePlaced items new fs vs
placed_keep items old new [] [] h g = g
placed_keep items old new [] (v ∷ vs) h g = g
placed_keep items old new (f ∷ fs) [] h g = g
placed_keep items old new (f ∷ fs) (v ∷ vs) h g = (numbers_keep old new (names_of f.places) (items v) h g.0, placed_keep items old new fs vs h g.1)

placed_push : {V : Type 0} (items : V → List ℕ) (keys : List Name) (fs : List Formation) (vs : List V) (f : Formation) (v : V) → ArePlaced items keys fs vs → HasNumbers keys (names_of f.places) (items v) → ArePlaced items keys (fs ++ f ∷ []) (vs ++ v ∷ [])
placed_push items keys [] [] f v h g = (g, tt)
placed_push items keys [] (w ∷ vs) f v h g = absurd h
placed_push items keys (e ∷ fs) [] f v h g = absurd h
placed_push items keys (e ∷ fs) (w ∷ vs) f v h g = (h.0, placed_push items keys fs vs f v h.1 g)

-- the loop that numbers the places of formations
pub formation_placed : {V : Type 0} (items : V → List ℕ) (old new : List Name) (fs : List Formation) (i : ℕ) (f : Formation) (vs next : List V) (v : V) (ps : List DroneLine) → i < length fs → f ≡ get_or fs i f → ArePlaced items old (take i fs) vs → Keeps old new → ps ≡ f.places → HasNumbers new (names_of ps) (items v) → next ≡ vs ++ v ∷ [] → ArePlaced items new (take (i + 1) fs) next
formation_placed items old new fs i f vs next v ps h e inv keep p num g = grind (arith, common_steps, take_more, take, placed_push, placed_keep)

-- As equations.

numbers_to : (keys ns : List Name) (ks : List ℕ) → HasNumbers keys ns ks → map (number_in keys) ns ≡ map (λ k. Some k) ks
numbers_to keys [] [] h = refl
numbers_to keys [] (k ∷ ks) h = absurd h
numbers_to keys (n ∷ ns) [] h = absurd h
numbers_to keys (n ∷ ns) (k ∷ ks) h = ap (λ o. o ∷ map (number_in keys) ns) h.0 ∙ ap (λ os. Some k ∷ os) (numbers_to keys ns ks h.1)

abbrev head_of : {A : Type 0} → A → List A → A
head_of d [] = d
head_of d (x ∷ xs) = x

abbrev tail_of : {A : Type 0} → List A → List A
tail_of [] = []
tail_of (x ∷ xs) = xs

numbers_from : (keys ns : List Name) (ks : List ℕ) → map (number_in keys) ns ≡ map (λ k. Some k) ks → HasNumbers keys ns ks
numbers_from keys [] [] h = tt
numbers_from keys [] (k ∷ ks) h = cc
numbers_from keys (n ∷ ns) [] h = cc
numbers_from keys (n ∷ ns) (k ∷ ks) h = (ap (head_of None) h, numbers_from keys ns ks (ap tail_of h))

pub all_to : {V : Type 0} (items : V → List ℕ) (keys : List Name) (fs : List Formation) (vs : List V) → ArePlaced items keys fs vs → AllPlaced items keys fs vs
all_to items keys [] [] h = refl
all_to items keys [] (v ∷ vs) h = absurd h
all_to items keys (f ∷ fs) [] h = absurd h
all_to items keys (f ∷ fs) (v ∷ vs) h =
    ap (λ os. os ∷ map (λ (g : Formation). map (number_in keys) (names_of g.places)) fs) (numbers_to keys (names_of f.places) (items v) h.0)
    ∙ ap (λ oss. map (λ k. Some k) (items v) ∷ oss) (all_to items keys fs vs h.1)

all_from : {V : Type 0} (items : V → List ℕ) (keys : List Name) (fs : List Formation) (vs : List V) → AllPlaced items keys fs vs → ArePlaced items keys fs vs
all_from items keys [] [] h = tt
all_from items keys [] (v ∷ vs) h = cc
all_from items keys (f ∷ fs) [] h = cc
all_from items keys (f ∷ fs) (v ∷ vs) h = (numbers_from keys (names_of f.places) (items v) (ap (head_of []) h), all_from items keys fs vs (ap tail_of h))

-- What a formation's number finds.

-- what stands at a number: nothing for no formation, and else its numbers
abbrev pub PlacedAt : {V : Type 0} → (V → List ℕ) → List Name → Option Formation → Option V → Type 0
PlacedAt items keys o None = o ≡ None
PlacedAt items keys o (Some v) = IsPlaced keys o (items v)

pub placed_at : {V : Type 0} (items : V → List ℕ) (keys : List Name) (fs : List Formation) (vs : List V) (i : ℕ) → ArePlaced items keys fs vs → PlacedAt items keys (slice_get fs i) (slice_get vs i)
placed_at items keys [] [] i h = refl
placed_at items keys [] (v ∷ vs) i h = absurd h
placed_at items keys (f ∷ fs) [] i h = absurd h
placed_at items keys (f ∷ fs) (v ∷ vs) zero h = h.0
placed_at items keys (f ∷ fs) (v ∷ vs) (suc i) h = placed_at items keys fs vs i h.1

found_by : {V : Type 0} (items : V → List ℕ) (keys : List Name) (o : Option Formation) (r : Option (Bor V)) → PlacedAt items keys o (option_copied r) → MatchOption r (o ≡ None) (λ v. IsPlaced keys o (items v.now))
found_by items keys o None h = h
found_by items keys o (Some v) h = h

-- the numbers of the formation of a name
pub places_found : {V : Type 0} (items : V → List ℕ) (keys : List Name) (fs : List Formation) (whole vs : List V) (entries : List (Name × ℕ)) (n : Name) (i : ℕ) (r : Option (Bor V)) → IsNumbered (formation_names fs) entries → Some i ≡ lookup (same_name n) entries → AllPlaced items keys fs vs → whole ≡ vs → option_copied r ≡ slice_get whole i → MatchOption r (formation_named fs n ≡ None) (λ v. IsPlaced keys (formation_named fs n) (items v.now))
places_found items keys fs whole vs entries n i r inv h all w g =
    let e : formation_named fs n ≡ slice_get fs i = formation_at fs n ∙ ap (at_number fs) (sym (inv n) ∙ sym h) in
    let v : option_copied r ≡ slice_get vs i = g ∙ ap (λ xs. slice_get xs i) w in
    found_by items keys (formation_named fs n) r
    (subst (λ o. PlacedAt items keys o (option_copied r)) (sym e)
    (subst (λ o. PlacedAt items keys (slice_get fs i) o) (sym v) (placed_at items keys fs vs i (all_from items keys fs vs all))))

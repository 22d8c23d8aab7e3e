-- Names and their numbers.
use Rattle.cue_grid.proofs.Prelude.{common_steps, ◌≡◌, ℕ, zero, suc, ◌+◌, ◌<◌, Bool, true, false, cond, List, [], ◌∷◌, ◌++◌, map, length, get_or, take, Option, Some, None, refl, sym, ap, ◌∙◌, arith, slice_get, is_some, option_map, add-one, MatchOption, Bor, ◌≤◌, ◌⊎◌, inl, inr, nat_lt, IfSome, ◌||◌, cases_lt, nat_tests, lookup, take-map, map-append, take_more, length-map, length-take-le, bytes_eq-Decides, option_copied, Name, figure_of as plain_figure, Figure, Formation, same_name, has_name, formation_named, figure_named, number_from, number_or, IsNumbered, IsNoted, formation_names, figure_names}
use Rattle.std.proofs.lemmas.Option.{slice_get_past, slice_get-get_or}

-- equal bytes are equal names
pub same_is : (a b : Name) → same_name a b ≡ true → a ≡ b
same_is a b h = ap (λ xs. record { items = xs }) ((bytes_eq-Decides a.items b.items).0 h)

pub same_self : (a b : Name) → a ≡ b → same_name a b ≡ true
same_self a b h = (bytes_eq-Decides a.items b.items).1 (ap (λ n. n.items) h)

-- a name with a number keeps it
kept_by : (old : List (Name × ℕ)) (name n : Name) (i j : ℕ) (o : Option ℕ) (b : Bool) → lookup (same_name name) old ≡ Some j → lookup (same_name n) old ≡ o → same_name n name ≡ b → lookup (same_name n) old ≡ number_or o b i
kept_by old name n i j (Some k) b h e f = e
kept_by old name n i j None false h e f = e
kept_by old name n i j None true h e f =
    let same : lookup (same_name n) old ≡ lookup (same_name name) old = ap (λ m. lookup (same_name m) old) (same_is n name f) in
    cc

pub kept : (old : List (Name × ℕ)) (name : Name) (i j : ℕ) → lookup (same_name name) old ≡ Some j → IsNoted old old name i
kept old name i j h n = kept_by old name n i j (lookup (same_name n) old) (same_name n name) h refl refl

-- a new name has this one
noted_by : (old new : List (Name × ℕ)) (name n : Name) (i : ℕ) (b c : Bool) → lookup (same_name name) old ≡ None → same_name name n ≡ b → same_name n name ≡ c → lookup (same_name n) new ≡ cond b (Some i) (lookup (same_name n) old) → lookup (same_name n) new ≡ number_or (lookup (same_name n) old) c i
noted_by old new name n i true true h e f g = g ∙ ap (λ o. number_or o true i) (sym (ap (λ m. lookup (same_name m) old) (same_is n name f) ∙ h))
noted_by old new name n i true false h e f g = let s = same_self n name (sym (same_is name n e)) in cc
noted_by old new name n i false true h e f g = let s = same_self name n (sym (same_is n name f)) in cc
noted_by old new name n i false false h e f g = grind (arith, common_steps)

pub noted : (old new : List (Name × ℕ)) (name : Name) (i : ℕ) → lookup (same_name name) old ≡ None → ((n : Name) → lookup (same_name n) new ≡ cond (same_name name n) (Some i) (lookup (same_name n) old)) → IsNoted old new name i
noted old new name i h g n = noted_by old new name n i (same_name name n) (same_name n name) h refl refl (g n)

-- one more name at the end
number_one : (k : ℕ) (ms : List Name) (m n : Name) (b : Bool) → number_from (k + 1) (ms ++ m ∷ []) n ≡ number_or (number_from (k + 1) ms n) (same_name n m) (k + 1 + length ms) → cond b (Some k) (number_from (k + 1) (ms ++ m ∷ []) n) ≡ number_or (cond b (Some k) (number_from (k + 1) ms n)) (same_name n m) (k + suc (length ms))
number_one k ms m n true h = refl
number_one k ms m n false h = let e : k + 1 + length ms ≡ k + suc (length ms) = omega arith in h ∙ ap (λ j. number_or (number_from (k + 1) ms n) (same_name n m) j) e

pub number_more : (k : ℕ) (ms : List Name) (m n : Name) → number_from k (ms ++ m ∷ []) n ≡ number_or (number_from k ms n) (same_name n m) (k + length ms)
number_more k [] m n = let e : k ≡ k + 0 = omega arith in ap (λ j. cond (same_name n m) (Some j) None) e
number_more k (x ∷ ms) m n = number_one k ms m n (same_name n x) (number_more (k + 1) ms m n)

-- the loops that number a list, whose items have names
pub names_noted : {A : Type 0} (name_of : A → Name) (xs : List A) (i : ℕ) (x : A) (old new : List (Name × ℕ)) → i < length xs → x ≡ get_or xs i x → IsNumbered (map name_of (take i xs)) old → IsNoted old new (name_of x) i → IsNumbered (map name_of (take (i + 1) xs)) new
names_noted {A} name_of xs i x old new h e inv note n =
    grind (arith, common_steps, take, length-map, length-take-le, number_more, take_more, map-append)

some_is : (o : Option ℕ) → is_some o ≡ true → (j : ℕ) × (o ≡ Some j)
some_is None h = cc
some_is (Some j) h = (j, refl)

none_is : (o : Option ℕ) → is_some o ≡ false → o ≡ None
none_is None h = refl
none_is (Some j) h = cc

pub stays : (old : List (Name × ℕ)) (name : Name) (i : ℕ) (b : Bool) → b ≡ is_some (lookup (same_name name) old) → b ≡ true → IsNoted old old name i
stays old name i b e h = let s = some_is (lookup (same_name name) old) (sym e ∙ h) in kept old name i s.0 s.1

pub is_new : (old new : List (Name × ℕ)) (name key : Name) (i : ℕ) (b : Bool) → b ≡ is_some (lookup (same_name name) old) → b ≡ false → key ≡ name → ((n : Name) → lookup (same_name n) new ≡ cond (same_name key n) (Some i) (lookup (same_name n) old)) → IsNoted old new name i
is_new old new name key i b e h k g = noted old new name i (none_is (lookup (same_name name) old) (sym e ∙ h)) (λ n. g n ∙ ap (λ m. cond (same_name m n) (Some i) (lookup (same_name n) old)) k)

-- What a number finds.

abbrev pub at_number : {A : Type 0} → List A → Option ℕ → Option A
at_number xs None = None
at_number xs (Some i) = slice_get xs i

shift_one : (k : ℕ) (b : Bool) (o p : Option ℕ) → p ≡ option_map suc o → cond b (Some (k + 1)) p ≡ option_map suc (cond b (Some k) o)
shift_one k true o p h = ap (λ j. Some j) (add-one k)
shift_one k false o p h = h

pub number_shift : (k : ℕ) (ms : List Name) (n : Name) → number_from (k + 1) ms n ≡ option_map suc (number_from k ms n)
number_shift k [] n = refl
number_shift k (m ∷ ms) n = shift_one k (same_name n m) (number_from (k + 1) ms n) (number_from (k + 1 + 1) ms n) (number_shift (k + 1) ms n)

at_shift : {A : Type 0} (x : A) (xs : List A) (o : Option ℕ) → at_number xs o ≡ at_number (x ∷ xs) (option_map suc o)
at_shift x xs None = refl
at_shift x xs (Some i) = refl

formation_one : (f : Formation) (fs : List Formation) (n : Name) (b : Bool) → formation_named fs n ≡ at_number fs (number_from 0 (formation_names fs) n) → cond b (Some f) (formation_named fs n) ≡ at_number (f ∷ fs) (cond b (Some 0) (number_from (0 + 1) (formation_names fs) n))
formation_one f fs n true h = refl
formation_one f fs n false h = h ∙ at_shift f fs (number_from 0 (formation_names fs) n) ∙ ap (at_number (f ∷ fs)) (sym (number_shift 0 (formation_names fs) n))

pub formation_at : (fs : List Formation) (n : Name) → formation_named fs n ≡ at_number fs (number_from 0 (formation_names fs) n)
formation_at [] n = refl
formation_at (f ∷ fs) n = formation_one f fs n (same_name n f.name) (formation_at fs n)

figure_one : (f : Figure) (fs : List Figure) (n : Name) (b : Bool) → figure_named (map plain_figure fs) n ≡ option_map plain_figure (at_number fs (number_from 0 (figure_names fs) n)) → cond b (Some (plain_figure f)) (figure_named (map plain_figure fs) n) ≡ option_map plain_figure (at_number (f ∷ fs) (cond b (Some 0) (number_from (0 + 1) (figure_names fs) n)))
figure_one f fs n true h = refl
figure_one f fs n false h = h ∙ ap (option_map plain_figure) (at_shift f fs (number_from 0 (figure_names fs) n) ∙ ap (at_number (f ∷ fs)) (sym (number_shift 0 (figure_names fs) n)))

figure_at : (fs : List Figure) (n : Name) → figure_named (map plain_figure fs) n ≡ option_map plain_figure (at_number fs (number_from 0 (figure_names fs) n))
figure_at [] n = refl
figure_at (f ∷ fs) n = figure_one f fs n (same_name n f.name) (figure_at fs n)

pub no_formation : (fs list : List Formation) (entries : List (Name × ℕ)) (n : Name) → fs ≡ list → IsNumbered (formation_names list) entries → None ≡ lookup (same_name n) entries → formation_named fs n ≡ None
no_formation fs list entries n e inv h = ap (λ xs. formation_named xs n) e ∙ formation_at list n ∙ ap (at_number list) (sym (inv n) ∙ sym h)

pub a_formation : (fs list : List Formation) (entries : List (Name × ℕ)) (n : Name) (i : ℕ) (r : Option (Bor Formation)) → fs ≡ list → IsNumbered (formation_names list) entries → Some i ≡ lookup (same_name n) entries → option_copied r ≡ slice_get list i → MatchOption r (formation_named fs n ≡ None) (λ f. formation_named fs n ≡ Some f.now)
a_formation fs list entries n i None e inv h g = ap (λ xs. formation_named xs n) e ∙ formation_at list n ∙ ap (at_number list) (sym (inv n) ∙ sym h) ∙ sym g
a_formation fs list entries n i (Some f) e inv h g = ap (λ xs. formation_named xs n) e ∙ formation_at list n ∙ ap (at_number list) (sym (inv n) ∙ sym h) ∙ sym g

pub no_figure : (fs list : List Figure) (entries : List (Name × ℕ)) (n : Name) → fs ≡ list → IsNumbered (figure_names list) entries → None ≡ lookup (same_name n) entries → figure_named (map plain_figure fs) n ≡ None
no_figure fs list entries n e inv h = ap (λ xs. figure_named (map plain_figure xs) n) e ∙ figure_at list n ∙ ap (λ o. option_map plain_figure (at_number list o)) (sym (inv n) ∙ sym h)

pub a_figure : (fs list : List Figure) (entries : List (Name × ℕ)) (n : Name) (i : ℕ) (r : Option (Bor Figure)) → fs ≡ list → IsNumbered (figure_names list) entries → Some i ≡ lookup (same_name n) entries → option_copied r ≡ slice_get list i → MatchOption r (figure_named (map plain_figure fs) n ≡ None) (λ f. figure_named (map plain_figure fs) n ≡ Some (plain_figure f.now))
a_figure fs list entries n i None e inv h g = ap (λ xs. figure_named (map plain_figure xs) n) e ∙ figure_at list n ∙ ap (λ o. option_map plain_figure (at_number list o)) (sym (inv n) ∙ sym h) ∙ ap (option_map plain_figure) (sym g)
a_figure fs list entries n i (Some f) e inv h g = ap (λ xs. figure_named (map plain_figure xs) n) e ∙ figure_at list n ∙ ap (λ o. option_map plain_figure (at_number list o)) (sym (inv n) ∙ sym h) ∙ ap (option_map plain_figure) (sym g)

-- What a slice's `get` answers.

lt_yes : (a b : ℕ) → true ≡ nat_lt a b → a < b
lt_yes a b h = grind (arith, nat_tests)

lt_no : (a b : ℕ) → false ≡ nat_lt a b → b ≤ a
lt_no a b h = grind (arith, nat_tests)

pub got : {A : Type 0} (xs whole : List A) (i : ℕ) (r : Option (Bor A)) → xs ≡ whole → is_some r ≡ nat_lt i (length xs) → IfSome r (λ x. x.now ≡ get_or xs i x.now) → option_copied r ≡ slice_get whole i
got xs whole i None e h g = sym (slice_get_past xs i (lt_no i (length xs) h)) ∙ ap (λ ys. slice_get ys i) e
got xs whole i (Some x) e h g = ap (λ y. Some y) g ∙ sym (slice_get-get_or xs i x.now (lt_yes i (length xs) h)) ∙ ap (λ ys. slice_get ys i) e

-- Whether an earlier item has a name.

-- whether a number is below this one
abbrev is_below : ℕ → Option ℕ → Bool
is_below i None = false
is_below i (Some j) = nat_lt j i

below_zero : (o : Option ℕ) → false ≡ is_below zero o
below_zero None = refl
below_zero (Some j) = grind (arith, common_steps, nat_tests)

pub both_suc : (i j : ℕ) → (j < i) ⊎ (i ≤ j) → nat_lt j i ≡ nat_lt (suc j) (suc i)
both_suc i j (inl h) = (let a : nat_lt j i ≡ true = grind (arith, nat_tests) in a) ∙ sym (let b : nat_lt (suc j) (suc i) ≡ true = grind (arith, nat_tests) in b)
both_suc i j (inr h) = (let a : nat_lt j i ≡ false = grind (arith, nat_tests) in a) ∙ sym (let b : nat_lt (suc j) (suc i) ≡ false = grind (arith, nat_tests) in b)

pub first_below : (i : ℕ) → true ≡ nat_lt 0 (suc i)
first_below i = sym (let a : nat_lt 0 (suc i) ≡ true = grind (arith, nat_tests) in a)

below_suc : (i : ℕ) (o : Option ℕ) → is_below i o ≡ is_below (suc i) (option_map suc o)
below_suc i None = refl
below_suc i (Some j) = both_suc i j (cases_lt j i)

before_one : (i : ℕ) (ms : List Name) (n : Name) (b : Bool) → has_name (take i ms) n ≡ is_below i (number_from 0 ms n) → b || has_name (take i ms) n ≡ is_below (suc i) (cond b (Some 0) (number_from (0 + 1) ms n))
before_one i ms n true h = first_below i
before_one i ms n false h = h ∙ below_suc i (number_from 0 ms n) ∙ ap (is_below (suc i)) (sym (number_shift 0 ms n))

-- one of the first names is this one exactly where the number of the name is among theirs
before : (i : ℕ) (ms : List Name) (n : Name) → has_name (take i ms) n ≡ is_below i (number_from 0 ms n)
before zero ms n = below_zero (number_from 0 ms n)
before (suc i) [] n = refl
before (suc i) (m ∷ ms) n = before_one i ms n (same_name n m) (before i ms n)

before_by : {A : Type 0} (name_of : A → Name) (xs : List A) (entries : List (Name × ℕ)) (n : Name) (i : ℕ) (o : Option ℕ) → IsNumbered (map name_of xs) entries → o ≡ lookup (same_name n) entries → is_below i o ≡ has_name (map name_of (take i xs)) n
before_by name_of xs entries n i o inv h =
    ap (is_below i) (h ∙ inv n) ∙ sym (before i (map name_of xs) n) ∙ ap (λ ms. has_name ms n) (take-map name_of i xs)

pub not_before : {A : Type 0} (name_of : A → Name) (xs : List A) (entries : List (Name × ℕ)) (n : Name) (i : ℕ) → IsNumbered (map name_of xs) entries → None ≡ lookup (same_name n) entries → false ≡ has_name (map name_of (take i xs)) n
not_before name_of xs entries n i inv h = before_by name_of xs entries n i None inv h

pub is_before : {A : Type 0} (name_of : A → Name) (xs : List A) (entries : List (Name × ℕ)) (n : Name) (i j : ℕ) → IsNumbered (map name_of xs) entries → Some j ≡ lookup (same_name n) entries → nat_lt j i ≡ has_name (map name_of (take i xs)) n
is_before name_of xs entries n i j inv h = before_by name_of xs entries n i (Some j) inv h

-- Who has an act in a cue: the marks and the other names of the code are the names of the list of the definition.
use Rattle.cue_grid.proofs.Prelude.{◌≡◌, ℕ, suc, ◌+◌, ◌<◌, Bool, true, false, cond, List, [], ◌∷◌, ◌++◌, length, get_or, set, take, drop, drop-cons, add-one, Option, Some, None, refl, sym, ap, subst, ◌∙◌, append_assoc, arith, ◌||◌, take_more, append-nil, length-set, get_or-set_other, get_or-set_at, common_steps, insert_key, Name, ActLine, Formation, Act, same_name, has_name, has_some, names_of, formation_named, places_in, number_in, HasNumbers, IsPlaced, has_act, has_mark, marked, IsActed, first_of, fault_if, form_faults, act_line_faults, acted_by, act_faults, GridFault, DoubleAct}
use Rattle.choreo_show.specs.declared.show.ActLine.TheVariants as on
use Rattle.cue_grid.proofs.Tables.{same_is, same_self}
use Rattle.cue_grid.proofs.Numbering.{found, one_name}
use Rattle.cue_grid.proofs.Faulty.{first_here, first_later}

-- two lists have the same names, in whatever order and however often
abbrev HaveSameNames : List Name → List Name → Type 0
HaveSameNames ns ms = (n : Name) → has_name ns n ≡ has_name ms n

or_assoc : (a b c : Bool) → a || (b || c) ≡ (a || b) || c
or_assoc true b c = refl
or_assoc false b c = refl

-- a name of two lists is one of the first or one of the second
pub has_append : (xs ys : List Name) (n : Name) → has_name (xs ++ ys) n ≡ has_name xs n || has_name ys n
has_append [] ys n = refl
has_append (x ∷ xs) ys n = ap (λ b. same_name n x || b) (has_append xs ys n) ∙ or_assoc (same_name n x) (has_name xs n) (has_name ys n)

or_nothing : (b : Bool) → b ≡ b || false
or_nothing true = refl
or_nothing false = refl

or_all : (b : Bool) → b || true ≡ true
or_all true = refl
or_all false = refl

-- a name that is there already adds nothing
there : (ks : List Name) (k n : Name) (b : Bool) → has_name ks k ≡ true → same_name n k ≡ b → has_name ks n ≡ has_name ks n || (b || false)
there ks k n false h e = or_nothing (has_name ks n)
there ks k n true h e =
    let t : has_name ks n ≡ true = ap (has_name ks) (same_is n k e) ∙ h in
    t ∙ sym (ap (λ b. b || true) t)

inserted_by : (ks : List Name) (k : Name) (b : Bool) → has_name ks k ≡ b → HaveSameNames (cond b ks (ks ++ k ∷ [])) (ks ++ k ∷ [])
inserted_by ks k true h n = there ks k n (same_name n k) h refl ∙ sym (has_append ks (k ∷ []) n)
inserted_by ks k false h n = refl

-- a set into which a name is put
inserted : (ks new : List Name) (k name : Name) → new ≡ insert_key same_name ks k → k ≡ name → HaveSameNames new (ks ++ name ∷ [])
inserted ks new k name e f n =
    ap (λ xs. has_name xs n) e ∙ inserted_by ks k (has_name ks k) refl n ∙ ap (λ m. has_name (ks ++ m ∷ []) n) f

mark_step : (keys : List Name) (m : List Bool) (os : List Name) (x n : Name) (k : ℕ) (o : Option ℕ) (b : Bool) → length m ≡ length keys → number_in keys x ≡ Some k → number_in keys n ≡ o → same_name n x ≡ b → has_act o m os n || (b || false) ≡ has_act o (set m k true) os n
mark_step keys m os x n k (Some j) true len h e f =
    let some : Some j ≡ Some k = sym e ∙ ap (number_in keys) (same_is n x f) ∙ h in
    let same : j ≡ k = ap (λ o. some_or o) some in
    or_all (get_or m j false)
    ∙ sym (get_or-set_at m k j true false same (subst (λ l. k < l) (sym len) (found keys x x k h).0))
  where
    some_or : Option ℕ → ℕ
    some_or None = 0
    some_or (Some i) = i
mark_step keys m os x n k (Some j) false len h e f =
    sym (or_nothing (get_or m j false))
    ∙ sym (get_or-set_other m k j true false (λ same. let t = same_self n x (one_name keys n x k (e ∙ ap (λ i. Some i) same) h) in cc))
mark_step keys m os x n k None true len h e f = let t = ap (number_in keys) (same_is n x f) in cc
mark_step keys m os x n k None false len h e f = sym (or_nothing (has_name os n))

-- a name gets the mark of its number
pub mark_one : (keys : List Name) (m next : List Bool) (os names : List Name) (x : Name) (k : ℕ) → number_in keys x ≡ Some k → next ≡ set m k true → IsActed keys m os names → IsActed keys next os (names ++ x ∷ [])
mark_one keys m next os names x k h e a =
    subst (λ ms. IsActed keys ms os (names ++ x ∷ [])) (sym e)
    (length-set m k true ∙ a.0, λ n. has_append names (x ∷ []) n ∙ ap (λ b. b || (same_name n x || false)) (a.1 n) ∙ mark_step keys m os x n k (number_in keys n) (same_name n x) a.0 h refl refl)

other_step : (keys : List Name) (m : List Bool) (os new : List Name) (x n : Name) (o : Option ℕ) (b : Bool) → number_in keys x ≡ None → has_name new n ≡ has_name os n || (b || false) → number_in keys n ≡ o → same_name n x ≡ b → has_act o m os n || (b || false) ≡ has_act o m new n
other_step keys m os new x n None b h g e f = sym g
other_step keys m os new x n (Some j) true h g e f = let t = ap (number_in keys) (same_is n x f) in cc
other_step keys m os new x n (Some j) false h g e f = sym (or_nothing (get_or m j false))

-- a name without a number goes to the others
pub other_one : (keys : List Name) (m : List Bool) (os new names : List Name) (x key : Name) → number_in keys x ≡ None → new ≡ insert_key same_name os key → key ≡ x → IsActed keys m os names → IsActed keys m new (names ++ x ∷ [])
other_one keys m os new names x key h e f a =
    (a.0, λ n. has_append names (x ∷ []) n ∙ ap (λ b. b || (same_name n x || false)) (a.1 n) ∙ other_step keys m os new x n (number_in keys n) (same_name n x) h (inserted os new key x e f n ∙ has_append os (x ∷ []) n) refl refl)

-- each name gets the mark of its number
pub marks_each : (keys : List Name) (xs : List Name) (ks : List ℕ) (m : List Bool) (os names : List Name) → HasNumbers keys xs ks → IsActed keys m os names → IsActed keys (marked m ks) os (names ++ xs)
marks_each keys [] [] m os names h a = subst (λ ns. IsActed keys m os ns) (sym (append-nil names)) a
marks_each keys [] (k ∷ ks) m os names h a = absurd h
marks_each keys (x ∷ xs) [] m os names h a = absurd h
marks_each keys (x ∷ xs) (k ∷ ks) m os names h a =
    subst (λ ns. IsActed keys (marked (set m k true) ks) os ns) (append_assoc names (x ∷ []) xs)
    (marks_each keys xs ks (set m k true) os (names ++ x ∷ []) h.1 (mark_one keys m (set m k true) os names x k h.0 refl a))

-- some of the names has an act exactly where one of their numbers has a mark
some_marked : (keys xs : List Name) (ks : List ℕ) (m : List Bool) (os names : List Name) → HasNumbers keys xs ks → IsActed keys m os names → has_some names xs ≡ has_mark m ks
some_marked keys [] [] m os names h a = refl
some_marked keys [] (k ∷ ks) m os names h a = absurd h
some_marked keys (x ∷ xs) [] m os names h a = absurd h
some_marked keys (x ∷ xs) (k ∷ ks) m os names h a =
    ap (λ b. b || has_some names xs) (a.1 x ∙ ap (λ o. has_act o m os x) h.0)
    ∙ ap (λ b. get_or m k false || b) (some_marked keys xs ks m os names h.1 a)

-- the fault of a `form` line
pub form_is : (keys : List Name) (m : List Bool) (os names : List Name) (line : ℕ) (f : Option Formation) (ks : List ℕ) (b c : Bool) → IsPlaced keys f ks → b ≡ has_mark m ks → b ≡ c → IsActed keys m os names → first_of (fault_if c (DoubleAct line) []) ≡ first_of (form_faults line names f)
form_is keys m os names line None ks b c p e g a = absurd p
form_is keys m os names line (Some f) ks b c p e g a =
    ap (λ d. first_of (fault_if d (DoubleAct line) [])) (sym g ∙ e ∙ sym (some_marked keys (names_of f.places) ks m os names p a))

-- who has an act by the formation of a `form` line
pub form_marks : (keys : List Name) (m next : List Bool) (os names : List Name) (fs : List Formation) (n : Name) (ks : List ℕ) (f : Option Formation) → f ≡ formation_named fs n → IsPlaced keys f ks → next ≡ marked m ks → IsActed keys m os names → IsActed keys next os (names ++ names_of (places_in f))
form_marks keys m next os names fs n ks None e p g a = absurd p
form_marks keys m next os names fs n ks (Some f) e p g a =
    subst (λ ms. IsActed keys ms os (names ++ names_of f.places)) (sym g) (marks_each keys (names_of f.places) ks m os names p a)

-- The lines of a cue.

-- who has an act by these lines
abbrev pub acted_all : List Formation → List ActLine → List Name
acted_all fs [] = []
acted_all fs (a ∷ acts) = acted_by fs a ++ acted_all fs acts

acted_push : (fs : List Formation) (acts : List ActLine) (a : ActLine) → acted_all fs (acts ++ a ∷ []) ≡ acted_all fs acts ++ acted_by fs a
acted_push fs [] a = append-nil (acted_by fs a)
acted_push fs (b ∷ acts) a = ap (λ ns. acted_by fs b ++ ns) (acted_push fs acts a) ∙ sym (append_assoc (acted_by fs b) (acted_all fs acts) (acted_by fs a))

pub acted_more : (fs : List Formation) (acts : List ActLine) (i : ℕ) (a : ActLine) → i < length acts → a ≡ get_or acts i a → acted_all fs (take i acts) ++ acted_by fs a ≡ acted_all fs (take (i + 1) acts)
acted_more fs acts i a h e = sym (ap (acted_all fs) (take_more acts i a h ∙ ap (λ b. take i acts ++ b ∷ []) (sym e)) ∙ acted_push fs (take i acts) a)

-- a line without a fault: the first one is after it
pub line_later : (known : List Name) (fs : List Formation) (acts : List ActLine) (i : ℕ) (a : ActLine) (o : Option GridFault) → i < length acts → a ≡ get_or acts i a → o ≡ first_of (act_line_faults known fs (acted_all fs (take i acts)) a) → o ≡ None → first_of (act_faults known fs (acted_all fs (take i acts)) (drop i acts)) ≡ first_of (act_faults known fs (acted_all fs (take (i + 1) acts)) (drop (i + 1) acts))
line_later known fs acts i a o h e f g = grind (arith, common_steps, acted_all, take, drop-cons, drop, first_later, acted_more, add-one)

-- a line with a fault: it is the first one
pub line_here : (known : List Name) (fs : List Formation) (acts : List ActLine) (i : ℕ) (a : ActLine) (o : Option GridFault) (fault : GridFault) → i < length acts → a ≡ get_or acts i a → o ≡ first_of (act_line_faults known fs (acted_all fs (take i acts)) a) → o ≡ Some fault → first_of (act_faults known fs (acted_all fs (take i acts)) (drop i acts)) ≡ Some fault
line_here known fs acts i a o fault h e f g =
    ap (λ ls. first_of (act_faults known fs (acted_all fs (take i acts)) ls)) (drop-cons acts i a h ∙ ap (λ b. b ∷ drop (suc i) acts) (sym e))
    ∙ first_here (act_line_faults known fs (acted_all fs (take i acts)) a) (act_faults known fs (acted_all fs (take i acts) ++ acted_by fs a) (drop (suc i) acts)) fault (sym f ∙ g)

-- who has an act by a line that gives a name without a number one
pub one_other : (keys : List Name) (m : List Bool) (os new names : List Name) (fs : List Formation) (l : ActLine) (line : ℕ) (x : Name) (act : Act) (key : Name) (o : Option ℕ) → l ≡ on.One line x act → o ≡ number_in keys x → o ≡ None → new ≡ insert_key same_name os key → key ≡ x → IsActed keys m os names → IsActed keys m new (names ++ acted_by fs l)
one_other keys m os new names fs l line x act key o e f g h k a =
    subst (λ al. IsActed keys m new (names ++ acted_by fs al)) (sym e) (other_one keys m os new names x key (sym f ∙ g) h k a)

-- and one with a number
pub one_marked : (keys : List Name) (m next : List Bool) (os names : List Name) (fs : List Formation) (l : ActLine) (line : ℕ) (x : Name) (act : Act) (k : ℕ) (o : Option ℕ) → l ≡ on.One line x act → o ≡ number_in keys x → o ≡ Some k → next ≡ set m k true → IsActed keys m os names → IsActed keys next os (names ++ acted_by fs l)
one_marked keys m next os names fs l line x act k o e f g h a =
    subst (λ al. IsActed keys next os (names ++ acted_by fs al)) (sym e) (mark_one keys m next os names x k (sym f ∙ g) h a)

-- by a `form` line
pub form_marked : (keys : List Name) (m next : List Bool) (os names : List Name) (fs : List Formation) (l : ActLine) (line : ℕ) (n : Name) (smooth : Bool) (ks : List ℕ) → l ≡ on.Form line n smooth → IsPlaced keys (formation_named fs n) ks → next ≡ marked m ks → IsActed keys m os names → IsActed keys next os (names ++ acted_by fs l)
form_marked keys m next os names fs l line n smooth ks e p g a =
    subst (λ al. IsActed keys next os (names ++ acted_by fs al)) (sym e) (form_marks keys m next os names fs n ks (formation_named fs n) refl p g a)

-- Lines of a cue that stand in the order of distinct names have no fault.
use Rattle.cue_grid.proofs.Prelude.{◌≡◌, Bool, true, false, List, [], ◌∷◌, ◌++◌, append_assoc, refl, sym, subst, ◌∙◌, inl, inr, cases_Bool, ◌||◌, Name, ActLine, Formation, same_name, has_name, has_double, gives, lines_after, act_faults}
use Rattle.choreo_show.specs.declared.show.ActLine.TheVariants as on
use Rattle.cue_grid.proofs.Tables.{same_is, same_self}
use Rattle.cue_grid.proofs.Marking.{has_append}

neither : (a b : Bool) → (a || b) ≡ false → (a ≡ false) × (b ≡ false)
neither true b h = absurd (cc)
neither false b h = (refl, h)

-- two names that differ differ the other way round
other_way : (a b : Name) (t : Bool) → same_name b a ≡ t → same_name a b ≡ false → t ≡ false
other_way a b true same other = absurd (let e : same_name a b ≡ true = same_self a b (sym (same_is b a same)) in cc)
other_way a b false same other = refl

-- none of the names before one of distinct names is the same
new_name : (earlier later : List Name) (n : Name) → has_double (earlier ++ n ∷ later) ≡ false → has_name earlier n ≡ false
new_name [] later n distinct = refl
new_name (x ∷ earlier) later n distinct =
    let both = neither _ _ distinct in
    let split = neither _ _ (sym (has_append earlier (n ∷ later) x) ∙ both.0) in
    let differ = neither _ _ split.1 in
    rw (other_way x n (same_name n x) refl differ.0) (new_name earlier later n both.1)

-- who has an act stands among these names
abbrev AreAmong : List Name → List Name → Type 0
AreAmong acted names = (n : Name) → has_name acted n ≡ true → has_name names n ≡ true

by_sides : (a b c d : Bool) → (a ≡ true → c ≡ true) → (b ≡ true → d ≡ true) → (a || b) ≡ true → (c || d) ≡ true
by_sides true b c d first second is = rw (first refl) refl
by_sides false b true d first second is = refl
by_sides false b false d first second is = second is

among_more : (acted earlier more others : List Name) → AreAmong acted earlier → AreAmong more others → AreAmong (acted ++ more) (earlier ++ others)
among_more acted earlier more others first second n is =
    has_append earlier others n ∙ by_sides (has_name acted n) (has_name more n) (has_name earlier n) (has_name others n) (first n) (second n) (sym (has_append acted more n) ∙ is)

none_among : (others : List Name) → AreAmong [] others
none_among others n is = absurd (cc)

-- a line that gives a known name an act has no fault where nobody of that name has one
one_line : (all : List Name) (fs : List Formation) (acted : List Name) (a : ActLine) (acts : List ActLine) (n : Name) → gives a n ≡ true → has_name all n ≡ true → has_name acted n ≡ false
    → act_faults all fs acted (a ∷ acts) ≡ act_faults all fs (acted ++ n ∷ []) acts
one_line all fs acted (on.One line name act) acts n same known free =
    let is : name ≡ n = same_is name n same in
    rw (is, known, free) refl
one_line all fs acted (on.Form line formation smooth) acts n same known free = absurd (cc)

or_right : (a b : Bool) → b ≡ true → (a || b) ≡ true
or_right true b h = refl
or_right false b h = h

or_left : (a b : Bool) → a ≡ true → (a || b) ≡ true
or_left a b h = rw h refl

here : (earlier later : List Name) (n : Name) → has_name (earlier ++ n ∷ later) n ≡ true
here [] later n = rw (same_self n n refl) refl
here (x ∷ earlier) later n = or_right (same_name n x) (has_name (earlier ++ n ∷ later) n) (here earlier later n)

-- who has an act isn't named yet
not_among : (b : Bool) (acted earlier : List Name) (n : Name) → has_name acted n ≡ b → AreAmong acted earlier → has_name earlier n ≡ false → b ≡ false
not_among true acted earlier n h among free = absurd (let e : true ≡ false = sym (among n h) ∙ free in cc)
not_among false acted earlier n h among free = refl

-- lines that stand in the order of distinct names have no fault, where those before have the acts
in_order : (earlier ns : List Name) (fs : List Formation) (acted : List Name) (acts : List ActLine) → lines_after ns acts ≡ [] → has_double (earlier ++ ns) ≡ false → AreAmong acted earlier
    → act_faults (earlier ++ ns) fs acted acts ≡ []
in_order earlier [] fs acted acts none distinct among = rw none refl
in_order earlier (n ∷ ns) fs acted [] none distinct among = refl
in_order earlier (n ∷ ns) fs acted (a ∷ acts) none distinct among =
    let moved : (earlier ++ n ∷ []) ++ ns ≡ earlier ++ n ∷ ns = append_assoc earlier (n ∷ []) ns in
    elim (cases_Bool (gives a n)) [
      | inl is ↦
          one_line (earlier ++ n ∷ ns) fs acted a acts n is (here earlier ns n) (not_among (has_name acted n) acted earlier n refl among (new_name earlier ns n distinct))
          ∙ subst (λ all. act_faults all fs (acted ++ n ∷ []) acts ≡ []) moved
          (in_order (earlier ++ n ∷ []) ns fs (acted ++ n ∷ []) acts (rw is at none) (rw moved distinct) (among_more acted earlier (n ∷ []) (n ∷ []) among (λ m h. h)))
      | inr other ↦
          subst (λ all. act_faults all fs acted (a ∷ acts) ≡ []) moved
          (in_order (earlier ++ n ∷ []) ns fs acted (a ∷ acts) (rw other at none) (rw moved distinct) (λ m h. has_append earlier (n ∷ []) m ∙ or_left (has_name earlier m) (has_name (n ∷ []) m) (among m h)))
    ]

-- lines that stand in the order of distinct names have no fault
pub no_fault_in_order : (known : List Name) (fs : List Formation) (acts : List ActLine) → lines_after known acts ≡ [] → has_double known ≡ false → act_faults known fs [] acts ≡ []
no_fault_in_order known fs acts none distinct = in_order [] known fs [] acts none distinct (none_among [])

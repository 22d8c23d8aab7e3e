-- The fold joins groups of holds from the left.
use Rattle.traj_codec.proofs.Prelude.{common_steps, ◌≡◌, inl, inr, ℕ, ◌+◌, ◌≤◌, ◌<◌, Bool, true, false, cond, nat_le, arith, refl, sym, ap, subst, ◌∙◌, List, [], ◌∷◌, ◌++◌, append_assoc, length, length-append, map, All, flat_map, sum, nat_tests, sum_by-cons, All-nil, All-cons, All-head, All-tail, All-append, Segment, durations, is_hold, hold, most_ms, put_held, joined_from, IsGroup, one_of, first_ms, FromTheLeft, GroupLaw}

abbrev IsHold : Segment → Type 0
IsHold s = is_hold s ≡ true

-- how long the first segment of the first group lasts
abbrev first_of : List (List Segment) → ℕ
first_of [] = 0
first_of (g ∷ rest) = first_ms g

-- the first group begins with the first of the holds in front
abbrev StartsWith : List Segment → List (List Segment) → Type 0
StartsWith [] groups = Unit {0}
StartsWith (s ∷ rest) groups = first_of groups ≡ s.ms

record Groups (front segs joined : List Segment) : Type 0 where
  groups : List (List Segment)
  whole : flat_map (λ group. group) groups ≡ front ++ segs
  each : All IsGroup groups
  greedy : FromTheLeft groups
  are : joined ≡ map one_of groups
  first : StartsWith front groups

-- holds in front: their durations sum to held, which is 0 where there are none
record IsFront (front : List Segment) (held : ℕ) : Type 0 where
  each : All IsHold front
  total : sum (durations front) ≡ held
  short : held ≤ most_ms
  some : 1 ≤ length front → 1 ≤ held
  none : length front ≡ 0 → held ≡ 0

sum_end : (front : List Segment) (s : Segment) → sum (durations (front ++ s ∷ [])) ≡ sum (durations front) + s.ms
sum_end [] s = omega (arith, sum_by-cons (λ (n : ℕ). n) s.ms [])
sum_end (x ∷ front) s =
    omega (arith, sum_by-cons (λ (n : ℕ). n) x.ms (durations (front ++ s ∷ [])), sum_by-cons (λ (n : ℕ). n) x.ms (durations front), sum_end front s)

no_front : IsFront [] 0
no_front = record { each = All-nil IsHold; total = refl; short = omega arith; some = λ h. absurd (omega arith); none = λ h. refl }

one_front : (s : Segment) → IsHold s → 1 ≤ s.ms → s.ms ≤ most_ms → IsFront (s ∷ []) s.ms
one_front s is some short = grind (arith, common_steps, All-cons, All-nil, sum_by-cons)

more_front : (front : List Segment) (held : ℕ) (s : Segment) → IsFront front held → IsHold s → 1 ≤ s.ms → held + s.ms ≤ most_ms → IsFront (front ++ s ∷ []) (held + s.ms)
more_front front held s is here some short = grind (arith, common_steps, All-append, All-cons, All-nil, sum_end, length-append)

-- the holds in front are a group
front_group : (s : Segment) (front : List Segment) (held : ℕ) → IsFront (s ∷ front) held → IsGroup (s ∷ front)
front_group s front held is = inr (omega arith, is.each, subst (λ (n : ℕ). n ≤ most_ms) (sym is.total) is.short)

-- and one segment in what is joined
front_one : (s : Segment) (front : List Segment) (held : ℕ) → IsFront (s ∷ front) held → (later : List Segment) → put_held held later ≡ one_of (s ∷ front) ∷ later
front_one s front held is later = grind (arith, common_steps, All-head, cond)

single_one : (s : Segment) → is_hold s ≡ false → one_of (s ∷ []) ≡ s
single_one s is = ap (λ (b : Bool). cond b (hold (sum (durations (s ∷ [])))) s) is

not_held : (s : Segment) → is_hold s ≡ false → All IsHold (s ∷ []) → ⊥
not_held s is all = grind (arith, common_steps, All-head)

-- a segment that is no hold, before groups
before_any : (s : Segment) → is_hold s ≡ false → (groups : List (List Segment)) → FromTheLeft groups → FromTheLeft ((s ∷ []) ∷ groups)
before_any s is [] greedy = tt
before_any s is (k ∷ rest) greedy = ((λ here there. absurd (not_held s is here)), greedy)

-- ---- after the holds in front
behind : (front : List Segment) (held : ℕ) (s : Segment) (rest later : List Segment) → IsFront front held → is_hold s ≡ false →
    Groups [] rest later → Groups front (s ∷ rest) (put_held held (s ∷ later))
behind [] held s rest later is plain g =
    let e : held ≡ 0 = is.none refl in
    record {
      groups = (s ∷ []) ∷ g.groups;
      whole = ap (λ (xs : List Segment). s ∷ xs) g.whole;
      each = All-cons IsGroup (s ∷ []) g.groups (inl (s, refl, plain)) g.each;
      greedy = before_any s plain g.groups g.greedy;
      are = ap (λ (n : ℕ). put_held n (s ∷ later)) e ∙ ap (λ (xs : List Segment). s ∷ xs) g.are ∙ ap (λ (x : Segment). x ∷ map one_of g.groups) (sym (single_one s plain));
      first = tt;
    }
behind (x ∷ front) held s rest later is plain g = record {
  groups = (x ∷ front) ∷ (s ∷ []) ∷ g.groups;
  whole = ap (λ (xs : List Segment). (x ∷ front) ++ s ∷ xs) g.whole;
  each = All-cons IsGroup (x ∷ front) ((s ∷ []) ∷ g.groups) (front_group x front held is) (All-cons IsGroup (s ∷ []) g.groups (inl (s, refl, plain)) g.each);
  greedy = ((λ here there. absurd (not_held s plain there)), before_any s plain g.groups g.greedy);
  are = front_one x front held is (s ∷ later) ∙ ap (λ (xs : List Segment). one_of (x ∷ front) ∷ s ∷ xs) g.are
      ∙ ap (λ (y : Segment). one_of (x ∷ front) ∷ y ∷ map one_of g.groups) (sym (single_one s plain));
  first = refl;
}

too_long : (front : List Segment) (held : ℕ) (s : Segment) (rest later : List Segment) → IsFront front held → s.ms ≤ most_ms → most_ms < held + s.ms →
    Groups (s ∷ []) rest later → Groups front (s ∷ rest) (put_held held later)
too_long [] held s rest later is short over g = absurd (omega (arith, is.none refl, short, over))
too_long (x ∷ front) held s rest later is short over g = record {
  groups = (x ∷ front) ∷ g.groups;
  whole = ap (λ (xs : List Segment). (x ∷ front) ++ xs) g.whole;
  each = All-cons IsGroup (x ∷ front) g.groups (front_group x front held is) g.each;
  greedy = left g.groups g.first g.greedy;
  are = front_one x front held is later ∙ ap (λ (xs : List Segment). one_of (x ∷ front) ∷ xs) g.are;
  first = refl;
}
  where
    left : (groups : List (List Segment)) → first_of groups ≡ s.ms → FromTheLeft groups → FromTheLeft ((x ∷ front) ∷ groups)
    left [] starts greedy = tt
    left (k ∷ more) starts greedy = ((λ here there. omega (arith, is.total, over, starts)), greedy)

joins : (front : List Segment) (held : ℕ) (s : Segment) (rest later : List Segment) → Groups (front ++ s ∷ []) rest later → Groups front (s ∷ rest) later
joins front held s rest later g = grind (arith, common_steps, append_assoc)

le_told : (m n : ℕ) → nat_le m n ≡ true → m ≤ n
le_told m n e = grind (arith, nat_tests)

more_told : (m n : ℕ) → nat_le m n ≡ false → n < m
more_told m n e = grind (arith, nat_tests)

groups_from : (segs front : List Segment) (held : ℕ) → IsFront front held → All (λ ms. 1 ≤ ms) (durations segs) → All (λ ms. ms ≤ most_ms) (durations segs) →
    Groups front segs (joined_from held segs)
unfolding joined_from
groups_from [] [] held is some short =
    record { groups = []; whole = refl; each = All-nil IsGroup; greedy = tt; are = ap (λ (n : ℕ). put_held n []) (is.none refl); first = tt }
groups_from [] (x ∷ front) held is some short = record {
  groups = (x ∷ front) ∷ [];
  whole = refl;
  each = All-cons IsGroup (x ∷ front) [] (front_group x front held is) (All-nil IsGroup);
  greedy = tt;
  are = front_one x front held is [];
  first = refl;
}
groups_from (s ∷ rest) front held is some short =
    go (is_hold s) refl (nat_le (held + s.ms) most_ms) refl
    (λ f n h. groups_from rest f n h (All-tail (λ (ms : ℕ). 1 ≤ ms) s.ms (durations rest) some) (All-tail (λ (ms : ℕ). ms ≤ most_ms) s.ms (durations rest) short))
  where
    here : 1 ≤ s.ms
    here = All-head (λ (ms : ℕ). 1 ≤ ms) s.ms (durations rest) some

    fits : s.ms ≤ most_ms
    fits = All-head (λ (ms : ℕ). ms ≤ most_ms) s.ms (durations rest) short

    go : (b : Bool) → is_hold s ≡ b → (c : Bool) → nat_le (held + s.ms) most_ms ≡ c →
        ((f : List Segment) (n : ℕ) → IsFront f n → Groups f rest (joined_from n rest)) →
        Groups front (s ∷ rest) (cond b (cond c (joined_from (cond b (cond c (held + s.ms) s.ms) 0) rest) (put_held held (joined_from (cond b (cond c (held + s.ms) s.ms) 0) rest))) (put_held held (s ∷ joined_from (cond b (cond c (held + s.ms) s.ms) 0) rest)))
    go true hold_is true told later =
        joins front held s rest (joined_from (held + s.ms) rest) (later (front ++ s ∷ []) (held + s.ms) (more_front front held s is hold_is here (le_told (held + s.ms) most_ms told)))
    go true hold_is false told later =
        too_long front held s rest (joined_from s.ms rest) is fits (more_told (held + s.ms) most_ms told) (later (s ∷ []) s.ms (one_front s hold_is here fits))
    go false hold_is c told later = behind front held s rest (joined_from 0 rest) is hold_is (later [] 0 no_front)

pub group_law : GroupLaw
group_law segments some short =
    let g = groups_from segments [] 0 no_front some short in
    record { groups = g.groups; whole = g.whole; each = g.each; greedy = g.greedy; are = g.are }

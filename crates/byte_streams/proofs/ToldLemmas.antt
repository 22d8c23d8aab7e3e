-- What a source gave, and what it may still give.
use Rattle.byte_streams.proofs.Prelude.{◌≡◌, ℕ, Bool, true, false, List, [], ◌∷◌, ◌++◌, append_assoc, append-nil, length, length-append, drop, Option, Some, None, refl, sym, ap, ◌∙◌, subst, ◌+◌, ◌≤◌, arith, IsTrue, Consumes, Keeps, IsAtEnd, prepend_known, Gives, IsInput, Told, Went, MayGive, to_come, Took, Runs, TakesAtMost, TakesFront}
use Rattle.byte_streams.proofs.TakenLemmas.{Consumes-append, Consumes-nil}

-- ---- what was read

-- nothing was added
pub nothing : (xs ys : List ℕ) → xs ≡ xs ++ ys → ys ≡ []
nothing xs [] is = refl
nothing xs (y ∷ ys) is = absurd (omega (arith, ap length is, length-append xs (y ∷ ys)))

-- after a source that stayed as it was nothing was read
pub unread : (old new : Told) (read : List ℕ) → new ≡ old → new.given ≡ old.given ++ read → read ≡ []
unread old new read same given = nothing old.given read (sym (ap (λ (t : Told). t.given) same) ∙ given)

pub Took-none : (waits : List ℕ) (t : Told) → Took waits waits t t []
Took-none waits t = record { read = []; given = sym (append-nil t.given); wait = append-nil waits }

pub Took-trans : (a b c : List ℕ) (t u v : Told) (xs ys : List ℕ) → Took a b t u xs → Took b c u v ys → Took a c t v (xs ++ ys)
Took-trans a b c t u v xs ys p q = record {
  read = p.read ++ q.read;
  given = q.given ∙ ap (λ (g : List ℕ). g ++ q.read) p.given ∙ append_assoc t.given p.read q.read;
  wait =
      sym (append_assoc a p.read q.read) ∙ ap (λ (g : List ℕ). g ++ q.read) p.wait ∙ append_assoc xs b q.read ∙ ap (λ (g : List ℕ). xs ++ g) q.wait ∙ sym (append_assoc xs ys c);
}

-- the first of the bytes that wait are taken first
pub Took-front : (run waits : List ℕ) (t : Told) → Took (run ++ waits) waits t t run
Took-front run waits t = record { read = []; given = sym (append-nil t.given); wait = append-nil (run ++ waits) }

-- a byte and a run of those that waited were taken after others
pub Took-runs : (a b waited waits before after : List ℕ) (t u v : Told) (byte : ℕ) → Took a b t u before → Took b waited u v (byte ∷ []) → Runs waited waits before after byte → Took a waits t v after
Took-runs a b waited waits before after t u v byte had one runs =
    let mid : Took waited waits v v runs.run = rw runs.wait (Took-front runs.run waits v) in
    rw runs.put (Took-trans a b waits t u v before (byte ∷ runs.run) had (Took-trans b waited waits u v v (byte ∷ []) runs.run one mid))

-- ---- a reader and its source

pub Gives-none : (t u : Told) → u ≡ t → Gives t u
Gives-none t u same = rw same (record { bytes = []; given = sym (append-nil t.given); left = Consumes-nil t.left; at_end = λ end. end; later = omega arith })

pub Gives-trans : (t u v : Told) → Gives t u → Gives u v → Gives t v
Gives-trans t u v p q = record {
  bytes = p.bytes ++ q.bytes;
  given = q.given ∙ ap (λ (g : List ℕ). g ++ q.bytes) p.given ∙ append_assoc t.given p.bytes q.bytes;
  left = Consumes-append t.left u.left v.left p.bytes q.bytes p.left q.left;
  at_end = λ end. q.at_end (p.at_end end);
  later = omega (arith, p.later, q.later);
}

pub Went-none : (met meets : Bool) (t : Told) → meets ≡ met → (IsTrue met → IsTrue t.ended) → Went met meets t t
Went-none met meets t same at_end = record { gives = Gives-none t t refl; at_end = rw same at_end; stays = rw same (λ is. (is, refl)) }

pub Went-trans : (a b c : Bool) (t u v : Told) → Went a b t u → Went b c u v → Went a c t v
Went-trans a b c t u v p q = record {
  gives = Gives-trans t u v p.gives q.gives;
  at_end = q.at_end;
  stays = λ is. (let first = p.stays is in let then = q.stays first.0 in (then.0, then.1 ∙ first.1));
}

-- ---- what may still come

pub back : (met meets : Bool) (t u : Told) (all : List ℕ) → Went met meets t u → MayGive meets u all → MayGive met t all
back met meets t u all w m = record {
  rest = w.gives.bytes ++ m.rest;
  is = m.is ∙ ap (λ (g : List ℕ). g ++ m.rest) w.gives.given ∙ append_assoc t.given w.gives.bytes m.rest;
  none = λ is. (let stays = w.stays is in rw (unread t u w.gives.bytes stays.1 w.gives.given, m.none stays.0) refl);
}

dropped : (xs ys : List ℕ) → drop (length xs) (xs ++ ys) ≡ ys
dropped [] ys = refl
dropped (x ∷ xs) ys = dropped xs ys

pub comes : (t : Told) (all rest : List ℕ) → all ≡ t.given ++ rest → drop (length t.given) all ≡ rest
comes t all rest is = rw is (dropped t.given rest)

pub comes_before : (met : Bool) (t u : Told) (all read : List ℕ) (m : MayGive met u all) → u.given ≡ t.given ++ read → drop (length t.given) all ≡ read ++ m.rest
comes_before met t u all read m given = comes t all (read ++ m.rest) (m.is ∙ ap (λ (g : List ℕ). g ++ m.rest) given ∙ append_assoc t.given read m.rest)

-- what was taken of the bytes that waited and were read was taken of those to come
pub consumed : (met : Bool) (t u : Told) (all waited waits taken : List ℕ) → Took waited waits t u taken → MayGive met u all → Consumes (prepend_known waited (to_come all t)) (prepend_known waits (to_come all u)) taken
consumed met t u all waited waits taken p m =
    rw (comes_before met t u all p.read m p.given, comes u all m.rest m.is)
    (sym (append_assoc waited p.read m.rest) ∙ ap (λ (g : List ℕ). g ++ m.rest) p.wait ∙ append_assoc taken waits m.rest)

-- none of them was taken
pub kept : (met : Bool) (t u : Told) (all waited waits : List ℕ) → Took waited waits t u [] → MayGive met u all → Keeps (prepend_known waited (to_come all t)) (prepend_known waits (to_come all u))
kept met t u all waited waits p m =
    rw (comes_before met t u all p.read m p.given, comes u all m.rest m.is)
    (ap (λ (g : List ℕ). g ++ m.rest) (sym p.wait) ∙ append_assoc waited p.read m.rest)

-- a reader that has met the end has a source that gives no more
pub at_its_end : (met : Bool) (t : Told) (all : List ℕ) → MayGive met t all → IsTrue met → IsAtEnd (to_come all t)
at_its_end met t all m is = rw (comes t all m.rest m.is) (m.none is)

-- nor is anything to come where none waits
pub nothing_comes : (met : Bool) (t : Told) (all waits : List ℕ) → MayGive met t all → IsTrue met → waits ≡ [] → IsAtEnd (prepend_known waits (to_come all t))
nothing_comes met t all waits m is none = rw (none, comes t all m.rest m.is) (m.none is)

-- where a reader meets the end and holds nothing, nothing was to come before
pub nothing_before : (met : Bool) (t u : Told) (all waited waits : List ℕ) (taken : List ℕ) → Took waited waits t u taken → taken ≡ [] → MayGive met u all → IsTrue met → waits ≡ [] → IsAtEnd (prepend_known waited (to_come all t))
nothing_before met t u all waited waits taken p nil m is none =
    let before = consumed met t u all waited waits taken p m in
    let after = nothing_comes met u all waits m is none in
    before ∙ rw nil after

-- what was taken before a read that gave nothing
pub took_alone : (a b c : List ℕ) (t u v : Told) (bytes : List ℕ) → Took a b t u bytes → Took b c u v [] → c ≡ [] → Took a [] t v bytes
took_alone a b c t u v bytes p q none = subst (λ (ws : List ℕ). Took a ws t v bytes) none (subst (λ (xs : List ℕ). Took a c t v xs) (append-nil bytes) (Took-trans a b c t u v bytes [] p q))

-- a source that has met its end gives no more to its reader
pub of_source : (met : Bool) (t : Told) (all : List ℕ) → (IsTrue met → IsTrue t.ended) → IsInput t all → MayGive met t all
of_source met t all at_end m = record { rest = m.rest; is = m.is; none = λ is. m.none (at_end is) }

-- all that a source gave until now may be all that it gives
pub IsInput-now : (t : Told) → IsInput t t.given
IsInput-now t = record { rest = []; is = sym (append-nil t.given); none = λ _. refl }

-- what was given in between comes first
pub gives_of : (met : Bool) (t u : Told) (all : List ℕ) (w : Gives t u) → (m : MayGive met u all) → (drop (length t.given) all ≡ w.bytes ++ m.rest) × (drop (length u.given) all ≡ m.rest)
gives_of met t u all w m = (comes_before met t u all w.bytes m w.given, comes u all m.rest m.is)

-- so it was taken of what was to come
pub takes_front : (met : Bool) (t u : Told) (all : List ℕ) → Gives t u → MayGive met u all → TakesFront (to_come all t) (to_come all u)
takes_front met t u all w m = let is = gives_of met t u all w m in (w.bytes, rw is.1 is.0)

-- where a source gave few bytes, few were taken
pub takes_at_most : (met : Bool) (t u : Told) (all : List ℕ) (most : ℕ) → Gives t u → MayGive met u all → length u.given ≤ length t.given + most → TakesAtMost most (to_come all t) (to_come all u)
takes_at_most met t u all most w m few =
    let is = gives_of met t u all w m in
    omega (arith, ap length is.0, ap length is.1, length-append w.bytes m.rest, ap length w.given, length-append t.given w.bytes, few)

-- the bytes that a source has left are known, where they were
record HasLeft (given bytes : List ℕ) (left : Option (List ℕ)) : Type 0 where
  rest : List ℕ
  is : left ≡ Some rest
  all : bytes ≡ given ++ rest

has_left : (old new : Option (List ℕ)) (given bytes : List ℕ) → Consumes old new given → old ≡ Some bytes → HasLeft given bytes new
has_left None new given bytes took told = absurd (cc)
has_left (Some xs) None given bytes took told = absurd took
has_left (Some xs) (Some ys) given bytes took told = let same : xs ≡ bytes = cc in record { rest = ys; is = refl; all = sym same ∙ took }

-- A source that tells its bytes gives these and no others: what holds on each input holds on them.
pub told_input : (t u : Told) (bytes : List ℕ) → Gives t u → t.left ≡ Some bytes → (IsTrue t.ended → IsAtEnd t.left) → IsInput u (t.given ++ bytes)
told_input t u bytes w told at_end =
    let has = has_left t.left u.left w.bytes bytes w.left told in
    record {
      rest = has.rest;
      is = ap (λ (xs : List ℕ). t.given ++ xs) has.all ∙ sym (append_assoc t.given w.bytes has.rest) ∙ ap (λ (g : List ℕ). g ++ has.rest) (sym w.given);
      none = λ is. subst (λ (left : Option (List ℕ)). IsAtEnd left) has.is (w.at_end at_end is);
    }

pub told_to_come : (t : Told) (bytes : List ℕ) → to_come (t.given ++ bytes) t ≡ Some bytes
told_to_come t bytes = ap Some (dropped t.given bytes)

-- a source that exposes its input has, of all that it ever gives, this left at the end
pub left_to_come : (t u : Told) (bytes : List ℕ) → Gives t u → t.left ≡ Some bytes → to_come (t.given ++ bytes) u ≡ u.left
left_to_come t u bytes w told =
    let has = has_left t.left u.left w.bytes bytes w.left told in
    ap Some (comes u (t.given ++ bytes) has.rest (ap (λ (xs : List ℕ). t.given ++ xs) has.all ∙ sym (append_assoc t.given w.bytes has.rest) ∙ ap (λ (g : List ℕ). g ++ has.rest) (sym w.given)))
    ∙ sym has.is

-- ---- where the end was met

met_unless : (b : Bool) → (b ≡ false → ⊥) → IsTrue b
met_unless true never = refl
met_unless false never = absurd (never refl)

-- If nothing is left of any input that a source may have, it has met its end: else a byte might still come.
pub met_end : (u : Told) → ((all : List ℕ) → IsInput u all → to_come all u ≡ Some []) → IsTrue u.ended
met_end u none = met_unless u.ended (λ off.
    let more : IsInput u (u.given ++ 0 ∷ []) = record { rest = 0 ∷ []; is = refl; none = λ on. absurd (let e : true ≡ false = sym on ∙ off in cc) } in
    let one : Some (0 ∷ []) ≡ Some [] = sym (ap Some (comes u (u.given ++ 0 ∷ []) (0 ∷ []) refl)) ∙ none (u.given ++ 0 ∷ []) more in
    absurd cc)

-- What is carried from item to item, and how it ends.
use Rattle.link_dialogue.proofs.Prelude.{Bool, List, None, Option, Some, [], ap, append-nil, append_assoc, arith, false, inl, inr, length, length-append, refl, sym, take, drop, Result, ℕ, ◌++◌, ◌+◌, ◌<◌, ◌∙◌, ◌∷◌, ◌≡◌, ◌≤◌, length_push, take-append-drop, take_at, All-head, All-nil, All-push, Appends, Consumes, IsAtEnd, prepend_known, All, ◌==◌, Appends-append, buffer_bytes, AppendsFront, Told, Took, BeginsNone, BeginsWith, Dialogue, EndsGoing, IsDialogue, StaysPrompt, StopsAtEnd, Takes, item_limit, items_bytes, Breaks, Ends, Fails, IsFaulty}
use Rattle.byte_streams.proofs.TakenLemmas.{Consumes-append, Consumes-nil}
use Rattle.link_dialogue.specs.Machines.{CarryEnds, CarryGives, TakesItem}
use Rattle.link_dialogue.specs.declared.driver.Broken.{Broken}
use Rattle.link_dialogue.proofs.ItemLemmas.{All-later, BeginsWith-trans, Takes-none, at_some, bytes-push, compare, front_more, going-push, grown, left_of, less_or_not, not_full, same_front, when_some}
use Rattle.link_dialogue.proofs.EndLemmas.{some}

-- ---- from item to item

-- Of the bytes to come these items were taken, and what they lead to was sent. The dialogue went on before each of them,
-- and it goes on; and so the items stand.
pub record Carries (t : Dialogue) (stream now old new : Option (List ℕ)) (n : ℕ) (Stands : List t.Item → Type 0) : Type 0 where
  pub items : List t.Item
  pub each : All t.IsItem items
  pub counted : length items ≡ n
  pub before : (k : ℕ) → k < length items → t.ended (take k items) ≡ None
  pub going : t.ended items ≡ None
  pub taken : Consumes stream now (items_bytes t items)
  pub sent : Appends old new (t.sent items)
  pub stands : Stands items

-- before any item
pub Carries-none : (t : Dialogue) (stream old new : Option (List ℕ)) (Stands : List t.Item → Type 0) → Stands [] → t.ended [] ≡ None → Appends old new (t.sent []) → Carries t stream stream old new 0 Stands
Carries-none t stream old new Stands stands going sent = record {
  items = [];
  each = All-nil t.IsItem;
  counted = refl;
  before = λ k below. absurd (omega (arith, below));
  going = going;
  taken = Consumes-nil stream;
  sent = sent;
  stands = stands;
}

-- what is told of an item that was taken, in other words
pub moved : (t : Dialogue) (Stands Next : List t.Item → Type 0) (Taken Now : List ℕ → Type 0) (items : List t.Item) (p : Option ℕ) (answer : List ℕ) → ((later : List t.Item) → Stands later → Next later) →
    ((whole : List ℕ) → Taken whole → Now whole) → TakesItem t Stands Taken items p answer → TakesItem t Next Now items p answer
moved t Stands Next Taken Now items p answer next now took = record {
  item = took.item;
  formed = took.formed;
  taken = now (t.bytes took.item) took.taken;
  stands = next (items ++ took.item ∷ []) took.stands;
  ended = took.ended;
  sends = took.sends;
}

-- the first of the bytes that wait are taken
pub took_front : (waiting waits : List ℕ) (size : ℕ) (s : Told) → waits ≡ drop size waiting → Took waiting waits s s (take size waiting)
took_front waiting waits size s is = record {
  read = [];
  given = sym (append-nil s.given);
  wait = append-nil waiting ∙ sym (take-append-drop size waiting) ∙ ap (λ (l : List ℕ). take size waiting ++ l) (sym is);
}

sent_more : (t : Dialogue) (old mid new a b : Option (List ℕ)) (xs : List t.Item) (Next : List t.Item → Type 0) (p : Option ℕ) (answer : List ℕ) (took : TakesItem t Next (Consumes a b) xs p answer) →
    Appends old mid (t.sent xs) → Appends mid new answer → Appends old new (t.sent (xs ++ took.item ∷ []))
sent_more t old mid new a b xs Next p answer took before now = rw took.sends (Appends-append old mid new _ _ before now)

taken_more : (t : Dialogue) (stream mid now : Option (List ℕ)) (xs : List t.Item) (Next : List t.Item → Type 0) (p : Option ℕ) (answer : List ℕ) (took : TakesItem t Next (Consumes mid now) xs p answer) →
    Consumes stream mid (items_bytes t xs) → Consumes stream now (items_bytes t (xs ++ took.item ∷ []))
taken_more t stream mid now xs Next p answer took before = rw (bytes-push t xs took.item) (Consumes-append stream mid now _ _ before took.taken)

-- one item more, after which the dialogue goes on
pub Carries-push : (t : Dialogue) (stream mid now old sent new : Option (List ℕ)) (n m : ℕ) (Stands Next : List t.Item → Type 0) (c : Carries t stream mid old sent n Stands) (p : Option ℕ) (answer : List ℕ) →
    TakesItem t Next (Consumes mid now) c.items p answer → Appends sent new answer → m ≡ n + 1 → p ≡ None → Carries t stream now old new m Next
Carries-push t stream mid now old sent new n m Stands Next c p answer took out count going = record {
  items = c.items ++ took.item ∷ [];
  each = All-push t.IsItem c.items took.item c.each took.formed;
  counted = omega (arith, length_push c.items took.item, c.counted, count);
  before = going-push t c.items took.item c.before c.going;
  going = sym took.ended ∙ going;
  taken = taken_more t stream mid now c.items Next p answer took c.taken;
  sent = sent_more t old sent new mid now c.items Next p answer took c.sent out;
  stands = took.stands;
}

takes_of : (t : Dialogue) (stream now old new : Option (List ℕ)) (n : ℕ) (Stands : List t.Item → Type 0) (c : Carries t stream now old new n Stands) (bytes rest : List ℕ) → n ≤ item_limit →
    bytes ≡ items_bytes t c.items ++ rest → Takes t bytes c.items rest
takes_of t stream now old new n Stands c bytes rest few cut = record { cut = cut; each = c.each; few = omega (arith, c.counted, few); going = c.before }

-- of known bytes what was taken with one item more
takes_more : (t : Dialogue) (stream mid now old sent : Option (List ℕ)) (n : ℕ) (Stands Next : List t.Item → Type 0) (c : Carries t stream mid old sent n Stands) (p : Option ℕ) (answer : List ℕ)
    (took : TakesItem t Next (Consumes mid now) c.items p answer) → n < item_limit → (bytes : List ℕ) → stream ≡ Some bytes → (rest : List ℕ) × Takes t bytes (c.items ++ took.item ∷ []) rest
takes_more t stream mid now old sent n Stands Next c p answer took few bytes known =
    let left = left_of bytes (items_bytes t (c.items ++ took.item ∷ [])) now (rw known at (taken_more t stream mid now c.items Next p answer took c.taken)) in (
      left.0,
      record {
        cut = left.2;
        each = All-push t.IsItem c.items took.item c.each took.formed;
        few = omega (arith, length_push c.items took.item, c.counted, few);
        going = going-push t c.items took.item c.before c.going;
      },
    )

-- ---- how it ends

-- it ends where it goes on
end_going : (t : Dialogue) (stream now old new : Option (List ℕ)) (n : ℕ) (Stands : List t.Item → Type 0) (c : Carries t stream now old new n Stands) (status : ℕ) → n ≤ item_limit →
    ((rest : List ℕ) → now ≡ Some rest → EndsGoing t (length c.items == item_limit) rest status) → Ends t status stream old new
end_going t stream now old new n Stands c status few ends = when_some _ stream (λ bytes known.
    let left = left_of bytes (items_bytes t c.items) now (rw known at c.taken) in
    (c.items, left.0, takes_of t stream now old new n Stands c bytes left.0 few left.2, rw c.going (ends left.0 left.1), c.sent))

pub end_none : (t : Dialogue) (stream now old new : Option (List ℕ)) (n : ℕ) (Stands : List t.Item → Type 0) → Carries t stream now old new n Stands → n < item_limit → IsAtEnd now → Ends t 8 stream old new
end_none t stream now old new n Stands c few at_end = end_going t stream now old new n Stands c 8 (omega (arith, few)) (λ rest known.
    let none : rest ≡ [] = rw known at at_end in rw (none, not_full (length c.items) (omega (arith, c.counted, few))) refl)

faulty_end : (t : Dialogue) (full : Bool) (rest : List ℕ) → full ≡ false → 1 ≤ length rest → BeginsNone t rest → EndsGoing t full rest 11
faulty_end t full [] e l none = absurd (omega (arith, l))
faulty_end t full (c ∷ rest) e l none = rw e (refl, none)

pub end_faulty : (t : Dialogue) (stream now old new : Option (List ℕ)) (n : ℕ) (Stands : List t.Item → Type 0) → Carries t stream now old new n Stands → n < item_limit → IsFaulty (BeginsNone t) now → Ends t 11 stream old new
end_faulty t stream now old new n Stands c few faulty = end_going t stream now old new n Stands c 11 (omega (arith, few)) (λ rest known.
    let h = at_some _ now rest known faulty in
    faulty_end t (length c.items == item_limit) rest (not_full (length c.items) (omega (arith, c.counted, few))) h.0 h.1)

pub end_full : (t : Dialogue) (stream now old new : Option (List ℕ)) (n : ℕ) (Stands : List t.Item → Type 0) → Carries t stream now old new n Stands → n ≡ item_limit → Ends t 13 stream old new
end_full t stream now old new n Stands c full = end_going t stream now old new n Stands c 13 (omega (arith, full)) (λ rest known.
    let is : length c.items ≡ item_limit = c.counted ∙ full in rw is refl)

-- it ends with the answer to one item more
pub end_answered : (t : Dialogue) (stream mid now old sent new : Option (List ℕ)) (n : ℕ) (Stands Next : List t.Item → Type 0) (c : Carries t stream mid old sent n Stands) (p : Option ℕ) (answer : List ℕ) →
    TakesItem t Next (Consumes mid now) c.items p answer → n < item_limit → Appends sent new answer → (status : ℕ) → p ≡ Some status → Ends t status stream old new
end_answered t stream mid now old sent new n Stands Next c p answer took few out status is = when_some _ stream (λ bytes known.
    let more = takes_more t stream mid now old sent n Stands Next c p answer took few bytes known in
    let ends : t.ended (c.items ++ took.item ∷ []) ≡ Some status = sym took.ended ∙ is in
    (c.items ++ took.item ∷ [], more.0, more.1, rw ends refl, sent_more t old sent new mid now c.items Next p answer took c.sent out))

-- a read failed
pub fails : (t : Dialogue) (stream now left old new : Option (List ℕ)) (n : ℕ) (Stands : List t.Item → Type 0) → Carries t stream now old new n Stands → n < item_limit → (begun : List ℕ) → t.IsBegun begun →
    Consumes now left begun → Fails t stream left old new
fails t stream now left old new n Stands c few begun is taken = when_some _ stream (λ bytes known. (
  items_bytes t c.items ++ begun,
  c.items,
  begun,
  Consumes-append stream now left (items_bytes t c.items) begun c.taken taken,
  takes_of t stream now old new n Stands c (items_bytes t c.items ++ begun) begun (omega (arith, few)) refl,
  omega (arith, c.counted, few),
  c.going,
  is,
  c.sent,
))

-- ---- a write failed

pub breaks_first : (t : Dialogue) → IsDialogue t → (stream old new : Option (List ℕ)) → AppendsFront old new (t.sent []) → Breaks t stream old new
breaks_first t law stream old new front = when_some _ stream (λ bytes known.
    let c = some t law bytes bytes [] (Takes-none t bytes) in
    (c.1, (front.0, front.1 ++ c.3.0, c.3.1 ∙ ap (λ (l : List ℕ). l ++ c.3.0) front.2 ∙ append_assoc front.0 front.1 c.3.0, front.3), (c.0, c.2)))

pub breaks : (t : Dialogue) → IsDialogue t → (stream mid now old sent new : Option (List ℕ)) (n : ℕ) (Stands Next : List t.Item → Type 0) (c : Carries t stream mid old sent n Stands) (p : Option ℕ) (answer : List ℕ) →
    TakesItem t Next (Consumes mid now) c.items p answer → n < item_limit → AppendsFront sent new answer → Breaks t stream old new
breaks t law stream mid now old sent new n Stands Next c p answer took few front = when_some _ stream (λ bytes known.
    let more = takes_more t stream mid now old sent n Stands Next c p answer took few bytes known in
    let come = some t law bytes more.0 (c.items ++ took.item ∷ []) more.1 in
    (come.1, front_more old sent new _ _ come.1 c.sent front (rw took.sends at come.3), (come.0, come.2)))

-- ---- no answer waits

-- No item stands at the front of what is left and has more after it than may wait.
abbrev pub IsShort : Dialogue → Option (List ℕ) → Option (List ℕ) → Type 0
IsShort t now left = (rest unread : List ℕ) → now ≡ Some rest → left ≡ Some unread → (j : t.Item) (more : List ℕ) → t.IsItem j → buffer_bytes + length unread < length more →
    rest ≡ t.bytes j ++ more → ⊥

prompt_by : (t : Dialogue) → IsDialogue t → (xs ys : List t.Item) (rest unread taken sent tail : List ℕ) → All t.IsItem xs → taken ++ unread ≡ items_bytes t xs ++ rest →
    BeginsWith (t.sent xs) sent → ((j : t.Item) (more : List ℕ) → t.IsItem j → buffer_bytes + length unread < length more → rest ≡ t.bytes j ++ more → ⊥) →
    All t.IsItem ys → taken ≡ items_bytes t ys ++ tail → buffer_bytes < length tail → BeginsWith (t.sent ys) sent
prompt_by t law xs ys rest unread taken sent tail each all began none formed cut long =
    let both : items_bytes t ys ++ (tail ++ unread) ≡ items_bytes t xs ++ rest = sym (ap (λ (l : List ℕ). l ++ unread) cut ∙ append_assoc (items_bytes t ys) tail unread) ∙ all in
    elim (compare t law ys xs (tail ++ unread) rest formed each both) [
      | inl p ↦ BeginsWith-trans _ _ _ (rw (← p.1) at (law.front ys p.0)) began
      | inr p ↦ later p.0 p.1 p.2
    ]
  where
    later : (more : List t.Item) → ys ≡ xs ++ more → rest ≡ items_bytes t more ++ (tail ++ unread) → BeginsWith (t.sent ys) sent
    later [] is left = let same : ys ≡ xs = is ∙ append-nil xs in rw same began
    later (j ∷ more) is left =
        absurd (none j (items_bytes t more ++ (tail ++ unread)) (All-head t.IsItem j more (All-later t xs (j ∷ more) (rw is at formed)))
        (omega (arith, long, length-append tail unread, length-append (items_bytes t more) (tail ++ unread))) (left ∙ append_assoc (t.bytes j) (items_bytes t more) (tail ++ unread)))

-- what was sent for items is prompt where what is left is short
pub prompt : (t : Dialogue) → IsDialogue t → (stream now left old new : Option (List ℕ)) (xs : List t.Item) (output : List ℕ) → All t.IsItem xs → Consumes stream now (items_bytes t xs) →
    Appends old new output → BeginsWith (t.sent xs) output → IsShort t now left → StaysPrompt t stream left old new
prompt t law stream now left old new xs output each taken_so sent_so began is_short bytes unread before taken sent known_bytes known_left cut known_before known_sent ys tail formed cut_so long =
    let l = left_of bytes (items_bytes t xs) now (rw known_bytes at taken_so) in
    let sent_is : output ≡ sent = same_front before output sent (sym (grown before (before ++ sent) output old new known_before known_sent sent_so)) in
    prompt_by t law xs ys l.0 unread taken sent tail each (sym cut ∙ l.2) (rw sent_is at began) (is_short l.0 unread l.1 known_left) formed cut_so long

pub prompt_carried : (t : Dialogue) → IsDialogue t → (stream now left old new : Option (List ℕ)) (n : ℕ) (Stands : List t.Item → Type 0) → Carries t stream now old new n Stands → IsShort t now left → StaysPrompt t stream left old new
prompt_carried t law stream now left old new n Stands c is_short = prompt t law stream now left old new c.items _ c.each c.taken c.sent ([], sym (append-nil _)) is_short

pub prompt_answered : (t : Dialogue) → IsDialogue t → (stream mid now left old sent new : Option (List ℕ)) (n : ℕ) (Stands Next : List t.Item → Type 0) (c : Carries t stream mid old sent n Stands) (p : Option ℕ) (answer : List ℕ) →
    TakesItem t Next (Consumes mid now) c.items p answer → Appends sent new answer → IsShort t now left → StaysPrompt t stream left old new
prompt_answered t law stream mid now left old sent new n Stands Next c p answer took out is_short =
    prompt t law stream now left old new (c.items ++ took.item ∷ []) (t.sent (c.items ++ took.item ∷ [])) (All-push t.IsItem c.items took.item c.each took.formed)
    (taken_more t stream mid now c.items Next p answer took c.taken) (sent_more t old sent new mid now c.items Next p answer took c.sent out) ([], sym (append-nil _)) is_short

pub prompt_broken : (t : Dialogue) → IsDialogue t → (stream mid left old sent new : Option (List ℕ)) (n : ℕ) (Stands : List t.Item → Type 0) (bytes : List ℕ) → Carries t stream mid old sent n Stands →
    AppendsFront sent new bytes → IsShort t mid left → StaysPrompt t stream left old new
prompt_broken t law stream mid left old sent new n Stands bytes c front is_short =
    prompt t law stream mid left old new c.items (t.sent c.items ++ front.0) c.each c.taken (Appends-append old sent new _ _ c.sent front.3) (front.0, refl) is_short

-- before any item no more was taken than waited
pub prompt_first : (t : Dialogue) (waiting : List ℕ) (left old new : Option (List ℕ)) → length waiting ≤ buffer_bytes → StaysPrompt t (prepend_known waiting left) left old new
prompt_first t waiting None old new few bytes unread before taken sent known_bytes known_left cut known_before known_sent ys tail formed cut_so long = absurd (cc)
prompt_first t waiting (Some xs) old new few bytes unread before taken sent known_bytes known_left cut known_before known_sent ys tail formed cut_so long =
    let e : xs ≡ unread = cc in
    let b : waiting ++ xs ≡ bytes = cc in
    absurd (omega (
      arith,
      few,
      long,
      length-append waiting xs,
      length-append taken unread,
      length-append (items_bytes t ys) tail,
      ap (λ (l : List ℕ). length l) b,
      ap (λ (l : List ℕ). length l) cut,
      ap (λ (l : List ℕ). length l) cut_so,
      ap (λ (l : List ℕ). length l) e,
    ))

-- ---- what is short

-- at most this many bytes wait
pub short_waiting : (t : Dialogue) (waiting : List ℕ) (left : Option (List ℕ)) → length waiting ≤ buffer_bytes → IsShort t (prepend_known waiting left) left
short_waiting t waiting None few rest unread known known_left j more formed long is = absurd (cc)
short_waiting t waiting (Some xs) few rest unread known known_left j more formed long is =
    let e : xs ≡ unread = cc in
    let r : waiting ++ xs ≡ rest = cc in
    omega (arith, long, few, length-append waiting xs, length-append (t.bytes j) more, ap (λ (l : List ℕ). length l) r, ap (λ (l : List ℕ). length l) is, ap (λ (l : List ℕ). length l) e)

-- one item stands before those
pub short_item : (t : Dialogue) → IsDialogue t → (mid : Option (List ℕ)) (waiting : List ℕ) (left : Option (List ℕ)) (i : t.Item) → t.IsItem i → length waiting ≤ buffer_bytes →
    Consumes mid (prepend_known waiting left) (t.bytes i) → IsShort t mid left
short_item t law None waiting left i is_i few taken rest unread known known_left j more formed long is = absurd (cc)
short_item t law (Some xs) waiting None i is_i few taken rest unread known known_left j more formed long is = absurd taken
short_item t law (Some xs) waiting (Some ys) i is_i few taken rest unread known known_left j more formed long is =
    let e : ys ≡ unread = cc in
    let r : xs ≡ rest = cc in
    let same = law.step i j (waiting ++ ys) more is_i formed (sym taken ∙ r ∙ is) in
    omega (arith, long, few, length-append waiting ys, ap (λ (l : List ℕ). length l) same.1, ap (λ (l : List ℕ). length l) e)

-- nothing is left
pub short_end : (t : Dialogue) → IsDialogue t → (now left : Option (List ℕ)) → IsAtEnd now → IsShort t now left
short_end t law None left at_end rest unread known known_left j more formed long is = absurd (cc)
short_end t law (Some xs) left at_end rest unread known known_left j more formed long is =
    let r : xs ≡ rest = cc in
    omega (arith, long, length-append (t.bytes j) more, ap (λ (l : List ℕ). length l) (sym at_end ∙ r ∙ is), law.some j)

-- what is left begins with no item
pub short_faulty : (t : Dialogue) (now left : Option (List ℕ)) → IsFaulty (BeginsNone t) now → IsShort t now left
short_faulty t None left faulty rest unread known known_left j more formed long is = absurd (cc)
short_faulty t (Some xs) left faulty rest unread known known_left j more formed long is =
    let r : xs ≡ rest = cc in faulty.1 j more formed (r ∙ is)

-- less than an item was taken of what is left
pub short_begun : (t : Dialogue) → IsDialogue t → (now left : Option (List ℕ)) (begun : List ℕ) → t.IsBegun begun → Consumes now left begun → IsShort t now left
short_begun t law None left begun b taken rest unread known known_left j more formed long is = absurd (cc)
short_begun t law (Some xs) None begun b taken rest unread known known_left j more formed long is = absurd taken
short_begun t law (Some xs) (Some ys) begun b taken rest unread known known_left j more formed long is =
    let e : ys ≡ unread = cc in
    let r : xs ≡ rest = cc in
    omega (arith, long, law.short begun b, length-append begun ys, length-append (t.bytes j) more, ap (λ (l : List ℕ). length l) (sym taken ∙ r ∙ is), ap (λ (l : List ℕ). length l) e)

-- ---- no more is read after the end

-- Where the dialogue goes on after these items, items with which it is over are these and more, or they are as many as
-- are taken; and what stands after them is no longer than what may wait.
pub stops : (t : Dialogue) → IsDialogue t → (stream now left old new : Option (List ℕ)) (n : ℕ) (Stands : List t.Item → Type 0) → Carries t stream now old new n Stands → n ≤ item_limit → IsShort t now left →
    (n ≡ item_limit → (rest unread : List ℕ) → now ≡ Some rest → left ≡ Some unread → length rest ≤ length unread + buffer_bytes) → StopsAtEnd t stream left
stops t law stream now left old new n Stands c few is_short at_limit bytes unread ys rest known known_left took over =
    let l = left_of bytes (items_bytes t c.items) now (rw known at c.taken) in
    elim (compare t law c.items ys l.0 rest c.each took.each (sym l.2 ∙ took.cut)) [
      | inl p ↦ later l.0 l.1 p.0 p.1 p.2
      | inr p ↦ earlier l.0 l.1 p.0 p.1 p.2
    ]
  where
    -- the dialogue goes on after them, so they are as many as are taken
    same : (after : List ℕ) → now ≡ Some after → ys ≡ c.items → after ≡ rest → length rest ≤ length unread + buffer_bytes
    same after known_now is left_is = elim over [
      | inl ends ↦ absurd (ends (rw is c.going))
      | inr full ↦ rw (← left_is) (at_limit (sym c.counted ∙ ap (λ (xs : List t.Item). length xs) (sym is) ∙ full) after unread known_now known_left)
    ]

    later : (after : List ℕ) → now ≡ Some after → (more : List t.Item) → ys ≡ c.items ++ more → after ≡ items_bytes t more ++ rest → length rest ≤ length unread + buffer_bytes
    later after known_now [] is left_is = same after known_now (is ∙ append-nil c.items) left_is
    later after known_now (j ∷ more) is left_is = elim (less_or_not (buffer_bytes + length unread) (length (items_bytes t more ++ rest))) [
      | inl long ↦ absurd (is_short after unread known_now known_left j (items_bytes t more ++ rest) (All-head t.IsItem j more (All-later t c.items (j ∷ more) (rw is at took.each))) long
          (left_is ∙ append_assoc (t.bytes j) (items_bytes t more) rest))
      | inr short_rest ↦ omega (arith, short_rest, length-append (items_bytes t more) rest)
    ]

    earlier : (after : List ℕ) → now ≡ Some after → (more : List t.Item) → c.items ≡ ys ++ more → rest ≡ items_bytes t more ++ after → length rest ≤ length unread + buffer_bytes
    earlier after known_now [] is rest_is = same after known_now (sym (is ∙ append-nil ys)) (sym rest_is)
    earlier after known_now (m ∷ more) is rest_is =
        let counted : length c.items ≡ length ys + length (m ∷ more) = ap (λ (xs : List t.Item). length xs) is ∙ length-append ys (m ∷ more) in
        let front : take (length ys) c.items ≡ ys = ap (λ (xs : List t.Item). take (length ys) xs) is ∙ take_at ys (m ∷ more) (length ys) refl in
        elim over [
          | inl ends ↦ absurd (ends (rw front at (c.before (length ys) (omega (arith, counted)))))
          | inr full ↦ absurd (omega (arith, full, counted, c.counted, few))
        ]

-- the same before as many items as are taken
pub stops_before : (t : Dialogue) → IsDialogue t → (stream now left old new : Option (List ℕ)) (n : ℕ) (Stands : List t.Item → Type 0) → Carries t stream now old new n Stands → n < item_limit → IsShort t now left → StopsAtEnd t stream left
stops_before t law stream now left old new n Stands c few is_short =
    stops t law stream now left old new n Stands c (omega (arith, few)) is_short (λ full rest unread known known_left. absurd (omega (arith, few, full)))

-- the same with what waits
pub stops_waiting : (t : Dialogue) → IsDialogue t → (stream old new : Option (List ℕ)) (waiting : List ℕ) (left : Option (List ℕ)) (n : ℕ) (Stands : List t.Item → Type 0) → Carries t stream (prepend_known waiting left) old new n Stands →
    n ≤ item_limit → length waiting ≤ buffer_bytes → StopsAtEnd t stream left
stops_waiting t law stream old new waiting left n Stands c few holds =
    stops t law stream (prepend_known waiting left) left old new n Stands c few (short_waiting t waiting left holds) (λ full rest unread known known_left. by left rest unread known known_left)
  where
    by : (left : Option (List ℕ)) (rest unread : List ℕ) → prepend_known waiting left ≡ Some rest → left ≡ Some unread → length rest ≤ length unread + buffer_bytes
    by None rest unread known known_left = absurd (cc)
    by (Some xs) rest unread known known_left =
        let e : xs ≡ unread = cc in
        let r : waiting ++ xs ≡ rest = cc in
        omega (arith, holds, length-append waiting xs, ap (λ (l : List ℕ). length l) r, ap (λ (l : List ℕ). length l) e)

-- before any item no more was taken than waited
pub stops_first : (t : Dialogue) (waiting : List ℕ) (left : Option (List ℕ)) → length waiting ≤ buffer_bytes → StopsAtEnd t (prepend_known waiting left) left
stops_first t waiting None few bytes unread ys rest known known_left took over = absurd (cc)
stops_first t waiting (Some xs) few bytes unread ys rest known known_left took over =
    let e : xs ≡ unread = cc in
    let b : waiting ++ xs ≡ bytes = cc in
    omega (
      arith,
      few,
      length-append waiting xs,
      length-append (items_bytes t ys) rest,
      ap (λ (l : List ℕ). length l) b,
      ap (λ (l : List ℕ). length l) took.cut,
      ap (λ (l : List ℕ). length l) e,
    )

-- ---- how a dialogue was carried

-- where no item is taken any more
pub carried : (t : Dialogue) → IsDialogue t → (result : Result ℕ Broken) (stream now left old new : Option (List ℕ)) (n : ℕ) (Stands : List t.Item → Type 0) → Carries t stream now old new n Stands → n < item_limit →
    IsShort t now left → CarryEnds t result stream left old new → CarryGives t result stream left old new
carried t law result stream now left old new n Stands c few is_short ends = record {
  ends = ends;
  prompt = prompt_carried t law stream now left old new n Stands c is_short;
  stops = stops_before t law stream now left old new n Stands c few is_short;
}

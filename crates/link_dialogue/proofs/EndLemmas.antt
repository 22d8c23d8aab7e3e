-- A dialogue gives one end, with one output.
use Rattle.link_dialogue.proofs.Prelude.{Bool, List, None, Option, Some, [], ap, append-nil, append_assoc, arith, false, inl, inr, length, length-append, refl, suc, sym, take, true, zero, ℕ, ◌++◌, ◌+◌, ◌<◌, ◌∙◌, ◌∷◌, ◌≡◌, ◌≤◌, ◌⊎◌, take_at, All-head, ◌==◌, end_frame, BeginsNone, BeginsWith, Dialogue, DialogueGives, EndsGoing, EndsWith, IsDialogue, Takes, item_limit, items_bytes}
use Rattle.std.proofs.lemmas.Bool.Decides.{nat_tests}
use Rattle.link_dialogue.proofs.ItemLemmas.{All-later, BeginsWith-trans, Takes-push, compare, not_full}

-- ---- one end

one_status : (t : Dialogue) (p : Option ℕ) (full : Bool) (rest : List ℕ) (a b : ℕ) → EndsWith t p full rest a → EndsWith t p full rest b → a ≡ b
one_status t None false (c ∷ cs) a b x y = x.0 ∙ sym y.0
one_status t p full rest a b x y = x ∙ sym y

open_end : (t : Dialogue) → IsDialogue t → (full : Bool) (rest : List ℕ) (status : ℕ) → full ≡ false → EndsGoing t full rest status → BeginsNone t rest
open_end t law true rest status e x = absurd (cc)
open_end t law false [] status e x = λ i later formed is. omega (arith, law.some i, length-append (t.bytes i) later, ap (λ (l : List ℕ). length l) is)
open_end t law false (c ∷ cs) status e x = x.1

-- where a dialogue ends while it goes on, and before this many items, no item stands after its items
no_item : (t : Dialogue) → IsDialogue t → (items : List t.Item) (rest : List ℕ) (status : ℕ) → EndsWith t (t.ended items) (length items == item_limit) rest status →
    t.ended items ≡ None → length items < item_limit → BeginsNone t rest
no_item t law items rest status ends going few = open_end t law (length items == item_limit) rest status (not_full (length items) few) (rw going at ends)

same_by : (t : Dialogue) → IsDialogue t → (bytes : List ℕ) (status other : ℕ) (output others : List ℕ) (a : DialogueGives t bytes status output) (b : DialogueGives t bytes other others) (more : List t.Item) →
    b.items ≡ a.items ++ more → a.rest ≡ items_bytes t more ++ b.rest → (status ≡ other) × (output ≡ others)
same_by t law bytes status other output others a b [] is left =
    let items : b.items ≡ a.items = is ∙ append-nil a.items in
    let ends : EndsWith t (t.ended a.items) (length a.items == item_limit) a.rest other = rw (items, ← left) at b.ends in
    let same = one_status t (t.ended a.items) (length a.items == item_limit) a.rest status other a.ends ends in
    (same, a.sends ∙ ap (λ (n : ℕ). t.sent a.items ++ end_frame n) same ∙ ap (λ (xs : List t.Item). t.sent xs ++ end_frame other) (sym items) ∙ sym b.sends)
same_by t law bytes status other output others a b (y ∷ more) is left =
    let counted : length b.items ≡ length a.items + length (y ∷ more) = ap (λ (xs : List t.Item). length xs) is ∙ length-append a.items (y ∷ more) in
    let front : take (length a.items) b.items ≡ a.items = ap (λ (xs : List t.Item). take (length a.items) xs) is ∙ take_at a.items (y ∷ more) (length a.items) refl in
    let going : t.ended a.items ≡ None = rw front at (b.takes.going (length a.items) (omega (arith, counted))) in
    let formed : t.IsItem y = All-head t.IsItem y more (All-later t a.items (y ∷ more) (rw is at b.takes.each)) in
    absurd (no_item t law a.items a.rest status a.ends going (omega (arith, counted, b.takes.few)) y (items_bytes t more ++ b.rest) formed
    (left ∙ append_assoc (t.bytes y) (items_bytes t more) b.rest))

pub one : (t : Dialogue) → IsDialogue t → (bytes : List ℕ) (status other : ℕ) (output others : List ℕ) → DialogueGives t bytes status output → DialogueGives t bytes other others → (status ≡ other) × (output ≡ others)
one t law bytes status other output others a b = elim (compare t law a.items b.items a.rest b.rest a.takes.each b.takes.each (sym a.takes.cut ∙ b.takes.cut)) [
  | inl p ↦ same_by t law bytes status other output others a b p.0 p.1 p.2
  | inr p ↦ let e = same_by t law bytes other status others output b a p.0 p.1 p.2 in (sym e.0, sym e.1)
]

-- a dialogue that goes on doesn't end with 0
going_on : (t : Dialogue) (full : Bool) (rest : List ℕ) → EndsGoing t full rest 0 → ⊥
going_on t true rest e = omega (arith, e)
going_on t false [] e = omega (arith, e)
going_on t false (c ∷ rest) e = let is = e.0 in omega (arith, is)

-- one that ends with 0 is ended so by its items
pub ends_zero : (t : Dialogue) (o : Option ℕ) (full : Bool) (rest : List ℕ) → EndsWith t o full rest 0 → o ≡ Some 0
ends_zero t None full rest e = absurd (going_on t full rest e)
ends_zero t (Some n) full rest e = ap (λ (m : ℕ). Some m) (sym e)

-- ---- some end

-- an end that is come to from these items
abbrev pub Comes : (t : Dialogue) → List ℕ → List t.Item → Type 0
Comes t bytes items = (status : ℕ) × (output : List ℕ) × DialogueGives t bytes status output × BeginsWith (t.sent items) output

comes : (t : Dialogue) (bytes rest : List ℕ) (items : List t.Item) (status : ℕ) → Takes t bytes items rest → EndsWith t (t.ended items) (length items == item_limit) rest status → Comes t bytes items
comes t bytes rest items status took ends =
    (status, t.sent items ++ end_frame status, record { items = items; rest = rest; takes = took; ends = ends; sends = refl }, (end_frame status, refl))

comes_by : (t : Dialogue) → IsDialogue t → (bytes rest : List ℕ) (items : List t.Item) → Takes t bytes items rest → (p : Option ℕ) → t.ended items ≡ p →
    (full : Bool) → (length items == item_limit) ≡ full → ((i : t.Item) × (later : List ℕ) × t.IsItem i × (rest ≡ t.bytes i ++ later)) ⊎ BeginsNone t rest →
    ((i : t.Item) (later : List ℕ) → rest ≡ t.bytes i ++ later → Takes t bytes (items ++ i ∷ []) later → Comes t bytes (items ++ i ∷ [])) → Comes t bytes items
comes_by t law bytes rest items took (Some status) e full o next go = comes t bytes rest items status took (rw e refl)
comes_by t law bytes rest items took None e true o next go = comes t bytes rest items 13 took (rw (e, o) refl)
comes_by t law bytes rest items took None e false o (inl (i, later, formed, is)) go =
    let few : length items < item_limit = below (length items) took.few o in
    let c = go i later is (Takes-push t bytes rest later items i took e few formed is) in
    (c.0, c.1, c.2, BeginsWith-trans _ _ _ (law.front items (i ∷ [])) c.3)
  where
    below : (n : ℕ) → n ≤ item_limit → (n == item_limit) ≡ false → n < item_limit
    below n l o = grind (arith, nat_tests)
comes_by t law bytes [] items took None e false o (inr none) go = comes t bytes [] items 8 took (rw (e, o) refl)
comes_by t law bytes (c ∷ cs) items took None e false o (inr none) go = comes t bytes (c ∷ cs) items 11 took (rw (e, o) (refl, none))

comes_within : (t : Dialogue) → IsDialogue t → (n : ℕ) (bytes rest : List ℕ) (items : List t.Item) → length rest < n → Takes t bytes items rest → Comes t bytes items
comes_within t law zero bytes rest items short took = absurd (omega (arith, short))
comes_within t law (suc n) bytes rest items short took =
    comes_by t law bytes rest items took (t.ended items) refl (length items == item_limit) refl (law.found rest)
    (λ i later is more. comes_within t law n bytes later (items ++ i ∷ []) (omega (arith, short, ap (λ (l : List ℕ). length l) is, length-append (t.bytes i) later, law.some i)) more)

pub some : (t : Dialogue) → IsDialogue t → (bytes rest : List ℕ) (items : List t.Item) → Takes t bytes items rest → Comes t bytes items
some t law bytes rest items took = comes_within t law (suc (length rest)) bytes rest items (omega arith) took

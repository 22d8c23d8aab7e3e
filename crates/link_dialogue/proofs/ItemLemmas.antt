-- Items at the front of bytes, and what is taken of bytes that are known.
use Rattle.link_dialogue.proofs.Prelude.{IfSome, List, None, Option, Some, [], ap, append-nil, append_assoc, arith, false, inl, inr, length, length-append, refl, suc, sym, take, zero, ℕ, ◌++◌, ◌<◌, ◌∙◌, ◌∷◌, ◌≡◌, ◌≤◌, ◌⊎◌, length_push, take-append-le, take_all, All-head, All-nil, All-push, All-tail, Appends, Consumes, IsAtEnd, All, ◌==◌, Appends-append, Rose, AppendsFront, BeginsWith, Dialogue, IsDialogue, Takes, item_limit, items_bytes, IsFaulty}
use Rattle.std.proofs.lemmas.Grind.{common_steps}
use Rattle.std.proofs.lemmas.Bool.{eqb-true}
use Rattle.std.proofs.lemmas.List.Concat.{flat_map-append}

-- ---- lists

pub same_front : (a b c : List ℕ) → a ++ b ≡ a ++ c → b ≡ c
same_front [] b c e = e
same_front (x ∷ a) b c e = same_front a b c (cc)

pub BeginsWith-trans : (a b c : List ℕ) → BeginsWith a b → BeginsWith b c → BeginsWith a c
BeginsWith-trans a b c p q = (p.0 ++ q.0, q.1 ∙ ap (λ (l : List ℕ). l ++ q.0) p.1 ∙ append_assoc a p.0 q.0)

pub less_or_not : (a b : ℕ) → (a < b) ⊎ (b ≤ a)
less_or_not a zero = inr (omega arith)
less_or_not zero (suc b) = inl (omega arith)
less_or_not (suc a) (suc b) = grind (arith, common_steps, (less_or_not a b))

-- a count that rose after a later one rose
pub Rose-later : (a b c : ℕ) → a ≤ b → Rose b c → Rose a c
Rose-later a b c l r = grind (arith, common_steps)

-- ---- known bytes

-- what was taken of bytes that are known leaves bytes that are known
abbrev pub Left : Option (List ℕ) → List ℕ → List ℕ → Type 0
Left new bytes taken = (rest : List ℕ) × (new ≡ Some rest) × (bytes ≡ taken ++ rest)

pub left_of : (bytes taken : List ℕ) (new : Option (List ℕ)) → Consumes (Some bytes) new taken → Left new bytes taken
left_of bytes taken None c = absurd c
left_of bytes taken (Some rest) c = (rest, refl, c)

-- what is told of known bytes holds of them
pub at_some : (P : List ℕ → Type 0) (a : Option (List ℕ)) (bytes : List ℕ) → a ≡ Some bytes → IfSome a P → P bytes
at_some P a bytes e h = rw e at h

-- a fact on known bytes is proved where they are known
pub when_some : (P : List ℕ → Type 0) (a : Option (List ℕ)) → ((bytes : List ℕ) → a ≡ Some bytes → P bytes) → IfSome a P
when_some P None h = tt
when_some P (Some bytes) h = h bytes refl

-- what grew from known bytes is known
pub grown : (before now output : List ℕ) (old new : Option (List ℕ)) → old ≡ Some before → new ≡ Some now → Appends old new output → now ≡ before ++ output
grown before now output None new e x a = absurd (cc)
grown before now output (Some b) None e x a = absurd a
grown before now output (Some b) (Some n) e x a = let p : b ≡ before = cc in let q : n ≡ now = cc in sym q ∙ a ∙ ap (λ (l : List ℕ). l ++ output) p

-- what went out before, and then a prefix of more, is a prefix of what goes on so
pub front_more : (old mid new : Option (List ℕ)) (xs ys all : List ℕ) → Appends old mid xs → AppendsFront mid new ys → BeginsWith (xs ++ ys) all → AppendsFront old new all
front_more old mid new xs ys all a b more = grind (arith, common_steps, append_assoc, Appends-append)

pub grown_more : (old mid new : Option (List ℕ)) (xs ys : List ℕ) → Appends old mid xs → AppendsFront mid new ys → (sent : List ℕ) × Appends old new sent
grown_more old mid new xs ys a b = (xs ++ b.0, Appends-append old mid new xs b.0 a b.3)

pub grown_by : (old mid new : Option (List ℕ)) (xs ys : List ℕ) → Appends old mid xs → Appends mid new ys → (sent : List ℕ) × Appends old new sent
grown_by old mid new xs ys a b = (xs ++ ys, Appends-append old mid new xs ys a b)

-- ---- bytes that begin with no item

-- bytes with which no item begins, however they go on
pub bad_front : (NoItem : List ℕ → Type 0) (a b : Option (List ℕ)) (bytes : List ℕ) → Consumes a b bytes → 1 ≤ length bytes → ((later : List ℕ) → NoItem (bytes ++ later)) → IsFaulty NoItem a
bad_front NoItem None b bytes taken some none = tt
bad_front NoItem (Some xs) None bytes taken some none = absurd taken
bad_front NoItem (Some xs) (Some ys) bytes taken some none = rw taken (omega (arith, some, length-append bytes ys), none ys)

-- the bytes end within an item that is begun
pub cut_front : (NoItem : List ℕ → Type 0) (a b : Option (List ℕ)) (bytes : List ℕ) → Consumes a b bytes → IsAtEnd b → (length bytes ≡ 0 → ⊥) → NoItem bytes → IsFaulty NoItem a
cut_front NoItem None b bytes taken at_end some none = tt
cut_front NoItem (Some xs) None bytes taken at_end some none = absurd taken
cut_front NoItem (Some xs) (Some ys) bytes taken at_end some none =
    let is : xs ≡ bytes = taken ∙ ap (λ (rest : List ℕ). bytes ++ rest) at_end ∙ append-nil bytes in
    rw is (omega (arith, some), none)

-- no byte was taken before the end
pub end_front : (a b : Option (List ℕ)) (bytes : List ℕ) → Consumes a b bytes → IsAtEnd b → length bytes ≡ 0 → IsAtEnd a
end_front None b bytes taken at_end none = tt
end_front (Some xs) None bytes taken at_end none = absurd taken
end_front (Some xs) (Some ys) [] taken at_end none = taken ∙ at_end
end_front (Some xs) (Some ys) (x ∷ bytes) taken at_end none = absurd (omega (arith, none))

-- ---- items that are taken

pub All-later : (t : Dialogue) (xs ys : List t.Item) → All t.IsItem (xs ++ ys) → All t.IsItem ys
All-later t [] ys all = all
All-later t (x ∷ xs) ys all = All-later t xs ys (All-tail t.IsItem x (xs ++ ys) all)

-- the bytes of items and of one more
pub bytes-push : (t : Dialogue) (xs : List t.Item) (i : t.Item) → items_bytes t (xs ++ i ∷ []) ≡ items_bytes t xs ++ t.bytes i
bytes-push t xs i = flat_map-append t.bytes xs (i ∷ []) ∙ ap (λ (l : List ℕ). items_bytes t xs ++ l) (append-nil (t.bytes i))

-- where the dialogue goes on after each front of these items, and after them, it goes on after each front of one more
pub going-push : (t : Dialogue) (xs : List t.Item) (i : t.Item) → ((n : ℕ) → n < length xs → t.ended (take n xs) ≡ None) → t.ended xs ≡ None →
    (n : ℕ) → n < length (xs ++ i ∷ []) → t.ended (take n (xs ++ i ∷ [])) ≡ None
going-push t xs i before now n below = grind (arith, common_steps, length_push, take-append-le, less_or_not, take_all)

pub Takes-none : (t : Dialogue) (bytes : List ℕ) → Takes t bytes [] bytes
Takes-none t bytes = record { cut = refl; each = All-nil t.IsItem; few = omega arith; going = λ n below. absurd (omega (arith, below)) }

pub Takes-push : (t : Dialogue) (bytes rest later : List ℕ) (xs : List t.Item) (i : t.Item) → Takes t bytes xs rest → t.ended xs ≡ None → length xs < item_limit → t.IsItem i →
    rest ≡ t.bytes i ++ later → Takes t bytes (xs ++ i ∷ []) later
Takes-push t bytes rest later xs i took now few formed is = record {
  cut = took.cut ∙ ap (λ (l : List ℕ). items_bytes t xs ++ l) is ∙ sym (ap (λ (l : List ℕ). l ++ later) (bytes-push t xs i) ∙ append_assoc (items_bytes t xs) (t.bytes i) later);
  each = All-push t.IsItem xs i took.each formed;
  few = omega (arith, length_push xs i, few);
  going = going-push t xs i took.going now;
}

-- this many items are no more than are taken
pub not_full : (n : ℕ) → n < item_limit → (n == item_limit) ≡ false
not_full n below = grind (arith, common_steps, eqb-true)

-- ---- two lists of items

-- The first items are a prefix of the others, and what stands after them are the other items with what stands after
-- those.
abbrev pub Front : (t : Dialogue) → List t.Item → List ℕ → List t.Item → List ℕ → Type 0
Front t xs rest ys left = (more : List t.Item) × (ys ≡ xs ++ more) × (rest ≡ items_bytes t more ++ left)

-- of two lists of items at the front of the same bytes one is a front of the other
pub compare : (t : Dialogue) → IsDialogue t → (xs ys : List t.Item) (rest left : List ℕ) → All t.IsItem xs → All t.IsItem ys → items_bytes t xs ++ rest ≡ items_bytes t ys ++ left →
    Front t xs rest ys left ⊎ Front t ys left xs rest
compare t law [] ys rest left all_xs all_ys is = inl (ys, refl, is)
compare t law (x ∷ xs) [] rest left all_xs all_ys is = inr (x ∷ xs, refl, sym is)
compare t law (x ∷ xs) (y ∷ ys) rest left all_xs all_ys is =
    let one = law.step x y (items_bytes t xs ++ rest) (items_bytes t ys ++ left) (All-head t.IsItem x xs all_xs) (All-head t.IsItem y ys all_ys)
    (sym (append_assoc (t.bytes x) (items_bytes t xs) rest) ∙ is ∙ append_assoc (t.bytes y) (items_bytes t ys) left) in
    elim (compare t law xs ys rest left (All-tail t.IsItem x xs all_xs) (All-tail t.IsItem y ys all_ys) one.1) [
      | inl p ↦ inl (p.0, rw one.0 (ap (λ (l : List t.Item). y ∷ l) p.1), p.2)
      | inr p ↦ inr (p.0, rw one.0 (ap (λ (l : List t.Item). y ∷ l) p.1), p.2)
    ]

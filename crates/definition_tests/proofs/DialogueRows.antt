-- Dialogues over a link, computed.
use Rattle.definition_tests.proofs.Prelude.{◌≡◌, ℕ, zero, suc, ◌<◌, ◌≤◌, ◌++◌, List, [], ◌∷◌, None, Some, ap, append-nil, arith, length, refl, take, All-cons, All-head, All-nil, All, BeginsNone, DialogueGives, Takes, items_bytes, over, Event, Clock, Seen, Answered, Said}
use Rattle.flight_link.specs.Sends.{IsBegun}
use Rattle.definition_tests.specs.Dialogues.{DialogueRows, endless, two}

-- the dialogue goes on before the first item and before the second
going : (n : ℕ) → n < 2 → two.ended (take n (1 ∷ 2 ∷ [])) ≡ None
going zero below = refl
going (suc zero) below = refl
going (suc (suc n)) below = absurd (omega (arith, below))

first_two : Takes two (1 ∷ 2 ∷ 3 ∷ []) (1 ∷ 2 ∷ []) (3 ∷ [])
first_two = record {
  cut = refl;
  each = All-cons two.IsItem 1 (2 ∷ []) (omega arith) (All-cons two.IsItem 2 [] (omega arith) (All-nil two.IsItem));
  few = omega arith;
  going = going;
}

-- the bytes of items of one byte are these
same_bytes : (items : List ℕ) → items ≡ items_bytes endless items ++ []
same_bytes [] = refl
same_bytes (byte ∷ rest) = ap (λ (bytes : List ℕ). byte ∷ bytes) (same_bytes rest)

any_items : (items : List ℕ) → All endless.IsItem items
any_items [] = All-nil endless.IsItem
any_items (byte ∷ rest) = All-cons endless.IsItem byte rest tt (any_items rest)

none_begins : BeginsNone two (10 ∷ [])
none_begins byte later is cut = let e : 10 ≡ byte = cc in omega (arith, is, e)

not_come : (items rest : List ℕ) → [] ≡ items_bytes two items ++ rest → 1 ∷ 0x45 ∷ 8 ∷ [] ≡ items ++ 0x45 ∷ 8 ∷ [] → ⊥
not_come [] rest cut sends = absurd (cc)
not_come (byte ∷ items) rest cut sends = absurd (cc)

-- a clock's frame has three bytes, and each other begins otherwise
not_whole : (e : Event) (b : IsBegun 1 (1 ∷ 2 ∷ 1 ∷ [])) → b.event ≡ e → ⊥
not_whole (Clock ms) b same =
    let cut = rw same at b.cut in
    let some = b.some in
    let e : 3 ≡ suc (suc (suc (length b.more))) = ap (λ (bytes : List ℕ). length bytes) cut in absurd (omega (arith, e, some))
not_whole (Seen d x) b same = let cut = rw same at b.cut in absurd (cc)
not_whole (Answered d status) b same = let cut = rw same at b.cut in absurd (cc)
not_whole (Said s) b same = let cut = rw same at b.cut in absurd (cc)

pub dialogues : DialogueRows
dialogues = record {
  taken = first_two;
  past_the_end = λ takes. let e : Some 7 ≡ None = takes.going 2 (omega arith) in absurd (cc);
  others = λ takes. let e : 1 ∷ 2 ∷ [] ≡ 1 ∷ 3 ∷ [] = takes.cut in absurd (cc);
  no_item = λ takes. let low : 10 ≤ 9 = All-head two.IsItem 10 [] takes.each in absurd (omega (arith, low));
  most = λ items many. record { cut = same_bytes items; each = any_items items; few = omega (arith, many); going = λ n below. refl };
  more = λ bytes items rest many takes. let few = takes.few in absurd (omega (arith, many, few));
  by_items = refl;
  by_many = refl;
  by_none = refl;
  by_other = (refl, none_begins);
  not_by_item = λ ends. ends.1 1 [] (omega arith) refl;
  other_word = λ ends. let e : 8 ≡ 11 = ends.0 in absurd (cc);
  gives = record { items = 1 ∷ 2 ∷ []; rest = 3 ∷ []; takes = first_two; ends = refl; sends = refl };
  other_status = λ bytes output g. let e : 1 ≡ 0 = g.ends in absurd (cc);
  unsaid = λ bytes g. let e : [] ≡ 0x45 ∷ 0 ∷ [] = g.sends in absurd (cc);
  not_come = λ g. not_come g.items g.rest g.takes.cut g.sends;
  begun = record { event = Clock 258; more = 1 ∷ []; formed = omega arith; cut = refl; some = omega arith };
  whole = λ b. not_whole b.event b refl;
}

-- What the definitions of a dialogue over a link say of items of one byte.
use Rattle.std.specs.Prelude.{◌≡◌, ℕ, ◌≤◌, ◌∷◌, [], List, false, true, length, ◌==◌, if◌then◌else◌, Some, None}
use Rattle.link_dialogue.specs.Dialogues.{Dialogue, DialogueGives, EndsWith, Takes}
use Rattle.flight_link.specs.Sends.{IsBegun}
use Rattle.definition_tests.specs.Small.{over}

-- a byte up to 9 is an item, and is sent back; the second one ends the dialogue with 7
abbrev pub two : Dialogue
two = record {
  Item = ℕ;
  IsItem = λ byte. byte ≤ 9;
  bytes = λ byte. byte ∷ [];
  IsBegun = λ begun. Unit {0};
  ended = λ items. if length items == 2 then Some 7 else None;
  sent = λ items. items;
}

-- any byte is an item, and none ends the dialogue
abbrev pub endless : Dialogue
endless = record two {
  IsItem = λ byte. Unit {0};
  ended = λ items. None;
}

pub record DialogueRows : Type 0 where
  -- no item is taken past the end, none that is none, and none that didn't come; 4,000,000 are, and no more
  pub taken : Takes two (1 ∷ 2 ∷ 3 ∷ []) (1 ∷ 2 ∷ []) (3 ∷ [])
  pub past_the_end : Takes two (1 ∷ 2 ∷ 3 ∷ []) (1 ∷ 2 ∷ 3 ∷ []) [] → ⊥
  pub others : Takes two (1 ∷ 2 ∷ []) (1 ∷ 3 ∷ []) [] → ⊥
  pub no_item : Takes two (10 ∷ []) (10 ∷ []) [] → ⊥
  pub most : (items : List ℕ) → length items ≡ 4000000 → Takes endless items items []
  pub more : (bytes items rest : List ℕ) → length items ≡ 4000001 → Takes endless bytes items rest → ⊥
  -- by its items, by too many of them, by no byte left, and by a byte that begins none
  pub by_items : EndsWith two (Some 7) false [] 7
  pub by_many : EndsWith two None true [] 13
  pub by_none : EndsWith two None false [] 8
  pub by_other : EndsWith two None false (10 ∷ []) 11
  pub not_by_item : EndsWith two None false (1 ∷ []) 11 → ⊥
  pub other_word : EndsWith two None false (10 ∷ []) 8 → ⊥
  -- what is sent is of the items that came, with the end's own frame
  pub gives : DialogueGives two (1 ∷ 2 ∷ 3 ∷ []) 7 (1 ∷ 2 ∷ 0x45 ∷ 7 ∷ [])
  pub other_status : (bytes output : List ℕ) → DialogueGives over bytes 1 output → ⊥
  pub unsaid : (bytes : List ℕ) → DialogueGives over bytes 0 [] → ⊥
  pub not_come : DialogueGives two [] 8 (1 ∷ 0x45 ∷ 8 ∷ []) → ⊥
  -- a clock's frame without its last byte is begun, and the whole one isn't
  pub begun : IsBegun 1 (1 ∷ 2 ∷ [])
  pub whole : IsBegun 1 (1 ∷ 2 ∷ 1 ∷ []) → ⊥

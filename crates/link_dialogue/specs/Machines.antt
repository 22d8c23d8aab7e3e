-- What a machine makes of the items of a dialogue.
use Rattle.std.specs.Prelude.{◌≡◌, ℕ, List, [], ◌∷◌, ◌++◌, Option, None, Result, Ok, Err}
use Rattle.std.specs.Io.KnownBytes.{Consumes, IsAtEnd}
use Rattle.link_dialogue.specs.Dialogues.{BeginsNone, Dialogue, StaysPrompt, StopsAtEnd}
use Rattle.link_dialogue.specs.Steps.{Breaks, Ends, Fails, IsFaulty}
use Rattle.link_dialogue.specs.declared.driver.Broken.{Broken}
use Rattle.link_dialogue.specs.declared.driver.Broken.TheVariants.{Read, Write}
use Rattle.link_dialogue.specs.declared.machine.Fed.{Fed}
use Rattle.link_dialogue.specs.declared.machine.Fed.TheVariants.{More, Whole, Bad}
use Rattle.link_dialogue.specs.declared.driver.Stepped.{Stepped}
use Rattle.link_dialogue.specs.declared.driver.Stepped.TheVariants.{Answered, End, Faulty}

-- A machine stands so after some items, with which the dialogue goes on, and these bytes of one that is begun.
abbrev pub IsGoing : {S : Type 0} (dialogue : S → Dialogue) →
    ((start : S) → S → List (dialogue start).Item → List ℕ → Type 0) → S → List ℕ → Type 0
IsGoing {S = S} dialogue stands now begun =
    (start : S) × (items : List (dialogue start).Item) × stands start now items begun
    × ((dialogue start).ended items ≡ None)

-- One item more was taken, of bytes of which `Taken` tells: the status with which it ends the dialogue, if it does, and
-- what it leads to. So the machine stands after it.
pub record TakesItem (t : Dialogue) (Stands : List t.Item → Type 0) (Taken : List ℕ → Type 0) (items : List t.Item)
    (status_now : Option ℕ) (answer : List ℕ) : Type 0 where
  pub item : t.Item
  pub formed : t.IsItem item
  pub taken : Taken (t.bytes item)
  pub stands : Stands (items ++ item ∷ [])
  pub ended : status_now ≡ t.ended (items ++ item ∷ [])
  pub sends : t.sent (items ++ item ∷ []) ≡ t.sent items ++ answer

-- What these bytes give, with the last of them: an item is begun, one was taken, or none begins so.
abbrev pub FedGives : (t : Dialogue) → (List t.Item → List ℕ → Type 0) → List t.Item → List ℕ → Fed → List ℕ → Type 0
FedGives t Stands items bytes More answer = Stands items bytes × t.IsBegun bytes
FedGives t Stands items bytes (Whole status_now) answer =
    TakesItem t (λ now. Stands now []) (λ whole. whole ≡ bytes) items status_now answer
FedGives t Stands items bytes Bad answer = (later : List ℕ) → BeginsNone t (bytes ++ later)

-- What a step gives of the bytes to come: an item that was taken, the end, or bytes that begin with no whole item.
abbrev pub StepGives : (t : Dialogue) → (List t.Item → Type 0) → List t.Item → Stepped → List ℕ → Option (List ℕ) →
    Option (List ℕ) → Type 0
StepGives t Stands items (Answered status_now) answer before after =
    TakesItem t Stands (Consumes before after) items status_now answer
StepGives t Stands items End answer before after = IsAtEnd before
StepGives t Stands items Faulty answer before after = IsFaulty (BeginsNone t) before

-- how a dialogue was carried: to its end, or to a read or a write that failed
abbrev pub CarryEnds : Dialogue → Result ℕ Broken → Option (List ℕ) → Option (List ℕ) → Option (List ℕ) →
    Option (List ℕ) → Type 0
CarryEnds t (Ok status) stream left old new = Ends t status stream old new
CarryEnds t (Err Read) stream left old new = Fails t stream left old new
CarryEnds t (Err Write) stream left old new = Breaks t stream old new

-- and what holds of it in any case
pub record CarryGives (t : Dialogue) (result : Result ℕ Broken) (stream left old new : Option (List ℕ)) : Type 0 where
  pub ends : CarryEnds t result stream left old new
  pub prompt : StaysPrompt t stream left old new
  pub stops : StopsAtEnd t stream left

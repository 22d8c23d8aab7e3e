-- Words of private steps of a dialogue. No public clause of a crate above cites them.
use Rattle.std.specs.Prelude.{◌≡◌, ℕ, ◌<◌, ◌≤◌, ◌==◌, List, length, Option, None, IfSome}
use Rattle.std.specs.Io.KnownBytes.{Appends, Consumes}
use Rattle.byte_streams.specs.Taken.{AppendsFront}
use Rattle.link_dialogue.specs.Dialogues.{Dialogue, DialogueGives, EndsWith, Takes, item_limit}

-- There are bytes to come, and no whole item begins them, as `NoItem` says of bytes.
abbrev pub IsFaulty : (List ℕ → Type 0) → Option (List ℕ) → Type 0
IsFaulty NoItem stream = IfSome stream (λ bytes. (1 ≤ length bytes) × NoItem bytes)

-- The bytes to come lead to this status, and all that they lead to was sent, but for the end frame.
abbrev pub Ends : Dialogue → ℕ → Option (List ℕ) → Option (List ℕ) → Option (List ℕ) → Type 0
Ends t status stream old new =
    IfSome stream (λ bytes. (items : List t.Item) × (rest : List ℕ) × Takes t bytes items rest
    × EndsWith t (t.ended items) (length items == item_limit) rest status × Appends old new (t.sent items))

-- A read failed after these items, and all that they lead to was sent.
abbrev pub Fails : Dialogue → Option (List ℕ) → Option (List ℕ) → Option (List ℕ) → Option (List ℕ) → Type 0
Fails t stream left old new =
    IfSome stream (λ _. (taken : List ℕ) × (items : List t.Item) × (rest : List ℕ) × Consumes stream left taken
    × Takes t taken items rest × (length items < item_limit) × (t.ended items ≡ None) × t.IsBegun rest
    × Appends old new (t.sent items))

-- A write failed: a prefix was sent of what the bytes to come lead to.
abbrev pub Breaks : Dialogue → Option (List ℕ) → Option (List ℕ) → Option (List ℕ) → Type 0
Breaks t stream old new =
    IfSome stream (λ bytes. (output : List ℕ) × AppendsFront old new output
    × ((status : ℕ) × DialogueGives t bytes status output))

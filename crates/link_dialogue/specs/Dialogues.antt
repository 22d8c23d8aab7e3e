-- A dialogue over a link: which items were taken of the bytes that came, how it ended, and what was sent.
use Rattle.std.specs.Prelude.{◌≡◌, ◌≢◌, ◌⊎◌, ℕ, ◌+◌, ◌<◌, ◌≤◌, Bool, true, false, ◌==◌, List, [], ◌∷◌, ◌++◌, length, take}
use Rattle.std.specs.Prelude.{Option, Some, None, IfSome}
use Rattle.std.specs.Io.KnownBytes.{Appends, Consumes}
use Rattle.std.specs.List.{All, flat_map}
use Rattle.byte_streams.specs.Causes.{Rose}
use Rattle.byte_streams.specs.Held.{buffer_bytes}
use Rattle.byte_streams.specs.Taken.{AppendsFront}
use Rattle.link_frames.specs.Frames.{end_frame}

-- What may come in over a link, and what it leads to: a host with its frames, a director with its events.
pub record Dialogue : Type 1 where
  pub Item : Type 0
  -- an item that may stand on the link
  pub IsItem : Item → Type 0
  pub bytes : Item → List ℕ
  -- bytes that an item begins with and that aren't all of it; no byte is so too
  pub IsBegun : List ℕ → Type 0
  -- the status with which items end the dialogue; None while it goes on
  pub ended : List Item → Option ℕ
  -- all that is sent up to the last of these items, which are all that came
  pub sent : List Item → List ℕ

-- the most items that are taken in one dialogue
abbrev pub item_limit : ℕ
item_limit = 4000000

-- the bytes of items, one after the other
abbrev pub items_bytes : (t : Dialogue) → List t.Item → List ℕ
items_bytes t items = flat_map t.bytes items

-- The bytes begin with no whole item: there is none, the first one is unfinished, or one of its bytes has no place.
abbrev pub BeginsNone : Dialogue → List ℕ → Type 0
BeginsNone t bytes = (i : t.Item) (later : List ℕ) → t.IsItem i → bytes ≡ t.bytes i ++ later → ⊥

-- Of these bytes these items were taken, and the others stand after them. The dialogue was going before each of the
-- items, and they are no more than are taken in one dialogue.
pub record Takes (t : Dialogue) (bytes : List ℕ) (items : List t.Item) (rest : List ℕ) : Type 0 where
  pub cut : bytes ≡ items_bytes t items ++ rest
  pub each : All t.IsItem items
  pub few : length items ≤ item_limit
  pub going : (n : ℕ) → n < length items → t.ended (take n items) ≡ None

-- The end of a dialogue that goes on. 4,000,000 items were taken, and nothing after them is judged: 13. Else no byte is
-- left: 8. Else the bytes that are left begin with no whole item, since one of them has no place, or the last item
-- isn't finished: 11.
abbrev pub EndsGoing : Dialogue → Bool → List ℕ → ℕ → Type 0
EndsGoing t true rest status = status ≡ 13
EndsGoing t false [] status = status ≡ 8
EndsGoing t false (byte ∷ rest) status = (status ≡ 11) × BeginsNone t (byte ∷ rest)

-- The end of a dialogue, from the status with which its items end it, if they do.
abbrev pub EndsWith : Dialogue → Option ℕ → Bool → List ℕ → ℕ → Type 0
EndsWith t None full rest status = EndsGoing t full rest status
EndsWith t (Some end_status) full rest status = status ≡ end_status

-- A status with which a dialogue ends without a fault of source or sink: that of some items, or one of `EndsGoing`.
abbrev pub IsOwnEnd : Dialogue → ℕ → Type 0
IsOwnEnd t status =
    ((items : List t.Item) × (t.ended items ≡ Some status)) ⊎ ((status ≡ 8) ⊎ ((status ≡ 11) ⊎ (status ≡ 13)))

-- A status with which a dialogue ends: where a read failed 6, and where a write did 7.
abbrev pub IsStatus : Dialogue → ℕ → Type 0
IsStatus t status = IsOwnEnd t status ⊎ ((status ≡ 6) ⊎ (status ≡ 7))

-- A dialogue that gets these bytes ends with this status, and sends this in all: what its items lead to, and the end
-- frame.
pub record DialogueGives (t : Dialogue) (bytes : List ℕ) (status : ℕ) (output : List ℕ) : Type 0 where
  pub items : List t.Item
  pub rest : List ℕ
  pub takes : Takes t bytes items rest
  pub ends : EndsWith t (t.ended items) (length items == item_limit) rest status
  pub sends : output ≡ t.sent items ++ end_frame status

-- A read failed after these bytes: each whole item among them was answered, less than an item stands after them, and
-- the dialogue goes on. What was sent ends with the end frame of a failed read.
pub record DialogueFails (t : Dialogue) (taken output : List ℕ) : Type 0 where
  pub items : List t.Item
  pub rest : List ℕ
  pub takes : Takes t taken items rest
  pub fewer : length items < item_limit
  pub going : t.ended items ≡ None
  pub begun : t.IsBegun rest
  pub sends : output ≡ t.sent items ++ end_frame 6

-- these bytes begin with those
abbrev pub BeginsWith : List ℕ → List ℕ → Type 0
BeginsWith front whole = (rest : List ℕ) × (whole ≡ front ++ rest)

-- No answer waits for much further input: where more than 4,096 bytes were taken after whole items, or after none, all
-- that is sent up to the last of them has gone out.
abbrev pub IsPrompt : Dialogue → List ℕ → List ℕ → Type 0
IsPrompt t taken sent =
    (items : List t.Item) (rest : List ℕ) → All t.IsItem items → taken ≡ items_bytes t items ++ rest →
    buffer_bytes < length rest → BeginsWith (t.sent items) sent

-- What was sent is prompt, where source and sink tell what they had before and what they have now.
abbrev pub StaysPrompt : Dialogue → Option (List ℕ) → Option (List ℕ) → Option (List ℕ) → Option (List ℕ) → Type 0
StaysPrompt t stream left old new =
    (bytes unread before taken sent : List ℕ) → stream ≡ Some bytes → left ≡ Some unread → bytes ≡ taken ++ unread →
    old ≡ Some before → new ≡ Some (before ++ sent) → IsPrompt t taken sent

-- After these items a dialogue is over: they end it, or they are as many as are taken in one dialogue.
abbrev pub IsOver : (t : Dialogue) → List t.Item → Type 0
IsOver t items = (t.ended items ≡ None → ⊥) ⊎ (length items ≡ item_limit)

-- No more is read once a dialogue is over: of what stands after its items the source has given at most 4,096 bytes,
-- where it tells what it had before and what it has now.
abbrev pub StopsAtEnd : Dialogue → Option (List ℕ) → Option (List ℕ) → Type 0
StopsAtEnd t stream left =
    (bytes unread : List ℕ) (items : List t.Item) (rest : List ℕ) → stream ≡ Some bytes → left ≡ Some unread →
    Takes t bytes items rest → IsOver t items → length rest ≤ length unread + buffer_bytes

-- ---- a dialogue between a source and a sink

-- What a dialogue gives that ends with this status: `stream` was to come before and `left` now, `met` says whether the
-- end of the source was met before, and the counts are of failed reads and writes, before and now.
pub record RunGives (t : Dialogue) (stream left : Option (List ℕ)) (met : Bool) (reads reads_now writes writes_now : ℕ)
    (old new : Option (List ℕ)) (status : ℕ) : Type 0 where
  -- Each status but 6 and 7 is that to which the bytes lead, and all that they lead to was sent.
  pub ends : status ≢ 6 → status ≢ 7 →
      IfSome stream (λ bytes. (output : List ℕ) × DialogueGives t bytes status output × Appends old new output)
  -- A read failed: what the items before it lead to was sent, and the end frame of 6.
  pub six : status ≡ 6 → Rose reads reads_now × (met ≡ false) × IfSome stream (λ _. (taken output : List ℕ)
      × Consumes stream left taken × DialogueFails t taken output × Appends old new output)
  -- A write failed: a prefix was sent of what the bytes lead to, or those before a failed read.
  pub seven : status ≡ 7 → Rose writes writes_now × IfSome stream (λ bytes. (output : List ℕ)
      × AppendsFront old new output × (((st : ℕ) × DialogueGives t bytes st output)
      ⊎ (Rose reads reads_now × (met ≡ false)
      × ((taken : List ℕ) × Consumes stream left taken × DialogueFails t taken output))))
  -- No answer waits for much further input.
  pub prompt : StaysPrompt t stream left old new
  -- Once the dialogue is over no more is read: at most 4,096 bytes after its items were taken.
  pub stops : StopsAtEnd t stream left

-- ---- what makes it one

-- What the laws of a dialogue ask for: its bytes are one list of items alone, and what is sent stays sent.
pub record IsDialogue (t : Dialogue) : Type 0 where
  -- an item has some bytes
  pub some : (i : t.Item) → 1 ≤ length (t.bytes i)
  -- bytes that begin with an item begin with no other
  pub step : (i j : t.Item) (later after : List ℕ) → t.IsItem i → t.IsItem j →
      t.bytes i ++ later ≡ t.bytes j ++ after → (i ≡ j) × (later ≡ after)
  -- bytes begin with an item, or with none
  pub found : (bytes : List ℕ) →
      ((i : t.Item) × (later : List ℕ) × t.IsItem i × (bytes ≡ t.bytes i ++ later)) ⊎ BeginsNone t bytes
  -- no byte begins an item, and bytes that begin one begin with no whole one
  pub none : t.IsBegun []
  pub begun : (bytes : List ℕ) → t.IsBegun bytes → BeginsNone t bytes
  -- an item that is begun may wait
  pub short : (bytes : List ℕ) → t.IsBegun bytes → length bytes ≤ buffer_bytes
  -- what the first items lead to is sent first
  pub front : (xs ys : List t.Item) → BeginsWith (t.sent xs) (t.sent (xs ++ ys))

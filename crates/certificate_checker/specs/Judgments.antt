-- What is kept of the trees of a certificate: what is judged of them, and the curves of the pair and cue whose tree
-- comes next.
use Rattle.std.specs.Prelude.{◌≡◌, ℕ, ◌+◌, ◌*◌, ◌≤◌, ◌<◌, Bool, true, false, ℤ, List, [], ◌∷◌, Option, Some, None}
use Rattle.bezier_core.specs.declared.Bez.{Bez}
use Rattle.bezier_core.specs.declared.halves.Place.{Place}
use Rattle.sep_parts.specs.declared.clearance.Clearance.{Clearance}
use Rattle.sep_parts.specs.declared.node.Node.{Node}
use Rattle.sep_parts.specs.declared.slot.Slot.{Slot}
use Rattle.sep_parts.specs.declared.stack.Level.{Level}
use Rattle.sep_parts.specs.Levels.{IsStack, places_of, root}
use Rattle.sep_parts.specs.Slots.{IsSlot}
use Rattle.fleet_curves.specs.Raised.{Raised, difference}
use Rattle.sep_certificate.specs.declared.certificate.CertFault.{CertFault}
use Rattle.certificate_checker.specs.Checking.{Clear, DepthLine, Faulty, FirstLine, Judged, Reading, TreeLine, Wrong}
use Rattle.certificate_checker.specs.Checking.{at_places}

-- What is judged of the trees, and the difference of the curves of the pair in the cue whose tree comes next.
pub record Judgment : Type 0 where
  pub judged : Judged
  pub diff : List (Bez 8)

abbrev pub judged_by : Slot → List Place → ℕ → Option CertFault → Judged
judged_by slot places n None = Clear slot places n
judged_by slot places n (Some fault) = Wrong fault

-- The places of a tree that are still to be judged: before its first node the whole cue, which is not among the parts
-- that wait; after it those of the parts that wait.
abbrev pub places_left : Bool → List Level → List Place
places_left true parts = root ∷ []
places_left false parts = places_of parts

-- before the first node no part waits; after it the parts are those of their places
abbrev pub AreParts : List (Bez 8) → Bool → List Level → Type 0
AreParts diff true parts = parts ≡ []
AreParts diff false parts = IsStack diff parts

-- A node at the first of the places before leaves the places after it and no fault, for any slot, depth and number of
-- trees.
abbrev pub IsPassed : Clearance → List (List ℤ) → List (Bez 8) → List Place → Node → List Place → Type 0
IsPassed clearance dirs diff before node after =
    (depth : ℕ) (slot : Slot) (n : ℕ) →
    at_places (record { clearance = clearance; depth = depth }) dirs diff slot before n node ≡ Clear slot after n

-- the difference of the pair of a slot in its cue, where it is one of the show
abbrev pub IsDifference : Raised → Slot → List (Bez 8) → Type 0
IsDifference curves slot diff = slot.b < curves.drones → diff ≡ difference curves slot.a slot.b slot.cue

-- a pair and cue of the show, or past them all
abbrev pub IsSlotOrPast : Raised → Slot → Type 0
IsSlotOrPast curves slot = slot.b < curves.drones → IsSlot curves.drones curves.cues slot

-- The difference is that of the pair and cue that comes next. After a fault none comes.
abbrev pub IsNext : Raised → Judged → List (Bez 8) → Type 0
IsNext curves (Clear slot places n) diff = IsSlotOrPast curves slot × IsDifference curves slot diff
IsNext curves (Wrong fault) diff = Unit {0}

-- the same for what is kept of a text; before the first tree nothing is judged
abbrev pub IsNextIn : Raised → Reading → List (Bez 8) → Type 0
IsNextIn curves (FirstLine head) diff = Unit {0}
IsNextIn curves (DepthLine head) diff = Unit {0}
IsNextIn curves (TreeLine t) diff = IsNext curves t.judged diff
IsNextIn curves (Faulty n) diff = Unit {0}

-- ---- numbers that are small
-- at most this many trees are whole
abbrev pub HasAtMost : ℕ → Judged → Type 0
HasAtMost most (Clear slot places n) = n ≤ most
HasAtMost most (Wrong fault) = Unit {0}

-- In the line of a tree, these are bounds: of the trees that are still to come in it, of its number, and of the whole
-- trees.
abbrev pub AreWithin : ℕ → ℕ → ℕ → Reading → Type 0
AreWithin owed line trees (FirstLine head) = Unit {0}
AreWithin owed line trees (DepthLine head) = Unit {0}
AreWithin owed line trees (TreeLine t) = (t.owed ≤ owed) × (t.line ≤ line) × HasAtMost trees t.judged
AreWithin owed line trees (Faulty n) = Unit {0}

-- the bounds after n bytes
abbrev pub AreFew : ℕ → Reading → Type 0
AreFew n reading = AreWithin (1 + 2 * n) (1 + 3 * n) n reading

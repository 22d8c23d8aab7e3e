-- A certificate's text, judged byte by byte: what is kept after some bytes, and the verdict at the end.
use Rattle.std.specs.Prelude.{ℕ, zero, suc, ◌-◌, Bool, true, false, nat_lt, ◌==◌, bytes_eq, ℤ, List, [], ◌∷◌, ◌++◌}
use Rattle.std.specs.Prelude.{length, slice_index, Option, Some, None, if◌then◌else◌}
use Rattle.bezier_core.specs.declared.Bez.{Bez}
use Rattle.bezier_core.specs.declared.halves.Place.{Place}
use Rattle.sep_parts.specs.declared.clearance.Clearance.{Clearance}
use Rattle.sep_parts.specs.declared.node.Node.{Node}
use Rattle.sep_parts.specs.declared.node.Node.TheVariants.{Split, Leaf}
use Rattle.sep_parts.specs.declared.rules.Rules.{Rules}
use Rattle.sep_parts.specs.declared.slot.Slot.{Slot}
use Rattle.sep_parts.specs.Levels.{root}
use Rattle.fleet_curves.specs.Raised.{Raised, difference}
use Rattle.sep_parts.specs.Slots.{following, slot_at}
use Rattle.sep_parts.specs.Trees.{places_below}
use Rattle.sep_parts.specs.Versions.{table_of}
use Rattle.sep_certificate.specs.declared.certificate.CertFault.{CertFault}
use Rattle.sep_certificate.specs.declared.certificate.CertFault.TheVariants.{Missing, Extra}
use Rattle.sep_certificate.specs.Certificates.{node_fault}
use Rattle.sep_certificate.specs.Texts.{is_depth_line, is_digit, is_letter, is_wide_leaf, two_digits, version_line}
use Rattle.certificate_checker.specs.declared.verdict.Verdict.{Verdict}
use Rattle.certificate_checker.specs.declared.verdict.Verdict.TheVariants.{Valid, Line, Refused}

-- ---- what is judged of the trees

-- The pair and cue whose tree comes next, the places of that tree that are still to be
-- judged, the next one first, and the number of whole trees; or the first fault.
pub data Judged : Type 0 where
  Clear : Slot → List Place → ℕ → Judged
  Wrong : CertFault → Judged

-- a node that was judged at a place, before others
abbrev pub after_node : Slot → Place → List Place → ℕ → Node → Option CertFault → Judged
after_node slot place rest n node None = Clear slot (places_below place node ++ rest) n
after_node slot place rest n node (Some fault) = Wrong fault

-- a node at the first of the places
abbrev pub at_places : Rules → List (List ℤ) → List (Bez 8) → Slot → List Place → ℕ → Node → Judged
at_places rules dirs diff slot [] n node = Clear slot [] n
at_places rules dirs diff slot (place ∷ rest) n node =
    after_node slot place rest n node (node_fault rules dirs diff slot place node)

-- One node more. After the first fault, and in a tree too many, no node is judged.
abbrev pub with_node : Rules → List (List ℤ) → Raised → Judged → Node → Judged
with_node rules dirs curves (Wrong fault) node = Wrong fault
with_node rules dirs curves (Clear slot places n) node =
    if nat_lt slot.b curves.drones
    then at_places rules dirs (difference curves slot.a slot.b slot.cue) slot places n node
    else Clear slot places n

-- before the tree of a pair and cue
abbrev pub before_tree : Slot → ℕ → Judged
before_tree slot n = Clear slot (root ∷ []) n

-- the tree is whole: the next pair and cue follow; a tree too many is a fault
abbrev pub with_tree : Raised → Judged → Judged
with_tree curves (Wrong fault) = Wrong fault
with_tree curves (Clear slot places n) =
    if nat_lt slot.b curves.drones then before_tree (following curves.drones curves.cues slot) (suc n)
    else Wrong (Extra n)

-- ---- what is kept of a line

-- In the line of a tree: the version and depth that the lines before the trees say, the
-- number of the line, how many trees are still to come in it, the first digit of a leaf whose second has not come, and
-- what is judged. A line begins with one tree to come; a split puts two in the place of one.
pub record TreesRead : Type 0 where
  pub version : ℕ
  pub depth : ℕ
  pub line : ℕ
  pub owed : ℕ
  pub digit : Option ℕ
  pub judged : Judged

-- The first line, or the one with the depth of version 2, of each the first fifteen bytes; the line of a tree; or the
-- number of the first faulty line.
pub data Reading : Type 0 where
  FirstLine : List ℕ → Reading
  DepthLine : List ℕ → Reading
  TreeLine : TreesRead → Reading
  Faulty : ℕ → Reading

abbrev pub rules_in : Clearance → TreesRead → Rules
rules_in clearance t = record { clearance = clearance; depth = t.depth }

-- a node of the line, after which this many trees are still to come
abbrev pub node_read : Clearance → Raised → TreesRead → Node → ℕ → Reading
node_read clearance curves t node owed =
    TreeLine (record t {
      owed = owed;
      digit = None;
      judged = with_node (rules_in clearance t) (table_of t.version) curves t.judged node;
    })

-- a byte of a line of version 1 in which this many trees are still to come
abbrev pub letter_read : Clearance → Raised → TreesRead → ℕ → ℕ → Reading
letter_read clearance curves t zero b = Faulty t.line
letter_read clearance curves t (suc n) b =
    if b == 46 then node_read clearance curves t Split (suc (suc n))
    else if is_letter b then node_read clearance curves t (Leaf (b - 97)) n else Faulty t.line

-- the same for version 2, perhaps after the first digit of a leaf
abbrev pub digit_read : Clearance → Raised → TreesRead → ℕ → Option ℕ → ℕ → Reading
digit_read clearance curves t zero digit b = Faulty t.line
digit_read clearance curves t (suc n) None b =
    if b == 46 then node_read clearance curves t Split (suc (suc n))
    else if is_digit b then TreeLine (record t { digit = Some b }) else Faulty t.line
digit_read clearance curves t (suc n) (Some first) b =
    if is_wide_leaf first b then node_read clearance curves t (Leaf (two_digits first b)) n else Faulty t.line

-- A byte of a line before the trees. A line of more than fourteen bytes is faulty whatever they are, so fifteen tell
-- enough.
abbrev pub kept : List ℕ → ℕ → List ℕ
kept head b = if nat_lt (length head) 15 then head ++ b ∷ [] else head

-- a byte of a line
abbrev pub byte_read : Clearance → Raised → Reading → ℕ → Reading
byte_read clearance curves (FirstLine head) b = FirstLine (kept head b)
byte_read clearance curves (DepthLine head) b = DepthLine (kept head b)
byte_read clearance curves (TreeLine t) b =
    if t.version == 1 then letter_read clearance curves t t.owed b else digit_read clearance curves t t.owed t.digit b
byte_read clearance curves (Faulty n) b = Faulty n

-- before the first tree
abbrev pub first_tree : ℕ → ℕ → ℕ → TreesRead
first_tree version depth line = record {
  version = version;
  depth = depth;
  line = line;
  owed = 1;
  digit = None;
  judged = before_tree (slot_at 0 1 0) 0;
}

-- the line with the depth, line n, is whole
abbrev pub depth_read : ℕ → ℕ → List ℕ → Reading
depth_read version n head =
    if is_depth_line head then TreeLine (first_tree version (slice_index head 12 - 48) (suc n)) else Faulty n

-- a line is whole
abbrev pub line_read : Raised → Reading → Reading
line_read curves (FirstLine head) = if bytes_eq head version_line then DepthLine [] else depth_read 1 1 head
line_read curves (DepthLine head) = depth_read 2 2 head
line_read curves (TreeLine t) =
    if t.owed == 0 then TreeLine (record t { line = suc t.line; owed = 1; judged = with_tree curves t.judged })
    else Faulty t.line
line_read curves (Faulty n) = Faulty n

-- ---- what is kept of a text

-- A carriage return is part of its line if no line feed follows, so it waits for the next
-- byte (`is_returned`). `is_begun`: the line has a byte.
pub record Checking : Type 0 where
  pub reading : Reading
  pub is_returned : Bool
  pub is_begun : Bool

abbrev pub nothing_checked : Checking
nothing_checked = record { reading = FirstLine []; is_returned = false; is_begun = false }

-- the line with the carriage return that waits
abbrev pub with_return : Clearance → Raised → Bool → Reading → Reading
with_return clearance curves true reading = byte_read clearance curves reading 13
with_return clearance curves false reading = reading

-- a byte that is no line feed
abbrev pub line_byte : Clearance → Raised → Checking → ℕ → Checking
line_byte clearance curves c b =
    if b == 13 then
    record { reading = with_return clearance curves c.is_returned c.reading; is_returned = true; is_begun = true }
    else record {
      reading = byte_read clearance curves (with_return clearance curves c.is_returned c.reading) b;
      is_returned = false;
      is_begun = true;
    }

-- before the first byte of a line
abbrev pub fresh : Reading → Checking
fresh reading = record { reading = reading; is_returned = false; is_begun = false }

-- one byte more
abbrev pub checked : Clearance → Raised → Checking → ℕ → Checking
checked clearance curves c b = if b == 10 then fresh (line_read curves c.reading) else line_byte clearance curves c b

-- after these bytes
unfoldable pub checked_all : Clearance → Raised → Checking → List ℕ → Checking
checked_all clearance curves c [] = c
checked_all clearance curves c (b ∷ bytes) = checked_all clearance curves (checked clearance curves c b) bytes

-- the text ends here, and so does its last line, which may lack a line feed
abbrev pub closed : Clearance → Raised → Checking → Reading
closed clearance curves c =
    if c.is_begun then line_read curves (with_return clearance curves c.is_returned c.reading) else c.reading

-- ---- the verdict
abbrev pub judged_verdict : Raised → ℕ → ℕ → Judged → Verdict
judged_verdict curves version depth (Wrong fault) = Refused version fault
judged_verdict curves version depth (Clear slot places n) =
    if nat_lt slot.b curves.drones then Refused version (Missing slot.a slot.b slot.cue) else Valid depth n

abbrev pub verdict_of : Raised → Reading → Verdict
verdict_of curves (FirstLine head) = Line 1
verdict_of curves (DepthLine head) = Line 2
verdict_of curves (TreeLine t) = judged_verdict curves t.version t.depth t.judged
verdict_of curves (Faulty n) = Line n

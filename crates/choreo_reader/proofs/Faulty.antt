-- The fault of a reading is the first fault of the text by the contexts of its lines.
use Rattle.choreo_reader.proofs.Prelude.{common_steps, ◌≡◌, ℕ, Bool, true, false, List, [], ◌∷◌, ◌++◌, Option, Some, None, Result, Ok, Err, refl, sym, ap, subst, ◌∙◌, cond, arith, ◌&&◌, ◌||◌, is_some, Line, show_lines, Name, Body, PlainShow, has_block, ◌⨾◌, keyword_in, Says, may_say, Fault, fault_at, forbidden, Context, open_fault, line_fault, Opened, OpenFormation, OpenFigure, OpenRepeat, OpenCue, this_or, fault_from, fault_of_lines, end_fault, either_fault, fault, place_of, place_in, opened_by, is_end, is_top, fill, opens, blocks_after, sets_memory, sets_trajectory, sets_ellipsoid, sets_stray, sets_late, context_after, first_word, in_figure, word, as_read, Open, InFormation, InFigure, InRepeat, InCue, Built, nothing, context_of, openings_of, outer_openings, is_any, add_block, close_innermost, build, built_by, unless, lines_step, then_step, finish, finish_with, read_lines, reading, unless_forbidden, entry_fault, fault_with, entry_of, kind_of, or_else, says_of, says_read, LineKind, Entry, ActLine, Form, form_of, read_after_header, fault_after_header}
use Rattle.choreo_lines.specs.FirstWord.{keyword_of}
use Rattle.choreo_show.specs.Plain as plain
use Rattle.choreo_lines.specs.declared.line.Place.{Place}
use Rattle.choreo_reader.proofs.Complete.{TakesBlocks, with_open}
use Rattle.choreo_lines.proofs.Reading.{IsFirst, is_other, name_keyword, read_as_name}
use Rattle.choreo_reader.proofs.Sound.{InOrder, Holds, step_holds, at_start, IsOutside, top_is, not_in_repeat, not_in_cue, takes_is}
use Rattle.choreo_lines.specs.declared.line.Keyword.{Keyword}
use Rattle.choreo_lines.specs.declared.line.Keyword.TheVariants as first
use Rattle.choreo_lines.specs.declared.line.LineKind.TheVariants as kind
use Rattle.choreo_lines.specs.declared.line.Place.TheVariants as place
use Rattle.choreo_lines.specs.declared.line.Entry.TheVariants as entry

-- The first word of a line, by what it says.

-- a line of an entry begins with the entry's word
first_said : (k : Keyword) (w : List ℕ) → IsFirst k w → (k ≡ first.Other → ⊥) → keyword_of w ≡ k
first_said first.Other w f n = absurd (n refl)
first_said k w f n = f

word_said : (form : Form) (ws : List (List ℕ)) (e : Entry) → Says form ws e → (keyword_in e ≡ first.Other → ⊥) → keyword_of (first_word ws) ≡ keyword_in e
word_said form ws e h n = first_said (keyword_in e) (word ws 0) (says_read form ws e h).0 n

-- that of an act line is a name
name_said : (form : Form) (ws : List (List ℕ)) (name : Name) (a : _) → Says form ws (entry.One name a) → is_other (keyword_of (first_word ws)) ≡ true
name_said form [] name a h = absurd h
name_said form (w ∷ ws) name a h = name_keyword w h.0.0

-- The open blocks after a line.

filled_outer : (os : List Open) → fill (openings_of os) ≡ outer_openings os
filled_outer [] = refl
filled_outer (o ∷ os) = refl

with_opening : (n : ℕ) (os : List Open) (o : Option Opened) (k : Opened) → o ≡ Some k → opens n (openings_of os) o ≡ record { kind = k; line = n; filled = false } ∷ outer_openings os
with_opening n os o k e = ap (opens n (openings_of os)) e ∙ ap (λ qs. record { kind = k; line = n; filled = false } ∷ qs) (filled_outer os)

any_more : {A : Type 0} (xs : List A) (x : A) → is_any (xs ++ x ∷ []) ≡ true
any_more [] x = refl
any_more (y ∷ xs) x = refl

block_more : (b a : Body) → has_block a ≡ true → has_block (b ⨾ a) ≡ true
block_more plain.Done a h = h
block_more (plain.Cue line ms acts rest) a h = refl
block_more (plain.Repeat line times inside rest) a h = refl
block_more (plain.Perform line figure frame drones rest) a h = refl

added_openings : (s : Built) (os : List Open) (a : Body) → has_block a ≡ true → TakesBlocks os → outer_openings os ≡ openings_of (add_block s os a).open_blocks
added_openings s [] a h k = refl
added_openings s (InFormation line name places ∷ os) a h k = absurd k
added_openings s (InFigure line name roles b ∷ os) a h k = ap (λ f. record { kind = OpenFigure; line = line; filled = f } ∷ outer_openings os) (sym (block_more b a h))
added_openings s (InRepeat line times b ∷ os) a h k = ap (λ f. record { kind = OpenRepeat; line = line; filled = f } ∷ outer_openings os) (sym (block_more b a h))
added_openings s (InCue line ms acts ∷ os) a h k = absurd k

opened_in : (b : Bool) (k : Keyword) (o : Opened) → opened_by place.InFigure k ≡ Some o → opened_by place.InRepeat k ≡ Some o → opened_by (place_in OpenRepeat b) k ≡ Some o
opened_in true k o p q = p
opened_in false k o p q = q

block_opens : (os : List Open) (k : Keyword) (o : Opened) → TakesBlocks os → opened_by place.Top k ≡ Some o → opened_by place.InFigure k ≡ Some o → opened_by place.InRepeat k ≡ Some o → opened_by (place_of (openings_of os)) k ≡ Some o
block_opens [] k o t p q r = p
block_opens (InFormation line name places ∷ os) k o t p q r = absurd t
block_opens (InFigure line name roles b ∷ os) k o t p q r = q
block_opens (InRepeat line times b ∷ os) k o t p q r = opened_in (in_figure (openings_of (InRepeat line times b ∷ os))) k o q r
block_opens (InCue line ms acts ∷ os) k o t p q r = absurd t

performs_open : (b : Bool) → opened_by (place_in OpenRepeat b) first.Perform ≡ None
performs_open true = refl
performs_open false = refl

perform_opens : (os : List Open) → TakesBlocks os → opened_by (place_of (openings_of os)) first.Perform ≡ None
perform_opens [] t = refl
perform_opens (InFormation line name places ∷ os) t = absurd t
perform_opens (InFigure line name roles b ∷ os) t = refl
perform_opens (InRepeat line times b ∷ os) t = performs_open (in_figure (openings_of (InRepeat line times b ∷ os)))
perform_opens (InCue line ms acts ∷ os) t = absurd t

none_in_cue : (b : Bool) (k : Keyword) → opened_by (place_in OpenCue b) k ≡ None
none_in_cue true k = refl
none_in_cue false k = refl

other_end : (k : Keyword) → is_other k ≡ true → is_end k ≡ false
other_end first.End h = cc
other_end first.Form h = refl
other_end first.Memory h = refl
other_end k h = refl

-- what a line says decides the open blocks after it
abbrev Follows : List Open → Built → ℕ → Keyword → Entry → Type 0
Follows os s n k e = blocks_after n (openings_of os) k ≡ openings_of (build (with_open s os) n e).open_blocks

abbrev Turns : List Open → Built → ℕ → Entry → Type 0
Turns os s n e = Follows os s n (keyword_in e) e

end_turns : (os : List Open) (s : Built) (n : ℕ) → InOrder os → may_say (place_of (openings_of os)) entry.End ≡ true → Turns os s n entry.End
end_turns [] s n k m = cc
end_turns (InFormation line name places ∷ []) s n k m = refl
end_turns (InFormation line name places ∷ o ∷ os) s n k m = cc
end_turns (InFigure line name roles b ∷ []) s n k m = refl
end_turns (InFigure line name roles b ∷ o ∷ os) s n k m = let e = k.0 in cc
end_turns (InRepeat line times b ∷ os) s n k m = added_openings (with_open s (InRepeat line times b ∷ os)) os (plain.Repeat line times b plain.Done) refl k.0
end_turns (InCue line ms acts ∷ os) s n k m = added_openings (with_open s (InCue line ms acts ∷ os)) os (plain.Cue line ms acts plain.Done) refl k.0

at_turns : (os : List Open) (s : Built) (n : ℕ) (name : Name) (to : _) → may_say (place_of (openings_of os)) (entry.At name to) ≡ true → Turns os s n (entry.At name to)
at_turns [] s n name to m = cc
at_turns (InFormation line f places ∷ os) s n name to m = ap (λ b. record { kind = OpenFormation; line = line; filled = b } ∷ outer_openings os) (sym (any_more places (record { line = n; name = name; at = to })))
at_turns (InFigure line f roles b ∷ os) s n name to m = cc
at_turns (InRepeat line times b ∷ os) s n name to m = absurd (not_in_repeat (in_figure (openings_of (InRepeat line times b ∷ os))) (entry.At name to) refl refl m)
at_turns (InCue line ms acts ∷ os) s n name to m = absurd (not_in_cue (in_figure (openings_of (InCue line ms acts ∷ os))) (entry.At name to) refl refl m)

-- an act line, whose first word may be anything but `end`
acts_turn : (line ms : ℕ) (acts : List ActLine) (os : List Open) (n : ℕ) (k : Keyword) (a : ActLine) → is_end k ≡ false → blocks_after n (openings_of (InCue line ms acts ∷ os)) k ≡ openings_of (InCue line ms (acts ++ a ∷ []) ∷ os)
acts_turn line ms acts os n k a h = grind (arith, common_steps, cond, none_in_cue, any_more)

one_turns : (os : List Open) (s : Built) (n : ℕ) (k : Keyword) (name : Name) (a : _) → is_other k ≡ true → may_say (place_of (openings_of os)) (entry.One name a) ≡ true → Follows os s n k (entry.One name a)
one_turns [] s n k name a h m = cc
one_turns (InFormation line f places ∷ os) s n k name a h m = cc
one_turns (InFigure line f roles b ∷ os) s n k name a h m = cc
one_turns (InRepeat line times b ∷ os) s n k name a h m = absurd (not_in_repeat (in_figure (openings_of (InRepeat line times b ∷ os))) (entry.One name a) refl refl m)
one_turns (InCue line ms acts ∷ os) s n k name a h m = acts_turn line ms acts os n k _ (other_end k h)

form_turns : (os : List Open) (s : Built) (n : ℕ) (name : Name) (smooth : Bool) → may_say (place_of (openings_of os)) (entry.Form name smooth) ≡ true → Turns os s n (entry.Form name smooth)
form_turns [] s n name smooth m = cc
form_turns (InFormation line f places ∷ os) s n name smooth m = cc
form_turns (InFigure line f roles b ∷ os) s n name smooth m = cc
form_turns (InRepeat line times b ∷ os) s n name smooth m = absurd (not_in_repeat (in_figure (openings_of (InRepeat line times b ∷ os))) (entry.Form name smooth) refl refl m)
form_turns (InCue line ms acts ∷ os) s n name smooth m = acts_turn line ms acts os n first.Form _ refl

top_turns : (e : Entry) (os : List Open) (s : Built) (n : ℕ) → IsOutside e → may_say (place_of (openings_of os)) e ≡ true → Turns [] s n e → Turns os s n e
top_turns e os s n o m t = subst (λ qs. Turns qs s n e) (sym (top_is os e o m)) t

turns : (e : Entry) (os : List Open) (s : Built) (n : ℕ) → InOrder os → may_say (place_of (openings_of os)) e ≡ true → (keyword_in e ≡ first.Other → ⊥) → Turns os s n e
turns (entry.Memory id offset) os s n k m o = top_turns (entry.Memory id offset) os s n (refl, refl, refl, refl, refl) m refl
turns (entry.Trajectory id) os s n k m o = top_turns (entry.Trajectory id) os s n (refl, refl, refl, refl, refl) m refl
turns (entry.Ellipsoid r h) os s n k m o = top_turns (entry.Ellipsoid r h) os s n (refl, refl, refl, refl, refl) m refl
turns (entry.Stray mm) os s n k m o = top_turns (entry.Stray mm) os s n (refl, refl, refl, refl, refl) m refl
turns (entry.Late ms) os s n k m o = top_turns (entry.Late ms) os s n (refl, refl, refl, refl, refl) m refl
turns (entry.Drone name to) os s n k m o = top_turns (entry.Drone name to) os s n (refl, refl, refl, refl, refl) m refl
turns (entry.Formation name) os s n k m o = top_turns (entry.Formation name) os s n (refl, refl, refl, refl, refl) m refl
turns (entry.Figure name roles) os s n k m o = top_turns (entry.Figure name roles) os s n (refl, refl, refl, refl, refl) m refl
turns (entry.Cue ms) os s n k m o = with_opening n os _ OpenCue (block_opens os first.Cue OpenCue (takes_is os (entry.Cue ms) refl refl refl m) refl refl refl)
turns (entry.Repeat times) os s n k m o = with_opening n os _ OpenRepeat (block_opens os first.Repeat OpenRepeat (takes_is os (entry.Repeat times) refl refl refl m) refl refl refl)
turns (entry.Perform figure frame ds) os s n k m o =
    let t = takes_is os (entry.Perform figure frame ds) refl refl refl m in
    ap (opens n (openings_of os)) (perform_opens os t) ∙ filled_outer os ∙ added_openings (with_open s os) os (plain.Perform n figure frame ds plain.Done) refl t
turns (entry.At name to) os s n k m o = at_turns os s n name to m
turns (entry.Form name smooth) os s n k m o = form_turns os s n name smooth m
turns (entry.One name a) os s n k m o = absurd (o refl)
turns entry.End os s n k m o = end_turns os s n k m

blocks_turn : (form : Form) (ws : List (List ℕ)) (e : Entry) (s : Built) (n : ℕ) → InOrder s.open_blocks → Says form ws e → may_say (place_of (openings_of s.open_blocks)) e ≡ true → Follows s.open_blocks s n (keyword_of (first_word ws)) e
blocks_turn form ws (entry.One name a) s n k h m = one_turns s.open_blocks s n (keyword_of (first_word ws)) name a (name_said form ws name a h) m
blocks_turn form ws e s n k h m =
    ap (blocks_after n (openings_of s.open_blocks)) (word_said form ws e h (λ o. cc)) ∙ turns e s.open_blocks s n k m (λ o. cc)

-- The settings after a line.

or_true : (x : Bool) → (x || true) ≡ true
or_true true = refl
or_true false = refl

or_false : (x : Bool) → (x || false) ≡ x
or_false true = refl
or_false false = refl

or_none : (x b : Bool) → (x || (b && false)) ≡ x
or_none true true = refl
or_none true false = refl
or_none false true = refl
or_none false false = refl

record KeepsSettings (s t : Built) : Type 0 where
  memory : t.memory ≡ s.memory
  trajectory : t.trajectory ≡ s.trajectory
  ellipsoid : t.ellipsoid ≡ s.ellipsoid
  stray : t.stray ≡ s.stray
  late : t.late ≡ s.late

-- the settings that stand after a line with this first word
record SettingsTurn (s t : Built) (os : List Open) (k : Keyword) : Type 0 where
  memory : (is_some s.memory || (is_top (openings_of os) && sets_memory k)) ≡ is_some t.memory
  trajectory : (is_some s.trajectory || (is_top (openings_of os) && sets_trajectory k)) ≡ is_some t.trajectory
  ellipsoid : (is_some s.ellipsoid || (is_top (openings_of os) && sets_ellipsoid k)) ≡ is_some t.ellipsoid
  stray : (is_some s.stray || (is_top (openings_of os) && sets_stray k)) ≡ is_some t.stray
  late : (is_some s.late || (is_top (openings_of os) && sets_late k)) ≡ is_some t.late

abbrev is_setting : Keyword → Bool
is_setting first.Memory = true
is_setting first.Trajectory = true
is_setting first.Ellipsoid = true
is_setting first.Stray = true
is_setting first.Late = true
is_setting _ = false

settings_keep : (s t : Built) (os : List Open) (k : Keyword) → KeepsSettings s t → is_setting k ≡ false → SettingsTurn s t os k
settings_keep s t os first.Memory h n = cc
settings_keep s t os first.Trajectory h n = cc
settings_keep s t os first.Ellipsoid h n = cc
settings_keep s t os first.Stray h n = cc
settings_keep s t os first.Late h n = cc
settings_keep s t os k h n = grind (arith, common_steps, or_none)

add_keeps : (s : Built) (os : List Open) (a : Body) → KeepsSettings s (add_block s os a)
add_keeps s [] a = record { memory = refl; trajectory = refl; ellipsoid = refl; stray = refl; late = refl }
add_keeps s (o ∷ os) a = record { memory = refl; trajectory = refl; ellipsoid = refl; stray = refl; late = refl }

close_keeps : (s : Built) (os : List Open) → KeepsSettings s (close_innermost s os)
close_keeps s [] = record { memory = refl; trajectory = refl; ellipsoid = refl; stray = refl; late = refl }
close_keeps s (InFormation line name places ∷ os) = record { memory = refl; trajectory = refl; ellipsoid = refl; stray = refl; late = refl }
close_keeps s (InFigure line name roles b ∷ os) = record { memory = refl; trajectory = refl; ellipsoid = refl; stray = refl; late = refl }
close_keeps s (InRepeat line times b ∷ os) = add_keeps s os (plain.Repeat line times b plain.Done)
close_keeps s (InCue line ms acts ∷ os) = add_keeps s os (plain.Cue line ms acts plain.Done)

build_keeps : (e : Entry) (s : Built) (n : ℕ) → is_setting (keyword_in e) ≡ false → KeepsSettings s (build s n e)
build_keeps (entry.Memory id offset) s n h = cc
build_keeps (entry.Trajectory id) s n h = cc
build_keeps (entry.Ellipsoid r x) s n h = cc
build_keeps (entry.Stray mm) s n h = cc
build_keeps (entry.Late ms) s n h = cc
build_keeps (entry.Perform figure frame ds) s n h = add_keeps s s.open_blocks (plain.Perform n figure frame ds plain.Done)
build_keeps entry.End s n h = close_keeps s s.open_blocks
build_keeps e s n h = record { memory = refl; trajectory = refl; ellipsoid = refl; stray = refl; late = refl }

-- at top
abbrev TopTurn : Built → ℕ → Entry → List Open → Type 0
TopTurn s n e os = SettingsTurn s (build s n e) os (keyword_in e)

settings_turn : (e : Entry) (s : Built) (n : ℕ) → may_say (place_of (openings_of s.open_blocks)) e ≡ true → SettingsTurn s (build s n e) s.open_blocks (keyword_in e)
settings_turn (entry.Memory id offset) s n m =
    subst (TopTurn s n (entry.Memory id offset)) (sym (top_is s.open_blocks (entry.Memory id offset) (refl, refl, refl, refl, refl) m))
    (record { memory = or_true (is_some s.memory); trajectory = or_false (is_some s.trajectory); ellipsoid = or_false (is_some s.ellipsoid); stray = or_false (is_some s.stray); late = or_false (is_some s.late) })
settings_turn (entry.Trajectory id) s n m =
    subst (TopTurn s n (entry.Trajectory id)) (sym (top_is s.open_blocks (entry.Trajectory id) (refl, refl, refl, refl, refl) m))
    (record { memory = or_false (is_some s.memory); trajectory = or_true (is_some s.trajectory); ellipsoid = or_false (is_some s.ellipsoid); stray = or_false (is_some s.stray); late = or_false (is_some s.late) })
settings_turn (entry.Ellipsoid r h) s n m =
    subst (TopTurn s n (entry.Ellipsoid r h)) (sym (top_is s.open_blocks (entry.Ellipsoid r h) (refl, refl, refl, refl, refl) m))
    (record { memory = or_false (is_some s.memory); trajectory = or_false (is_some s.trajectory); ellipsoid = or_true (is_some s.ellipsoid); stray = or_false (is_some s.stray); late = or_false (is_some s.late) })
settings_turn (entry.Stray mm) s n m =
    subst (TopTurn s n (entry.Stray mm)) (sym (top_is s.open_blocks (entry.Stray mm) (refl, refl, refl, refl, refl) m))
    (record { memory = or_false (is_some s.memory); trajectory = or_false (is_some s.trajectory); ellipsoid = or_false (is_some s.ellipsoid); stray = or_true (is_some s.stray); late = or_false (is_some s.late) })
settings_turn (entry.Late ms) s n m =
    subst (TopTurn s n (entry.Late ms)) (sym (top_is s.open_blocks (entry.Late ms) (refl, refl, refl, refl, refl) m))
    (record { memory = or_false (is_some s.memory); trajectory = or_false (is_some s.trajectory); ellipsoid = or_false (is_some s.ellipsoid); stray = or_false (is_some s.stray); late = or_true (is_some s.late) })
settings_turn e s n m = settings_keep s (build s n e) s.open_blocks (keyword_in e) (build_keeps e s n refl) refl

-- an act line sets nothing, whatever its first word is, since a cue is open
one_settings : (os : List Open) (s : Built) (k : Keyword) (name : Name) (a : _) → may_say (place_of (openings_of os)) (entry.One name a) ≡ true → SettingsTurn s s os k
one_settings [] s k name a m = cc
one_settings (o ∷ os) s k name a m = record { memory = or_false (is_some s.memory); trajectory = or_false (is_some s.trajectory); ellipsoid = or_false (is_some s.ellipsoid); stray = or_false (is_some s.stray); late = or_false (is_some s.late) }

settings_by : (s t : Built) (os : List Open) (k j : Keyword) → j ≡ k → SettingsTurn s t os k → SettingsTurn s t os j
settings_by s t os k j e h = subst (λ i. SettingsTurn s t os i) (sym e) h

line_settings : (form : Form) (ws : List (List ℕ)) (e : Entry) (s : Built) (n : ℕ) → Says form ws e → may_say (place_of (openings_of s.open_blocks)) e ≡ true → SettingsTurn s (build s n e) s.open_blocks (keyword_of (first_word ws))
line_settings form ws (entry.One name a) s n h m =
    let k = one_settings s.open_blocks s (keyword_of (first_word ws)) name a m in
    record { memory = k.memory; trajectory = k.trajectory; ellipsoid = k.ellipsoid; stray = k.stray; late = k.late }
line_settings form ws e s n h m = settings_by s (build s n e) s.open_blocks (keyword_in e) (keyword_of (first_word ws)) (word_said form ws e h (λ o. cc)) (settings_turn e s n m)

-- the context after a line is that of what is built after it
context_turns : (form : Form) (l : Line) (e : Entry) (s : Built) → InOrder s.open_blocks → Says form l.words e → may_say (place_of (openings_of s.open_blocks)) e ≡ true → context_after (context_of s) l ≡ context_of (build s l.number e)
context_turns form l e s k h m =
    let blocks = blocks_turn form l.words e s l.number k h m in
    let t = line_settings form l.words e s l.number h m in
    let memory = t.memory in
    let trajectory = t.trajectory in
    let ellipsoid = t.ellipsoid in
    let stray = t.stray in
    let late = t.late in
    cc

-- Faults.

abbrev pub fault_in : Result PlainShow Fault → Option Fault
fault_in (Ok show) = None
fault_in (Err f) = Some f

finished_fault : (s : Built) (o : Option Fault) → o ≡ fault_in (finish_with s o)
finished_fault s None = refl
finished_fault s (Some f) = refl

entry_step : (form : Form) (o : Option LineKind) (n : ℕ) (t : Built) (later : Option Fault) (ls : List Line) → (o ≡ None → later ≡ fault_in (finish (lines_step form t ls))) → this_or n o later ≡ fault_in (finish (then_step (unless n o t) (λ u. lines_step form u ls)))
entry_step form (Some k) n t later ls h = refl
entry_step form None n t later ls h = h refl

fault_step : (form : Form) (r : Result Entry LineKind) (s : Built) (l : Line) (ls done : List Line) → Holds form s done → entry_of form (place_of (openings_of s.open_blocks)) l.words ≡ r → ((t : Built) → Holds form t (done ++ l ∷ []) → fault_from form (context_of t) ls ≡ fault_in (finish (lines_step form t ls))) → this_or l.number (fault_with (context_of s) r) (fault_from form (context_after (context_of s) l) ls) ≡ fault_in (finish (then_step (built_by s l.number r) (λ t. lines_step form t ls)))
fault_step form (Err k) s l ls done h e ih = refl
fault_step form (Ok x) s l ls done h e ih =
    let b = says_of form (place_of (openings_of s.open_blocks)) l.words x e in
    entry_step form (entry_fault (context_of s) x) l.number (build s l.number x) (fault_from form (context_after (context_of s) l) ls) ls
    (λ n. ap (λ c. fault_from form c ls) (context_turns form l x s h.order b.0 b.1)
    ∙ ih (build s l.number x) (step_holds form s (build s l.number x) l done h (ap (built_by s l.number) e ∙ ap (λ o. unless l.number o (build s l.number x)) n)))

open_word : (c : Context) (e : Entry) → open_fault c (keyword_in e) ≡ entry_fault c e
open_word c (entry.Memory id offset) = refl
open_word c e = refl

open_by : (p : Place) (c : Context) (e : Entry) → may_say p e ≡ true → open_fault c (as_read p (keyword_in e)) ≡ entry_fault c e
open_by place.InCue c (entry.Form formation smooth) m = refl
open_by place.InCue c (entry.One name a) m = refl
open_by place.InCue c entry.End m = refl
open_by place.InCue c e m = cc
open_by place.InFigureCue c (entry.One name a) m = refl
open_by place.InFigureCue c entry.End m = refl
open_by place.InFigureCue c e m = cc
open_by p c e m = open_word c e

-- what earlier lines leave open is a matter of the first word
open_is : (form : Form) (c : Context) (ws : List (List ℕ)) (e : Entry) → Says form ws e → may_say (place_of c.open_blocks) e ≡ true → open_fault c (as_read (place_of c.open_blocks) (keyword_of (first_word ws))) ≡ entry_fault c e
open_is form c ws (entry.One name a) h m = ap (open_fault c) (read_as_name (place_of c.open_blocks) (keyword_of (word ws 0)) m (name_said form ws name a h))
open_is form c ws e h m = ap (λ k. open_fault c (as_read (place_of c.open_blocks) k)) (word_said form ws e h (λ o. cc)) ∙ open_by (place_of c.open_blocks) c e m

-- what is wrong with a line is what its reading finds, and then what is left open for what it says
line_by : (form : Form) (c : Context) (l : Line) (r : Result Entry LineKind) → entry_of form (place_of c.open_blocks) l.words ≡ r → line_fault form c l ≡ fault_with c r
line_by form c l (Ok e) is =
    let b = says_of form (place_of c.open_blocks) l.words e is in
    ap (λ o. or_else o (open_fault c (as_read (place_of c.open_blocks) (keyword_of (first_word l.words))))) (ap kind_of is)
    ∙ open_is form c l.words e b.0 b.1
line_by form c l (Err k) is = ap (λ o. or_else o (open_fault c (as_read (place_of c.open_blocks) (keyword_of (first_word l.words))))) (ap kind_of is)

fault_steps : (form : Form) (ls done : List Line) (s : Built) → Holds form s done → fault_from form (context_of s) ls ≡ fault_in (finish (lines_step form s ls))
fault_steps form [] done s h = finished_fault s (end_fault (openings_of s.open_blocks))
fault_steps form (l ∷ ls) done s h =
    ap (λ o. this_or l.number o (fault_from form (context_after (context_of s) l) ls)) (line_by form (context_of s) l (entry_of form (place_of (openings_of s.open_blocks)) l.words) refl)
    ∙ fault_step form (entry_of form (place_of (openings_of s.open_blocks)) l.words) s l ls done h refl (λ t k. fault_steps form ls (done ++ l ∷ []) t k)

header_fault : (o : Option Form) (n : ℕ) (ls : List Line) → fault_after_header o n ls ≡ fault_in (read_after_header o n ls)
header_fault (Some form) n ls = fault_steps form ls [] nothing (at_start form)
header_fault None n ls = refl

lines_fault : (ls : List Line) → fault_of_lines ls ≡ fault_in (read_lines ls)
lines_fault [] = refl
lines_fault (l ∷ ls) = header_fault (form_of l.words) l.number ls

whole_fault : (o : Option Fault) (ls : List Line) → either_fault o (fault_of_lines ls) ≡ fault_in (unless_forbidden o (read_lines ls))
whole_fault None ls = lines_fault ls
whole_fault (Some f) ls = refl

-- the fault of a text is that of its reading
pub faulty : (text : List ℕ) → fault text ≡ fault_in (reading text)
faulty text = whole_fault (forbidden text) (show_lines text)

-- The words of a line say an entry exactly where the line is read as that entry.
use Rattle.choreo_lines.proofs.Prelude.{common_steps, ◌≡◌, ℕ, suc, ◌+◌, ◌≤◌, Bool, true, false, List, [], ◌∷◌, ◌++◌, map, take, drop, Some, None, Option, Result, Ok, Err, refl, sym, ap, subst, ◌∙◌, cond, arith, eqb-true, eq-eqb, le-leb, ◌&&◌, ◌==◌, length, nat_le, nat_abs, ℤ, pos, negsuc, ◌≤ℤ◌, IsTrue, and_parts, leb-true, drop_all, take_all, append-nil, Name, is_name, Word, word, Row, row_of, act_places, has_count, act_of, Fits, AllFit, name_of, act_fields, act_with, keyword_in, fields_of, entry_with, ◌>>=◌, judged, name_in, mirror_in, smooth_in, ccw_in, value_in, values_in, names_in, act_by, act_in, act_line, row_line, entry_of, Holds, AllHold, SaysAct, Says, may_say, LineKind, Keyword, Place, Entry, Act, Form, Want, Value, number_in as number_read, Whole, Units, Smooth, Ccw, Number}
use Rattle.choreo_lines.proofs.QuantityLaws.{read_is_quantity, quantity_is_read}
use Rattle.choreo_lines.specs.Fields.{quantity_in}
use Rattle.std.proofs.lemmas.Slice.Eq.{bytes_eq-Decides}
use Rattle.text_lines.specs.declared.number.NumberFault.{NumberFault}
use Rattle.text_lines.proofs.NumberLaws.{read_is_number, number_is_read}
use Rattle.choreo_lines.specs.declared.unit.Counts.{Counts}
use Rattle.choreo_lines.specs.Quantities.{quantity_in as quantity_read}
use Rattle.choreo_lines.proofs.Reading.{two, passed, name_read, acted, Rowed, rowed, IsRead, read_of, read_entry}
use Rattle.choreo_lines.specs.declared.line.LineKind.TheVariants as kind
use Rattle.choreo_lines.specs.declared.line.Keyword.TheVariants as first
use Rattle.choreo_lines.specs.declared.line.Entry.TheVariants as entry
use Rattle.choreo_show.specs.declared.parts.Mirror.{Mirror}
use Rattle.choreo_lines.specs.declared.table.Want.TheVariants as want
use Rattle.choreo_lines.specs.declared.table.Value.TheVariants.{Name as Named, Mirror as Mirrored}
use Rattle.choreo_lines.specs.declared.table.ActWord.{ActWord}
use Rattle.choreo_lines.specs.declared.table.ActWord.TheVariants as word_of

-- A word that is read in its place is that value.

mirror_holds : (form : Form) (w : Word) (m : Mirror) → mirror_in w ≡ Ok m → Holds form want.Mirror w (Mirrored m)
mirror_holds form w m h = grind (arith, common_steps, bytes_eq-Decides)

smooth_holds : (form : Form) (w : Word) (s : Bool) → smooth_in w ≡ Ok s → Holds form want.Manner w (Smooth s)
smooth_holds form w s h = grind (arith, common_steps, bytes_eq-Decides)

ccw_holds : (form : Form) (w : Word) (c : Bool) → ccw_in w ≡ Ok c → Holds form want.Sense w (Ccw c)
ccw_holds form w c h = grind (arith, common_steps, bytes_eq-Decides)

judged_is : (r : Result ℤ NumberFault) (v : ℤ) → judged r ≡ Ok v → r ≡ Ok v
judged_is (Ok x) v h = let same : x ≡ v = cc in ap (λ z. Ok z) same
judged_is (Err f) v h = cc

-- a quantity that is read is one
quantity_holds : (form : Form) (counts : Counts) (low high : ℤ) (w : Word) (v : ℤ) → quantity_in form counts low high w ≡ Ok v → Holds form (want.Quantity counts low high) w (Number v)
quantity_holds Whole counts low high w v h = read_is_number low high w v (judged_is (number_read low high w) v h)
quantity_holds Units counts low high w v h = read_is_quantity counts low high w v (judged_is (quantity_read counts low high w) v h)

-- a value holds if it does for each thing that its word can be read as
read_holds : {A : Type 0} (form : Form) (wanted : Want) (w : Word) (r : Result A LineKind) (f : A → Value) (v : Value) → ((x : A) → r ≡ Ok x → Holds form wanted w (f x)) → (r >>= (λ x. Ok (f x))) ≡ Ok v → Holds form wanted w v
read_holds form wanted w (Ok x) f v holds h = let same : f x ≡ v = cc in subst (Holds form wanted w) same (holds x refl)
read_holds form wanted w (Err k) f v holds h = cc

value_holds : (form : Form) (wanted : Want) (w : Word) (v : Value) → value_in form wanted w ≡ Ok v → Holds form wanted w v
value_holds form want.Name w v h = read_holds form want.Name w (name_in w) Named v (λ n e. let r = name_read w n e in (r.0, sym r.1)) h
value_holds form want.Mirror w v h = read_holds form want.Mirror w (mirror_in w) Mirrored v (mirror_holds form w) h
value_holds form want.Manner w v h = read_holds form want.Manner w (smooth_in w) Smooth v (smooth_holds form w) h
value_holds form want.Sense w v h = read_holds form want.Sense w (ccw_in w) Ccw v (ccw_holds form w) h
value_holds form (want.Number low high) w v h =
    read_holds form (want.Number low high) w (judged (number_read low high w)) Number v
    (λ x e. read_is_number low high w x (judged_is (number_read low high w) x e)) h
value_holds form (want.Quantity counts low high) w v h =
    read_holds form (want.Quantity counts low high) w (quantity_in form counts low high w) Number v (quantity_holds form counts low high w) h

-- A value that a word is in its place fits the place.

pub holds_fits : (form : Form) (wanted : Want) (w : Word) (v : Value) → Holds form wanted w v → Fits wanted v
holds_fits form want.Name w (Named n) h = subst (λ x. IsTrue (is_name x)) (sym h.1) h.0
holds_fits form want.Mirror w (Mirrored m) h = tt
holds_fits form want.Manner w (Smooth s) h = tt
holds_fits form want.Sense w (Ccw c) h = tt
holds_fits form (want.Number low high) w (Number v) h = (h.from, h.to)
holds_fits Whole (want.Quantity counts low high) w (Number v) h = (h.from, h.to)
holds_fits Units (want.Quantity counts low high) w (Number v) h = (h.from, h.to)
holds_fits form wanted w v h = absurd h

-- values that are read fit their places, one each
pub values_fit : (form : Form) (wants : List Want) (ws : List Word) (vs : List Value) → values_in form wants ws ≡ Ok vs → AllFit wants vs × (length vs ≡ length wants)
unfolding values_in
values_fit form [] ws vs h = let same : [] ≡ vs = cc in subst (λ xs. AllFit [] xs × (length xs ≡ 0)) same (tt, refl)
values_fit form (wanted ∷ more) ws vs h =
    let p = two (value_in form wanted (word ws 0)) (λ v. values_in form more (drop 1 ws) >>= (λ xs. Ok (v ∷ xs))) vs h in
    let q = two (values_in form more (drop 1 ws)) (λ xs. Ok (p.a ∷ xs)) vs p.then in
    let same : p.a ∷ q.a ≡ vs = cc in
    let first = holds_fits form wanted (word ws 0) p.a (value_holds form wanted (word ws 0) p.a p.first) in
    let later = values_fit form more (drop 1 ws) q.a q.first in
    subst (λ xs. AllFit (wanted ∷ more) xs × (length xs ≡ suc (length more))) same ((first, later.0), ap suc later.1)

pub held_fit : (form : Form) (wants : List Want) (ws : List Word) (vs : List Value) → AllHold form wants ws vs → AllFit wants vs
held_fit form [] [] [] h = tt
held_fit form [] (w ∷ ws) (v ∷ vs) h = (holds_fits form want.Name w v h.0, held_fit form [] ws vs h.1)
held_fit form (wanted ∷ more) (w ∷ ws) (v ∷ vs) h = (holds_fits form wanted w v h.0, held_fit form more ws vs h.1)
held_fit form wants ws vs h = absurd h

-- A word that is a value in its place is read as that.

held_name : (form : Form) (w : Word) (v : Value) → Holds form want.Name w v → name_in w ≡ Ok (name_of v)
held_name form w (Named n) h =
    let is : record { items = w } ≡ n = ap (λ x. record { items = x }) (sym h.1) in
    ap (λ b. cond b (Ok (record { items = w })) (Err kind.BadName)) h.0 ∙ ap (λ x. Ok x) is
held_name form w v h = absurd h

held_value : (form : Form) (wanted : Want) (w : Word) (v : Value) → Holds form wanted w v → value_in form wanted w ≡ Ok v
held_value form want.Name w (Named n) h = ap (λ r. r >>= (λ x. Ok (Named x))) (held_name form w (Named n) h)
held_value form (want.Number low high) w (Number v) h = ap (λ r. judged r >>= (λ x. Ok (Number x))) (number_is_read low high w v h)
held_value Whole (want.Quantity counts low high) w (Number v) h = ap (λ r. judged r >>= (λ x. Ok (Number x))) (number_is_read low high w v h)
held_value Units (want.Quantity counts low high) w (Number v) h = ap (λ r. judged r >>= (λ x. Ok (Number x))) (quantity_is_read counts low high w v h)
held_value form wanted w v h = grind (arith, common_steps)

-- Words in their places, and names after them.

names_hold : (form : Form) (ws : List Word) (ns : List Name) → names_in ws ≡ Ok ns → AllHold form [] ws (map Named ns)
unfolding names_in
names_hold form [] ns h = let same : [] ≡ ns = cc in subst (λ xs. AllHold form [] [] (map Named xs)) same tt
names_hold form (w ∷ ws) ns h =
    let p = two (name_in w) (λ n. names_in ws >>= (λ xs. Ok (n ∷ xs))) ns h in
    let q = two (names_in ws) (λ xs. Ok (p.a ∷ xs)) ns p.then in
    let same : p.a ∷ q.a ≡ ns = cc in
    let r = name_read w p.a p.first in
    subst (λ xs. AllHold form [] (w ∷ ws) (map Named xs)) same ((r.0, sym r.1), names_hold form ws q.a q.first)

values_hold : (form : Form) (wants : List Want) (ws : List Word) (vs : List Value) (ns : List Name) → length wants ≤ length ws → values_in form wants ws ≡ Ok vs → names_in (drop (length wants) ws) ≡ Ok ns → AllHold form wants ws (vs ++ map Named ns)
unfolding values_in
values_hold form [] ws vs ns l h k = let same : [] ≡ vs = cc in subst (λ xs. AllHold form [] ws (xs ++ map Named ns)) same (names_hold form ws ns k)
values_hold form (wanted ∷ more) [] vs ns l h k = absurd (omega arith)
values_hold form (wanted ∷ more) (w ∷ ws) vs ns l h k =
    let p = two (value_in form wanted w) (λ v. values_in form more ws >>= (λ xs. Ok (v ∷ xs))) vs h in
    let q = two (values_in form more ws) (λ xs. Ok (p.a ∷ xs)) vs p.then in
    let same : p.a ∷ q.a ≡ vs = cc in
    let fewer : length more ≤ length ws = omega arith in
    subst (λ xs. AllHold form (wanted ∷ more) (w ∷ ws) (xs ++ map Named ns)) same
    (value_holds form wanted w p.a p.first, values_hold form more ws q.a ns fewer q.first k)

-- words of which there are as many as places
act_values : (form : Form) (wants : List Want) (ws : List Word) (vs : List Value) → length ws ≡ length wants → values_in form wants ws ≡ Ok vs → AllHold form wants ws vs
unfolding names_in
act_values form wants ws vs l h =
    let none : names_in (drop (length wants) ws) ≡ Ok [] = ap names_in (drop_all (length wants) ws (omega (arith, l))) in
    subst (AllHold form wants ws) (append-nil vs) (values_hold form wants ws vs [] (omega (arith, l)) h none)

held_values : (form : Form) (wants : List Want) (ws : List Word) (vs : List Value) → AllHold form wants ws vs → values_in form wants ws ≡ Ok (take (length wants) vs)
unfolding values_in
held_values form [] ws vs h = refl
held_values form (wanted ∷ more) (w ∷ ws) (v ∷ vs) h =
    ap (λ r. r >>= (λ x. values_in form more ws >>= (λ xs. Ok (x ∷ xs)))) (held_value form wanted w v h.0)
    ∙ ap (λ r. r >>= (λ xs. Ok (v ∷ xs))) (held_values form more ws vs h.1)
held_values form wants ws vs h = absurd h

held_names : (form : Form) (wants : List Want) (ws : List Word) (vs : List Value) → AllHold form wants ws vs → names_in (drop (length wants) ws) ≡ Ok (map name_of (drop (length wants) vs))
unfolding names_in
held_names form [] [] [] h = refl
held_names form [] (w ∷ ws) (v ∷ vs) h =
    ap (λ r. r >>= (λ n. names_in ws >>= (λ ns. Ok (n ∷ ns)))) (held_name form w v h.0)
    ∙ ap (λ r. r >>= (λ ns. Ok (name_of v ∷ ns))) (held_names form [] ws vs h.1)
held_names form (wanted ∷ more) (w ∷ ws) (v ∷ vs) h = held_names form more ws vs h.1
held_names form wants ws vs h = absurd h

-- as many words as values
pub held_length : (form : Form) (wants : List Want) (ws : List Word) (vs : List Value) → AllHold form wants ws vs → length ws ≡ length vs
held_length form [] [] [] h = refl
held_length form [] (w ∷ ws) (v ∷ vs) h = ap suc (held_length form [] ws vs h.1)
held_length form (wanted ∷ more) (w ∷ ws) (v ∷ vs) h = ap suc (held_length form more ws vs h.1)
held_length form wants ws vs h = absurd h

-- Values that fit their places are those of what they denote.

same_number : (low : ℕ) (v : ℤ) → pos low ≤ℤ v → pos (nat_abs v) ≡ v
same_number low (pos n) h = refl
same_number low (negsuc n) h = absurd h.le

-- what is so for all values that fit their places, one each
abbrev Every : List Want → (List Value → Type 0) → Type 0
Every [] P = P []
Every (wanted ∷ more) P = (v : Value) → Fits wanted v → Every more (λ vs. P (v ∷ vs))

every : (wants : List Want) (P : List Value → Type 0) → Every wants P → (vs : List Value) → AllFit wants vs → length vs ≡ length wants → P vs
every [] P h [] f l = h
every [] P h (v ∷ vs) f l = absurd (omega arith)
every (wanted ∷ more) P h [] f l = absurd f
every (wanted ∷ more) P h (v ∷ vs) f l = every more (λ xs. P (v ∷ xs)) (h v f.0) vs f.1 (omega arith)

act_apart : (k : ActWord) → Every (act_places k) (λ vs. act_fields (act_with k vs) ≡ (k, vs))
act_apart word_of.Hold = refl
act_apart k = grind (arith, common_steps)

-- where names follow, they come last
entry_apart : (k : Keyword) (vs : List Value) (ns : List Name) → AllFit (row_of k).places vs → length vs ≡ length (row_of k).places → ((row_of k).names ≡ 0 → ns ≡ []) → fields_of (entry_with k vs ns) ≡ vs ++ map Named ns
entry_apart k vs ns f l none = grind (arith, common_steps, same_number)

-- How many words a line has.

least_by : (b : Bool) (least most n : ℕ) → cond b (n == least) (nat_le (least + 1) n && nat_le n most) ≡ true → least ≤ n
least_by true least most n h = let same = eqb-true n least h in omega (arith, same)
least_by false least most n h = grind (arith, common_steps, and_parts, leb-true)

-- at least as many as it has places
has_places : (row : Row) (n : ℕ) → has_count row n ≡ true → length row.places ≤ n
has_places row n h = least_by (row.names == 0) (length row.places) (length row.places + row.names) n h

-- none is left where no name may follow
none_left : (row : Row) (ws : List Word) → has_count row (length ws) ≡ true → row.names ≡ 0 → drop (length row.places) ws ≡ []
none_left row ws h e =
    let same = eqb-true (length ws) (length row.places) (ap (λ n. cond (n == 0) (length ws == length row.places) (nat_le (length row.places + 1) (length ws) && nat_le (length ws) (length row.places + n))) (sym e) ∙ h) in
    drop_all (length row.places) ws (omega (arith, same))

no_names : (ws : List Word) (ns : List Name) → names_in ws ≡ Ok ns → ws ≡ [] → ns ≡ []
unfolding names_in
no_names ws ns h e = grind (arith, common_steps)

-- A line that is read by its row, and one of an act.

row_held : (form : Form) (k : Keyword) (ws : List Word) (e : Entry) → Rowed form k ws e → AllHold form (row_of k).places ws (fields_of e)
row_held form k ws e r =
    let none = λ (z : (row_of k).names ≡ 0). no_names (drop (length (row_of k).places) ws) r.names r.named (none_left (row_of k) ws r.count z) in
    let fit = values_fit form (row_of k).places ws r.values r.read in
    let is = entry_apart k r.values r.names fit.0 fit.1 none in
    subst (AllHold form (row_of k).places ws) (sym is ∙ ap fields_of r.is)
    (values_hold form (row_of k).places ws r.values r.names (has_places (row_of k) (length ws) r.count) r.read r.named)

-- the words of an act whose values are taken apart
abbrev HasAct : Form → Word → List Word → ActWord × List Value → Type 0
HasAct form x ws parts = (act_of x ≡ Some parts.0) × AllHold form (act_places parts.0) ws parts.1

act_held : (form : Form) (o : Option ActWord) (x : Word) (ws : List Word) (a : Act) → act_of x ≡ o → act_by form o ws ≡ Ok a → HasAct form x ws (act_fields a)
act_held form None x ws a e h = cc
act_held form (Some k) x ws a e h =
    let p = passed (length ws == length (act_places k)) (values_in form (act_places k) ws >>= (λ vs. Ok (act_with k vs))) kind.BadCount a h in
    let q = two (values_in form (act_places k) ws) (λ vs. Ok (act_with k vs)) a p.1 in
    let same : act_with k q.a ≡ a = cc in
    let count = eqb-true (length ws) (length (act_places k)) p.0 in
    let fit = values_fit form (act_places k) ws q.a q.first in
    let is = every (act_places k) (λ vs. act_fields (act_with k vs) ≡ (k, vs)) (act_apart k) q.a fit.0 fit.1 in
    subst (HasAct form x ws) (sym is ∙ ap act_fields same) (e, act_values form (act_places k) ws q.a count q.first)

act_says : (form : Form) (ws : List Word) (a : Act) → act_in form ws ≡ Ok a → SaysAct form ws a
unfolding act_in
act_says form [] a h = cc
act_says form (x ∷ ws) a h = act_held form (act_of x) x ws a refl h

line_says : (form : Form) (ws : List Word) (n : Name) (a : Act) → name_in (word ws 0) ≡ Ok n → act_in form (drop 1 ws) ≡ Ok a → Says form ws (entry.One n a)
line_says form [] n a named h = cc
line_says form (w ∷ ws) n a named h = let r = name_read w n named in ((r.0, sym r.1), act_says form ws a h)

pub read_says : (form : Form) (ws : List Word) (e : Entry) → IsRead form ws e → Says form ws e
read_says form ws (entry.One n a) h =
    let l = acted form ws (entry.One n a) h.1 in subst (Says form ws) l.is (line_says form ws l.name l.act l.named l.acts)
read_says form [] e h = cc
read_says form (w ∷ ws) e h =
    let r = rowed form (keyword_in e) ws e h.1 in (h.0, r.count, row_held form (keyword_in e) ws e r)

-- A line that says an entry is read as it.

row_read : (form : Form) (k : Keyword) (ws : List Word) (vs : List Value) → has_count (row_of k) (length ws) ≡ true → AllHold form (row_of k).places ws vs → row_line form k ws ≡ Ok (entry_with k (take (length (row_of k).places) vs) (map name_of (drop (length (row_of k).places) vs)))
unfolding row_line
row_read form k ws vs c h = grind (arith, common_steps, drop, cond, held_values, take, held_names)

names_again : (ns : List Name) → map name_of (map Named ns) ≡ ns
names_again [] = refl
names_again (n ∷ ns) = ap (λ xs. n ∷ xs) (names_again ns)

entry_again : (e : Entry) → (keyword_in e ≡ first.Other → ⊥) → entry_with (keyword_in e) (take (length (row_of (keyword_in e)).places) (fields_of e)) (map name_of (drop (length (row_of (keyword_in e)).places) (fields_of e))) ≡ e
entry_again (entry.Figure name roles) o = ap (entry.Figure name) (names_again roles)
entry_again (entry.Perform figure frame drones) o = ap (entry.Perform figure frame) (names_again drones)
entry_again (entry.One name a) o = absurd (o refl)
entry_again e o = refl

-- an act whose values fit their places is the one with these values
act_again : (a : Act) → AllFit (act_places (act_fields a).0) (act_fields a).1 → (act_with (act_fields a).0 (act_fields a).1 ≡ a) × (length (act_fields a).1 ≡ length (act_places (act_fields a).0))
act_again a f = grind (arith, common_steps)

act_read : (form : Form) (a : Act) (ws : List Word) → AllHold form (act_places (act_fields a).0) ws (act_fields a).1 → act_by form (Some (act_fields a).0) ws ≡ Ok a
act_read form a ws h = grind (arith, common_steps, act_again, held_fit, held_length, held_values, take_all, cond, eq-eqb)

act_line_read : (form : Form) (w : Word) (ws : List Word) (n : Name) (a : Act) → Holds form want.Name w (Named n) → SaysAct form ws a → act_line form (w ∷ ws) ≡ Ok (entry.One n a)
unfolding act_line act_in
act_line_read form w [] n a named h = absurd h
act_line_read form w (x ∷ ws) n a named h = grind (arith, common_steps, le-leb, cond, held_name, act_read)

pub says_read : (form : Form) (ws : List Word) (e : Entry) → Says form ws e → IsRead form ws e
says_read form [] e h = absurd h
says_read form (w ∷ ws) (entry.One n a) h = (tt, act_line_read form w ws n a h.0 h.1)
says_read form (w ∷ ws) e h =
    (h.0, row_read form (keyword_in e) ws (fields_of e) h.1 h.2 ∙ ap (λ x. Ok x) (entry_again e (λ o. cc)))

-- A line that is read as an entry says it, and may say it there.
pub says_of : (form : Form) (p : Place) (ws : List Word) (e : Entry) → entry_of form p ws ≡ Ok e → Says form ws e × (may_say p e ≡ true)
says_of form p ws e h = let r = read_of form p ws e h in (read_says form ws e r.0, r.1)

-- A line that says an entry is read as that, where it may stand.
pub says_entry : (form : Form) (p : Place) (ws : List Word) (e : Entry) → Says form ws e → may_say p e ≡ true → entry_of form p ws ≡ Ok e
says_entry form p ws e h m = read_entry form p ws e (says_read form ws e h) m

-- In a valid show the fault of the earliest line is the earliest of the first faults of the four lists.
use Rattle.cue_grid.proofs.Prelude.{common_steps, ◌≡◌, ℕ, ◌<◌, Bool, true, false, cond, List, [], ◌∷◌, ◌++◌, Option, Some, None, refl, sym, ap, subst, ◌∙◌, ◌⊎◌, inl, inr, arith, nat_lt, nat_tests, Name, Body, PlainFigure, PlainShow, AllAbove, act_lines, body_lines, drone_lines, formation_lines, figure_lines, IsValid, ActLine, DroneLine, Formation, has_name, has_some, names_of, figure_named, line_of, fault_if, drone_faults, place_faults, formation_faults, form_faults, acted_by, act_faults, perform_faults, body_faults, figure_faults, drones_faults, formations_faults, figures_faults, show_faults, name_faults, earlier_of, earliest, first_of, name_fault, GridFault, DoubleName, DoubleAct}
use Rattle.choreo_show.specs.Plain as plain
use Rattle.choreo_show.specs.declared.show.ActLine.TheVariants as on

-- The faults stand at some of these lines, in their order.
abbrev Within : List GridFault → List ℕ → Type 0
Within [] ns = Unit {0}
Within (f ∷ fs) [] = ⊥
Within (f ∷ fs) (n ∷ ns) = ((line_of f ≡ n) × Within fs ns) ⊎ Within (f ∷ fs) ns

skip : (fs : List GridFault) (n : ℕ) (ns : List ℕ) → Within fs ns → Within fs (n ∷ ns)
skip [] n ns h = tt
skip (f ∷ fs) n ns h = inr h

skip_all : (fs : List GridFault) (ms ns : List ℕ) → Within fs ns → Within fs (ms ++ ns)
skip_all fs [] ns h = h
skip_all fs (m ∷ ms) ns h = skip fs m (ms ++ ns) (skip_all fs ms ns h)

within_append : (ms : List ℕ) (fs gs : List GridFault) (ns : List ℕ) → Within fs ms → Within gs ns → Within (fs ++ gs) (ms ++ ns)
within_append ms [] gs ns h k = skip_all gs ms ns k
within_append [] (f ∷ fs) gs ns h k = absurd h
within_append (m ∷ ms) (f ∷ fs) gs ns h k =
    elim h [ inl p ↦ inl (p.0, within_append ms fs gs ns p.1 k) | inr q ↦ inr (within_append ms (f ∷ fs) gs ns q k) ]

-- at most one fault, at this line
abbrev AtMost : ℕ → List GridFault → Type 0
AtMost n [] = Unit {0}
AtMost n (f ∷ []) = line_of f ≡ n
AtMost n (f ∷ g ∷ fs) = ⊥

at_most_if : (b : Bool) (f : GridFault) (fs : List GridFault) (n : ℕ) → line_of f ≡ n → AtMost n fs → AtMost n (fault_if b f fs)
at_most_if true f fs n e h = e
at_most_if false f fs n e h = h

within_line : (fs gs : List GridFault) (n : ℕ) (ns : List ℕ) → AtMost n fs → Within gs ns → Within (fs ++ gs) (n ∷ ns)
within_line [] gs n ns h k = skip gs n ns k
within_line (f ∷ []) gs n ns h k = inl (h, k)
within_line (f ∷ g ∷ fs) gs n ns h k = absurd h

drones_within : (ds : List DroneLine) (earlier : List Name) → Within (drone_faults earlier ds) (drone_lines ds)
drones_within [] earlier = tt
drones_within (d ∷ ds) earlier =
    within_line (fault_if (has_name earlier d.name) (DoubleName d.line) []) (drone_faults (earlier ++ d.name ∷ []) ds) d.line (drone_lines ds)
    (at_most_if (has_name earlier d.name) (DoubleName d.line) [] d.line refl tt) (drones_within ds (earlier ++ d.name ∷ []))

places_within : (ps : List DroneLine) (drones earlier : List Name) → Within (place_faults drones earlier ps) (drone_lines ps)
places_within [] drones earlier = tt
places_within (p ∷ ps) drones earlier = grind (arith, common_steps, within_line, at_most_if, (places_within ps drones (earlier ++ p.name ∷ [])))

formations_within : (fs : List Formation) (drones earlier : List Name) → Within (formation_faults drones earlier fs) (formation_lines fs)
formations_within [] drones earlier = tt
formations_within (f ∷ fs) drones earlier =
    grind (arith, common_steps, within_append, within_line, at_most_if, places_within, (formations_within fs drones (earlier ++ f.name ∷ [])))

form_at_most : (line : ℕ) (acted : List Name) (o : Option Formation) → AtMost line (form_faults line acted o)
form_at_most line acted None = refl
form_at_most line acted (Some f) = at_most_if (has_some acted (names_of f.places)) (DoubleAct line) [] line refl tt

acts_within : (acts : List ActLine) (known : List Name) (fs : List Formation) (acted : List Name) → Within (act_faults known fs acted acts) (act_lines acts)
acts_within [] known fs acted = tt
acts_within (on.One line name a ∷ acts) known fs acted =
    grind (arith, common_steps, within_line, at_most_if, (acts_within acts known fs (acted ++ name ∷ [])))
acts_within (on.Form line formation smooth ∷ acts) known fs acted =
    grind (arith, common_steps, within_line, form_at_most, (acts_within acts known fs (acted ++ acted_by fs (on.Form line formation smooth))))

perform_at_most : (drones : List Name) (line : ℕ) (o : Option PlainFigure) (named : List Name) → AtMost line (perform_faults drones line o named)
perform_at_most drones line None named = refl
perform_at_most drones line (Some f) named = grind (arith, common_steps, at_most_if)

body_within : (b : Body) (s : PlainShow) (known : List Name) → Within (body_faults s known b) (body_lines b)
body_within plain.Done s known = tt
body_within (plain.Cue line ms acts rest) s known =
    skip _ line (act_lines acts ++ body_lines rest) (within_append (act_lines acts) (act_faults known s.formations [] acts) (body_faults s known rest) (body_lines rest) (acts_within acts known s.formations []) (body_within rest s known))
body_within (plain.Repeat line times inside rest) s known =
    skip _ line (body_lines inside ++ body_lines rest) (within_append (body_lines inside) (body_faults s known inside) (body_faults s known rest) (body_lines rest) (body_within inside s known) (body_within rest s known))
body_within (plain.Perform line figure frame drones rest) s known =
    within_line (perform_faults (names_of s.drones) line (figure_named s.figures figure) drones) (body_faults s known rest) line (body_lines rest) (perform_at_most (names_of s.drones) line (figure_named s.figures figure) drones) (body_within rest s known)

figures_within : (fs : List PlainFigure) (s : PlainShow) (earlier : List Name) → Within (figure_faults s earlier fs) (figure_lines fs)
figures_within [] s earlier = tt
figures_within (f ∷ fs) s earlier =
    grind (arith, common_steps, within_append, within_line, at_most_if, body_within, (figures_within fs s (earlier ++ f.name ∷ [])))

-- Where the lines rise, the first fault is the one of the earliest line.

abbrev Rising : ℕ → List GridFault → Type 0
Rising n [] = Unit {0}
Rising n (f ∷ fs) = (n < line_of f) × Rising (line_of f) fs

lower : (n m : ℕ) (fs : List GridFault) → n < m → Rising m fs → Rising n fs
lower n m [] h r = tt
lower n m (f ∷ fs) h r = (omega (arith, r.0), r.1)

rising : (ns : List ℕ) (fs : List GridFault) (n : ℕ) → Within fs ns → AllAbove n ns → Rising n fs
rising ns [] n w a = tt
rising [] (f ∷ fs) n w a = absurd w
rising (m ∷ ms) (f ∷ fs) n w a =
    elim w [
      | inl p ↦ (subst (λ k. n < k) (sym p.0) a.0, rising ms fs (line_of f) p.1 (subst (λ k. AllAbove k ms) (sym p.0) a.1))
      | inr q ↦ lower n m (f ∷ fs) a.0 (rising ms (f ∷ fs) m q a.1)
    ]

not_below : (m n : ℕ) → m < n → nat_lt n m ≡ false
not_below m n h = grind (arith, nat_tests)

first_stays : (f : GridFault) (fs : List GridFault) → Rising (line_of f) fs → earlier_of (Some f) (first_of fs) ≡ Some f
first_stays f [] r = refl
first_stays f (g ∷ fs) r = ap (λ b. cond b (Some g) (Some f)) (not_below (line_of f) (line_of g) r.0)

earliest_first : (n : ℕ) (fs : List GridFault) → Rising n fs → earliest fs ≡ first_of fs
earliest_first n [] r = refl
earliest_first n (f ∷ fs) r = ap (earlier_of (Some f)) (earliest_first (line_of f) fs r.1) ∙ first_stays f fs r.1

-- The earliest of two lists.

earlier_none : (a : Option GridFault) → earlier_of a None ≡ a
earlier_none None = refl
earlier_none (Some f) = refl

both_later : (l m k : ℕ) → nat_lt k m ≡ false → nat_lt m l ≡ false → nat_lt k l ≡ false
both_later l m k p q = grind (arith, nat_tests)

both_earlier : (l m k : ℕ) → nat_lt k m ≡ true → nat_lt m l ≡ true → nat_lt k l ≡ true
both_earlier l m k p q = grind (arith, nat_tests)

three : (f g h : GridFault) (p q : Bool) → nat_lt (line_of h) (line_of g) ≡ p → nat_lt (line_of g) (line_of f) ≡ q → earlier_of (Some f) (cond p (Some h) (Some g)) ≡ earlier_of (cond q (Some g) (Some f)) (Some h)
three f g h true true a b = ap (λ x. cond x (Some h) (Some f)) (both_earlier (line_of f) (line_of g) (line_of h) a b) ∙ sym (ap (λ x. cond x (Some h) (Some g)) a)
three f g h true false a b = refl
three f g h false true a b = ap (λ x. cond x (Some g) (Some f)) b ∙ sym (ap (λ x. cond x (Some h) (Some g)) a)
three f g h false false a b = ap (λ x. cond x (Some g) (Some f)) b ∙ sym (ap (λ x. cond x (Some h) (Some f)) (both_later (line_of f) (line_of g) (line_of h) a b))

earlier_assoc : (f : GridFault) (a b : Option GridFault) → earlier_of (Some f) (earlier_of a b) ≡ earlier_of (earlier_of (Some f) a) b
earlier_assoc f None b = refl
earlier_assoc f (Some g) None = sym (earlier_none (earlier_of (Some f) (Some g)))
earlier_assoc f (Some g) (Some h) = three f g h (nat_lt (line_of h) (line_of g)) (nat_lt (line_of g) (line_of f)) refl refl

earliest-append : (xs ys : List GridFault) → earliest (xs ++ ys) ≡ earlier_of (earliest xs) (earliest ys)
earliest-append [] ys = refl
earliest-append (x ∷ xs) ys = ap (earlier_of (Some x)) (earliest-append xs ys) ∙ earlier_assoc x (earliest xs) (earliest ys)

-- of a valid show
pub earliest_name : (s : PlainShow) → IsValid s → name_fault s ≡ earliest (name_faults s)
earliest_name s v =
    let d = earliest_first 0 (drones_faults s) (rising (drone_lines s.drones) (drones_faults s) 0 (drones_within s.drones []) v.drone_lines) in
    let f = earliest_first 0 (formations_faults s) (rising (formation_lines s.formations) (formations_faults s) 0 (formations_within s.formations (names_of s.drones) []) v.formation_lines) in
    let g = earliest_first 0 (figures_faults s) (rising (figure_lines s.figures) (figures_faults s) 0 (figures_within s.figures s []) v.figure_lines) in
    let b = earliest_first 0 (show_faults s) (rising (body_lines s.body) (show_faults s) 0 (body_within s.body s (names_of s.drones)) v.body_lines) in
    grind (arith, common_steps, earliest-append)

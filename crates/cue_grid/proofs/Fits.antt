-- The grid of a valid show without a fault is valid.
use Rattle.cue_grid.proofs.Prelude.{common_steps, ◌≡◌, ℕ, zero, suc, ◌+◌, ◌*◌, ◌≤◌, Bool, true, false, cond, List, [], ◌∷◌, ◌++◌, map, length, drop, Option, Some, None, refl, sym, ap, subst, ◌∙◌, arith, IfSome, ◌&&◌, nat_lt, ◌==◌, IsTrue, neg_ℤ, pos, ◌≤ℤ◌, All, length-append, length-map, nat_tests, Name, Body, PlainFigure, PlainShow, has_block, IsName, FitsCoordinate, FitsPoint, FitsAct, FitsFrame, FitsActLine, FitActLines, FitsBody, FitDroneLines, FitFormations, FitFigures, IsValid, ActLine, Act, DroneLine, Formation, Frame, Point, same_name, formation_named, figure_named, place_named, places_in, names_of, no_frame, Playing, player, job_of, times_over, cues_in, cues_of_figure, cues_of, grid_of, as_written, way_if, act_if, act_by, act_line_number, job_or, nothing_performed, performed_cues, most_cues, most_drones, count_in, none_performed, figure_count, count_of_figure, perform_count, body_count, line_if_over, over_at, line_of, perform_faults, body_faults, drones_faults, formations_faults, figures_faults, show_faults, name_faults, earlier_of, earliest, no_drone, too_many, many_drones, no_cue, many_cues, or_else, grid_fault, GridFault, NoDrone, Job, Cue, FitsJob, FitJobs, FitCues, IsGrid, Grid}
use Rattle.std.proofs.lemmas.List.Elements.{All-nil, All-cons}
use Rattle.choreo_show.specs.Plain as plain
use Rattle.choreo_show.specs.Shape.{is_filled, fits_figure}
use Rattle.choreo_show.specs.declared.show.ActLine.TheVariants as on
use Rattle.cue_grid.proofs.Placing.{job_first}

-- What no fault says.

pub neither : (a b : Option GridFault) → or_else a b ≡ None → (a ≡ None) × (b ≡ None)
neither None b h = (refl, h)
neither (Some f) b h = cc

pub both_empty : (xs ys : List GridFault) → xs ++ ys ≡ [] → (xs ≡ []) × (ys ≡ [])
both_empty [] ys h = (refl, h)
both_empty (x ∷ xs) ys h = cc

chosen : (b : Bool) (f g : GridFault) → cond b (Some g) (Some f) ≡ None → ⊥
chosen true f g h = cc
chosen false f g h = cc

earlier_some : (f : GridFault) (o : Option GridFault) → earlier_of (Some f) o ≡ None → ⊥
earlier_some f None h = cc
earlier_some f (Some g) h = chosen (nat_lt (line_of g) (line_of f)) f g h

pub no_earliest : (fs : List GridFault) → earliest fs ≡ None → fs ≡ []
no_earliest [] h = refl
no_earliest (f ∷ fs) h = absurd (earlier_some f (earliest fs) h)

some_drone : (ds : List DroneLine) → cond (length ds == 0) (Some (NoDrone 1)) None ≡ None → 1 ≤ length ds
some_drone [] h = cc
some_drone (d ∷ ds) h = omega arith

all_dropped : (n : ℕ) (ds : List DroneLine) → drop n ds ≡ [] → length ds ≤ n
all_dropped zero ds h = let e = ap length h in omega (arith, e)
all_dropped (suc n) [] h = omega arith
all_dropped (suc n) (d ∷ ds) h = omega (arith, all_dropped n ds h)

not_many : (ds : List DroneLine) → too_many ds ≡ None → ds ≡ []
not_many [] h = refl
not_many (d ∷ ds) h = cc

a_block : (b : Body) → no_cue b ≡ None → IsTrue (has_block b)
a_block plain.Done h = cc
a_block (plain.Cue line ms acts rest) h = refl
a_block (plain.Repeat line times inside rest) h = refl
a_block (plain.Perform line figure frame drones rest) h = refl

not_many_cues : (o : Option ℕ) → many_cues o ≡ None → o ≡ None
not_many_cues None h = refl
not_many_cues (Some line) h = cc

-- How many cues there are.

over_by : (b : Bool) (n line : ℕ) (later : Option ℕ) → nat_lt most_cues n ≡ b → cond b (Some line) later ≡ None → (n ≤ most_cues) × (later ≡ None)
over_by true n line later e h = cc
over_by false n line later e h = (grind (arith, nat_tests), h)

not_over : (n line : ℕ) (later : Option ℕ) → line_if_over n line later ≡ None → (n ≤ most_cues) × (later ≡ None)
not_over n line later h = over_by (nat_lt most_cues n) n line later refl h

-- where no block exceeds the limit, all together do not
few : (figures : List PlainFigure) (n : ℕ) (b : Body) → n ≤ most_cues → over_at figures n b ≡ None → n + body_count figures b ≤ most_cues
few figures n plain.Done l h = omega arith
few figures n (plain.Cue line ms acts rest) l h =
    let k = not_over (n + 1) line (over_at figures (n + 1) rest) h in
    omega (arith, few figures (n + 1) rest k.0 k.1)
few figures n (plain.Repeat line times inside rest) l h =
    let k = not_over (n + times * body_count figures inside) line (over_at figures (n + times * body_count figures inside) rest) h in
    omega (arith, few figures (n + times * body_count figures inside) rest k.0 k.1)
few figures n (plain.Perform line figure frame drones rest) l h =
    let k = not_over (n + perform_count figures figure) line (over_at figures (n + perform_count figures figure) rest) h in
    omega (arith, few figures (n + perform_count figures figure) rest k.0 k.1)

length-times_over : {A : Type 0} (n : ℕ) (xs : List A) → length (times_over n xs) ≡ n * length xs
length-times_over zero xs = omega arith
length-times_over (suc n) xs = omega (arith, length-append xs (times_over n xs), length-times_over n xs)

-- the cues written out are as many as are counted
counted : (s : PlainShow) (p : Playing) (performed : Name → Frame → List Name → List Cue) (count : Name → ℕ) → ((figure : Name) (frame : Frame) (drones : List Name) → length (performed figure frame drones) ≡ count figure) → (b : Body) → length (cues_in s p performed b) ≡ count_in count b
counted s p performed count h plain.Done = refl
counted s p performed count h (plain.Cue line ms acts rest) = omega (arith, counted s p performed count h rest)
counted s p performed count h (plain.Repeat line times inside rest) =
    grind (arith, common_steps, length-append, length-times_over, (counted s p performed count h inside), (counted s p performed count h rest))
counted s p performed count h (plain.Perform line figure frame drones rest) =
    grind (arith, common_steps, length-append, (counted s p performed count h rest))

figure_counted : (s : PlainShow) (o : Option PlainFigure) (frame : Frame) (drones : List Name) → length (cues_of_figure s o frame drones) ≡ count_of_figure o
figure_counted s None frame drones = refl
figure_counted s (Some f) frame drones = counted s (record { frame = frame; roles = f.roles; drones = drones }) nothing_performed none_performed (λ figure fr ds. refl) f.body

-- the number of cues of a show is that of its counts
pub cues_counted : (s : PlainShow) → length (cues_of s) ≡ body_count s.figures s.body
cues_counted s = counted s as_written (performed_cues s) (perform_count s.figures) (λ figure frame drones. figure_counted s (figure_named s.figures figure) frame drones) s.body

first_two : (a b c : Bool) → IsTrue (a && b && c) → IsTrue a × IsTrue b
first_two true true c h = (refl, refl)
first_two true false c h = cc
first_two false b c h = cc

at_least : (t n : ℕ) → 1 ≤ t → 1 ≤ n → 1 ≤ t * n
at_least zero n h k = omega arith
at_least (suc t) n h k = omega arith

-- a figure has a cue
some_in_figure : (b : Body) → IsTrue (has_block b) → IsTrue (is_filled b) → IsTrue (fits_figure b) → FitsBody b → 1 ≤ figure_count b
some_in_figure plain.Done h f g k = cc
some_in_figure (plain.Cue line ms acts rest) h f g k = omega arith
some_in_figure (plain.Repeat line times inside rest) h f g k =
    let p = first_two (has_block inside) (is_filled inside) (is_filled rest) f in
    let q = first_two (fits_figure inside) (fits_figure rest) true (kept_true (fits_figure inside) (fits_figure rest) g) in
    let one = at_least times (figure_count inside) (k.0.0) (some_in_figure inside p.0 p.1 q.0 k.1) in
    omega (arith, one)
  where
    kept_true : (a b : Bool) → IsTrue (a && b) → IsTrue (a && b && true)
    kept_true true true h = refl
    kept_true true false h = cc
    kept_true false b h = cc
some_in_figure (plain.Perform line figure frame drones rest) h f g k = cc

-- what a figure of a valid show keeps to
pub record IsFitFigure (f : PlainFigure) : Type 0 where
  pub blocks : IsTrue (has_block f.body)
  pub filled : IsTrue (is_filled f.body)
  pub plays : IsTrue (fits_figure f.body)
  pub fits : FitsBody f.body

-- what is so of what a test lets through, and of what else there may be
some_by : {A : Type 0} (P : A → Type 0) (b : Bool) (x : A) (o : Option A) → P x → IfSome o P → IfSome (cond b (Some x) o) P
some_by P true x o h k = h
some_by P false x o h k = k

figure_fits : (fs : List PlainFigure) (n : Name) → FitFigures fs → IfSome (figure_named fs n) IsFitFigure
figure_fits [] n h = tt
figure_fits (f ∷ fs) n h =
    some_by IsFitFigure (same_name n f.name) f (figure_named fs n)
    (record { blocks = h.1; filled = h.2; plays = h.4; fits = h.5 }) (figure_fits fs n h.6)

unknown_figure : (drones : List Name) (line : ℕ) (o : Option PlainFigure) (named : List Name) → perform_faults drones line o named ≡ [] → IfSome o IsFitFigure → 1 ≤ count_of_figure o
unknown_figure drones line None named h k = cc
unknown_figure drones line (Some f) named h k = some_in_figure f.body k.blocks k.filled k.plays k.fits

-- a show without faults of names has a cue
some_cue : (s : PlainShow) (known : List Name) (b : Body) → FitFigures s.figures → IsTrue (has_block b) → IsTrue (is_filled b) → FitsBody b → body_faults s known b ≡ [] → 1 ≤ body_count s.figures b
some_cue s known plain.Done v h f k e = cc
some_cue s known (plain.Cue line ms acts rest) v h f k e = omega arith
some_cue s known (plain.Repeat line times inside rest) v h f k e =
    let p = first_two (has_block inside) (is_filled inside) (is_filled rest) f in
    let none = both_empty (body_faults s known inside) (body_faults s known rest) e in
    let one = at_least times (body_count s.figures inside) (k.0.0) (some_cue s known inside v p.0 p.1 k.1 none.0) in
    omega (arith, one)
some_cue s known (plain.Perform line figure frame drones rest) v h f k e = grind (arith, common_steps, both_empty, unknown_figure, figure_fits)

-- The numbers of the jobs.

place_fits : (ps : List DroneLine) (n : Name) → FitDroneLines ps → IfSome (place_named ps n) FitsPoint
place_fits [] n h = tt
place_fits (p ∷ ps) n h = some_by FitsPoint (same_name n p.name) p.at (place_named ps n) h.1 (place_fits ps n h.2)

formation_fits : (fs : List Formation) (n : Name) → FitFormations fs → IfSome (formation_named fs n) (λ f. FitDroneLines f.places)
formation_fits [] n h = tt
formation_fits (f ∷ fs) n h = some_by (λ f. FitDroneLines f.places) (same_name n f.name) f (formation_named fs n) h.2 (formation_fits fs n h.3)

places_fit : (o : Option Formation) → IfSome o (λ f. FitDroneLines f.places) → FitDroneLines (places_in o)
places_fit None h = tt
places_fit (Some f) h = h

way_fits : (smooth : Bool) (o : Option Point) → IfSome o FitsPoint → IfSome (way_if smooth o) FitsAct
way_fits smooth None h = tt
way_fits true (Some p) h = h
way_fits false (Some p) h = h

act_if_fits : (b : Bool) (a : Act) → FitsAct a → IfSome (act_if b a) FitsAct
act_if_fits true a h = h
act_if_fits false a h = tt

act_fits : (fs : List Formation) (p : Playing) (drone : Name) (a : ActLine) → FitFormations fs → FitsActLine a → IfSome (act_by fs p drone a) FitsAct
act_fits fs p drone (on.One line name a) v h = act_if_fits (same_name drone (player p.roles p.drones name)) a h.1
act_fits fs p drone (on.Form line formation smooth) v h =
    way_fits smooth (place_named (places_in (formation_named fs formation)) drone)
    (place_fits (places_in (formation_named fs formation)) drone (places_fit (formation_named fs formation) (formation_fits fs formation v)))

job_by : (o : Option Act) (line : ℕ) (frame : Frame) (later : Job) → FitsFrame frame → IfSome o FitsAct → FitsJob later → FitsJob (job_or o line frame later)
job_by None line frame later f h k = k
job_by (Some a) line frame later f h k = (f, h)

job_fits : (fs : List Formation) (p : Playing) (line : ℕ) (acts : List ActLine) (drone : Name) → FitFormations fs → FitsFrame p.frame → FitActLines acts → FitsJob (job_of fs p line acts drone)
job_fits fs p line [] drone v f h = (f, tt)
job_fits fs p line (a ∷ rest) drone v f h =
    subst FitsJob (job_first fs p line a rest drone)
    (job_by (act_by fs p drone a) (act_line_number a) p.frame (job_of fs p line rest drone) f (act_fits fs p drone a v h.0) (job_fits fs p line rest drone v f h.1))

jobs_fit : (fs : List Formation) (p : Playing) (line : ℕ) (acts : List ActLine) (ds : List DroneLine) → FitFormations fs → FitsFrame p.frame → FitActLines acts → FitJobs (map (λ d. job_of fs p line acts d.name) ds)
jobs_fit fs p line acts [] v f h = tt
jobs_fit fs p line acts (d ∷ ds) v f h = (job_fits fs p line acts d.name v f h, jobs_fit fs p line acts ds v f h)

fit_then : (n : ℕ) (xs ys : List Cue) → FitCues n xs → FitCues n ys → FitCues n (xs ++ ys)
fit_then n [] ys h k = k
fit_then n (x ∷ xs) ys h k = (h.0, fit_then n xs ys h.1 k)

fit_times : (n t : ℕ) (xs : List Cue) → FitCues n xs → FitCues n (times_over t xs)
fit_times n zero xs h = tt
fit_times n (suc t) xs h = fit_then n xs (times_over t xs) h (fit_times n t xs h)

-- each cue of blocks fits where those of their performs do
cues_fit : (s : PlainShow) (p : Playing) (performed : Name → Frame → List Name → List Cue) → FitFormations s.formations → FitsFrame p.frame → ((figure : Name) (frame : Frame) (drones : List Name) → FitsFrame frame → FitCues (length s.drones) (performed figure frame drones)) → (b : Body) → FitsBody b → FitCues (length s.drones) (cues_in s p performed b)
cues_fit s p performed v f g plain.Done h = tt
cues_fit s p performed v f g (plain.Cue line ms acts rest) h =
    (record { lasts = h.0.0; short = h.0.1; count = length-map s.drones (λ d. job_of s.formations p line acts d.name); jobs = jobs_fit s.formations p line acts s.drones v f h.1 }, cues_fit s p performed v f g rest h.2)
cues_fit s p performed v f g (plain.Repeat line times inside rest) h =
    fit_then (length s.drones) (times_over times (cues_in s p performed inside)) (cues_in s p performed rest)
    (fit_times (length s.drones) times (cues_in s p performed inside) (cues_fit s p performed v f g inside h.1)) (cues_fit s p performed v f g rest h.2)
cues_fit s p performed v f g (plain.Perform line figure frame drones rest) h =
    fit_then (length s.drones) (performed figure frame drones) (cues_in s p performed rest) (g figure frame drones h.0.1) (cues_fit s p performed v f g rest h.1)

figure_cues_fit : (s : PlainShow) (o : Option PlainFigure) (frame : Frame) (drones : List Name) → FitFormations s.formations → IfSome o IsFitFigure → FitsFrame frame → FitCues (length s.drones) (cues_of_figure s o frame drones)
figure_cues_fit s None frame drones v k f = tt
figure_cues_fit s (Some x) frame drones v k f =
    cues_fit s (record { frame = frame; roles = x.roles; drones = drones }) nothing_performed v f (λ figure fr ds h. tt) x.body k.fits

zero_fits : FitsCoordinate (pos 0)
zero_fits = ((let a : neg_ℤ (pos 100000000) ≤ℤ pos 0 = search arith in a), (let b : pos 0 ≤ℤ pos 100000000 = search arith in b))

no_frame_fits : FitsFrame no_frame
no_frame_fits = (omega arith, zero_fits, zero_fits, zero_fits)

-- drones that are as the language has them start in the ranges of a point
points_fit : (ds : List DroneLine) → FitDroneLines ds → All (λ (s : DroneLine). FitsPoint s.at) ds
points_fit [] h = All-nil (λ (s : DroneLine). FitsPoint s.at)
points_fit (d ∷ ds) h = All-cons (λ (s : DroneLine). FitsPoint s.at) d ds h.1 (points_fit ds h.2)

-- and have names of the language
names_fit : (ds : List DroneLine) → FitDroneLines ds → All (λ (s : DroneLine). IsName s.name) ds
names_fit [] h = All-nil (λ (s : DroneLine). IsName s.name)
names_fit (d ∷ ds) h = All-cons (λ (s : DroneLine). IsName s.name) d ds h.0 (names_fit ds h.2)

pub fit_grid : (s : PlainShow) → IsValid s → grid_fault s ≡ None → IsGrid (grid_of s)
fit_grid s v h =
    let drones = neither (no_drone s) (or_else (many_drones s) (or_else (earliest (name_faults s)) (or_else (no_cue s.body) (many_cues (over_at s.figures 0 s.body))))) h in
    let many = neither (many_drones s) (or_else (earliest (name_faults s)) (or_else (no_cue s.body) (many_cues (over_at s.figures 0 s.body)))) drones.1 in
    let names = neither (earliest (name_faults s)) (or_else (no_cue s.body) (many_cues (over_at s.figures 0 s.body))) many.1 in
    let counts = neither (no_cue s.body) (many_cues (over_at s.figures 0 s.body)) names.1 in
    let without = no_earliest (name_faults s) names.0 in
    let behind_drones = both_empty (drones_faults s) (formations_faults s ++ (figures_faults s ++ show_faults s)) without in
    let behind_formations = both_empty (formations_faults s) (figures_faults s ++ show_faults s) behind_drones.1 in
    let behind_figures = both_empty (figures_faults s) (show_faults s) behind_formations.1 in
    let one = some_cue s (names_of s.drones) s.body v.figures (a_block s.body counts.0) v.filled v.body behind_figures.1 in
    let limit = few s.figures 0 s.body (omega arith) (not_many_cues (over_at s.figures 0 s.body) counts.1) in
    record {
      some_start = some_drone s.drones drones.0;
      few_starts = all_dropped most_drones s.drones (not_many (drop most_drones s.drones) many.0);
      starts = points_fit s.drones v.drones;
      some_cue = omega (arith, one, cues_counted s);
      few_cues = omega (arith, limit, cues_counted s);
      cues = cues_fit s as_written (performed_cues s) v.formations no_frame_fits (λ figure frame drones f. figure_cues_fit s (figure_named s.figures figure) frame drones v.formations (figure_fits s.figures figure v.figures) f) s.body v.body;
    }

abbrev grid_with : List DroneLine → List Cue → Grid
grid_with starts cues = record { starts = starts; cues = cues }

-- what is answered of a show without a fault
pub answered : (s : PlainShow) (o : Option GridFault) (starts : List DroneLine) (cues : List Cue) → IsValid s → o ≡ grid_fault s → o ≡ None → starts ≡ s.drones → cues ≡ cues_of s → IsGrid (record { starts = starts; cues = cues })
answered s o starts cues v h k p q =
    let e : grid_with starts cues ≡ grid_of s = ap (λ x. grid_with x cues) p ∙ ap (grid_with s.drones) q in
    subst IsGrid (sym e) (fit_grid s v (sym h ∙ k))

-- the starts of a valid show have names of the language
pub answered_names : (s : PlainShow) (starts : List DroneLine) → IsValid s → starts ≡ s.drones → All (λ (d : DroneLine). IsName d.name) starts
answered_names s starts v p = subst (All (λ (d : DroneLine). IsName d.name)) (sym p) (names_fit s.drones v.drones)

-- the starts and the cues of a show are its grid
pub grid_by : (s : PlainShow) (starts : List DroneLine) (cues : List Cue) → starts ≡ s.drones → cues ≡ cues_of s → grid_with starts cues ≡ grid_of s
grid_by s starts cues p q = ap (λ x. grid_with x cues) p ∙ ap (grid_with s.drones) q

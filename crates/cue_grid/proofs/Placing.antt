-- What the lines of a cue give the drones to do, put into the places of the drones line by line.
use Rattle.cue_grid.proofs.Prelude.{common_steps, ◌≡◌, ℕ, zero, suc, ◌+◌, ◌-◌, ◌<◌, Bool, true, false, List, [], ◌∷◌, length, get_or, set, take, drop, drop-cons, add-one, map, Option, Some, None, refl, sym, ap, ◌∙◌, arith, ◌||◌, cond, Name, Act, Frame, Point, ActLine, DroneLine, Formation, same_name, has_name, has_double, names_of, formation_named, places_in, place_named, player, Playing, job_of, act_by, act_line_number, stands_at, put_acts, put_line_of, way_to, act_if, way_if, job_or, Job}
use Rattle.choreo_show.specs.declared.show.ActLine.TheVariants as on
use Rattle.cue_grid.proofs.Tables.{same_is, same_self}

-- a job
abbrev pub job_by : ℕ → Frame → Act → Job
job_by line fr a = record { line = line; frame = fr; act = a }

-- these jobs, with this act at a place if there is one
abbrev pub put_or : Option Act → ℕ → Frame → ℕ → List Job → List Job
put_or None line fr k js = js
put_or (Some a) line fr k js = set js k (job_by line fr a)

-- Where a drone of a name stands.

-- a name that is found at a place stands there
pub stands_here : (ds : List DroneLine) (n : Name) (k : ℕ) (d : DroneLine) → k < length ds → d ≡ get_or ds k d → same_name n d.name ≡ true → stands_at (names_of ds) n k ≡ true
stands_here [] n k d h e s = absurd (omega arith)
stands_here (x ∷ ds) n zero d h e s = ap (λ (y : DroneLine). same_name n y.name) (sym e) ∙ s
stands_here (x ∷ ds) n (suc k) d h e s = stands_here ds n k d (omega arith) e s

-- One drone's act.

or_parts : (a b : Bool) → (a || b) ≡ false → (a ≡ false) × (b ≡ false)
or_parts true b h = cc
or_parts false b h = (refl, h)

-- the same the other way round
turned_false : (n m : Name) (b : Bool) → same_name n m ≡ b → same_name m n ≡ false → b ≡ false
turned_false n m true h g = let t = same_self m n (sym (same_is n m h)) in cc
turned_false n m false h g = refl

-- a name that no drone has gives nobody an act
pub put_nobody : (ds : List DroneLine) (js : List Job) (n : Name) (job : Job) → has_name (names_of ds) n ≡ false → put_acts (λ m. act_if (same_name m n) job.act) job.line job.frame ds js ≡ js
put_nobody [] js n job h = refl
put_nobody (d ∷ ds) [] n job h = refl
put_nobody (d ∷ ds) (j ∷ js) n job h =
    let parts = or_parts (same_name n d.name) (has_name (names_of ds) n) h in
    ap (λ b. job_or (act_if b job.act) job.line job.frame j ∷ put_acts (λ m. act_if (same_name m n) job.act) job.line job.frame ds js)
    (turned_false d.name n (same_name d.name n) refl parts.0)
    ∙ ap (λ xs. j ∷ xs) (put_nobody ds js n job parts.1)

or_right : (a b : Bool) → b ≡ true → (a || b) ≡ true
or_right true b h = refl
or_right false b h = h

stands_has : (ms : List Name) (n : Name) (k : ℕ) → stands_at ms n k ≡ true → has_name ms n ≡ true
stands_has [] n k h = cc
stands_has (m ∷ ms) n zero h = ap (λ b. b || has_name ms n) h
stands_has (m ∷ ms) n (suc k) h = or_right (same_name n m) (has_name ms n) (stands_has ms n k h)

-- a name that stands among these is not one that doesn't
other : (ms : List Name) (n m : Name) (b : Bool) → same_name m n ≡ b → has_name ms m ≡ false → has_name ms n ≡ true → b ≡ false
other ms n m true same hasnt has = let t = ap (has_name ms) (same_is m n same) in cc
other ms n m false same hasnt has = refl

-- a name that a drone has gives this drone alone its act, where no two drones have one name
pub put_somebody : (ds : List DroneLine) (js : List Job) (n : Name) (k : ℕ) (job : Job) → has_double (names_of ds) ≡ false → stands_at (names_of ds) n k ≡ true → put_acts (λ m. act_if (same_name m n) job.act) job.line job.frame ds js ≡ set js k job
put_somebody [] js n k job h s = cc
put_somebody (d ∷ ds) [] n k job h s = refl
put_somebody (d ∷ ds) (j ∷ js) n zero job h s = grind (arith, common_steps, or_parts, same_is, same_self, put_nobody)
put_somebody (d ∷ ds) (j ∷ js) n (suc k) job h s =
    let parts = or_parts (has_name (names_of ds) d.name) (has_double (names_of ds)) h in
    ap (λ b. job_or (act_if b job.act) job.line job.frame j ∷ put_acts (λ m. act_if (same_name m n) job.act) job.line job.frame ds js)
    (other (names_of ds) n d.name (same_name d.name n) refl parts.0 (stands_has (names_of ds) n k s))
    ∙ ap (λ xs. j ∷ xs) (put_somebody ds js n k job parts.1 s)

-- The ways of the drones of a formation.

-- one drone more, with what it may have to do
put_next : (f : Name → Option Act) (line : ℕ) (fr : Frame) (ds : List DroneLine) (js : List Job) (k : ℕ) (d : DroneLine) (o : Option Act) → k < length ds → f (get_or ds k d).name ≡ o → put_acts f line fr (take (suc k) ds) js ≡ put_or o line fr k (put_acts f line fr (take k ds) js)
put_next f line fr [] js k d o h e = absurd (omega arith)
put_next f line fr (x ∷ ds) [] zero d (Some a) h e = refl
put_next f line fr (x ∷ ds) [] zero d None h e = refl
put_next f line fr (x ∷ ds) [] (suc k) d (Some a) h e = refl
put_next f line fr (x ∷ ds) [] (suc k) d None h e = refl
put_next f line fr (x ∷ ds) (j ∷ js) zero d (Some a) h e = ap (λ o. job_or o line fr j ∷ js) e
put_next f line fr (x ∷ ds) (j ∷ js) zero d None h e = ap (λ o. job_or o line fr j ∷ js) e
put_next f line fr (x ∷ ds) (j ∷ js) (suc k) d (Some a) h e = ap (λ ys. job_or (f x.name) line fr j ∷ ys) (put_next f line fr ds js k d (Some a) (omega arith) e)
put_next f line fr (x ∷ ds) (j ∷ js) (suc k) d None h e = ap (λ ys. job_or (f x.name) line fr j ∷ ys) (put_next f line fr ds js k d None (omega arith) e)

-- a drone with a place
pub way_put : (smooth : Bool) (places : List DroneLine) (line : ℕ) (fr : Frame) (ds : List DroneLine) (js now next : List Job) (k : ℕ) (d : DroneLine) (at : Point) (a : Act) → k < length ds → d ≡ get_or ds k d → place_named places d.name ≡ Some at → a ≡ way_to smooth at → now ≡ put_acts (λ n. way_if smooth (place_named places n)) line fr (take k ds) js → next ≡ set now k (job_by line fr a) → next ≡ put_acts (λ n. way_if smooth (place_named places n)) line fr (take (k + 1) ds) js
way_put smooth places line fr ds js now next k d at a h e p w inv s =
    s ∙ ap (λ xs. set xs k (job_by line fr a)) inv
    ∙ ap (λ b. set (put_acts (λ n. way_if smooth (place_named places n)) line fr (take k ds) js) k (job_by line fr b)) w
    ∙ sym (put_next (λ n. way_if smooth (place_named places n)) line fr ds js k d (Some (way_to smooth at)) h
    (ap (λ (y : DroneLine). way_if smooth (place_named places y.name)) (sym e) ∙ ap (way_if smooth) p))
    ∙ ap (λ i. put_acts (λ n. way_if smooth (place_named places n)) line fr (take i ds) js) (sym (add-one k))

-- a drone without a place
pub way_none : (smooth : Bool) (places : List DroneLine) (line : ℕ) (fr : Frame) (ds : List DroneLine) (js now : List Job) (k : ℕ) (d : DroneLine) → k < length ds → d ≡ get_or ds k d → place_named places d.name ≡ None → now ≡ put_acts (λ n. way_if smooth (place_named places n)) line fr (take k ds) js → now ≡ put_acts (λ n. way_if smooth (place_named places n)) line fr (take (k + 1) ds) js
way_none smooth places line fr ds js now k d h e p inv =
    inv
    ∙ sym (put_next (λ n. way_if smooth (place_named places n)) line fr ds js k d None h
    (ap (λ (y : DroneLine). way_if smooth (place_named places y.name)) (sym e) ∙ ap (way_if smooth) p))
    ∙ ap (λ i. put_acts (λ n. way_if smooth (place_named places n)) line fr (take i ds) js) (sym (add-one k))

-- A whole cue.

-- a line that gives nobody an act
pub put_nothing : (line : ℕ) (fr : Frame) (ds : List DroneLine) (js : List Job) → put_acts (λ n. None) line fr ds js ≡ js
put_nothing line fr [] js = refl
put_nothing line fr (d ∷ ds) [] = refl
put_nothing line fr (d ∷ ds) (j ∷ js) = ap (λ xs. j ∷ xs) (put_nothing line fr ds js)

-- a formation that isn't there gives nobody an act
pub line_none : (fs : List Formation) (p : Playing) (a : ActLine) (line : ℕ) (n : Name) (smooth : Bool) (whole : List DroneLine) (js : List Job) → a ≡ on.Form line n smooth → formation_named fs n ≡ None → js ≡ put_line_of fs p a whole js
line_none fs p a line n smooth whole js e g =
    sym (put_nothing line p.frame whole js)
    ∙ ap (λ o. put_acts (λ m. way_if smooth (place_named (places_in o) m)) line p.frame whole js) (sym g)
    ∙ ap (λ b. put_line_of fs p b whole js) (sym e)

-- the job of a drone, by what the first line gives it to do
job_by_act : (b : Bool) (a : Act) (line : ℕ) (fr : Frame) (later : Job) → job_or (act_if b a) line fr later ≡ cond b (job_by line fr a) later
job_by_act true a line fr later = refl
job_by_act false a line fr later = refl

job_by_way : (o : Option Point) (smooth : Bool) (line : ℕ) (fr : Frame) (later : Job) →
    job_or (way_if smooth o) line fr later ≡ elim o [ Some at ↦ job_by line fr (way_to smooth at) | None ↦ later ]
job_by_way None smooth line fr later = refl
job_by_way (Some at) smooth line fr later = refl

pub job_first : (fs : List Formation) (p : Playing) (line : ℕ) (a : ActLine) (rest : List ActLine) (n : Name) →
    job_or (act_by fs p n a) (act_line_number a) p.frame (job_of fs p line rest n) ≡ job_of fs p line (a ∷ rest) n
job_first fs p line (on.One l name a) rest n = job_by_act (same_name n (player p.roles p.drones name)) a l p.frame (job_of fs p line rest n)
job_first fs p line (on.Form l formation smooth) rest n =
    job_by_way (place_named (places_in (formation_named fs formation)) n) smooth l p.frame (job_of fs p line rest n)

-- a line before others: who has no act by it keeps the job that the others give
before_all : (fs : List Formation) (p : Playing) (line : ℕ) (a : ActLine) (rest : List ActLine) (ds : List DroneLine) → put_line_of fs p a ds (map (λ d. job_of fs p line rest d.name) ds) ≡ map (λ d. job_of fs p line (a ∷ rest) d.name) ds
before_all fs p line a rest [] = refl
before_all fs p line a rest (d ∷ ds) =
    ap (λ j. j ∷ put_line_of fs p a ds (map (λ d. job_of fs p line rest d.name) ds)) (job_first fs p line a rest d.name)
    ∙ ap (λ js. job_of fs p line (a ∷ rest) d.name ∷ js) (before_all fs p line a rest ds)

-- the loop over the lines, the last first: this many are left
pub line_put : (fs : List Formation) (p : Playing) (line : ℕ) (acts : List ActLine) (k : ℕ) (a : ActLine) (ds : List DroneLine) (now next : List Job) → 0 < k → k - 1 < length acts → a ≡ get_or acts (k - 1) a → now ≡ map (λ d. job_of fs p line (drop k acts) d.name) ds → next ≡ put_line_of fs p a ds now → next ≡ map (λ d. job_of fs p line (drop (k - 1) acts) d.name) ds
line_put fs p line acts k a ds now next some h e inv s =
    let one : k ≡ suc (k - 1) = omega arith in
    s ∙ ap (λ js. put_line_of fs p a ds js) (inv ∙ ap (λ j. map (λ (d : DroneLine). job_of fs p line (drop j acts) d.name) ds) one)
    ∙ before_all fs p line a (drop (suc (k - 1)) acts) ds
    ∙ ap (λ xs. map (λ (d : DroneLine). job_of fs p line xs d.name) ds) (ap (λ x. x ∷ drop (suc (k - 1)) acts) e ∙ sym (drop-cons acts (k - 1) a h))

-- What goes out through the buffer of rows, and the places of all drones.
use Rattle.integer_player.proofs.Prelude.{◌≡◌, ℕ, zero, suc, ◌+◌, ◌*◌, ◌/◌, ◌%◌, ◌==◌, if◌then◌else◌, false, ◌<◌, ◌≤◌, ℤ, List, [], ◌∷◌, ◌++◌, length, take, drop, map, get_or, Option, Result, Ok, Err, OnErr, refl, sym, ap, subst, ◌∙◌, append_assoc, arith, slice_set, nat_tests, flat_map, range_with_len, append-nil, take-append-drop, flat_map-append, common_steps, Traj, Place, IsPlaceIn, ArePlaces, played, row, rows_at, play_text, Passes}
use Rattle.std.specs.Io.KnownBytes.{Appends}
use Rattle.std.proofs.lemmas.List.FromFn.{map-range_with_len_more, take-map-range_with_len}
use Rattle.byte_streams.specs.Taken.{AppendsFront}
use Rattle.byte_streams.proofs.SentLemmas.{Appends-append}

-- ---- what goes out

-- what passes in two steps passes in their order
pub passes-more : (a b c : Option (List ℕ)) (w v u xs ys : List ℕ) → Passes a w b v xs → Passes b v c u ys → Passes a w c u (xs ++ ys)
passes-more a b c w v u xs ys p q = grind (arith, common_steps, Appends-append, append_assoc)

-- a front of the second step after the first one
pub passes-fails : (a b c : Option (List ℕ)) (w v xs ys : List ℕ) → Passes a w b v xs → AppendsFront b c (v ++ ys) → AppendsFront a c (w ++ (xs ++ ys))
passes-fails a b c w v xs ys p q = (
  p.sent ++ q.0,
  q.1,
  sym (append_assoc w xs ys) ∙ ap (λ (zs : List ℕ). zs ++ ys) p.all ∙ append_assoc p.sent v ys
      ∙ ap (λ (zs : List ℕ). p.sent ++ zs) q.2 ∙ sym (append_assoc p.sent q.0 q.1),
  Appends-append a b c p.sent q.0 p.appended q.3,
)

-- a front is one of more bytes too
pub front-more : (a c : Option (List ℕ)) (xs ys : List ℕ) → AppendsFront a c xs → AppendsFront a c (xs ++ ys)
front-more a c xs ys q = (q.0, q.1 ++ ys, ap (λ (zs : List ℕ). zs ++ ys) q.2 ∙ append_assoc q.0 q.1 ys, q.3)

-- what holds where a call failed
pub fails-with : {T E : Type 0} (r : Result T E) (P : Type 0) → P → OnErr r P
fails-with (Ok x) P p = tt
fails-with (Err e) P p = p

-- ---- places

pub places-at : (ts : List Traj) (ps : List Place) (d : ℕ) (t0 : Traj) (p0 : Place) → ArePlaces ts ps → d < length ts → IsPlaceIn (get_or ts d t0) (get_or ps d p0)
places-at [] ps d t0 p0 are below = absurd (omega arith)
places-at (t ∷ ts) [] d t0 p0 are below = absurd are
places-at (t ∷ ts) (p ∷ ps) zero t0 p0 are below = are.0
places-at (t ∷ ts) (p ∷ ps) (suc d) t0 p0 are below = places-at ts ps d t0 p0 are.1 (omega arith)

pub places-set : (ts : List Traj) (ps : List Place) (d : ℕ) (t0 : Traj) (p : Place) → ArePlaces ts ps → IsPlaceIn (get_or ts d t0) p → ArePlaces ts (slice_set ps d p)
places-set [] ps d t0 p are is = tt
places-set (t ∷ ts) [] d t0 p are is = absurd are
places-set (t ∷ ts) (q ∷ ps) zero t0 p are is = (is, are.1)
places-set (t ∷ ts) (q ∷ ps) (suc d) t0 p are is = (are.0, places-set ts ps d t0 p are.1 is)

pub places-push : (ts : List Traj) (ps : List Place) (n : ℕ) (t0 : Traj) (p : Place) → n < length ts → length ps ≡ n → ArePlaces (take n ts) ps → IsPlaceIn (get_or ts n t0) p →
    ArePlaces (take (suc n) ts) (ps ++ p ∷ [])
places-push (t ∷ ts) [] zero t0 p below many are is = (is, tt)
places-push (t ∷ ts) (q ∷ ps) (suc n) t0 p below many are is = (are.0, places-push ts ps n t0 p (omega arith) (omega arith) are.1 is)
places-push xs ys zs t0 p below many are is = absurd (omega arith)

-- ---- rows

-- the row of one drone more
pub rows-push : {N : Type 0} (f : N → List ℕ) (ms : ℕ) (names : List N) (ts : List Traj) (d : ℕ) (n0 : N) (t0 : Traj) → d < length ts → length names ≡ length ts →
    rows_at ms (map f (take (suc d) names)) (take (suc d) ts) ≡ rows_at ms (map f (take d names)) (take d ts) ++ row ms (f (get_or names d n0)) (played (get_or ts d t0) ms)
rows-push f ms (n ∷ names) (t ∷ ts) zero n0 t0 below same = append-nil (row ms (f n) (played t ms))
rows-push f ms (n ∷ names) (t ∷ ts) (suc d) n0 t0 below same =
    ap (λ (xs : List ℕ). row ms (f n) (played t ms) ++ xs) (rows-push f ms names ts d n0 t0 (omega arith) (omega arith))
    ∙ sym (append_assoc (row ms (f n) (played t ms)) (rows_at ms (map f (take d names)) (take d ts)) (row ms (f (get_or names d n0)) (played (get_or ts d t0) ms)))
rows-push f ms xs ys d n0 t0 below same = absurd (omega arith)

-- the rows of the first drones, and of the others
pub rows-split : {N : Type 0} (f : N → List ℕ) (ms : ℕ) (names : List N) (ts : List Traj) (d : ℕ) → length names ≡ length ts →
    rows_at ms (map f names) ts ≡ rows_at ms (map f (take d names)) (take d ts) ++ rows_at ms (map f (drop d names)) (drop d ts)
rows-split f ms names ts zero same = refl
rows-split f ms [] [] (suc d) same = refl
rows-split f ms (n ∷ names) (t ∷ ts) (suc d) same =
    ap (λ (xs : List ℕ). row ms (f n) (played t ms) ++ xs) (rows-split f ms names ts d (omega arith))
    ∙ sym (append_assoc (row ms (f n) (played t ms)) (rows_at ms (map f (take d names)) (take d ts)) (rows_at ms (map f (drop d names)) (drop d ts)))
rows-split f ms xs ys zs same = absurd (omega arith)

-- of the same name and numbers it is the same row
pub row-same : (ms : ℕ) (a b : List ℕ) (x y : List ℤ) → a ≡ b → x ≡ y → row ms a x ≡ row ms b y
row-same ms a b x y p q = ap (λ (n : List ℕ). row ms n x) p ∙ ap (row ms b) q

-- one row more goes out
pub row-passes : {N : Type 0} (f : N → List ℕ) (ms : ℕ) (names : List N) (ts : List Traj) (d : ℕ) (n0 : N) (t0 : Traj) (a b c : Option (List ℕ)) (w v u line : List ℕ) →
    d < length ts → length names ≡ length ts → line ≡ row ms (f (get_or names d n0)) (played (get_or ts d t0) ms) →
    Passes a w b v (rows_at ms (map f (take d names)) (take d ts)) → Passes b v c u line →
    Passes a w c u (rows_at ms (map f (take (d + 1) names)) (take (d + 1) ts))
row-passes f ms names ts d n0 t0 a b c w v u line below same is p q =
    let e : d + 1 ≡ suc d = omega arith in
    rw (e, rows-push f ms names ts d n0 t0 below same) (rw is at (passes-more a b c w v u (rows_at ms (map f (take d names)) (take d ts)) line p q))

-- a front of the rows, where one more fails to go out
pub row-fails : {N : Type 0} (f : N → List ℕ) (ms : ℕ) (names : List N) (ts : List Traj) (d : ℕ) (n0 : N) (t0 : Traj) (a b c : Option (List ℕ)) (w v line : List ℕ) →
    d < length ts → length names ≡ length ts → line ≡ row ms (f (get_or names d n0)) (played (get_or ts d t0) ms) →
    Passes a w b v (rows_at ms (map f (take d names)) (take d ts)) → AppendsFront b c (v ++ line) → AppendsFront a c (w ++ rows_at ms (map f names) ts)
row-fails f ms names ts d n0 t0 a b c w v line below same is p q =
    let done : List ℕ = rows_at ms (map f (take d names)) (take d ts) in
    let later : List ℕ = rows_at ms (map f (drop (suc d) names)) (drop (suc d) ts) in
    let all : rows_at ms (map f names) ts ≡ (done ++ line) ++ later =
    rows-split f ms names ts (suc d) same ∙ ap (λ (xs : List ℕ). xs ++ later) (rows-push f ms names ts d n0 t0 below same ∙ ap (λ (xs : List ℕ). done ++ xs) (sym is)) in
    let front : AppendsFront a c ((w ++ (done ++ line)) ++ later) = front-more a c (w ++ (done ++ line)) later (passes-fails a b c w v done line p q) in
    subst (λ (xs : List ℕ). AppendsFront a c xs) (append_assoc w (done ++ line) later ∙ ap (λ (xs : List ℕ). w ++ xs) (sym all)) front

-- ---- instants

-- one instant more
pub instants-more : (f : ℕ → List ℕ) (step k : ℕ) → flat_map f (map (λ j. j * step) (range_with_len 0 (k + 1))) ≡ flat_map f (map (λ j. j * step) (range_with_len 0 k)) ++ f (k * step)
instants-more f step k =
    ap (flat_map f) (map-range_with_len_more (λ j. j * step) 0 k k (omega arith))
    ∙ flat_map-append f (map (λ j. j * step) (range_with_len 0 k)) (k * step ∷ [])
    ∙ ap (λ (xs : List ℕ). flat_map f (map (λ j. j * step) (range_with_len 0 k)) ++ xs) (append-nil (f (k * step)))

-- the rows of the first instants are a front of all
pub instants-split : (f : ℕ → List ℕ) (step n k : ℕ) → k ≤ n → (last : List ℕ) → (more : List ℕ)
    × (flat_map f (map (λ j. j * step) (range_with_len 0 n) ++ last) ≡ flat_map f (map (λ j. j * step) (range_with_len 0 k)) ++ more)
instants-split f step n k few last =
    let all : List ℕ = map (λ j. j * step) (range_with_len 0 n) in (
      flat_map f (drop k all) ++ flat_map f last,
      flat_map-append f all last
          ∙ ap (λ (xs : List ℕ). flat_map f xs ++ flat_map f last) (sym (take-append-drop k all))
          ∙ ap (λ (xs : List ℕ). xs ++ flat_map f last) (flat_map-append f (take k all) (drop k all))
          ∙ append_assoc (flat_map f (take k all)) (flat_map f (drop k all)) (flat_map f last)
          ∙ ap (λ (xs : List ℕ). flat_map f xs ++ (flat_map f (drop k all) ++ flat_map f last)) (take-map-range_with_len (λ j. j * step) 0 n k few),
    )

-- what is played at the instants before number k
abbrev pub before : (ℕ → List ℕ) → ℕ → ℕ → List ℕ
before f step k = flat_map f (map (λ j. j * step) (range_with_len 0 k))

-- the rows of one instant more go out
pub instant-passes : (f : ℕ → List ℕ) (step k : ℕ) (a b c : Option (List ℕ)) (v u : List ℕ) → Passes a [] b v (before f step k) → Passes b v c u (f (k * step)) →
    Passes a [] c u (before f step (k + 1))
instant-passes f step k a b c v u p q = rw (instants-more f step k) (passes-more a b c [] v u (before f step k) (f (k * step)) p q)

-- a front of the whole, where those of one more fail to go out
pub instant-fails : (f : ℕ → List ℕ) (step n k : ℕ) (last : List ℕ) (a b c : Option (List ℕ)) (v : List ℕ) → k < n → Passes a [] b v (before f step k) →
    AppendsFront b c (v ++ f (k * step)) → AppendsFront a c (flat_map f (map (λ j. j * step) (range_with_len 0 n) ++ last))
instant-fails f step n k last a b c v below p q =
    let split = instants-split f step n (k + 1) (omega arith) last in
    let front : AppendsFront a c (before f step k ++ f (k * step)) = passes-fails a b c [] v (before f step k) (f (k * step)) p q in
    let more : AppendsFront a c (before f step (k + 1) ++ split.0) = front-more a c (before f step (k + 1)) split.0 (rw (instants-more f step k) front) in
    rw split.1 more

-- ---- the end

-- what waited is written
pub ends : (a b c : Option (List ℕ)) (v xs : List ℕ) → Passes a [] b v xs → Appends b c v → Appends a c xs
ends a b c v xs p q = rw p.all (Appends-append a b c p.sent v p.appended q)

-- or a front of it
pub ends-fails : (a b c : Option (List ℕ)) (v xs : List ℕ) → Passes a [] b v xs → AppendsFront b c v → AppendsFront a c xs
ends-fails a b c v xs p q =
    subst (λ (ys : List ℕ). AppendsFront a c ys) (append-nil xs) (passes-fails a b c [] v xs [] p (subst (λ (ys : List ℕ). AppendsFront b c ys) (sym (append-nil v)) q))

-- the rows of the whole, where the last instant is one of the others
pub text-even : (total step : ℕ) (names : List (List ℕ)) (ts : List Traj) → total % step ≡ 0 →
    play_text total step names ts ≡ before (λ ms. rows_at ms names ts) step (suc (total / step))
unfolding play_text
text-even total step names ts even = rw even (ap (flat_map (λ ms. rows_at ms names ts)) (append-nil (map (λ j. j * step) (range_with_len 0 (suc (total / step))))))

-- and where it is none of them
pub text-odd : (total step : ℕ) (names : List (List ℕ)) (ts : List Traj) → (total % step == 0) ≡ false →
    play_text total step names ts ≡ before (λ ms. rows_at ms names ts) step (suc (total / step)) ++ rows_at total names ts
unfolding play_text
text-odd total step names ts odd =
    rw odd (flat_map-append (λ ms. rows_at ms names ts) (map (λ j. j * step) (range_with_len 0 (suc (total / step)))) (total ∷ [])
    ∙ ap (λ (xs : List ℕ). before (λ ms. rows_at ms names ts) step (suc (total / step)) ++ xs) (append-nil (rows_at total names ts)))

-- ---- the whole

eq_told : (n : ℕ) → 1 ≤ n → (n == 0) ≡ false
eq_told n some = grind (arith, nat_tests)

-- a front of the whole went out, where an instant of the steps fails
pub play-fails : (total step : ℕ) (names : List (List ℕ)) (ts : List Traj) (k : ℕ) (a b c : Option (List ℕ)) (v : List ℕ) → k < suc (total / step) →
    Passes a [] b v (before (λ ms. rows_at ms names ts) step k) → AppendsFront b c (v ++ rows_at (k * step) names ts) → AppendsFront a c (play_text total step names ts)
unfolding play_text
play-fails total step names ts k a b c v below p q =
    instant-fails (λ ms. rows_at ms names ts) step (suc (total / step)) k (if total % step == 0 then [] else total ∷ []) a b c v below p q

-- or where the end fails
pub last-fails : (total step : ℕ) (names : List (List ℕ)) (ts : List Traj) (k : ℕ) (a b c : Option (List ℕ)) (v : List ℕ) → 1 ≤ total % step → k ≡ suc (total / step) →
    Passes a [] b v (before (λ ms. rows_at ms names ts) step k) → AppendsFront b c (v ++ rows_at total names ts) → AppendsFront a c (play_text total step names ts)
last-fails total step names ts k a b c v odd here p q =
    rw (text-odd total step names ts (eq_told (total % step) odd)) (passes-fails a b c [] v (before (λ ms. rows_at ms names ts) step (suc (total / step))) (rows_at total names ts) (rw here at p) q)

-- all rows passed, with those of the end
pub odd-passes : (total step : ℕ) (names : List (List ℕ)) (ts : List Traj) (k : ℕ) (a b c : Option (List ℕ)) (v u : List ℕ) → 1 ≤ total % step → k ≡ suc (total / step) →
    Passes a [] b v (before (λ ms. rows_at ms names ts) step k) → Passes b v c u (rows_at total names ts) → Passes a [] c u (play_text total step names ts)
odd-passes total step names ts k a b c v u odd here p q =
    rw (text-odd total step names ts (eq_told (total % step) odd)) (passes-more a b c [] v u (before (λ ms. rows_at ms names ts) step (suc (total / step))) (rows_at total names ts) (rw here at p) q)

-- all rows passed, where the end is among the steps
pub even-passes : (total step : ℕ) (names : List (List ℕ)) (ts : List Traj) (k : ℕ) (a b : Option (List ℕ)) (v : List ℕ) → total % step ≡ 0 → k ≡ suc (total / step) →
    Passes a [] b v (before (λ ms. rows_at ms names ts) step k) → Passes a [] b v (play_text total step names ts)
even-passes total step names ts k a b v even here p = rw (text-even total step names ts even) (rw here at p)

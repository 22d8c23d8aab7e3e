-- What the director looks at is whether all may land.
use Rattle.flight_model.proofs.Prelude.{◌≡◌, ◌⊎◌, ◌<◌, ◌+◌, ◌∷◌, ◌∙◌, ◌||◌, ◌&&◌, [], List, Bool, true, false, not, refl, sym, ap, subst, None, Some, Option, ℕ, zero, suc, inl, inr, leb, eqb, arith, and_parts, leb-true, le-leb, ltb-true, lt-ltb, eqb-true, eq-eqb, slice_get, list_all, list_any, Contains, Contains-append_left, Contains-append_right, Contains-append_cases, Sample, Flight, Window, Track, State, any_risen, has_risen, may_be_deaf, one_if, deaf_from, is_same, is_window, has_window, is_covered, covers, MayBeDeaf, HasWindow, IsCovered, MayLand}
unfoldable use Rattle.flight_model.specs.Directors.{may_land}

both : (a b : Bool) → a ≡ true → b ≡ true → a && b ≡ true
both a b p q = rw (p, q) refl

none-in : {A : Type 0} (x : A) → Contains [] x → ⊥
none-in x c = omega (arith, c.1)

-- ---- windows

any-get : (p : Window → Bool) (ws : List Window) → list_any p ws ≡ true → (w : Window) × Contains ws w × (p w ≡ true)
any-get p [] h = absurd (cc)
any-get p (w ∷ ws) h = by_first (λ any. any-get p ws any) (p w) refl h where
  by_first : (list_any p ws ≡ true → (v : Window) × Contains ws v × (p v ≡ true)) →
      (b : Bool) → p w ≡ b → b || list_any p ws ≡ true → (v : Window) × Contains (w ∷ ws) v × (p v ≡ true)
  by_first more true is any = (w, Contains-append_left (w ∷ []) ws w (0, omega arith, refl), is)
  by_first more false is any = let r = more any in (r.0, Contains-append_right (w ∷ []) ws r.0 r.1, r.2)

or-left : (a b : Bool) → a ≡ true → a || b ≡ true
or-left true b e = refl
or-left false b e = absurd (cc)

or-right : (a b : Bool) → b ≡ true → a || b ≡ true
or-right true b e = refl
or-right false b e = e

any-put : (p : Window → Bool) (ws : List Window) (w : Window) → Contains ws w → p w ≡ true → list_any p ws ≡ true
any-put p [] w has is = absurd (none-in w has)
any-put p (v ∷ ws) w has is = by_case (λ there. any-put p ws w there is) (Contains-append_cases (v ∷ []) ws w has) where
  by_case : (Contains ws w → list_any p ws ≡ true) → Contains (v ∷ []) w ⊎ Contains ws w → p v || list_any p ws ≡ true
  by_case more (inl here) = or-left (p v) (list_any p ws) (ap p (only v w here) ∙ is) where
    only : (v w : Window) → Contains (v ∷ []) w → v ≡ w
    only v w c = by_place c.0 c.1 c.2 where
      by_place : (k : ℕ) → k < 1 → Rattle.std.specs.Prelude.slice_index_or (v ∷ []) k w ≡ w → v ≡ w
      by_place zero l e = e
      by_place (suc k) l e = absurd (omega arith)
  by_case more (inr there) = or-right (p v) (list_any p ws) (more there)

same-true : (a b : Option ℕ) → is_same a b ≡ true → a ≡ b
same-true None None h = refl
same-true None (Some k) h = absurd (cc)
same-true (Some d) None h = absurd (cc)
same-true (Some d) (Some k) h = ap (λ n. Some n) (eqb-true d k h)

same-self : (a : Option ℕ) → is_same a a ≡ true
same-self None = refl
same-self (Some d) = eq-eqb d d refl

window-true : (ws : List Window) (s : State) (deaf : Option ℕ) → has_window ws s.next s.waited deaf ≡ true → HasWindow ws s deaf
window-true ws s deaf h =
    let r = any-get (λ (w : Window). is_window s.next s.waited deaf w) ws h in
    let w = r.0 in
    let a = and_parts (eqb w.step s.next && leb w.from s.waited && leb s.waited w.to) (is_same w.deaf deaf) r.2 in
    let b = and_parts (eqb w.step s.next && leb w.from s.waited) (leb s.waited w.to) a.0 in
    let c = and_parts (eqb w.step s.next) (leb w.from s.waited) b.0 in
    record {
      window = w;
      is_listed = r.1;
      step = eqb-true w.step s.next c.0;
      from = leb-true w.from s.waited c.1;
      to = leb-true s.waited w.to b.1;
      deaf = same-true w.deaf deaf a.1;
    }

window-is : (ws : List Window) (s : State) (deaf : Option ℕ) → HasWindow ws s deaf → has_window ws s.next s.waited deaf ≡ true
window-is ws s deaf h =
    let w = h.window in
    any-put (λ (v : Window). is_window s.next s.waited deaf v) ws w h.is_listed
    (both (eqb w.step s.next && leb w.from s.waited && leb s.waited w.to) (is_same w.deaf deaf)
    (both (eqb w.step s.next && leb w.from s.waited) (leb s.waited w.to)
    (both (eqb w.step s.next) (leb w.from s.waited) (eq-eqb w.step s.next h.step) (le-leb w.from s.waited h.from)) (le-leb s.waited w.to h.to))
    (ap (λ o. is_same o deaf) h.deaf ∙ same-self deaf))

-- ---- who may be deaf

deaf-true : (seen : Option Sample) → may_be_deaf seen ≡ true → (x : Sample) → seen ≡ Some x → 300 < x.age
deaf-true None h x is = absurd (cc)
deaf-true (Some y) h x is = let same : y ≡ x = cc in subst (λ (z : Sample). 300 < z.age) same (ltb-true 300 y.age h)

deaf-is : (seen : Option Sample) → ((x : Sample) → seen ≡ Some x → 300 < x.age) → may_be_deaf seen ≡ true
deaf-is None h = refl
deaf-is (Some y) h = lt-ltb 300 y.age (h y refl)

-- the one with this track is among those from drone k on
deaf-put : (f : Flight) (n k : ℕ) (ts : List Track) (d : ℕ) (t : Track) → slice_get ts d ≡ Some t → has_risen f n (k + d) && may_be_deaf t.seen ≡ true → Contains (deaf_from f n k ts) (k + d)
deaf-put f n k [] d t at is = absurd (cc)
deaf-put f n k (u ∷ us) zero t at is =
    let same : u ≡ t = cc in
    let here : k + 0 ≡ k = omega arith in
    let yes : has_risen f n k && may_be_deaf u.seen ≡ true = ap (λ (v : Track). has_risen f n k && may_be_deaf v.seen) same ∙ (sym (ap (λ j. has_risen f n j && may_be_deaf t.seen) here) ∙ is) in
    subst (λ j. Contains (deaf_from f n k (u ∷ us)) j) (sym here)
    (Contains-append_left (one_if (has_risen f n k && may_be_deaf u.seen) k) (deaf_from f n (suc k) us) k (one (has_risen f n k && may_be_deaf u.seen) k yes)) where
      one : (b : Bool) (j : ℕ) → b ≡ true → Contains (one_if b j) j
      one true j e = (0, omega arith, refl)
      one false j e = absurd (cc)
deaf-put f n k (u ∷ us) (suc d) t at is =
    let there : k + suc d ≡ suc k + d = omega arith in
    subst (λ j. Contains (deaf_from f n k (u ∷ us)) j) (sym there)
    (Contains-append_right (one_if (has_risen f n k && may_be_deaf u.seen) k) (deaf_from f n (suc k) us) (suc k + d)
    (deaf-put f n (suc k) us d t at (sym (ap (λ j. has_risen f n j && may_be_deaf t.seen) there) ∙ is)))

-- who is among them has a track
record IsDeafOf (f : Flight) (n k : ℕ) (ts : List Track) (j : ℕ) : Type 0 where
  place : ℕ
  is_place : j ≡ k + place
  track : Track
  is_track : slice_get ts place ≡ Some track
  is_deaf : has_risen f n j && may_be_deaf track.seen ≡ true

deaf-get : (f : Flight) (n k : ℕ) (ts : List Track) (j : ℕ) → Contains (deaf_from f n k ts) j → IsDeafOf f n k ts j
deaf-get f n k [] j has = absurd (none-in j has)
deaf-get f n k (u ∷ us) j has = by_case (λ there. deaf-get f n (suc k) us j there) (Contains-append_cases (one_if (has_risen f n k && may_be_deaf u.seen) k) (deaf_from f n (suc k) us) j has) where
  by_one : (b : Bool) → has_risen f n k && may_be_deaf u.seen ≡ b → Contains (one_if b k) j → IsDeafOf f n k (u ∷ us) j
  by_one true is here =
      let same : k ≡ j = by_place here.0 here.1 here.2 in
      record { place = 0; is_place = omega (arith, same); track = u; is_track = refl; is_deaf = ap (λ i. has_risen f n i && may_be_deaf u.seen) (sym same) ∙ is } where
        by_place : (i : ℕ) → i < 1 → Rattle.std.specs.Prelude.slice_index_or (k ∷ []) i j ≡ j → k ≡ j
        by_place zero l e = e
        by_place (suc i) l e = absurd (omega arith)
  by_one false is here = absurd (none-in j here)

  by_case : (Contains (deaf_from f n (suc k) us) j → IsDeafOf f n (suc k) us j) →
      Contains (one_if (has_risen f n k && may_be_deaf u.seen) k) j ⊎ Contains (deaf_from f n (suc k) us) j → IsDeafOf f n k (u ∷ us) j
  by_case more (inl here) = by_one (has_risen f n k && may_be_deaf u.seen) refl here
  by_case more (inr there) =
      let r = more there in
      let at = r.is_place in
      record { place = suc r.place; is_place = omega (arith, at); track = r.track; is_track = r.is_track; is_deaf = r.is_deaf }

may-be-deaf : (f : Flight) (s : State) (d : ℕ) → Contains (deaf_from f s.next 0 s.tracks) d → MayBeDeaf f s d
may-be-deaf f s d has =
    let r = deaf-get f s.next 0 s.tracks d has in
    let at = r.is_place in
    let p = and_parts (has_risen f s.next d) (may_be_deaf (r.track).seen) r.is_deaf in
    let same : r.place ≡ d = omega (arith, at) in
    record { track = r.track; is_track = subst (λ i. slice_get s.tracks i ≡ Some r.track) same r.is_track; risen = p.0; old = deaf-true (r.track).seen p.1 }

is-among : (f : Flight) (s : State) (d : ℕ) → MayBeDeaf f s d → Contains (deaf_from f s.next 0 s.tracks) d
is-among f s d m =
    let e : 0 + d ≡ d = omega arith in
    subst (λ j. Contains (deaf_from f s.next 0 s.tracks) j) e
    (deaf-put f s.next 0 s.tracks d m.track m.is_track
    (ap (λ j. has_risen f s.next j && may_be_deaf (m.track).seen) e ∙ both (has_risen f s.next d) (may_be_deaf (m.track).seen) m.risen (deaf-is (m.track).seen m.old)))

-- ---- covered

only-one : (a d : ℕ) → Contains (a ∷ []) d → d ≡ a
only-one a d c = by_place c.0 c.1 c.2 where
  by_place : (i : ℕ) → i < 1 → Rattle.std.specs.Prelude.slice_index_or (a ∷ []) i d ≡ d → d ≡ a
  by_place zero l e = sym e
  by_place (suc i) l e = absurd (omega arith)

-- a fact of a list holds of each number in it
all-in : (p : ℕ → Bool) (ds : List ℕ) (d : ℕ) → list_all p ds ≡ true → Contains ds d → p d ≡ true
all-in p [] d all has = absurd (none-in d has)
all-in p (k ∷ ds) d all has =
    let q = and_parts (p k) (list_all p ds) all in
    by_case q.0 (λ there. all-in p ds d q.1 there) (Contains-append_cases (k ∷ []) ds d has) where
      by_case : p k ≡ true → (Contains ds d → p d ≡ true) → Contains (k ∷ []) d ⊎ Contains ds d → p d ≡ true
      by_case here more (inl has) = ap p (only-one k d has) ∙ here
      by_case here more (inr there) = more there

all-put : (p : ℕ → Bool) (ds : List ℕ) → ((d : ℕ) → Contains ds d → p d ≡ true) → list_all p ds ≡ true
all-put p [] each = refl
all-put p (k ∷ ds) each =
    both (p k) (list_all p ds) (each k (Contains-append_left (k ∷ []) ds k (0, omega arith, refl)))
    (all-put p ds (λ d has. each d (Contains-append_right (k ∷ []) ds d has)))

covered-true : (f : Flight) (ws : List Window) (s : State) → is_covered ws s.next s.waited (deaf_from f s.next 0 s.tracks) ≡ true → IsCovered f ws s
covered-true f ws s h =
    let p = λ (d : ℕ). has_window ws s.next s.waited (Some d) in
    let parts = and_parts (has_window ws s.next s.waited None) (list_all p (deaf_from f s.next 0 s.tracks)) h in
    record {
      by_all = window-true ws s None parts.0;
      without = λ d m. window-true ws s (Some d) (all-in p (deaf_from f s.next 0 s.tracks) d parts.1 (is-among f s d m));
    }

covered-is : (f : Flight) (ws : List Window) (s : State) → IsCovered f ws s → is_covered ws s.next s.waited (deaf_from f s.next 0 s.tracks) ≡ true
covered-is f ws s h =
    let p = λ (d : ℕ). has_window ws s.next s.waited (Some d) in
    both (has_window ws s.next s.waited None) (list_all p (deaf_from f s.next 0 s.tracks)) (window-is ws s None h.by_all)
    (all-put p (deaf_from f s.next 0 s.tracks) (λ d has. window-is ws s (Some d) (h.without d (may-be-deaf f s d has))))

-- ---- all may land

covers-true : (f : Flight) (s : State) (o : Option (List Window)) → f.windows ≡ o → covers o f s ≡ true → MayLand f s
covers-true f s None is h = inl is
covers-true f s (Some ws) is h = inr (inr (ws, is, covered-true f ws s h))

pub may-true : (f : Flight) (s : State) → may_land f s ≡ true → MayLand f s
unfolding may_land
may-true f s h = by_risen (any_risen f s.next) refl h where
  by_risen : (b : Bool) → any_risen f s.next ≡ b → not b || covers f.windows f s ≡ true → MayLand f s
  by_risen false is h = inr (inl is)
  by_risen true is h = covers-true f s f.windows refl h

pub may-is : (f : Flight) (s : State) → MayLand f s → may_land f s ≡ true
unfolding may_land
may-is f s (inl none) = or-right (not (any_risen f s.next)) (covers f.windows f s) (ap (λ o. covers o f s) none)
may-is f s (inr (inl on_pads)) = or-left (not (any_risen f s.next)) (covers f.windows f s) (ap not on_pads)
may-is f s (inr (inr c)) =
    or-right (not (any_risen f s.next)) (covers f.windows f s)
    (ap (λ o. covers o f s) c.1 ∙ covered-is f c.0 s c.2)

pub may-not : (f : Flight) (s : State) → may_land f s ≡ false → MayLand f s → ⊥
may-not f s none may = let yes = may-is f s may in cc

pub not-may : (f : Flight) (s : State) → (MayLand f s → ⊥) → may_land f s ≡ false
not-may f s never = by_test (may_land f s) refl where
  by_test : (b : Bool) → may_land f s ≡ b → may_land f s ≡ false
  by_test true e = absurd (never (may-true f s e))
  by_test false e = e

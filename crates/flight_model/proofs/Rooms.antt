-- The room of curves is as small as it is said to be; and who is in a room.
use Rattle.flight_model.proofs.Prelude.{◌≡◌, ◌⊎◌, ◌∷◌, ◌++◌, ◌∙◌, ◌&&◌, [], List, Bool, true, false, cond, refl, sym, subst, ℕ, zero, suc, inl, inr, arith, and_parts, ints, ℤ, pos, ◌+ℤ◌, ◌≤ℤ◌, int_le, int_lt, Contains, flat_map, at, element_on, stored, Segment, Traj, Sample, IsInRoom, is_in_span, is_in_room, all_values, with_value, with_values, span_of, IsSpanOf, RoomOfLaw}
use Rattle.std.specs.Int.{int_max, int_min}
use Rattle.flight_model.specs.declared.flights.Room.{Room}
use Rattle.flight_model.specs.declared.flights.Span.{Span}
unfoldable use Rattle.flight_model.specs.Rooms.{room_of}

-- ---- the lesser and the greater

min-of : (x y : ℤ) → (int_min x y ≤ℤ x) × (int_min x y ≤ℤ y)
min-of x y = by_test (int_lt y x) refl where
  by_test : (b : Bool) → int_lt y x ≡ b → (cond b y x ≤ℤ x) × (cond b y x ≤ℤ y)
  by_test true e = (omega (arith, ints, e), omega (arith, ints))
  by_test false e = (omega (arith, ints), omega (arith, ints, e))

max-of : (x y : ℤ) → (x ≤ℤ int_max x y) × (y ≤ℤ int_max x y)
max-of x y = by_test (int_lt y x) refl where
  by_test : (b : Bool) → int_lt y x ≡ b → (x ≤ℤ cond b x y) × (y ≤ℤ cond b x y)
  by_test true e = (omega (arith, ints), omega (arith, ints, e))
  by_test false e = (omega (arith, ints, e), omega (arith, ints))

one-of : (b : Bool) (x y : ℤ) → (cond b x y ≡ x) ⊎ (cond b x y ≡ y)
one-of true x y = inl refl
one-of false x y = inr refl

-- ---- one of some values

later-in : (x v : ℤ) (xs : List ℤ) → Contains xs v → Contains (x ∷ xs) v
later-in x v xs (k, l, e) = (suc k, omega (arith, l), e)

first-in : (x v : ℤ) (xs : List ℤ) → x ≡ v → Contains (x ∷ xs) v
first-in x v xs e = (0, omega arith, e)

in-cases : (x v : ℤ) (xs : List ℤ) → Contains (x ∷ xs) v → (x ≡ v) ⊎ Contains xs v
in-cases x v xs (zero, l, e) = inl e
in-cases x v xs (suc k, l, e) = inr (k, omega (arith, l), e)

-- ---- a span with values more

reaches : (s : Span) (vs : List ℤ) → ((with_values s vs).low ≤ℤ s.low) × (s.high ≤ℤ (with_values s vs).high)
reaches s [] = (omega (arith, ints), omega (arith, ints))
reaches s (v ∷ vs) =
    let more = reaches (with_value s v) vs in
    let low = min-of s.low v in
    let high = max-of s.high v in
    (omega (arith, ints, more.0, low.0), omega (arith, ints, more.1, high.0))

reaches-each : (s : Span) (vs : List ℤ) (v : ℤ) → Contains vs v → ((with_values s vs).low ≤ℤ v) × (v ≤ℤ (with_values s vs).high)
reaches-each s [] v (k, l, e) = absurd (omega (arith, l))
reaches-each s (w ∷ vs) v has = by_case (λ there. reaches-each (with_value s w) vs v there) (in-cases w v vs has) where
  by_case : (Contains vs v → ((with_values (with_value s w) vs).low ≤ℤ v) × (v ≤ℤ (with_values (with_value s w) vs).high)) → (w ≡ v) ⊎ Contains vs v →
      ((with_values s (w ∷ vs)).low ≤ℤ v) × (v ≤ℤ (with_values s (w ∷ vs)).high)
  by_case later (inl same) =
      let more = reaches (with_value s w) vs in
      let low = min-of s.low w in
      let high = max-of s.high w in
      subst (λ z. ((with_values s (w ∷ vs)).low ≤ℤ z) × (z ≤ℤ (with_values s (w ∷ vs)).high)) same
      (omega (arith, ints, more.0, low.1), omega (arith, ints, more.1, high.1))
  by_case later (inr there) = later there

least : (s : Span) (vs : List ℤ) → ((with_values s vs).low ≡ s.low) ⊎ Contains vs (with_values s vs).low
least s [] = inl refl
least s (v ∷ vs) = by_rest (least (with_value s v) vs) where
  low : ℤ
  low = (with_values (with_value s v) vs).low

  by_one : low ≡ int_min s.low v → (int_min s.low v ≡ v) ⊎ (int_min s.low v ≡ s.low) → (low ≡ s.low) ⊎ Contains (v ∷ vs) low
  by_one e (inl f) = inr (first-in v low vs (sym (e ∙ f)))
  by_one e (inr f) = inl (e ∙ f)

  by_rest : (low ≡ int_min s.low v) ⊎ Contains vs low → (low ≡ s.low) ⊎ Contains (v ∷ vs) low
  by_rest (inl e) = by_one e (one-of (int_lt v s.low) v s.low)
  by_rest (inr there) = inr (later-in v low vs there)

greatest : (s : Span) (vs : List ℤ) → ((with_values s vs).high ≡ s.high) ⊎ Contains vs (with_values s vs).high
greatest s [] = inl refl
greatest s (v ∷ vs) = by_rest (greatest (with_value s v) vs) where
  high : ℤ
  high = (with_values (with_value s v) vs).high

  by_one : high ≡ int_max s.high v → (int_max s.high v ≡ s.high) ⊎ (int_max s.high v ≡ v) → (high ≡ s.high) ⊎ Contains (v ∷ vs) high
  by_one e (inl f) = inl (e ∙ f)
  by_one e (inr f) = inr (first-in v high vs (sym (e ∙ f)))

  by_rest : (high ≡ int_max s.high v) ⊎ Contains vs high → (high ≡ s.high) ⊎ Contains (v ∷ vs) high
  by_rest (inl e) = by_one e (one-of (int_lt v s.high) s.high v)
  by_rest (inr there) = inr (later-in v high vs there)

-- ---- from the least of values to the greatest

spans : (v : ℤ) (vs : List ℤ) → IsSpanOf (v ∷ vs) (span_of (v ∷ vs))
spans v vs = record {
  low = λ w has. by_low w (in-cases v w vs has);
  high = λ w has. by_high w (in-cases v w vs has);
  least = by_least (least one vs);
  greatest = by_greatest (greatest one vs);
} where
  one : Span
  one = record { low = v; high = v }

  s : Span
  s = with_values one vs

  by_low : (w : ℤ) → (v ≡ w) ⊎ Contains vs w → s.low ≤ℤ w
  by_low w (inl same) = let r = reaches one vs in omega (arith, ints, r.0, same)
  by_low w (inr there) = (reaches-each one vs w there).0

  by_high : (w : ℤ) → (v ≡ w) ⊎ Contains vs w → w ≤ℤ s.high
  by_high w (inl same) = let r = reaches one vs in omega (arith, ints, r.1, same)
  by_high w (inr there) = (reaches-each one vs w there).1

  by_least : (s.low ≡ v) ⊎ Contains vs s.low → Contains (v ∷ vs) s.low
  by_least (inl e) = first-in v s.low vs (sym e)
  by_least (inr there) = later-in v s.low vs there

  by_greatest : (s.high ≡ v) ⊎ Contains vs s.high → Contains (v ∷ vs) s.high
  by_greatest (inl e) = first-in v s.high vs (sym e)
  by_greatest (inr there) = later-in v s.high vs there

-- the values of some curves, behind the first one
abbrev rest-on : ℕ → Traj → List Traj → List ℤ
rest-on axis t curves = flat_map (λ (s : Segment). stored (element_on s axis)) t.segments ++ all_values axis curves

pub room_of_law : RoomOfLaw
unfolding room_of
room_of_law = record {
  x = λ margin t curves. spans (at t.start 0) (rest-on 0 t curves);
  y = λ margin t curves. spans (at t.start 1) (rest-on 1 t curves);
  z = λ margin t curves. spans (at t.start 2) (rest-on 2 t curves);
  margin = λ margin curves. refl;
}

-- ---- in a room

pub in-room : (r : Room) (x : Sample) → is_in_room r x ≡ true → IsInRoom r x
in-room r x h =
    let a = and_parts (is_in_span r.margin r.x x.x) (is_in_span r.margin r.y x.y && is_in_span r.margin r.z x.z) h in
    let b = and_parts (is_in_span r.margin r.y x.y) (is_in_span r.margin r.z x.z) a.1 in
    let p = and_parts (int_le r.x.low (x.x +ℤ pos r.margin)) (int_le x.x (r.x.high +ℤ pos r.margin)) a.0 in
    let q = and_parts (int_le r.y.low (x.y +ℤ pos r.margin)) (int_le x.y (r.y.high +ℤ pos r.margin)) b.0 in
    let s = and_parts (int_le r.z.low (x.z +ℤ pos r.margin)) (int_le x.z (r.z.high +ℤ pos r.margin)) b.1 in
    record {
      x_low = omega (arith, ints, p.0);
      x_high = omega (arith, ints, p.1);
      y_low = omega (arith, ints, q.0);
      y_high = omega (arith, ints, q.1);
      z_low = omega (arith, ints, s.0);
      z_high = omega (arith, ints, s.1);
    }

all-of : (a b c d e f : Bool) → a ≡ true → b ≡ true → c ≡ true → d ≡ true → e ≡ true → f ≡ true → (a && b) && ((c && d) && (e && f)) ≡ true
all-of a b c d e f p q r s t u = rw (p, q, r, s, t, u) refl

le-true : (a b : ℤ) → a ≤ℤ b → int_le a b ≡ true
le-true a b l = by_test (int_le a b) refl where
  by_test : (c : Bool) → int_le a b ≡ c → int_le a b ≡ true
  by_test true e = e
  by_test false e = absurd (omega (arith, ints, l, e))

pub is-in-room : (r : Room) (x : Sample) → IsInRoom r x → is_in_room r x ≡ true
is-in-room r x i =
    let m = pos r.margin in
    all-of (int_le r.x.low (x.x +ℤ m)) (int_le x.x (r.x.high +ℤ m)) (int_le r.y.low (x.y +ℤ m)) (int_le x.y (r.y.high +ℤ m)) (int_le r.z.low (x.z +ℤ m)) (int_le x.z (r.z.high +ℤ m))
    (le-true r.x.low (x.x +ℤ m) i.x_low) (le-true x.x (r.x.high +ℤ m) i.x_high) (le-true r.y.low (x.y +ℤ m) i.y_low) (le-true x.y (r.y.high +ℤ m) i.y_high)
    (le-true r.z.low (x.z +ℤ m) i.z_low) (le-true x.z (r.z.high +ℤ m) i.z_high)

pub not-in-room : (r : Room) (x : Sample) → (IsInRoom r x → ⊥) → is_in_room r x ≡ false
not-in-room r x out = by_test (is_in_room r x) refl where
  by_test : (b : Bool) → is_in_room r x ≡ b → is_in_room r x ≡ false
  by_test true e = absurd (out (in-room r x e))
  by_test false e = e

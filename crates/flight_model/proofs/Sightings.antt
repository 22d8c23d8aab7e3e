-- Each sample that is kept of a drone was heard of it, and is as old as it says.
use Rattle.flight_model.proofs.Prelude.{◌≡◌, ◌<◌, ◌≤◌, ◌+◌, ◌∷◌, ◌++◌, ◌∙◌, ◌||◌, [], List, Bool, true, false, min, refl, sym, ap, None, Some, Option, ℕ, zero, suc, eqb, arith, append_assoc, eqb-true, eqb-false, map, slice_get, slice_set, replicate, list_any, Sample, Event, Clock, Seen, Answered, Said, Flight, Track, State, most_ms, later, passed, older, aged, tracked, track_with, is_silent, time, IsHeard}
unfoldable use Rattle.flight_model.specs.Directors.{tracks_after}

-- ---- time

pub time-append : (xs ys : List Event) → time (xs ++ ys) ≡ time xs + time ys
time-append [] ys = omega arith
time-append (x ∷ xs) ys = let e = time-append xs ys in omega (arith, e)

pub time-snoc : (xs : List Event) (e : Event) → time (xs ++ e ∷ []) ≡ time xs + passed e
time-snoc xs e = let h = time-append xs (e ∷ []) in omega (arith, h)

-- ---- the last sample of a drone

abbrev pub seen_of : List Track → ℕ → Option Sample
seen_of [] d = None
seen_of (t ∷ ts) zero = t.seen
seen_of (t ∷ ts) (suc d) = seen_of ts d

pub seen_of-get : (ts : List Track) (d : ℕ) (t : Track) → slice_get ts d ≡ Some t → seen_of ts d ≡ t.seen
seen_of-get [] d t e = absurd (cc)
seen_of-get (u ∷ ts) zero t e = let same : u ≡ t = cc in ap (λ (x : Track). x.seen) same
seen_of-get (u ∷ ts) (suc d) t e = seen_of-get ts d t e

seen_of-aged : (ms : ℕ) (ts : List Track) (d : ℕ) → seen_of (map (aged ms) ts) d ≡ older ms (seen_of ts d)
seen_of-aged ms [] d = refl
seen_of-aged ms (t ∷ ts) zero = refl
seen_of-aged ms (t ∷ ts) (suc d) = seen_of-aged ms ts d

-- what a track that is put at k says of d
record Put (ts : List Track) (k d : ℕ) (t : Track) : Type 0 where
  here : k ≡ d → seen_of (slice_set ts k t) d ≡ t.seen
  other : (k ≡ d → ⊥) → seen_of (slice_set ts k t) d ≡ seen_of ts d

put : (ts : List Track) (k d : ℕ) (t u : Track) → slice_get ts k ≡ Some u → Put ts k d t
put [] k d t u e = absurd (cc)
put (v ∷ ts) zero zero t u e = record { here = λ h. refl; other = λ h. absurd (h refl) }
put (v ∷ ts) zero (suc d) t u e = record { here = λ h. absurd (cc); other = λ h. refl }
put (v ∷ ts) (suc k) zero t u e = record { here = λ h. absurd (cc); other = λ h. refl }
put (v ∷ ts) (suc k) (suc d) t u e =
    let p = put ts k d t u e in
    record { here = λ h. p.here (omega arith); other = λ h. p.other (λ g. h (ap suc g)) }

-- ---- after an event: the same sample, older; or the one that was heard

pub data After (e : Event) (old new : Option Sample) (d : ℕ) : Type 0 where
  Same : passed e ≡ 0 → new ≡ old → After e old new d
  Older : new ≡ older (passed e) old → After e old new d
  New : (x : Sample) → e ≡ Seen d x → new ≡ Some x → After e old new d

pub after-event : (f : Flight) (s : State) (e : Event) (d : ℕ) → After e (seen_of s.tracks d) (seen_of (tracks_after f s e) d) d
unfolding tracks_after
after-event f s (Clock ms) d = Older (seen_of-aged ms s.tracks d)
after-event f s (Answered k status) d = Same refl refl
after-event f s (Said w) d = Same refl refl
after-event f s (Seen k x) d = by_track (slice_get s.tracks k) refl where
  by_drone : (t : Track) → Put s.tracks k d (track_with f s k t x) → (b : Bool) → eqb k d ≡ b →
      After (Seen k x) (seen_of s.tracks d) (seen_of (slice_set s.tracks k (track_with f s k t x)) d) d
  by_drone t p true h =
      let same = eqb-true k d h in New x (ap (λ i. Seen i x) same) (p.here same)
  by_drone t p false h =
      let other = eqb-false k d h in Same refl (p.other other)

  by_track : (o : Option Track) → slice_get s.tracks k ≡ o → After (Seen k x) (seen_of s.tracks d) (seen_of (tracked f s k x o) d) d
  by_track None h = Same refl refl
  by_track (Some t) h = by_drone t (put s.tracks k d (track_with f s k t x) t h) (eqb k d) refl

-- ---- where a sample is from

-- the events have a sample of drone d that is as old as x after them, or older, as far as times are counted
pub record Sighting (events : List Event) (d : ℕ) (x : Sample) : Type 0 where
  pub earlier : List Event
  pub sample : Sample
  pub since : List Event
  pub are : events ≡ earlier ++ Seen d sample ∷ since
  pub old : min (sample.age + time since) most_ms ≤ x.age

longer : (events earlier since : List Event) (a e : Event) → events ≡ earlier ++ a ∷ since → events ++ e ∷ [] ≡ earlier ++ a ∷ (since ++ e ∷ [])
longer events earlier since a e h = ap (λ xs. xs ++ e ∷ []) h ∙ append_assoc earlier (a ∷ since) (e ∷ [])

sighting-on : (events : List Event) (d : ℕ) (x y : Sample) (e : Event) → Sighting events d x → min (x.age + passed e) most_ms ≤ y.age → Sighting (events ++ e ∷ []) d y
sighting-on events d x y e s l = record {
  earlier = s.earlier;
  sample = s.sample;
  since = s.since ++ e ∷ [];
  are = longer events s.earlier s.since (Seen d s.sample) e s.are;
  old = let t = time-snoc s.since e in let o = s.old in omega (arith, t, o, l);
}

-- each sample that is kept was heard
abbrev pub AreSighted : List Event → List Track → Type 0
AreSighted events ts = (d : ℕ) (x : Sample) → seen_of ts d ≡ Some x → Sighting events d x

pub none_sighted : (n : ℕ) → AreSighted [] (replicate n (record { seen = None; off = None; unsure = None; outside = false }))
none_sighted n d x h = absurd (none n d x h) where
  none : (n d : ℕ) (x : Sample) → seen_of (replicate n (record { seen = None; off = None; unsure = None; outside = false })) d ≡ Some x → ⊥
  none zero d x h = absurd (cc)
  none (suc n) zero x h = absurd (cc)
  none (suc n) (suc d) x h = none n d x h

pub sighted-event : (f : Flight) (events : List Event) (s : State) (e : Event) → AreSighted events s.tracks → AreSighted (events ++ e ∷ []) (tracks_after f s e)
sighted-event f events s e h d x is = by_after (after-event f s e d) where
  by_old : (o : Option Sample) → seen_of s.tracks d ≡ o → older (passed e) o ≡ Some x → Sighting (events ++ e ∷ []) d x
  by_old None g i = absurd (cc)
  by_old (Some y) g i =
      let aged : min (y.age + passed e) most_ms ≡ x.age = ap age i in
      sighting-on events d y x e (h d y g) (omega (arith, aged)) where
        age : Option Sample → ℕ
        age None = 0
        age (Some z) = z.age

  by_after : After e (seen_of s.tracks d) (seen_of (tracks_after f s e) d) d → Sighting (events ++ e ∷ []) d x
  by_after (Same still same) = sighting-on events d x x e (h d x (sym same ∙ is)) (omega (arith, still))
  by_after (Older same) = by_old (seen_of s.tracks d) refl (sym same ∙ is)
  by_after (New y heard same) =
      let equal : y ≡ x = by_some y (sym same ∙ is) in
      record { earlier = events; sample = x; since = []; are = ap (λ a. events ++ a ∷ []) (heard ∙ ap (λ z. Seen d z) equal); old = omega arith } where
        by_some : (y : Sample) → Some y ≡ Some x → y ≡ x
        by_some y e = cc

-- ---- each drone was heard

abbrev pub AreKnown : ℕ → List Track → Type 0
AreKnown n ts = (d : ℕ) → d < n → (x : Sample) × (seen_of ts d ≡ Some x)

older-some : (ms : ℕ) (x : Sample) → (y : Sample) × (older ms (Some x) ≡ Some y)
older-some ms x = (record x { age = later x.age ms }, refl)

pub known-event : (f : Flight) (n : ℕ) (s : State) (e : Event) → AreKnown n s.tracks → AreKnown n (tracks_after f s e)
known-event f n s e h d l = by_after (after-event f s e d) where
  known : (x : Sample) × (seen_of s.tracks d ≡ Some x)
  known = h d l

  by_after : After e (seen_of s.tracks d) (seen_of (tracks_after f s e) d) d → (x : Sample) × (seen_of (tracks_after f s e) d ≡ Some x)
  by_after (Same still same) = (known.0, same ∙ known.1)
  by_after (Older same) = let o = older-some (passed e) known.0 in (o.0, same ∙ (ap (older (passed e)) known.1 ∙ o.1))
  by_after (New y heard same) = (y, same)

-- ---- nobody is silent

pub none-silent : (silence ms : ℕ) (ts : List Track) → list_any (λ (t : Track). is_silent silence (older ms t.seen)) ts ≡ false →
    (d : ℕ) → is_silent silence (older ms (seen_of ts d)) ≡ false
none-silent silence ms [] h d = refl
none-silent silence ms (t ∷ ts) h zero = (or-false (is_silent silence (older ms t.seen)) (list_any (λ (u : Track). is_silent silence (older ms u.seen)) ts) h).0 where
  or-false : (a b : Bool) → a || b ≡ false → (a ≡ false) × (b ≡ false)
  or-false true b h = absurd (cc)
  or-false false b h = (refl, h)
none-silent silence ms (t ∷ ts) h (suc d) =
    none-silent silence ms ts (or-false (is_silent silence (older ms t.seen)) (list_any (λ (u : Track). is_silent silence (older ms u.seen)) ts) h) d where
      or-false : (a b : Bool) → a || b ≡ false → b ≡ false
      or-false true b h = absurd (cc)
      or-false false b h = h

-- ---- heard in time

-- An instant after these events, of which the sample is still fresh.
pub heard-by : (silence : ℕ) (events : List Event) (d ms : ℕ) (x : Sample) → silence < most_ms → Sighting events d x →
    time events ≤ ms → ms + x.age ≤ time events + silence → IsHeard silence events d ms
heard-by silence events d ms x few s l h = record {
  earlier = s.earlier;
  sample = s.sample;
  since = s.since;
  are = s.are;
  by_then = let t = whole in omega (arith, t, l);
  fresh = let t = whole in let o = s.old in omega (arith, t, o, l, h, few);
} where
  whole : time events ≡ time s.earlier + time s.since
  whole = let t = ap time s.are ∙ time-append s.earlier (Seen d s.sample ∷ s.since) in omega (arith, t)

pub heard-on : (silence : ℕ) (events : List Event) (d ms : ℕ) (e : Event) → IsHeard silence events d ms → IsHeard silence (events ++ e ∷ []) d ms
heard-on silence events d ms e h = record {
  earlier = h.earlier;
  sample = h.sample;
  since = h.since ++ e ∷ [];
  are = longer events h.earlier h.since (Seen d h.sample) e h.are;
  by_then = h.by_then;
  fresh = h.fresh;
}

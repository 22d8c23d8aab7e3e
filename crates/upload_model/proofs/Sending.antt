-- What the host sends, whoever else alters a byte: packets of the session; reads only after the first
-- phase; starts only after all reads.
use Rattle.upload_model.proofs.Prelude.{common_steps, ◌≡◌, ℕ, ◌<◌, ◌≤◌, Bool, true, false, cond, ◌&&◌, eqb, ltb, List, [], ◌∷◌, ◌++◌, map, get_or, refl, ap, sym, ◌∙◌, arith, Option, Some, None, subst, slice_get, All, Contains, filter, cond_both, eqb-true, append-nil, append_assoc, All-nil, All-cons, All-head, All-tail, All-append, All-weaker, All-contains, start_of, Event, Loading, Reading, Sent, WorldEvent, Tick, Take, Hear, Alter, DroneState, Upload, drone_count, load_count, start_number, packet_count, packet_at, acked, flight, out, World, changed, packets_for, start_world, host_event, take_named, hear_named, altered, happens, run, world, Contains-append_left, StaysSentLaw}
use Rattle.upload_model.specs.declared.events.Event.TheVariants as event
use Rattle.upload_model.proofs.Readings.{Kind, a_write, a_define, a_read, a_start, packet_kind, packet_at-write, packet_at-define, packet_at-read}
use Rattle.upload_model.proofs.HostLaws.{Settled, Settled-more, IsFlight, flight-fits, out-fits}

-- ---- lists of events, by their last one

-- what holds of no event, and of one more where it holds before, holds of all
pub by_last : {X : Type 0} (P : List X → Type 0) → P [] → ((xs : List X) (x : X) → P xs → P (xs ++ x ∷ [])) → (xs : List X) → P xs
by_last {X} P none more xs = go [] xs none where
  go : (before rest : List X) → P before → P (before ++ rest)
  go before [] p = subst P (sym (append-nil before)) p
  go before (x ∷ rest) p = subst P (append_assoc before (x ∷ []) rest) (go (before ++ x ∷ []) rest (more before x p))

run-last : (s : Upload) (w : World) (es : List WorldEvent) (e : WorldEvent) → run s w (es ++ e ∷ []) ≡ happens s (run s w es) e
run-last s w [] e = refl
run-last s w (f ∷ es) e = run-last s (happens s w f) es e

pub world-last : (s : Upload) (drones : ℕ → DroneState) (es : List WorldEvent) (e : WorldEvent) →
    world s drones (es ++ e ∷ []) ≡ happens s (world s drones es) e
world-last s drones es e = run-last s (start_world s drones) es e

-- ---- a packet that is a start has the start's number

pub last_number : (s : Upload) (d n : ℕ) → n < packet_count s d → start_of s.trajectory_id ≡ packet_at s d n → n ≡ start_number s d
last_number s d n b is = by_kind (packet_kind s d n b) where
  by_kind : Kind s d n → n ≡ start_number s d
  by_kind (a_write w) = let heads : ◌≡◌ {A = ℕ} 140 78 = ap (λ (xs : List ℕ). get_or xs 0 0) (is ∙ packet_at-write s d n w) in absurd (omega arith)
  by_kind (a_define w) = let kinds : ◌≡◌ {A = ℕ} 5 6 = ap (λ (xs : List ℕ). get_or xs 1 0) (is ∙ packet_at-define s d n w) in absurd (omega arith)
  by_kind (a_read j l e) = let heads : ◌≡◌ {A = ℕ} 140 77 = ap (λ (xs : List ℕ). get_or xs 0 0) (is ∙ packet_at-read s d n j l e) in absurd (omega arith)
  by_kind (a_start e f) = e

-- ---- what was ever sent

-- a packet of the session for drone d; a read only after the first phase, a start only after all reads
pub record IsSent (s : Upload) (h : List Event) (d : ℕ) (packet : List ℕ) : Type 0 where
  pub number : ℕ
  pub inside : number < packet_count s d
  pub is : packet ≡ packet_at s d number
  pub loaded : load_count s d ≤ number → Settled s Loading (acked s h)
  pub read : start_number s d ≤ number → Settled s Reading (acked s h)

packets_for-each : (P : List ℕ → Type 0) (s : Upload) (d : ℕ) (xs : List Sent) →
    All (λ x. x.drone ≡ d → P (packet_at s d x.packet)) xs → All P (packets_for s xs d)
packets_for-each P s d [] all = All-nil P
packets_for-each P s d (x ∷ xs) all =
    at (eqb x.drone d) refl (packets_for-each P s d xs (All-tail (λ x. x.drone ≡ d → P (packet_at s d x.packet)) x xs all)) where
      at : (b : Bool) → eqb x.drone d ≡ b → All P (packets_for s xs d) →
          All P (map (λ (y : Sent). packet_at s y.drone y.packet) (cond b (x ∷ filter (λ y. eqb y.drone d) xs) (filter (λ y. eqb y.drone d) xs)))
      at true e rest =
          let same : x.drone ≡ d = eqb-true x.drone d e in
          All-cons P (packet_at s x.drone x.packet) (packets_for s xs d)
          (subst (λ (i : ℕ). P (packet_at s i x.packet)) (sym same) (All-head (λ y. y.drone ≡ d → P (packet_at s d y.packet)) x xs all same)) rest
      at false e rest = rest

flight-sent : (s : Upload) (h : List Event) (d : ℕ) (xs : List Sent) → All (IsFlight s (acked s h)) xs → All (IsSent s h d) (packets_for s xs d)
flight-sent s h d xs all =
    packets_for-each (IsSent s h d) s d xs
    (All-weaker (IsFlight s (acked s h)) (λ x. x.drone ≡ d → IsSent s h d (packet_at s d x.packet))
    (λ x f same. record {
      number = x.packet;
      inside = subst (λ (i : ℕ). x.packet < packet_count s i) same f.packet.inside;
      is = refl;
      loaded = λ l. f.packet.loaded (subst (λ (i : ℕ). load_count s i ≤ x.packet) (sym same) l);
      read = λ l. f.packet.read (subst (λ (i : ℕ). start_number s i ≤ x.packet) (sym same) l);
    }) xs all)

IsSent-more : (s : Upload) (h t : List Event) (d : ℕ) (p : List ℕ) → IsSent s h d p → IsSent s (h ++ t) d p
IsSent-more s h t d p f = record {
  number = f.number;
  inside = f.inside;
  is = f.is;
  loaded = λ l. Settled-more s Loading h t (f.loaded l);
  read = λ l. Settled-more s Reading h t (f.read l);
}

-- each packet ever sent is one of the session
abbrev pub Sends : Upload → World → Type 0
Sends s w = (d : ℕ) → d < drone_count s → All (IsSent s w.heard d) (w.sent d)

sends-start : (s : Upload) (drones : ℕ → DroneState) → Sends s (start_world s drones)
unfolding start_world
sends-start s drones d l = flight-sent s [] d (flight s []) (flight-fits s (acked s []))

sends-host : (s : Upload) (w : World) (e : Event) → Sends s w → Sends s (host_event s w e)
unfolding host_event
sends-host s w e h d l =
    All-append (IsSent s (w.heard ++ e ∷ []) d) (w.sent d) (packets_for s (out s w.heard e) d)
    (All-weaker (IsSent s w.heard d) (IsSent s (w.heard ++ e ∷ []) d) (IsSent-more s w.heard (e ∷ []) d) (w.sent d) (h d l))
    (flight-sent s (w.heard ++ e ∷ []) d (out s w.heard e) (out-fits s w.heard e))

sends-take : (s : Upload) (w : World) (d : ℕ) (o : Option (List ℕ)) → Sends s w → Sends s (take_named w d o)
sends-take s w d None h = h
sends-take s w d (Some packet) h = h

sends-hear : (s : Upload) (w : World) (d : ℕ) (o : Option (List ℕ)) → Sends s w → Sends s (hear_named s w d o)
sends-hear s w d None h = h
sends-hear s w d (Some packet) h = sends-host s w (event.Up d packet) h

pub sends-happens : (s : Upload) (w : World) (e : WorldEvent) → Sends s w → Sends s (happens s w e)
unfolding happens
sends-happens s w Tick h = sends-host s w event.Tick h
sends-happens s w (Take d n) h =
    cond_both (ltb d (drone_count s)) (take_named w d (slice_get (w.sent d) n)) w (Sends s) (λ b. sends-take s w d (slice_get (w.sent d) n) h) (λ b. h)
sends-happens s w (Hear d n) h =
    cond_both (ltb d (drone_count s)) (hear_named s w d (slice_get (w.given d) n)) w (Sends s) (λ b. sends-hear s w d (slice_get (w.given d) n) h) (λ b. h)
sends-happens s w (Alter d address value) h =
    cond_both (ltb d (drone_count s) && ltb address 4096) (record w { drones = changed w.drones d (altered (w.drones d) address value) }) w (Sends s) (λ b. h) (λ b. h)

pub sends-world : (s : Upload) (drones : ℕ → DroneState) (events : List WorldEvent) → Sends s (world s drones events)
sends-world s drones events =
    by_last (λ es. Sends s (world s drones es)) (sends-start s drones)
    (λ es e h. subst (Sends s) (sym (world-last s drones es e)) (sends-happens s (world s drones es) e h)) events

-- where a start was sent, both phases before are complete
pub start_sent : (s : Upload) (w : World) → Sends s w → (d : ℕ) → d < drone_count s → Contains (w.sent d) (start_of s.trajectory_id) →
    Settled s Loading (acked s w.heard) × Settled s Reading (acked s w.heard)
start_sent s w sends d l has = grind (arith, common_steps, All-contains, last_number)

-- ---- what was sent stays so

-- where a packet stands among those that were sent to drone d
abbrev WasSent : ℕ → List ℕ → World → Type 0
WasSent d packet w = Contains (w.sent d) packet

still-host : (s : Upload) (w : World) (e : Event) (d : ℕ) (packet : List ℕ) → WasSent d packet w → WasSent d packet (host_event s w e)
unfolding host_event
still-host s w e d packet h = Contains-append_left (w.sent d) (packets_for s (out s w.heard e) d) packet h

still-take : (w : World) (i : ℕ) (o : Option (List ℕ)) (d : ℕ) (packet : List ℕ) → WasSent d packet w → WasSent d packet (take_named w i o)
still-take w i None d packet h = h
still-take w i (Some p) d packet h = h

still-hear : (s : Upload) (w : World) (i : ℕ) (o : Option (List ℕ)) (d : ℕ) (packet : List ℕ) → WasSent d packet w → WasSent d packet (hear_named s w i o)
still-hear s w i None d packet h = h
still-hear s w i (Some p) d packet h = still-host s w (event.Up i p) d packet h

still-happens : (s : Upload) (w : World) (e : WorldEvent) (d : ℕ) (packet : List ℕ) → WasSent d packet w → WasSent d packet (happens s w e)
unfolding happens
still-happens s w Tick d packet h = still-host s w event.Tick d packet h
still-happens s w (Take i n) d packet h =
    cond_both (ltb i (drone_count s)) (take_named w i (slice_get (w.sent i) n)) w (WasSent d packet) (λ b. still-take w i (slice_get (w.sent i) n) d packet h) (λ b. h)
still-happens s w (Hear i n) d packet h =
    cond_both (ltb i (drone_count s)) (hear_named s w i (slice_get (w.given i) n)) w (WasSent d packet) (λ b. still-hear s w i (slice_get (w.given i) n) d packet h) (λ b. h)
still-happens s w (Alter i address value) d packet h =
    cond_both (ltb i (drone_count s) && ltb address 4096) (record w { drones = changed w.drones i (altered (w.drones i) address value) }) w (WasSent d packet) (λ b. h) (λ b. h)

pub stays_sent : StaysSentLaw
stays_sent s drones events later d packet h =
    by_last (λ es. WasSent d packet (world s drones (events ++ es)))
    (subst (λ (es : List WorldEvent). WasSent d packet (world s drones es)) (sym (append-nil events)) h)
    (λ es e before.
    subst (λ (fs : List WorldEvent). WasSent d packet (world s drones fs)) (append_assoc events es (e ∷ []))
    (subst (WasSent d packet) (sym (world-last s drones (events ++ es) e)) (still-happens s (world s drones (events ++ es)) e d packet before))) later

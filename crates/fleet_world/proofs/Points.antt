-- From one point of an upload to the next.
use Rattle.fleet_world.proofs.Prelude.{common_steps, ◌≡◌, ◌≢◌, ◌==◌, ℕ, zero, suc, replicate, ◌<◌, Bool, cond, ltb, List, [], ◌∷◌, ◌++◌, length, map, filter, refl, ap, sym, subst, ◌∙◌, arith, Option, ◌≤◌, ◌⊎◌, Result, Ok, Err, inl, inr, slice_get, slice_set, All, OnOk, IfOk, length-set, map-append, append-nil, filter-append, All-nil, All-cons, All-head, All-tail, All-append, le-ltb, lt-ltb, eq-eqb, ne_eqb, cases_eq, cond-true, cond-false, and_left, and_right, and_from, Sent, Going, Tick, Take, Hear, Alter, handled, Upload, IsSession, drone_count, packet_count, packet_at, flight, out as out_of, progress as progress_of, packets_for, changed, took, take_named, hear_named, option_list, altered, start_world, host_event, happens, shown, HostState, IsPacketOf, view_of, row_of, packets_at, numbers_for, AreNumbersOf, WorldState, WorldStandsAt, state_of, state_at}
use Rattle.upload_model.specs.declared.events.Event.{Event}
use Rattle.upload_model.specs.declared.events.Event.TheVariants as event
use Rattle.upload_model.specs.declared.events.Progress.{Progress}
use Rattle.upload_model.specs.Worlds as Worlds
use Rattle.upload_model.proofs.HostSteps.{progress-nil}
use Rattle.upload_model.proofs.OneDrone.{slice_get-set_same, slice_get-set_other}
use Rattle.firmware_memory.specs.declared.drone.Drone.{Drone}
use Rattle.upload_core.specs.HostStandsFor.{HostStandsFor}

-- the rows after these packets were put after those of their drones
abbrev pub AfterPut : List Sent → List (List ℕ) → List (List ℕ) → Type 0
AfterPut out old new = (d : ℕ) → row_of new d ≡ row_of old d ++ numbers_for out d

-- ---- packets that go to a drone, and their numbers

packets-numbers : (s : Upload) (xs : List Sent) (d : ℕ) → packets_at s d (numbers_for xs d) ≡ packets_for s xs d
packets-numbers s [] d = refl
packets-numbers s (x ∷ xs) d = grind (arith, common_steps, cases_eq, cond, filter, eq-eqb, ne_eqb, (packets-numbers s xs d))

-- the packets of numbers to which those of a list are added
packets-put : (s : Upload) (out : List Sent) (old new : List (List ℕ)) (d : ℕ) → AfterPut out old new →
    packets_at s d (row_of new d) ≡ packets_at s d (row_of old d) ++ packets_for s out d
packets-put s out old new d put =
    ap (packets_at s d) (put d) ∙ map-append (packet_at s d) (row_of old d) (numbers_for out d)
    ∙ ap (λ (ps : List (List ℕ)). packets_at s d (row_of old d) ++ ps) (packets-numbers s out d)

numbers_for-append : (xs ys : List Sent) (d : ℕ) → numbers_for (xs ++ ys) d ≡ numbers_for xs d ++ numbers_for ys d
numbers_for-append xs ys d =
    ap (map (λ (x : Sent). x.packet)) (filter-append (λ (x : Sent). x.drone == d) xs ys)
    ∙ map-append (λ (x : Sent). x.packet) (filter (λ (x : Sent). x.drone == d) xs) (filter (λ (x : Sent). x.drone == d) ys)

-- one packet more, for its own drone
pub numbers_for-here : (xs : List Sent) (x : Sent) → numbers_for (xs ++ x ∷ []) x.drone ≡ numbers_for xs x.drone ++ x.packet ∷ []
numbers_for-here xs x =
    numbers_for-append xs (x ∷ []) x.drone
    ∙ ap (λ (b : Bool). numbers_for xs x.drone ++ map (λ (y : Sent). y.packet) (cond b (x ∷ []) [])) (eq-eqb x.drone x.drone refl)

-- and for another one none
pub numbers_for-other : (xs : List Sent) (x : Sent) (d : ℕ) → d ≢ x.drone → numbers_for (xs ++ x ∷ []) d ≡ numbers_for xs d
numbers_for-other xs x d other = grind (arith, common_steps, numbers_for-append, cond, ne_eqb, append-nil)

numbers-known : (s : Upload) (xs : List Sent) (d : ℕ) → All (IsPacketOf s) xs → All (λ k. k < packet_count s d) (numbers_for xs d)
numbers-known s [] d all = All-nil (λ k. k < packet_count s d)
numbers-known s (x ∷ xs) d all = elim (cases_eq x.drone d) [
  | inl here ↦
      subst (λ (b : Bool). All (λ k. k < packet_count s d) (map (λ (y : Sent). y.packet) (cond b (x ∷ filter (λ (y : Sent). y.drone == d) xs) (filter (λ (y : Sent). y.drone == d) xs))))
      (sym (eq-eqb x.drone d here))
      (All-cons (λ k. k < packet_count s d) x.packet (numbers_for xs d) (subst (λ (i : ℕ). x.packet < packet_count s i) here (All-head (IsPacketOf s) x xs all).packet)
      (numbers-known s xs d (All-tail (IsPacketOf s) x xs all)))
  | inr other ↦
      subst (λ (b : Bool). All (λ k. k < packet_count s d) (map (λ (y : Sent). y.packet) (cond b (x ∷ filter (λ (y : Sent). y.drone == d) xs) (filter (λ (y : Sent). y.drone == d) xs))))
      (sym (ne_eqb x.drone d other)) (numbers-known s xs d (All-tail (IsPacketOf s) x xs all))
]

-- what is put are packets of the session, where what is sent is
pub known-put : (s : Upload) (out : List Sent) (old new : List (List ℕ)) → All (IsPacketOf s) out → AfterPut out old new → AreNumbersOf s old → AreNumbersOf s new
known-put s out old new all put known d =
    subst (All (λ k. k < packet_count s d)) (sym (put d)) (All-append (λ k. k < packet_count s d) (row_of old d) (numbers_for out d) (known d) (numbers-known s out d all))

-- ---- an event of the host

pub stands-host_event : (v : WorldState) (s : Upload) (w : Worlds.World) (e : Event) (host' : HostState) (sent : List Sent) (sent' : List (List ℕ)) (given' : List (List (List ℕ))) (progress' : Progress) →
    WorldStandsAt v s w → host'.session ≡ v.host.session → HostStandsFor (view_of host') (w.heard ++ e ∷ []) →
    sent ≡ out_of v.host.session w.heard e →
    AfterPut sent v.sent sent' → given' ≡ v.given → progress' ≡ progress_of v.host.session (w.heard ++ e ∷ []) →
    WorldStandsAt (record { host = host'; drones = v.drones; sent = sent'; given = given'; progress = progress' }) s (host_event s w e)
unfolding host_event
stands-host_event v s w e host' sent sent' given' progress' at same stands sent_is put given_is progress_is = record {
  session = same ∙ at.session;
  host = stands;
  progress = progress_is ∙ ap (λ (u : Upload). progress_of u (w.heard ++ e ∷ [])) at.session;
  count = at.count;
  drones = at.drones;
  sent = λ d l.
      packets-put s sent v.sent sent' d put
      ∙ ap (λ (ps : List (List ℕ)). ps ++ packets_for s sent d) (at.sent d l)
      ∙ ap (λ (xs : List Sent). w.sent d ++ packets_for s xs d) (sent_is ∙ ap (λ (u : Upload). out_of u w.heard e) at.session);
  given = λ d l. ap (λ (rows : List (List (List ℕ))). row_of rows d) given_is ∙ at.given d l;
}

-- ---- what names nothing changes nothing

pub take-unknown : (s : Upload) (w : Worlds.World) (d n : ℕ) → drone_count s ≤ d → happens s w (Take d n) ≡ w
unfolding happens
take-unknown s w d n past = ap (λ (b : Bool). cond b (take_named w d (slice_get (w.sent d) n)) w) (le-ltb d (drone_count s) past)

pub hear-unknown : (s : Upload) (w : Worlds.World) (d n : ℕ) → drone_count s ≤ d → happens s w (Hear d n) ≡ w
unfolding happens
hear-unknown s w d n past = ap (λ (b : Bool). cond b (hear_named s w d (slice_get (w.given d) n)) w) (le-ltb d (drone_count s) past)

pub take-named : (s : Upload) (w : Worlds.World) (d n : ℕ) (o : Option (List ℕ)) → d < drone_count s → slice_get (w.sent d) n ≡ o → happens s w (Take d n) ≡ take_named w d o
unfolding happens
take-named s w d n o l is = ap (λ (b : Bool). cond b (take_named w d (slice_get (w.sent d) n)) w) (lt-ltb d (drone_count s) l) ∙ ap (take_named w d) is

pub hear-named : (s : Upload) (w : Worlds.World) (d n : ℕ) (o : Option (List ℕ)) → d < drone_count s → slice_get (w.given d) n ≡ o → happens s w (Hear d n) ≡ hear_named s w d o
unfolding happens
hear-named s w d n o l is = ap (λ (b : Bool). cond b (hear_named s w d (slice_get (w.given d) n)) w) (lt-ltb d (drone_count s) l) ∙ ap (hear_named s w d) is

pub tick-happens : (s : Upload) (w : Worlds.World) → happens s w Tick ≡ host_event s w event.Tick
unfolding happens
tick-happens s w = refl

pub on_ok : {A B : Type 0} (r : Result A B) (P Q : Type 0) → OnOk r P → (P → Q) → OnOk r Q
on_ok (Ok x) P Q h f = f h
on_ok (Err e) P Q h f = h

pub if_ok : {A B : Type 0} (r : Result A B) (P Q : A → Type 0) (S : Type 0) → IfOk r P → OnOk r S → ((x : A) → P x → S → Q x) → IfOk r Q
if_ok (Ok x) P Q S p s f = f x p s
if_ok (Err e) P Q S p s f = p

-- ---- a drone takes a packet

state_at-set_same : (drones : List Drone) (d : ℕ) (x : Drone) → d < length drones → state_at (slice_set drones d x) d ≡ shown x
state_at-set_same drones d x h = ap state_of (slice_get-set_same drones d x h)

state_at-set_other : (drones : List Drone) (d i : ℕ) (x : Drone) → (i ≡ d → ⊥) → state_at (slice_set drones d x) i ≡ state_at drones i
state_at-set_other drones d i x h = ap state_of (slice_get-set_other drones d i x h)

pub stands-took : (v : WorldState) (s : Upload) (w : Worlds.World) (d : ℕ) (packet : List ℕ) (x : Drone) (answer : Option (List ℕ)) (sent' : List (List ℕ)) (given' : List (List (List ℕ))) →
    WorldStandsAt v s w → d < drone_count s → sent' ≡ v.sent → shown x ≡ (handled (state_at v.drones d) packet).drone → answer ≡ (handled (state_at v.drones d) packet).answer →
    row_of given' d ≡ row_of v.given d ++ option_list answer → ((i : ℕ) → i ≢ d → row_of given' i ≡ row_of v.given i) →
    WorldStandsAt (record { host = v.host; drones = slice_set v.drones d x; sent = sent'; given = given'; progress = v.progress }) s (took w d (handled (w.drones d) packet))
stands-took v s w d packet x answer sent' given' at l same drone_is answer_is here others =
    grind (arith, common_steps, length-set, cases_eq, state_at-set_same, cond-true, eq-eqb, state_at-set_other, cond-false, ne_eqb)

-- ---- a byte is altered

pub alter-nothing : (s : Upload) (w : Worlds.World) (d address value : ℕ) → (drone_count s ≤ d) ⊎ (4096 ≤ address) → happens s w (Alter d address value) ≡ w
unfolding happens
alter-nothing s w d address value past =
    ap (λ (b : Bool). cond b (record w { drones = changed w.drones d (altered (w.drones d) address value) }) w)
    (elim past [ inl p ↦ and_left (ltb d (drone_count s)) (ltb address 4096) (le-ltb d (drone_count s) p) | inr p ↦ and_right (ltb d (drone_count s)) (ltb address 4096) (le-ltb address 4096 p) ])

pub alter-there : (s : Upload) (w : Worlds.World) (d address value : ℕ) → d < drone_count s → address < 4096 →
    happens s w (Alter d address value) ≡ record w { drones = changed w.drones d (altered (w.drones d) address value) }
unfolding happens
alter-there s w d address value l b =
    ap (λ (t : Bool). cond t (record w { drones = changed w.drones d (altered (w.drones d) address value) }) w)
    (and_from (ltb d (drone_count s)) (ltb address 4096) (lt-ltb d (drone_count s) l) (lt-ltb address 4096 b))

-- ---- no event

row_of-empty : {X : Type 0} (n d : ℕ) → ◌≡◌ {A = List X} (row_of (replicate n []) d) []
row_of-empty zero d = refl
row_of-empty (suc n) zero = refl
row_of-empty (suc n) (suc d) = row_of-empty n d

pub none-known : (s : Upload) (n : ℕ) → AreNumbersOf s (replicate n [])
none-known s n d = subst (All (λ k. k < packet_count s d)) (sym (row_of-empty n d)) (All-nil (λ k. k < packet_count s d))

pub stands-start : (host : HostState) (drones : List Drone) (sent : List (List ℕ)) (given : List (List (List ℕ))) (n : ℕ) → IsSession host.session → HostStandsFor (view_of host) [] →
    length drones ≡ drone_count host.session → AfterPut (flight host.session []) (replicate n []) sent → given ≡ replicate n [] →
    WorldStandsAt (record { host = host; drones = drones; sent = sent; given = given; progress = Going }) host.session (start_world host.session (state_at drones))
unfolding start_world
stands-start host drones sent given n ok stands count put none = record {
  session = refl;
  host = stands;
  progress = sym (progress-nil host.session ok.some_drones);
  count = count;
  drones = λ d l. refl;
  sent = λ d l.
      packets-put host.session (flight host.session []) (replicate n []) sent d put
      ∙ ap (λ (ks : List ℕ). packets_at host.session d ks ++ packets_for host.session (flight host.session []) d) (row_of-empty n d);
  given = λ d l. ap (λ (rows : List (List (List ℕ))). row_of rows d) none ∙ row_of-empty n d;
}

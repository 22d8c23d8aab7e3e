-- Worlds whose drones are the same at the start are the same, as far as the session's drones go.
use Rattle.rehearsal.proofs.Prelude.{common_steps, ◌≡◌, ℕ, zero, suc, ◌<◌, Bool, true, false, cond, nat_lt, List, [], ◌∷◌, length, Option, Some, None, refl, arith, All, All-head, All-tail, WorldEvent, DroneState, Upload, drone_count, Drone, shown, WorldState, WorldStandsAt, WorldStandsFor, state_at, blank_drone, rehearsed}
use Rattle.std.proofs.lemmas.Bool.{cases_lt, le-ltb, lt-ltb}
use Rattle.upload_model.specs.declared.events.Event.{Event}
use Rattle.upload_model.specs.declared.events.Event.TheVariants as event
use Rattle.upload_model.specs.declared.events.WorldEvent.TheVariants.{Tick, Take, Hear, Alter}
use Rattle.upload_model.specs.Worlds as Worlds
use Rattle.upload_model.specs.Worlds.{host_event, start_world, run, world, happens, altered, changed, take_named, hear_named}

-- Two worlds are the same, but for drones past the session's last.
record Agree (s : Upload) (v w : Worlds.World) : Type 0 where
  pub heard : v.heard ≡ w.heard
  pub drones : (d : ℕ) → d < drone_count s → v.drones d ≡ w.drones d
  pub sent : (d : ℕ) → v.sent d ≡ w.sent d
  pub given : (d : ℕ) → d < drone_count s → v.given d ≡ w.given d

agree-event : (s : Upload) (v w : Worlds.World) (e : Event) → Agree s v w → Agree s (host_event s v e) (host_event s w e)
unfolding host_event
agree-event s v w e a = grind (arith, common_steps)

changed-same : {A : Type 0} (b : Bool) (x y p q : A) → x ≡ y → p ≡ q → cond b x p ≡ cond b y q
changed-same true x y p q first second = first
changed-same false x y p q first second = second

agree-take : (s : Upload) (v w : Worlds.World) (d : ℕ) (packet : Option (List ℕ)) → d < drone_count s → Agree s v w → Agree s (take_named v d packet) (take_named w d packet)
agree-take s v w d None below a = a
agree-take s v w d (Some packet) below a = grind (arith, common_steps, changed-same)

agree-hear : (s : Upload) (v w : Worlds.World) (d : ℕ) (packet : Option (List ℕ)) → Agree s v w → Agree s (hear_named s v d packet) (hear_named s w d packet)
agree-hear s v w d None a = a
agree-hear s v w d (Some packet) a = agree-event s v w (event.Up d packet) a

-- the world in which a byte of drone d is set to a value
abbrev with_byte : Worlds.World → ℕ → ℕ → ℕ → Worlds.World
with_byte w d address value = record w { drones = changed w.drones d (altered (w.drones d) address value) }

agree-alter : (s : Upload) (v w : Worlds.World) (d address value : ℕ) → d < drone_count s → Agree s v w → Agree s (with_byte v d address value) (with_byte w d address value)
agree-alter s v w d address value below a = grind (arith, common_steps, changed-same)

agree-both : (s : Upload) (t : Bool) (v w x y : Worlds.World) → Agree s v w → Agree s x y → Agree s (cond t v x) (cond t w y)
agree-both s true v w x y a b = a
agree-both s false v w x y a b = b

agree-happens : (s : Upload) (v w : Worlds.World) (e : WorldEvent) → Agree s v w → Agree s (happens s v e) (happens s w e)
unfolding happens
agree-happens s v w Tick a = agree-event s v w event.Tick a
agree-happens s v w (Take d n) a = grind (arith, common_steps, cases_lt, lt-ltb, agree-take, le-ltb)
agree-happens s v w (Hear d n) a = grind (arith, common_steps, cases_lt, lt-ltb, agree-hear, le-ltb)
agree-happens s v w (Alter d address value) a = grind (arith, common_steps, cases_lt, agree-both, nat_lt, with_byte, agree-alter, le-ltb)

agree-run : (s : Upload) (v w : Worlds.World) (es : List WorldEvent) → Agree s v w → Agree s (run s v es) (run s w es)
agree-run s v w [] a = a
agree-run s v w (e ∷ es) a = agree-run s (happens s v e) (happens s w e) es (agree-happens s v w e a)

agree-start : (s : Upload) (f g : ℕ → DroneState) → ((d : ℕ) → d < drone_count s → f d ≡ g d) → Agree s (start_world s f) (start_world s g)
unfolding start_world
agree-start s f g same = record { heard = refl; drones = same; sent = λ d. refl; given = λ d l. refl }

-- what stands for one of them stands for the other
agree-stands : (x : WorldState) (s : Upload) (v w : Worlds.World) → Agree s v w → WorldStandsAt x s v → WorldStandsAt x s w
agree-stands x s v w a at = grind (arith, common_steps)

-- one of a list of blank drones
blank-at : (s : Upload) (drones : List Drone) (d : ℕ) → All (λ (x : Drone). shown x ≡ blank_drone s) drones → d < length drones → state_at drones d ≡ blank_drone s
blank-at s [] d blank below = absurd (omega arith)
blank-at s (x ∷ drones) zero blank below = All-head (λ (y : Drone). shown y ≡ blank_drone s) x drones blank
blank-at s (x ∷ drones) (suc d) blank below = blank-at s drones d (All-tail (λ (y : Drone). shown y ≡ blank_drone s) x drones blank) (omega arith)

-- a world of blank drones is that of the rehearsal
pub stands-rehearsed : (x : WorldState) (s : Upload) (drones : List Drone) (events : List WorldEvent) → length drones ≡ drone_count s →
    All (λ (d : Drone). shown d ≡ blank_drone s) drones → WorldStandsFor x s drones events → WorldStandsAt x s (rehearsed s events)
stands-rehearsed x s drones events many blank at =
    agree-stands x s (world s (state_at drones) events) (rehearsed s events)
    (agree-run s (start_world s (state_at drones)) (start_world s (λ d. blank_drone s)) events
    (agree-start s (state_at drones) (λ d. blank_drone s) (λ d l. blank-at s drones d blank (omega arith)))) at

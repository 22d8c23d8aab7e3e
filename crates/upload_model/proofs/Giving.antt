-- At which event each answer was given, and at which event the host heard it.
use Rattle.upload_model.proofs.Prelude.{common_steps, ◌≡◌, ℕ, ◌+◌, ◌<◌, ◌&&◌, eqb, ltb, List, [], ◌∷◌, ◌++◌, length, take, refl, ap, sym, ◌∙◌, arith, Option, Some, None, ◌⊎◌, inl, inr, slice_get, cases_lt, cases_eq, cond_both, ltb-true, cond-true, cond-false, eq-eqb, ne_eqb, take-append-le, take_all, length_push, append-nil, slice_get_within, Event, DroneState, handled, Upload, drone_count, World, changed, took, take_named, hear_named, altered, start_world, host_event, happens, world, WorldEvent, Tick, Take, Hear, Alter}
use Rattle.upload_model.specs.declared.events.Event.TheVariants as event
use Rattle.upload_model.proofs.HostSteps.{slice_get-last, slice_get-before}
use Rattle.upload_model.proofs.Sending.{by_last, world-last}

-- ---- lists, by their last element

pub take_before : {X : Type 0} (xs : List X) (x : X) → take (length xs) (xs ++ x ∷ []) ≡ xs
take_before xs x = take-append-le (length xs) xs (x ∷ []) (omega arith) ∙ take_all (length xs) xs (omega arith)

pub take_whole : {X : Type 0} (xs : List X) (x : X) → take (length xs + 1) (xs ++ x ∷ []) ≡ xs ++ x ∷ []
take_whole xs x = take_all (length xs + 1) (xs ++ x ∷ []) (let l = length_push xs x in omega arith)

-- ---- what one event gives and lets hear

-- drone d takes packet m now, and answers
pub record GivesNow (w : World) (e : WorldEvent) (d : ℕ) (new : List (List ℕ)) : Type 0 where
  pub m : ℕ
  pub takes : e ≡ Take d m
  pub packet : List ℕ
  pub named : slice_get (w.sent d) m ≡ Some packet
  pub answer : List ℕ
  pub answers : (handled (w.drones d) packet).answer ≡ Some answer
  pub gives : new ≡ w.given d ++ answer ∷ []

given-took : (s : Upload) (w : World) (i m : ℕ) (packet : List ℕ) → slice_get (w.sent i) m ≡ Some packet → (d : ℕ) →
    ((took w i (handled (w.drones i) packet)).given d ≡ w.given d) ⊎ GivesNow w (Take i m) d ((took w i (handled (w.drones i) packet)).given d)
given-took s w i m packet at d = grind (arith, common_steps, cases_eq, cond-false, eqb, ne_eqb, cond-true, eq-eqb, append-nil)

given-take : (s : Upload) (w : World) (i m : ℕ) (o : Option (List ℕ)) → slice_get (w.sent i) m ≡ o → (d : ℕ) →
    ((take_named w i o).given d ≡ w.given d) ⊎ GivesNow w (Take i m) d ((take_named w i o).given d)
given-take s w i m None at d = inl refl
given-take s w i m (Some packet) at d = given-took s w i m packet at d

given-hears : (s : Upload) (w : World) (e : Event) (d : ℕ) → (host_event s w e).given d ≡ w.given d
unfolding host_event
given-hears s w e d = refl

given-hear : (s : Upload) (w : World) (i : ℕ) (o : Option (List ℕ)) (d : ℕ) → (hear_named s w i o).given d ≡ w.given d
given-hear s w i None d = refl
given-hear s w i (Some a) d = given-hears s w (event.Up i a) d

given-happens : (s : Upload) (w : World) (e : WorldEvent) (d : ℕ) →
    ((happens s w e).given d ≡ w.given d) ⊎ GivesNow w e d ((happens s w e).given d)
unfolding happens
given-happens s w Tick d = inl (given-hears s w event.Tick d)
given-happens s w (Take i m) d =
    cond_both (ltb i (drone_count s)) (take_named w i (slice_get (w.sent i) m)) w (λ v. (v.given d ≡ w.given d) ⊎ GivesNow w (Take i m) d (v.given d))
    (λ b. given-take s w i m (slice_get (w.sent i) m) refl d) (λ b. inl refl)
given-happens s w (Hear i n) d =
    cond_both (ltb i (drone_count s)) (hear_named s w i (slice_get (w.given i) n)) w (λ v. (v.given d ≡ w.given d) ⊎ GivesNow w (Hear i n) d (v.given d))
    (λ b. inl (given-hear s w i (slice_get (w.given i) n) d)) (λ b. inl refl)
given-happens s w (Alter i address value) d =
    cond_both (ltb i (drone_count s) && ltb address 4096) (record w { drones = changed w.drones i (altered (w.drones i) address value) }) w
    (λ v. (v.given d ≡ w.given d) ⊎ GivesNow w (Alter i address value) d (v.given d)) (λ b. inl refl) (λ b. inl refl)

-- the host hears answer n of drone i now
pub record HearsNow (s : Upload) (w : World) (e : WorldEvent) (new : List Event) : Type 0 where
  pub i : ℕ
  pub inside : i < drone_count s
  pub n : ℕ
  pub hears : e ≡ Hear i n
  pub answer : List ℕ
  pub named : slice_get (w.given i) n ≡ Some answer
  pub grows : new ≡ w.heard ++ event.Up i answer ∷ []

pub data Heard (s : Upload) (w : World) (e : WorldEvent) (new : List Event) : Type 0 where
  nothing : new ≡ w.heard → Heard s w e new
  a_tick : new ≡ w.heard ++ event.Tick ∷ [] → Heard s w e new
  an_answer : HearsNow s w e new → Heard s w e new

heard-hears : (s : Upload) (w : World) (e : Event) → (host_event s w e).heard ≡ w.heard ++ e ∷ []
unfolding host_event
heard-hears s w e = refl

heard-take : (s : Upload) (w : World) (i : ℕ) (o : Option (List ℕ)) → (take_named w i o).heard ≡ w.heard
heard-take s w i o = grind (arith, common_steps)

heard-hear : (s : Upload) (w : World) (i n : ℕ) → i < drone_count s → (o : Option (List ℕ)) → slice_get (w.given i) n ≡ o →
    Heard s w (Hear i n) (hear_named s w i o).heard
heard-hear s w i n l None at = nothing refl
heard-hear s w i n l (Some a) at =
    an_answer (record { i = i; inside = l; n = n; hears = refl; answer = a; named = at; grows = heard-hears s w (event.Up i a) })

pub heard-happens : (s : Upload) (w : World) (e : WorldEvent) → Heard s w e (happens s w e).heard
unfolding happens
heard-happens s w Tick = a_tick (heard-hears s w event.Tick)
heard-happens s w (Take i m) =
    cond_both (ltb i (drone_count s)) (take_named w i (slice_get (w.sent i) m)) w (λ v. Heard s w (Take i m) v.heard)
    (λ b. nothing (heard-take s w i (slice_get (w.sent i) m))) (λ b. nothing refl)
heard-happens s w (Hear i n) =
    cond_both (ltb i (drone_count s)) (hear_named s w i (slice_get (w.given i) n)) w (λ v. Heard s w (Hear i n) v.heard)
    (λ b. heard-hear s w i n (ltb-true i (drone_count s) b) (slice_get (w.given i) n) refl) (λ b. nothing refl)
heard-happens s w (Alter i address value) =
    cond_both (ltb i (drone_count s) && ltb address 4096) (record w { drones = changed w.drones i (altered (w.drones i) address value) }) w
    (λ v. Heard s w (Alter i address value) v.heard) (λ b. nothing refl) (λ b. nothing refl)

-- ---- at which event an answer was given

pub record GivenAt (s : Upload) (drones : ℕ → DroneState) (events : List WorldEvent) (d j : ℕ) (a : List ℕ) : Type 0 where
  pub given_at : ℕ
  pub within : given_at < length events
  pub m : ℕ
  pub takes : slice_get events given_at ≡ Some (Take d m)
  pub packet : List ℕ
  pub named : slice_get ((world s drones (take given_at events)).sent d) m ≡ Some packet
  pub answers : (handled ((world s drones (take given_at events)).drones d) packet).answer ≡ Some a
  pub gives : (world s drones (take (given_at + 1) events)).given d ≡ (world s drones (take given_at events)).given d ++ a ∷ []
  pub numbered : length ((world s drones (take given_at events)).given d) ≡ j

GivenAt-more : (s : Upload) (drones : ℕ → DroneState) (events : List WorldEvent) (e : WorldEvent) (d j : ℕ) (a : List ℕ) →
    GivenAt s drones events d j a → GivenAt s drones (events ++ e ∷ []) d j a
GivenAt-more s drones events e d j a g = grind (arith, common_steps, length_push, take, take-append-le, slice_get-before)

start-given : (s : Upload) (drones : ℕ → DroneState) (d : ℕ) → (start_world s drones).given d ≡ []
unfolding start_world
start-given s drones d = refl

pub start-heard : (s : Upload) (drones : ℕ → DroneState) → (start_world s drones).heard ≡ []
unfolding start_world
start-heard s drones = refl

pub given_at : (s : Upload) (drones : ℕ → DroneState) (events : List WorldEvent) (d j : ℕ) (a : List ℕ) →
    slice_get ((world s drones events).given d) j ≡ Some a → GivenAt s drones events d j a
given_at s drones events =
    by_last (λ es. (d j : ℕ) (a : List ℕ) → slice_get ((world s drones es).given d) j ≡ Some a → GivenAt s drones es d j a) none more events where
      none : (d j : ℕ) (a : List ℕ) → slice_get ((start_world s drones).given d) j ≡ Some a → GivenAt s drones [] d j a
      none d j a at = absurd (let no : None ≡ Some a = sym (ap (λ (xs : List (List ℕ)). slice_get xs j) (start-given s drones d)) ∙ at in cc)

      more : (es : List WorldEvent) (e : WorldEvent) → ((d j : ℕ) (a : List ℕ) → slice_get ((world s drones es).given d) j ≡ Some a → GivenAt s drones es d j a) →
          (d j : ℕ) (a : List ℕ) → slice_get ((world s drones (es ++ e ∷ [])).given d) j ≡ Some a → GivenAt s drones (es ++ e ∷ []) d j a
      more es e before d j a at =
          elim (given-happens s w e d) [
            | inl same ↦ GivenAt-more s drones es e d j a (before d j a (sym (ap (λ (xs : List (List ℕ)). slice_get xs j) same) ∙ here))
            | inr g ↦ now g (sym (ap (λ (xs : List (List ℕ)). slice_get xs j) g.gives) ∙ here)
          ] where
            w : World
            w = world s drones es

            here : slice_get ((happens s w e).given d) j ≡ Some a
            here = sym (ap (λ (v : World). slice_get (v.given d) j) (world-last s drones es e)) ∙ at

            now : (g : GivesNow w e d ((happens s w e).given d)) → slice_get (w.given d ++ g.answer ∷ []) j ≡ Some a → GivenAt s drones (es ++ e ∷ []) d j a
            now g f =
                let long = length_push (w.given d) g.answer in
                let l = slice_get_within (w.given d ++ g.answer ∷ []) j a f in
                elim (cases_lt j (length (w.given d))) [
                  | inl old ↦ GivenAt-more s drones es e d j a (before d j a (sym (slice_get-before (w.given d) (g.answer ∷ []) j old) ∙ f))
                  | inr past ↦
                      let last : j ≡ length (w.given d) = omega arith in
                      let some : Some g.answer ≡ Some a = sym (slice_get-last (w.given d) g.answer) ∙ ap (slice_get (w.given d ++ g.answer ∷ [])) (sym last) ∙ f in
                      let same : g.answer ≡ a = cc in
                      let n = length_push es e in
                      record {
                        given_at = length es;
                        within = omega arith;
                        m = g.m;
                        takes = slice_get-last es e ∙ ap (λ (x : WorldEvent). Some x) g.takes;
                        packet = g.packet;
                        named = ap (λ (fs : List WorldEvent). slice_get ((world s drones fs).sent d) g.m) (take_before es e) ∙ g.named;
                        answers = ap (λ (fs : List WorldEvent). (handled ((world s drones fs).drones d) g.packet).answer) (take_before es e) ∙ g.answers ∙ some;
                        gives = ap (λ (fs : List WorldEvent). (world s drones fs).given d) (take_whole es e)
                            ∙ ap (λ (v : World). v.given d) (world-last s drones es e) ∙ g.gives
                            ∙ ap (λ (x : List ℕ). w.given d ++ x ∷ []) same
                            ∙ ap (λ (fs : List WorldEvent). (world s drones fs).given d ++ a ∷ []) (sym (take_before es e));
                        numbered = ap (λ (fs : List WorldEvent). length ((world s drones fs).given d)) (take_before es e) ∙ sym last;
                      }
                ]

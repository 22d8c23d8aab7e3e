-- What later events leave: a started id changes only by a start, and what is acknowledged or done stays
-- so.
use Rattle.upload_model.proofs.Prelude.{common_steps, ◌≡◌, ℕ, ◌+◌, ◌*◌, ◌<◌, true, not, cond, ◌&&◌, ltb, eqb, List, [], ◌∷◌, ◌++◌, length, take, refl, ap, sym, ◌∙◌, arith, Option, Some, None, ◌⊎◌, inl, inr, subst, slice_get, cases_eq, cond_both, cond-true, cond-false, eq-eqb, ne_eqb, ltb-true, append-nil, append_assoc, chunk_of, start_of, Event, Done, WorldEvent, Tick, Take, Hear, Alter, DroneState, Handled, write_taken, handled, Upload, IsSession, drone_count, load_of, packet_at, acked, progress, World, changed, start_world, host_event, take_named, hear_named, altered, happens, world, TakesStart, StartLaw, UnstartedLaw, LastingLaw}
use Rattle.upload_model.specs.declared.events.Event.TheVariants as event
use Rattle.upload_model.proofs.Readings.{Kind, a_write, a_define, a_read, a_start, packet_kind, packet_at-define, packet_at-read, packet_at-start}
use Rattle.upload_model.proofs.OneDrone.{handled-write, handled-define, length-chunk_of, write_count-below}
use Rattle.upload_model.proofs.OneRead.{reads}
use Rattle.upload_model.proofs.HostLaws.{acked-more}
use Rattle.upload_model.proofs.HostSteps.{slice_get-last, slice_get-before, progress-stays}
use Rattle.upload_model.proofs.Sending.{IsSent, Sends, sends-world, by_last, world-last}
use Rattle.upload_model.proofs.Moments.{All-slice_get, at_changed}
use Rattle.upload_model.proofs.Giving.{take_before, Heard, nothing, a_tick, an_answer, heard-happens}

-- ---- only a start changes a started id

write-started : (x : DroneState) (id address : ℕ) (piece : List ℕ) → (write_taken x id address piece).drone.started ≡ x.started
write-started x id address piece = grind (arith, common_steps, cond_both, not, eqb, cond, ltb)

sent-started : (s : Upload) (h : List Event) (d : ℕ) (x : DroneState) (packet : List ℕ) → IsSession s → d < drone_count s →
    IsSent s h d packet → ((handled x packet).drone.started ≡ x.started) ⊎ (packet ≡ start_of s.trajectory_id)
sent-started s h d x packet ok l sent = by_kind (packet_kind s d sent.number sent.inside) where
  here : (handled x packet).drone.started ≡ (handled x (packet_at s d sent.number)).drone.started
  here = ap (λ (p : List ℕ). (handled x p).drone.started) sent.is

  by_kind : Kind s d sent.number → ((handled x packet).drone.started ≡ x.started) ⊎ (packet ≡ start_of s.trajectory_id)
  by_kind (a_write w) =
      let load = ok.loads d l in
      let c = write_count-below s d sent.number w in let r = load.has_room in let p = length-chunk_of (load_of s d).bytes sent.number in
      inl (here ∙ ap (λ (y : Handled). y.drone.started) (handled-write s d sent.number x (omega arith) (omega arith) w)
      ∙ write-started x s.memory_id (s.offset + 24 * sent.number) (chunk_of (load_of s d).bytes sent.number))
  by_kind (a_define e) =
      inl (here ∙ ap (λ (y : Handled). y.drone.started) (ap (handled x) (packet_at-define s d sent.number e) ∙ handled-define x s.trajectory_id s.offset (load_of s d).pieces ok.id_fits ok.offset_fits))
  by_kind (a_read k b e) =
      let y = reads s d k x (ok.loads d l) b in
      inl (here ∙ ap (λ (p : List ℕ). (handled x p).drone.started) (packet_at-read s d sent.number k b e) ∙ ap (λ (z : Handled). z.drone.started) y.is)
  by_kind (a_start e f) = inr (sent.is ∙ packet_at-start s d sent.number e)

abbrev StartedBy : Upload → World → ℕ → WorldEvent → World → Type 0
StartedBy s old d e new = ((new.drones d).started ≡ (old.drones d).started) ⊎ TakesStart s old d e

module _ (s : Upload) (w : World) (ok : IsSession s) (sends : Sends s w) (d : ℕ) (l : d < drone_count s) where
  take_starts : (i : ℕ) → i < drone_count s → (o : Option (List ℕ)) (n : ℕ) → slice_get (w.sent i) n ≡ o → StartedBy s w d (Take i n) (take_named w i o)
  take_starts i m None n at = inl refl
  take_starts i m (Some packet) n at =
      elim (cases_eq d i) [
        | inl same ↦ elim (sent-started s w.heard i (w.drones i) packet ok m (All-slice_get (IsSent s w.heard i) (w.sent i) n packet at (sends i m))) [
          | inl kept ↦ inl (ap (λ (x : DroneState). x.started) (cond-true (eqb d i) (handled (w.drones i) packet).drone (w.drones d) (eq-eqb d i same)) ∙ kept ∙ sym (ap (λ (j : ℕ). (w.drones j).started) same))
          | inr is ↦ inr (n, ap (λ (j : ℕ). Take j n) (sym same), ap (λ (j : ℕ). slice_get (w.sent j) n) same ∙ at ∙ ap (λ (p : List ℕ). Some p) is)
        ]
        | inr other ↦ inl (ap (λ (x : DroneState). x.started) (cond-false (eqb d i) (handled (w.drones i) packet).drone (w.drones d) (ne_eqb d i other)))
      ]

  hears_starts : (e : Event) → ((host_event s w e).drones d).started ≡ (w.drones d).started
  unfolding host_event
  hears_starts e = refl

  hear_starts : (i : ℕ) (o : Option (List ℕ)) → ((hear_named s w i o).drones d).started ≡ (w.drones d).started
  hear_starts i None = refl
  hear_starts i (Some a) = hears_starts (event.Up i a)

  starts_by : (e : WorldEvent) → StartedBy s w d e (happens s w e)
  unfolding happens
  starts_by Tick = inl (hears_starts event.Tick)
  starts_by (Take i n) =
      cond_both (ltb i (drone_count s)) (take_named w i (slice_get (w.sent i) n)) w (StartedBy s w d (Take i n))
      (λ b. take_starts i (ltb-true i (drone_count s) b) (slice_get (w.sent i) n) n refl) (λ b. inl refl)
  starts_by (Hear i n) =
      cond_both (ltb i (drone_count s)) (hear_named s w i (slice_get (w.given i) n)) w (StartedBy s w d (Hear i n))
      (λ b. inl (hear_starts i (slice_get (w.given i) n))) (λ b. inl refl)
  starts_by (Alter i address value) =
      cond_both (ltb i (drone_count s) && ltb address 4096) (record w { drones = changed w.drones i (altered (w.drones i) address value) }) w (StartedBy s w d (Alter i address value))
      (λ b. inl (at_changed (λ x. x.started ≡ (w.drones d).started) w.drones i (altered (w.drones i) address value) d (λ same. sym (ap (λ (j : ℕ). (w.drones j).started) same)) refl))
      (λ b. inl refl)

pub start_law : StartLaw
start_law s drones case events e d l =
    subst (StartedBy s (world s drones events) d e) (sym (world-last s drones events e))
    (starts_by s (world s drones events) case.session (sends-world s drones events) d l e)

started-first : (s : Upload) (drones : ℕ → DroneState) (d : ℕ) → ((start_world s drones).drones d).started ≡ (drones d).started
unfolding start_world
started-first s drones d = refl

pub unstarted_law : UnstartedLaw
unstarted_law s drones case events d l =
    by_last (λ es. ((i : ℕ) (e : WorldEvent) → slice_get es i ≡ Some e → TakesStart s (world s drones (take i es)) d e → ⊥) → ((world s drones es).drones d).started ≡ (drones d).started)
    (λ never. started-first s drones d)
    (λ es e before never.
    elim (start_law s drones case es e d l) [
      | inl same ↦ same ∙ before (λ i f at starts_then.
          let b = Rattle.std.proofs.lemmas.Option.slice_get_within es i f at in
          never i f (slice_get-before es (e ∷ []) i b ∙ at)
          (subst (λ (fs : List WorldEvent). TakesStart s (world s drones fs) d f) (sym (Rattle.std.proofs.lemmas.List.take-append-le i es (e ∷ []) (omega arith))) starts_then))
      | inr now ↦ absurd (never (length es) e (slice_get-last es e)
          (subst (λ (fs : List WorldEvent). TakesStart s (world s drones fs) d e) (sym (take_before es e)) now))
    ]) events

-- ---- what lasts

-- what one more event of the host keeps, every list of events keeps
keeps : (P : List Event → Type 0) → ((h : List Event) (e : Event) → P h → P (h ++ e ∷ [])) → (s : Upload) (drones : ℕ → DroneState) (events later : List WorldEvent) →
    P (world s drones events).heard → P (world s drones (events ++ later)).heard
keeps P more s drones events later p =
    by_last (λ es. P (world s drones (events ++ es)).heard)
    (subst (λ (es : List WorldEvent). P (world s drones es).heard) (sym (append-nil events)) p)
    (λ es e h.
    subst (λ (fs : List WorldEvent). P (world s drones fs).heard) (append_assoc events es (e ∷ []))
    (subst (λ (v : World). P v.heard) (sym (world-last s drones (events ++ es) e))
    (by_heard (world s drones (events ++ es)) e h (heard-happens s (world s drones (events ++ es)) e)))) later where
      by_heard : (w : World) (e : WorldEvent) → P w.heard → Heard s w e (happens s w e).heard → P (happens s w e).heard
      by_heard w e h (nothing same) = subst P (sym same) h
      by_heard w e h (a_tick grows) = subst P (sym grows) (more w.heard event.Tick h)
      by_heard w e h (an_answer now) = subst P (sym now.grows) (more w.heard (event.Up now.i now.answer) h)

done-more : (s : Upload) (h : List Event) (e : Event) → progress s h ≡ Done → progress s (h ++ e ∷ []) ≡ Done
done-more s h e done = progress-stays s h (e ∷ []) (λ going. absurd (cc (sym done ∙ going))) ∙ done

pub lasting_law : LastingLaw
lasting_law s drones events later = (
  (λ d k a. keeps (λ h. acked s h d k ≡ true) (λ h e b. acked-more s h (e ∷ []) d k b) s drones events later a),
  (λ a. keeps (λ h. progress s h ≡ Done) (λ h e b. done-more s h e b) s drones events later a),
)

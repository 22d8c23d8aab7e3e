-- Uploads that are done, orders in which all is accepted, and a start that is sent.
use Rattle.definition_tests.proofs.Prelude.{◌≡◌, ℕ, zero, suc, pos, ◌<◌, ◌++◌, false, true, List, [], ◌∷◌, All, Option, None, Some, arith, refl, replicate, length-replicate, All-cons, All-head, All-nil, Traj, hold, HasDuration, WorldEvent, Take, Hear, Alter, Def, DroneState, handled, acked, acked_from, acknowledges, all_packets, all_settled, ending, flight_at, flight_in, out, phase_of, progress, progress_within, ticks, IsDrone, reply_in, reply_to, packet_at, packet_count, part_count, read_count, write_count, IsAccepted, IsUnaltered, happens, host_event, start_world, session_for, flight, UploadRows, no_time, settings}
use Rattle.definition_tests.proofs.NearRows.{show}

abbrev pub blank : ℕ → DroneState
blank d = record { memory_id = 0; memory = replicate 4096 255; table = replicate 10 None; started = None }

pub is_drone : (d : ℕ) → IsDrone (blank d)
is_drone d = record { memory = length-replicate {A = ℕ} 4096 255; table = length-replicate {A = Option Def} 10 None }

-- the write and the define are taken and answered
abbrev pub events : List WorldEvent
events = Take 0 0 ∷ Hear 0 0 ∷ Take 0 1 ∷ Hear 0 1 ∷ []

pub unaltered : IsUnaltered (events ++ [])
unaltered zero d address value is = absurd (let e : Some (Take 0 0) ≡ Some (Alter d address value) = is in cc)
unaltered (suc zero) d address value is = absurd (let e : Some (Hear 0 0) ≡ Some (Alter d address value) = is in cc)
unaltered (suc (suc zero)) d address value is = absurd (let e : Some (Take 0 1) ≡ Some (Alter d address value) = is in cc)
unaltered (suc (suc (suc zero))) d address value is = absurd (let e : Some (Hear 0 1) ≡ Some (Alter d address value) = is in cc)
unaltered (suc (suc (suc (suc i)))) d address value is = absurd (let e : None ≡ Some (Alter d address value) = is in cc)

-- where one drone has a write and the define, the numbers are its packets
own : (t : Traj) (d : ℕ) → packet_count (session_for settings (t ∷ []) false false) 0 ≡ 2 → d < 1 → All (λ k. k < packet_count (session_for settings (t ∷ []) false false) d) (0 ∷ 1 ∷ [])
own t zero two within =
    let n : ℕ = packet_count (session_for settings (t ∷ []) false false) 0 in
    All-cons (λ k. k < n) 0 (1 ∷ []) (omega (arith, two)) (All-cons (λ k. k < n) 1 [] (omega (arith, two)) (All-nil (λ k. k < n)))
own t (suc d) two within = absurd (omega (arith, within))

-- where there is a start besides, so are these
own_start : packet_count (session_for settings (flight (pos 0) (pos 0) ∷ []) false true) 0 ≡ 3 →
    All (λ k. k < packet_count (session_for settings (flight (pos 0) (pos 0) ∷ []) false true) 0) (0 ∷ 1 ∷ 2 ∷ 0 ∷ [])
own_start three =
    let n : ℕ = packet_count (session_for settings (flight (pos 0) (pos 0) ∷ []) false true) 0 in
    All-cons (λ k. k < n) 0 (1 ∷ 2 ∷ 0 ∷ []) (omega (arith, three)) (All-cons (λ k. k < n) 1 (2 ∷ 0 ∷ []) (omega (arith, three))
    (All-cons (λ k. k < n) 2 (0 ∷ []) (omega (arith, three)) (All-cons (λ k. k < n) 0 [] (omega (arith, three)) (All-nil (λ k. k < n)))))

-- and both are accepted
accepted : (t : Traj) → IsAccepted (session_for settings (t ∷ []) false false) 0 (blank 0) (0 ∷ 1 ∷ []) 0 → IsAccepted (session_for settings (t ∷ []) false false) 0 (blank 0) (0 ∷ 1 ∷ []) 1 →
    (d k : ℕ) → d < 1 → k < 2 → IsAccepted (session_for settings (t ∷ []) false false) d (blank d) (0 ∷ 1 ∷ []) k
accepted t first second zero zero within below = first
accepted t first second zero (suc zero) within below = second
accepted t first second zero (suc (suc k)) within below = absurd (omega (arith, below))
accepted t first second (suc d) k within below = absurd (omega (arith, within))

pub no_hold : All HasDuration (hold 0 ∷ []) → ⊥
no_hold all = let some = All-head HasDuration (hold 0) [] all in absurd (omega (arith, some))

pub uploads : UploadRows
unfolding handled part_count write_count read_count packet_at packet_count reply_in reply_to all_settled phase_of flight_in flight_at acknowledges acked_from acked ticks all_packets ending progress_within progress out start_world host_event happens
uploads = record {
  lands = λ lands. show.x (lands false false blank events [] (λ d within. is_drone d) unaltered refl).near;
  in_any_order = λ any. show.x (any false false blank (λ d. 0 ∷ 1 ∷ []) (λ d. []) (λ d within. is_drone d) (λ d within. own (flight (pos 0) (pos 0)) d refl within)
      (λ d k within below plain. by d k within below)).near;
  undecoded = λ fly. no_hold (fly.once_sent false true blank events [] 0 0 (λ d within. is_drone d) unaltered (omega arith) (omega arith) (2, omega arith, refl)).decodes.begins.spells.durations;
  once_sent = λ drones fly fresh sent. fly.once_sent false true drones events [] 0 0 fresh unaltered (omega arith) (omega arith) sent;
  once_accepted = λ drone fly fresh accepts. fly.once_accepted false true drone (0 ∷ 1 ∷ []) (2 ∷ 0 ∷ []) 0 fresh (omega arith) (own_start refl) accepts;
  begins_once = λ drone fly fresh accepts. fly.begins_once false true drone (0 ∷ 1 ∷ []) (2 ∷ 0 ∷ []) 0 fresh (omega arith) (own_start refl) accepts refl;
}
  where
    by : (d k : ℕ) → d < 1 → k < packet_count (session_for settings (flight (pos 0) (pos 0) ∷ []) false false) d → IsAccepted (session_for settings (flight (pos 0) (pos 0) ∷ []) false false) d (blank d) (0 ∷ 1 ∷ []) k
    by zero k within below = accepted (flight (pos 0) (pos 0)) (0, refl, refl) (1, refl, refl) 0 k (omega arith) below
    by (suc d) k within below = absurd (omega (arith, within))

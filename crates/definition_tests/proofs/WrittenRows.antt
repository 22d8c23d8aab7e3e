-- Plans that are and aren't the show's.
use Rattle.definition_tests.proofs.Prelude.{common_steps, ◌≡◌, ℕ, ℤ, ◌-◌, ◌≤◌, length, pos, false, true, List, [], ◌∷◌, All, Option, None, Some, codes, ap, get_or, replicate, arith, refl, sym, ◌∙◌, length-replicate, All-cons, All-nil, digits, Traj, HasDuration, IsTrajectory, PlainShow, FitsSettings, Settings, ShowLaw, grid_of, Def, DroneState, handled, acked, acked_from, acknowledges, all_packets, all_settled, ending, flight_at, flight_in, out, phase_of, progress, progress_within, ticks, IsDrone, reply_in, reply_to, packet_at, packet_count, part_count, read_count, write_count, happens, host_event, start_world, IsSendable, size, IsPlan, PlanLaw, plan_text, Uploads, UploadsLaw, names_of, Headline, WrittenRows, aside_plan, second_byte, second_entry, stay, stay_text, staying}
use Rattle.crtp_packets.specs.declared.chunks.TheConstants.{MEMORY_BYTES}
use Rattle.choreo_show.specs.Name.{Name, is_name}
use Rattle.definition_tests.proofs.HeadlineRows.{far, holds, stay_stands}
use Rattle.definition_tests.proofs.UploadRows.{events, unaltered}

abbrev named : List ℕ → List Name
named name = record { items = name } ∷ []

formed : IsTrajectory (staying (pos 0))
formed = grind (arith, common_steps, All-cons, All-nil)

formed_aside : IsTrajectory (staying (pos 1))
formed_aside = grind (arith, common_steps, All-cons, All-nil)

lasts : (x : ℤ) → All HasDuration (staying x).segments
lasts x = grind (arith, common_steps, All-cons, All-nil)

-- one drone that stays can be uploaded by any settings with room for it
is_plan : (e : Settings) (name : List ℕ) (x : ℤ) → is_name name ≡ true → FitsSettings e → IsTrajectory (staying x) → size (staying x) ≤ MEMORY_BYTES - e.offset → IsPlan e (named name) (staying x ∷ [])
is_plan e name x is fit form room = record {
  named = All-cons (λ (n : Name). is_name n.items ≡ true) (record { items = name }) [] is (All-nil (λ (n : Name). is_name n.items ≡ true));
  counted = refl;
  uploadable = record {
    settings = fit;
    some = omega arith;
    few = omega arith;
    formed = All-cons IsTrajectory (staying x) [] form (All-nil IsTrajectory);
    sendable = All-cons IsSendable (staying x) [] (record { few = omega arith; last = lasts x }) (All-nil IsSendable);
    segments = All-cons (λ (t : Traj). 1 ≤ length t.segments) (staying x) [] (omega arith) (All-nil (λ (t : Traj). 1 ≤ length t.segments));
    room = All-cons (λ (t : Traj). size t ≤ MEMORY_BYTES - e.offset) (staying x) [] room (All-nil (λ (t : Traj). size t ≤ MEMORY_BYTES - e.offset));
  };
}

-- drones with the memory of the show's settings
abbrev blank : ℕ → DroneState
blank d = record { memory_id = 2; memory = replicate 4096 255; table = replicate 10 None; started = None }

is_drone : (d : ℕ) → IsDrone (blank d)
is_drone d = record { memory = length-replicate {A = ℕ} 4096 255; table = length-replicate {A = Option Def} 10 None }

-- so no upload of it goes right
gone : Uploads (grid_of stay) stay.settings (staying (pos 1) ∷ []) → ⊥
unfolding handled part_count write_count read_count packet_at packet_count reply_in reply_to all_settled phase_of flight_in flight_at acknowledges acked_from acked ticks all_packets ending progress_within progress out start_world host_event happens
gone uploads = far (uploads.stored false false blank events [] (λ d within. is_drone d) unaltered refl).near

-- of a plan of some drone that stays: it is that of the show, and these trajectories are those of which the headline says so
same_show : ShowLaw → (written : List ℕ) (is : Headline stay_text (Some []) (Some written)) → is.s ≡ stay
same_show law written is = law.one stay_text is.s stay is.stands stay_stands

same_plan : PlanLaw → (written : List ℕ) (is : Headline stay_text (Some []) (Some written)) → IsPlan is.s.settings (names_of is.s) is.sent →
    (e : Settings) (name : List ℕ) (x : ℤ) → IsPlan e (named name) (staying x ∷ []) → plan_text e (named name) (staying x ∷ []) ≡ written →
    (names_of is.s ≡ named name) × (is.sent ≡ staying x ∷ [])
same_plan law written is plan e name x other text =
    law is.s.settings e (names_of is.s) (named name) is.sent (staying x ∷ []) plan other (sym is.planned ∙ sym text)

-- and what was written is the plan by the show's own settings and names
own_text : (s : PlainShow) (sent ts : List Traj) (written : List ℕ) → s ≡ stay → sent ≡ ts → written ≡ plan_text s.settings (names_of s) sent → written ≡ plan_text stay.settings (named (codes "a")) ts
own_text s sent ts written s_is sent_is text = rw sent_is at (rw s_is at text)

aside_gone : (s : PlainShow) (sent : List Traj) → s ≡ stay → sent ≡ staying (pos 1) ∷ [] → Uploads (grid_of s) s.settings sent → ⊥
aside_gone s sent s_is sent_is uploads = gone (rw sent_is at (rw s_is at uploads))

aside_is : plan_text stay.settings (named (codes "a")) (staying (pos 1) ∷ []) ≡ aside_plan
unfolding digits plan_text packet_at packet_count part_count read_count write_count
aside_is = refl

pub written : ShowLaw → UploadsLaw → PlanLaw → WrittenRows
unfolding digits plan_text packet_at packet_count part_count read_count write_count
written law uploads_law plan_law = record {
  is_its_own = refl;
  own = holds uploads_law;
  is_a_plan = aside_is;
  aside = λ is plan.
      let fit : IsPlan stay.settings (named (codes "a")) (staying (pos 1) ∷ []) = is_plan stay.settings (codes "a") (pos 1) refl (omega arith, omega arith, omega arith, omega arith, omega arith, omega arith, omega arith, omega arith) formed_aside (omega arith) in
      let same = same_plan plan_law _ is plan stay.settings (codes "a") (pos 1) fit aside_is in
      aside_gone is.s is.sent (same_show law _ is) same.1 is.uploads;
  other_entry = λ is plan.
      let fit : IsPlan second_entry (named (codes "a")) (staying (pos 0) ∷ []) = is_plan second_entry (codes "a") (pos 0) refl (omega arith, omega arith, omega arith, omega arith, omega arith, omega arith, omega arith, omega arith) formed (omega arith) in
      let same = same_plan plan_law _ is plan second_entry (codes "a") (pos 0) fit refl in
      let bytes = own_text is.s is.sent (staying (pos 0) ∷ []) _ (same_show law _ is) same.1 is.planned in
      let ids : ◌≡◌ {A = ℕ} 49 48 = ap (λ (bytes : List ℕ). get_or bytes 160 0) bytes in absurd (omega (arith, ids));
  other_place = λ is plan.
      let fit : IsPlan second_byte (named (codes "a")) (staying (pos 0) ∷ []) = is_plan second_byte (codes "a") (pos 0) refl (omega arith, omega arith, omega arith, omega arith, omega arith, omega arith, omega arith, omega arith) formed (omega arith) in
      let same = same_plan plan_law _ is plan second_byte (codes "a") (pos 0) fit refl in
      let bytes = own_text is.s is.sent (staying (pos 0) ∷ []) _ (same_show law _ is) same.1 is.planned in
      let addresses : ◌≡◌ {A = ℕ} 49 48 = ap (λ (bytes : List ℕ). get_or bytes 93 0) bytes in absurd (omega (arith, addresses));
  other_drone = λ is plan.
      let fit : IsPlan stay.settings (named (codes "b")) (staying (pos 0) ∷ []) = is_plan stay.settings (codes "b") (pos 0) refl (omega arith, omega arith, omega arith, omega arith, omega arith, omega arith, omega arith, omega arith) formed (omega arith) in
      let same = same_plan plan_law _ is plan stay.settings (codes "b") (pos 0) fit refl in
      let bytes = own_text is.s is.sent (staying (pos 0) ∷ []) _ (same_show law _ is) same.1 is.planned in
      let names : ◌≡◌ {A = ℕ} 98 97 = ap (λ (bytes : List ℕ). get_or bytes 13 0) bytes in absurd (omega (arith, names));
}

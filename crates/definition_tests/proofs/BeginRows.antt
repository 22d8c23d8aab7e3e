-- Small uploads, computed.
use Rattle.definition_tests.proofs.Prelude.{◌≡◌, ℕ, suc, zero, ◌+◌, ◌<◌, List, false, true, Option, None, Some, [], ◌∷◌, ap, get_or, take, arith, refl, sym, ◌∙◌, slice_get, WorldEvent, Take, Hear, WasRight, is_right, All-cons, All-head, All-nil, AcceptsLoad, IsAccepted, TakesStart, DroneState, handled, acked, acked_from, acknowledges, all_packets, all_settled, ending, flight_at, flight_in, out, phase_of, progress, progress_within, ticks, reply_in, reply_to, packet_at, packet_count, part_count, read_count, write_count, happens, host_event, start_world, world}
use Rattle.crtp_packets.specs.Commands.{start_of}
use Rattle.definition_tests.specs.Begins.{BeginRows, OrderRows, ReadRows, SafeRows, blank, byte_after, loaded, reading, session, started}

-- the number of the packet that is taken
number_of : (m n : ℕ) → Take 0 m ≡ Take 0 n → n ≡ m
number_of m n same = cc

-- of the events up to the start the one at place 4 takes it
only_fourth : (i : ℕ) (e : WorldEvent) → slice_get started i ≡ Some e → TakesStart session (world session blank (take i started)) 0 e → i ≡ 4
unfolding handled part_count write_count read_count packet_at packet_count reply_in reply_to all_settled phase_of flight_in flight_at acknowledges acked_from acked ticks all_packets ending progress_within progress out start_world host_event happens
only_fourth zero e is takes = absurd (write takes.0 (number_of 0 takes.0 (let f : Some (Take 0 0) ≡ Some e = is in let g : Take 0 0 ≡ e = cc in g ∙ takes.1)) takes.2) where
  write : (n : ℕ) → n ≡ 0 → slice_get ((world session blank []).sent 0) n ≡ Some (start_of 0) → ⊥
  write zero same named = cc
  write (suc n) same named = absurd (omega (arith, same))
only_fourth (suc zero) e is takes = absurd (let f : Some (Hear 0 0) ≡ Some e = is in let g : e ≡ Take 0 takes.0 = takes.1 in cc)
only_fourth (suc (suc zero)) e is takes = absurd (define takes.0 (number_of 1 takes.0 (let f : Some (Take 0 1) ≡ Some e = is in let g : Take 0 1 ≡ e = cc in g ∙ takes.1)) takes.2) where
  define : (n : ℕ) → n ≡ 1 → slice_get ((world session blank (Take 0 0 ∷ Hear 0 0 ∷ [])).sent 0) n ≡ Some (start_of 0) → ⊥
  define zero same named = absurd (omega (arith, same))
  define (suc zero) same named = cc
  define (suc (suc n)) same named = absurd (omega (arith, same))
only_fourth (suc (suc (suc zero))) e is takes = absurd (let f : Some (Hear 0 1) ≡ Some e = is in let g : e ≡ Take 0 takes.0 = takes.1 in cc)
only_fourth (suc (suc (suc (suc zero)))) e is takes = refl
only_fourth (suc (suc (suc (suc (suc zero))))) e is takes = absurd (let f : Some (Hear 0 2) ≡ Some e = is in let g : e ≡ Take 0 takes.0 = takes.1 in cc)
only_fourth (suc (suc (suc (suc (suc (suc i)))))) e is takes = absurd (let f : None ≡ Some e = is in cc)

pub begins : BeginRows
unfolding handled part_count write_count read_count packet_at packet_count reply_in reply_to all_settled phase_of flight_in flight_at acknowledges acked_from acked ticks all_packets ending progress_within progress out start_world host_event happens
begins = record {
  none = refl;
  once = refl;
  repeated = refl;
  sent_again = refl;
  other_packets = refl;
  done = refl;
  one = λ i j e f is at takes also. only_fourth i e is takes ∙ sym (only_fourth j f at also);
  two = λ one. let same : 4 ≡ 5 = one 4 5 (Take 0 2) (Take 0 2) refl refl (2, refl, refl) (2, refl, refl) in absurd (omega (arith, same));
  altered = λ unaltered. unaltered 1 0 1 2 refl;
  accepted = refl;
  refused = refl;
}

-- in either order the write and the define are accepted
accepts : AcceptsLoad session 0 (blank 0) (1 ∷ 0 ∷ [])
unfolding handled packet_at write_count
accepts zero below = (1, refl, refl)
accepts (suc zero) below = (0, refl, refl)
accepts (suc (suc k)) below = absurd (let low : suc (suc k) < 2 = below in omega (arith, low))

-- the define isn't among these
no_define : IsAccepted session 0 (blank 0) (0 ∷ 2 ∷ []) 1 → ⊥
no_define (zero, is, answered) = let e : ◌≡◌ {A = Option ℕ} (Some 0) (Some 1) = is in let f : ◌≡◌ {A = ℕ} 0 1 = cc in omega (arith, f)
no_define (suc zero, is, answered) = let e : ◌≡◌ {A = Option ℕ} (Some 2) (Some 1) = is in let f : ◌≡◌ {A = ℕ} 2 1 = cc in omega (arith, f)
no_define (suc (suc i), is, answered) = let e : ◌≡◌ {A = Option ℕ} None (Some 1) = is in cc

-- the status of an answer to a command
abbrev status_of : Option (List ℕ) → ℕ
status_of None = 9
status_of (Some answer) = get_or answer 4 9

-- the start isn't accepted at any place of these
early : IsAccepted session 0 (blank 0) (2 ∷ 0 ∷ 1 ∷ []) 2 → ⊥
unfolding handled packet_at packet_count write_count read_count part_count
early (zero, is, answered) = let same : ◌≡◌ {A = ℕ} 2 0 = ap status_of answered in omega (arith, same)
early (suc zero, is, answered) = let e : ◌≡◌ {A = Option ℕ} (Some 0) (Some 2) = is in let f : ◌≡◌ {A = ℕ} 0 2 = cc in omega (arith, f)
early (suc (suc zero), is, answered) = let e : ◌≡◌ {A = Option ℕ} (Some 1) (Some 2) = is in let f : ◌≡◌ {A = ℕ} 1 2 = cc in omega (arith, f)
early (suc (suc (suc i)), is, answered) = let e : ◌≡◌ {A = Option ℕ} None (Some 2) = is in cc

pub orders : OrderRows
unfolding handled part_count write_count read_count packet_at packet_count
orders = record {
  none = refl;
  once = refl;
  twice = refl;
  early = refl;
  from_before = refl;
  counted = refl;
  accepts = accepts;
  no_define = λ all. no_define (all 1 (omega arith));
  refused = early;
  own = (All-cons (λ k. k < 3) 2 [] (omega arith) (All-nil (λ k. k < 3)), λ own. let low : 3 < 3 = All-head (λ k. k < 3) 3 [] own in omega (arith, low));
}

-- the writes and the define acknowledge no read
unread : (i n : ℕ) → slice_get loaded i ≡ Some (Hear 0 n) → is_right reading (world reading blank (take (i + 1) loaded)).heard 0 0 ≡ true → ⊥
unfolding handled part_count write_count read_count packet_at packet_count reply_in reply_to all_settled phase_of flight_in flight_at acknowledges acked_from acked ticks all_packets ending progress_within progress out start_world host_event happens
unread zero n is right = absurd (let e : Some (Take 0 0) ≡ Some (Hear 0 n) = is in cc)
unread (suc zero) n is right = absurd (let e : false ≡ true = right in cc)
unread (suc (suc zero)) n is right = absurd (let e : Some (Take 0 1) ≡ Some (Hear 0 n) = is in cc)
unread (suc (suc (suc zero))) n is right = absurd (let e : false ≡ true = right in cc)
unread (suc (suc (suc (suc i)))) n is right = absurd (let e : None ≡ Some (Hear 0 n) = is in cc)

pub safe : SafeRows
unfolding handled part_count write_count read_count packet_at packet_count reply_in reply_to all_settled phase_of flight_in flight_at acknowledges acked_from acked ticks all_packets ending progress_within progress out start_world host_event happens
safe = record {
  start_first = λ safe. let same : 255 ≡ 1 = (safe.starts_last 0 0 (omega arith) (omega arith) (0, omega arith, refl)).0 0 (omega arith) in absurd (omega (arith, same));
  outside = λ safe. let same : 254 ≡ 255 = (safe.only 0 (omega arith)).outside 3 (λ inside. let high = inside.1 in absurd (omega (arith, high))) in absurd (omega (arith, same));
  not_loaded = λ safe. let same : 255 ≡ 1 = safe.loaded 0 (omega arith) refl 0 (omega arith) in absurd (omega (arith, same));
  not_started = λ safe. let same : None ≡ Some 0 = safe.started 0 (omega arith) refl refl in absurd (cc);
}

-- a read that was right found the bytes of the load
pub found : (drones : ℕ → DroneState) (events : List WorldEvent) → WasRight reading drones events 0 0 →
    (i : ℕ) × (byte_after drones (take i events) 0 ≡ 1) × (byte_after drones (take i events) 1 ≡ 2) × (byte_after drones (take i events) 2 ≡ 3)
found drones events right = (right.given_at, right.had 0 (omega arith), right.had 1 (omega arith), right.had 2 (omega arith))

pub reads : ReadRows
reads = record {
  found = found;
  unread = λ right. unread right.heard_at right.n right.hears right.after;
}

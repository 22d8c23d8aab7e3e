-- Two drones, computed.
use Rattle.definition_tests.proofs.Prelude.{◌≡◌, ℕ, zero, suc, ◌<◌, ◌++◌, false, true, List, [], ◌∷◌, All, None, Some, ap, ◌∙◌, arith, drop, refl, subst, slice_index, take, All-cons, All-nil, spelling, WorldEvent, Take, Hear, Alter, DroneState, handled, acked, acked_from, acknowledges, all_packets, all_settled, ending, flight_at, flight_in, out, phase_of, progress, progress_within, ticks, WasRight, reply_in, reply_to, is_read, packet_at, packet_count, part_count, read_count, write_count, AcceptsLoad, IsAccepted, IsUnaltered, happens, host_event, start_world, world, DecodesTo, loaded_with}
use Rattle.definition_tests.specs.Pairs.{BothReadRows, PairRows, UploadsRows, both_loaded, both_reading, byte_of_other, one, other, read_back}
use Rattle.definition_tests.proofs.CarriedRows.{alone, entry_is}
use Rattle.definition_tests.proofs.UploadRows.{blank, is_drone, no_hold}

unaltered : IsUnaltered (both_loaded ++ [])
unaltered zero d address value is = absurd (let e : Some (Take 0 0) ≡ Some (Alter d address value) = is in cc)
unaltered (suc zero) d address value is = absurd (let e : Some (Hear 0 0) ≡ Some (Alter d address value) = is in cc)
unaltered (suc (suc zero)) d address value is = absurd (let e : Some (Take 1 0) ≡ Some (Alter d address value) = is in cc)
unaltered (suc (suc (suc zero))) d address value is = absurd (let e : Some (Hear 1 0) ≡ Some (Alter d address value) = is in cc)
unaltered (suc (suc (suc (suc zero)))) d address value is = absurd (let e : Some (Take 0 1) ≡ Some (Alter d address value) = is in cc)
unaltered (suc (suc (suc (suc (suc zero))))) d address value is = absurd (let e : Some (Hear 0 1) ≡ Some (Alter d address value) = is in cc)
unaltered (suc (suc (suc (suc (suc (suc zero)))))) d address value is = absurd (let e : Some (Take 1 1) ≡ Some (Alter d address value) = is in cc)
unaltered (suc (suc (suc (suc (suc (suc (suc zero))))))) d address value is = absurd (let e : Some (Hear 1 1) ≡ Some (Alter d address value) = is in cc)
unaltered (suc (suc (suc (suc (suc (suc (suc (suc i)))))))) d address value is = absurd (let e : None ≡ Some (Alter d address value) = is in cc)

-- the memory of the first drone decodes to 0 mm at its place 2, and not to 60
no_other : DecodesTo (loaded_with (0 ∷ 0 ∷ 0 ∷ [])) 0 other → ⊥
no_other is =
    let at_two : is.entry.offset ≡ 2 = entry_is (0 ∷ 0 ∷ 0 ∷ []) is.entry is.listed in
    let begins = is.begins in
    let cut : spelling one ++ 0 ∷ 0 ∷ 0 ∷ [] ≡ begins.spelled ++ begins.rest = subst (λ (o : ℕ). drop o (loaded_with (0 ∷ 0 ∷ 0 ∷ [])).memory ≡ begins.spelled ++ begins.rest) at_two begins.cut in
    let clash : spelling one ++ 0 ∷ 0 ∷ 0 ∷ [] ≡ spelling other ++ begins.rest = cut ∙ ap (λ (xs : List ℕ). xs ++ begins.rest) begins.spells.text in
    cc

pub pairs : PairRows
unfolding handled part_count write_count read_count packet_at packet_count reply_in reply_to all_settled phase_of flight_in flight_at acknowledges acked_from acked ticks all_packets ending progress_within progress out start_world host_event happens
pairs = record {
  first_says = λ drones fly fresh sent. fly.once_sent false true drones both_loaded [] 0 1 fresh unaltered (omega arith) (omega arith) sent;
  second_says = λ drones fly fresh sent. fly.once_sent false true drones both_loaded [] 1 0 fresh unaltered (omega arith) (omega arith) sent;
  undecoded = λ fly. no_hold (fly.once_sent false true blank both_loaded [] 0 1 (λ d within. is_drone d) unaltered (omega arith) (omega arith) (2, omega arith, refl)).decodes.begins.spells.durations;
  its_own = alone;
  not_its_own = λ is. no_other is.decodes;
  same = λ g readback start old is. no_other (is.carried 1 (omega arith)).decodes;
}

-- a read that was right found the bytes of the second drone's load
found : (drones : ℕ → DroneState) (events : List WorldEvent) → WasRight both_reading drones events 1 0 →
    (i : ℕ) × (byte_of_other drones (take i events) 0 ≡ 4) × (byte_of_other drones (take i events) 1 ≡ 5) × (byte_of_other drones (take i events) 2 ≡ 6)
found drones events right = (right.given_at, right.had 0 (omega arith), right.had 1 (omega arith), right.had 2 (omega arith))

pub both_read : BothReadRows
unfolding part_count read_count write_count packet_count
both_read = record {
  starts_last = λ drones events goes sent. found drones events (goes.starts_last 0 1 0 (omega arith) (omega arith) (omega arith) sent).1;
  verified = λ drones events goes done. found drones events (goes.verified done 1 0 (omega arith) (omega arith));
}

-- of each drone the numbers 0 and 1 are its packets
own : (d : ℕ) → d < 2 → All (λ k. k < packet_count read_back d) (0 ∷ 1 ∷ [])
unfolding part_count read_count write_count packet_count
own zero within = All-cons (λ k. k < 3) 0 (1 ∷ []) (omega arith) (All-cons (λ k. k < 3) 1 [] (omega arith) (All-nil (λ k. k < 3)))
own (suc zero) within = All-cons (λ k. k < 3) 0 (1 ∷ []) (omega arith) (All-cons (λ k. k < 3) 1 [] (omega arith) (All-nil (λ k. k < 3)))
own (suc (suc d)) within = absurd (omega (arith, within))

-- all but its read it accepted
accepted : (drone : DroneState) → ((d : ℕ) → d < 2 → AcceptsLoad read_back d drone (0 ∷ 1 ∷ [])) →
    (d k : ℕ) → d < 2 → k < packet_count read_back d → is_read read_back d k ≡ false → IsAccepted read_back d drone (0 ∷ 1 ∷ []) k
unfolding part_count read_count write_count packet_count
accepted drone accepts d zero within below plain = accepts d within 0 (omega arith)
accepted drone accepts zero (suc zero) within below plain = accepts 0 within 1 (omega arith)
accepted drone accepts (suc zero) (suc zero) within below plain = accepts 1 within 1 (omega arith)
accepted drone accepts zero (suc (suc zero)) within below plain = absurd (let e : true ≡ false = plain in cc)
accepted drone accepts (suc zero) (suc (suc zero)) within below plain = absurd (let e : true ≡ false = plain in cc)
accepted drone accepts zero (suc (suc (suc k))) within below plain = absurd (let low : suc (suc (suc k)) < 3 = below in omega (arith, low))
accepted drone accepts (suc zero) (suc (suc (suc k))) within below plain = absurd (let low : suc (suc (suc k)) < 3 = below in omega (arith, low))
accepted drone accepts (suc (suc d)) (suc k) within below plain = absurd (omega (arith, within))

pub uploads : UploadsRows
unfolding part_count read_count write_count packet_count
uploads = record {
  unread = λ g drone any fresh accepts.
      (any true false (λ d. drone) (λ d. 0 ∷ 1 ∷ []) (λ d. []) (λ d within. fresh) own (accepted drone accepts)).carried 1 (omega arith);
  stored = λ g drones events up fresh alone done. (up.stored true false drones events [] fresh alone done).carried 1 (omega arith);
  in_any_order = λ g drone up fresh accepts.
      (up.in_any_order true false (λ d. drone) (λ d. 0 ∷ 1 ∷ []) (λ d. []) (λ d within. fresh) own (accepted drone accepts)).carried 1 (omega arith);
  flown = λ g drones up fresh sent. up.flown.once_sent false true drones both_loaded [] 0 1 fresh unaltered (omega arith) (omega arith) sent;
  each = λ g drones events up fresh done. sixty drones events ((up.each true false drones events fresh).verified done 1 0 (omega arith) some_read);
}
  where
    some_read : 0 < read_count read_back 1
    some_read = omega arith

    sixty : (drones : ℕ → DroneState) (events : List WorldEvent) → WasRight read_back drones events 1 0 → (i : ℕ) × (slice_index ((world read_back drones (take i events)).drones 1).memory 2 ≡ 60)
    sixty drones events right = (right.given_at, right.had 0 (omega arith))

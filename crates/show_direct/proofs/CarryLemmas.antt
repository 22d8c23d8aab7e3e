-- An exchange that is carried, from what its steps did.
use Rattle.show_direct.proofs.Prelude.{◌≡◌, ◌⊎◌, inl, inr, ℕ, ◌+◌, ◌<◌, ◌≤◌, Bool, true, false, List, [], ◌∷◌, ◌++◌, Contains, append_assoc, append-nil, length, length-append, Option, Some, None, Result, Ok, Err, refl, sym, ap, subst, ◌∙◌, arith, append_cancel_left, append_cancel_right, Appends, part_of, rest_of, ShowLaw, PlainShow, Rose, buffer_bytes, has_whole_marker, MarkerLaw, AppendsFront, Held, Told, Went, most_text, end_byte, end_frame, Refusal, accepted_outcome, refused_outcome, refused_some, IsAccepted, IsRefusedBy, Wrote, IsOfInput, show_refusal, text_refusal, cut_of, IsJudged, Span, outcome, Accepted, Unflown, Accepts, Exchange, TextStops, text_exchange, text_verb, text_ways, FlightOptions, Flight, HasBegun, no_flight_byte, AreMarked, Carries, FlightRead, IsCut, IsRead, IsUnread, LeadsTo, coming, direct_statuses, left_of, since}
use Rattle.std.proofs.lemmas.Grind.{common_steps}
use Rattle.choreo_reader.specs.Grammar.{StandsFor}
use Rattle.byte_streams.proofs.MarkerLaws.{whole_marker-front}
use Rattle.refusals.specs.Refusals.{status_of}
use Rattle.show_judge.proofs.RunLemmas.{refused_among, refused_judged}
use Rattle.show_judge.proofs.TextLemmas.{stands_unrefused}
use Rattle.show_direct.specs.declared.reading.Unflown.TheVariants as unflown

-- ---- what was written

-- a byte that begins neither an end frame nor the frame of a cause isn't the first of one
pub never_front : (first : ℕ) (others : List ℕ) (old new : Option (List ℕ)) → (first ≡ end_byte) ⊎ (first ≡ no_flight_byte) → AppendsFront old new (first ∷ others) → HasBegun old new → ⊥
never_front first others old new ends (sent, rest, e, appends) (before, later, byte, is, is_new, no_end, no_cause) =
    let grown : before ++ byte ∷ later ≡ before ++ sent = rw (is, is_new) at appends in
    let same : byte ∷ later ≡ sent = append_cancel_left before (byte ∷ later) sent grown in
    let whole : first ∷ others ≡ byte ∷ (later ++ rest) = e ∙ ap (λ (xs : List ℕ). xs ++ rest) (sym same) in
    let begins : byte ≡ first = cc in
    elim ends [
      | inl ending ↦ no_end (begins ∙ ending)
      | inr cause ↦ no_cause (begins ∙ cause)
    ]

pub never_appended : (first : ℕ) (others : List ℕ) (old new : Option (List ℕ)) → (first ≡ end_byte) ⊎ (first ≡ no_flight_byte) → Appends old new (first ∷ others) → HasBegun old new → ⊥
never_appended first others old new ends appends begun =
    never_front first others old new ends (first ∷ others, [], sym (append-nil (first ∷ others)), appends) begun

-- nor the first of an end frame alone
never_end_front : (status : ℕ) (old new : Option (List ℕ)) → AppendsFront old new (end_frame status) → HasBegun old new → ⊥
never_end_front status old new front begun = never_front end_byte (status ∷ []) old new (inl refl) front begun

never_end : (status : ℕ) (old new : Option (List ℕ)) → Appends old new (end_frame status) → HasBegun old new → ⊥
never_end status old new appends begun = never_appended end_byte (status ∷ []) old new (inl refl) appends begun

-- nor is anything where nothing was written
never_same : (old new : Option (List ℕ)) → new ≡ old → HasBegun old new → ⊥
never_same old new same (before, later, byte, is, is_new, no_end, no_cause) =
    let both : Some before ≡ Some (before ++ byte ∷ later) = sym is ∙ sym same ∙ is_new in
    let grown : before ≡ before ++ byte ∷ later = cc in
    omega (arith, ap (λ (xs : List ℕ). length xs) grown, length-append before (byte ∷ later))

rose_later : (a b c : ℕ) → a ≤ b → Rose b c → Rose a c
rose_later a b c later rose = grind (arith, common_steps)

-- ---- a show that is accepted

-- one text is accepted as one that has the same part
accepts_as : (depth : ℕ) (bytes other : List ℕ) (s : PlainShow) → part_of bytes ≡ part_of other → Accepts depth bytes s → Accepts depth other s
accepts_as depth bytes other s same accepts = record {
  short = subst (λ (text : List ℕ). length text ≤ most_text) same accepts.short;
  stands = subst (λ (text : List ℕ). StandsFor text s) same accepts.stands;
  accepted = accepts.accepted;
}

accepts_of : (depth : ℕ) (bytes : List ℕ) (a : Accepted) → (is : IsAccepted (text_ways depth) depth (cut_of bytes) a) → Accepts depth bytes is.s
accepts_of depth bytes a is = record { short = is.short; stands = is.stands; accepted = is.accepted }

-- bytes that stand before others, and come to the same, are none
none_before : (ys xs : List ℕ) → xs ≡ ys ++ xs → ys ≡ []
none_before [] xs e = refl
none_before (y ∷ ys) xs e = absurd (omega (arith, ap length e, length-append ys xs))

-- a read failed in what the show leads to
cut_next : MarkerLaw → (depth : ℕ) (next : PlainShow → Exchange) (s : PlainShow) (bytes left : List ℕ) (ended met : Bool) (m : Span) (mid : Told) (output : List ℕ) →
    Accepts depth bytes s → (met ≡ false → AreMarked bytes (rest_of bytes)) → (met ≡ false → ended ≡ false) → m.told.faults ≤ mid.faults →
    IsCut (next s) (rest_of bytes) left met (record m { told = mid }) output → IsCut (text_exchange depth next) bytes left ended m output
cut_next marker depth next s bytes left ended met m mid output accepts fed back later cut =
    let text = fed cut.unmet in
    let whole = marker text.0 (rest_of bytes) text.2 in
    let short = marker text.0 cut.taken text.2 in
    let none : rest_of text.0 ≡ [] = none_before (rest_of text.0) (rest_of bytes) (ap (λ (xs : List ℕ). rest_of xs) text.1 ∙ whole.1) in
    let part : part_of bytes ≡ part_of (text.0 ++ cut.taken) = ap (λ (xs : List ℕ). part_of xs) text.1 ∙ whole.0 ∙ sym short.0 in
    let frames : cut.taken ≡ rest_of (text.0 ++ cut.taken) = sym (short.1 ∙ ap (λ (xs : List ℕ). xs ++ cut.taken) none) in
    let stops : TextStops depth next true (text.0 ++ cut.taken) output =
    (s, accepts_as depth bytes (text.0 ++ cut.taken) s part accepts, subst (λ (xs : List ℕ). (next s).stops xs output) frames cut.stops) in
    record {
      rose = rose_later m.told.faults mid.faults m.tells.faults later cut.rose;
      unmet = back cut.unmet;
      taken = text.0 ++ cut.taken;
      is = text.1 ∙ ap (λ (xs : List ℕ). text.0 ++ xs) cut.is ∙ sym (append_assoc text.0 cut.taken left);
      stops = subst (λ (b : Bool). TextStops depth next b (text.0 ++ cut.taken) output) (sym (whole_marker-front text.0 cut.taken text.2)) stops;
    }

-- A show was accepted, and what it leads to was carried.
carried_next : ShowLaw → MarkerLaw → (depth : ℕ) (next : PlainShow → Exchange) (bytes left : List ℕ) (ended met : Bool) (a : Accepted) (m : Span) (mid : Told) (status : ℕ) →
    (is : IsAccepted (text_ways depth) depth (cut_of bytes) a) → (met ≡ false → AreMarked bytes (rest_of bytes)) → (met ≡ false → ended ≡ false) → m.told.faults ≤ mid.faults →
    Carries (next is.s) (rest_of bytes) left met (record m { told = mid }) status → Carries (text_exchange depth next) bytes left ended m status
carried_next show marker depth next bytes left ended met a m mid status is fed back later c =
    let accepts = accepts_of depth bytes a is in
    let cut : (output : List ℕ) → IsCut (next is.s) (rest_of bytes) left met (record m { told = mid }) output → IsCut (text_exchange depth next) bytes left ended m output =
    λ output it. cut_next marker depth next is.s bytes left ended met m mid output accepts fed back later it in
    record {
      gives = λ judged. (let it = c.gives judged in (it.0, accepted_outcome (text_verb depth next) depth (cut_of bytes) a it.0 is it.1, it.2, it.3));
      one = c.one;
      six = λ six. (let it = c.six six in (it.0, cut it.0 it.1, it.2));
      seven = λ seven.
          (let it = c.seven seven in (
            it.0,
            (
              it.1.0,
              it.1.1,
              elim it.1.2 [
                | inl gives ↦ inl (gives.0, accepted_outcome (text_verb depth next) depth (cut_of bytes) a gives.0 is gives.1, gives.2)
                | inr broken ↦ inr (cut it.1.0 broken)
              ],
            ),
          ));
      prompt = λ seven taken sent before split old new whole s others.
          (let halves = marker taken left whole in
          let same : is.s ≡ s = show.one (part_of taken) is.s s
          (subst (λ (text : List ℕ). StandsFor text is.s) (ap (λ (xs : List ℕ). part_of xs) split ∙ halves.0) is.stands) others.stands in
          subst (λ (p : PlainShow). (next p).prompt (rest_of taken) sent) same
          (c.prompt seven (rest_of taken) sent before (ap (λ (xs : List ℕ). rest_of xs) split ∙ halves.1) old new));
      ends = λ judged. record {
        accepted = λ s others. subst (λ (p : PlainShow). (next p).ends (rest_of bytes) left) (show.one (part_of bytes) is.s s is.stands others.stands) (c.ends judged);
        refused = λ none. absurd (none is.s accepts);
      };
      begun = λ began. record { s = is.s; accepts = accepts; safe = is.safe; begun = c.begun began };
      known = c.known;
      reads_later = omega (arith, later, c.reads_later);
      writes_later = c.writes_later;
    }

-- a reader that has met no end now hadn't met it before
pub unmet_before : (met meets : Bool) (t u : Told) → Went met meets t u → meets ≡ false → met ≡ false
unmet_before false meets t u went off = refl
unmet_before true meets t u went off = absurd (let on = (went.stays refl).0 in let e : false ≡ true = sym off ∙ on in cc)

-- Where a show was read, what it leads to goes on for the text.
leads : ShowLaw → MarkerLaw → (depth : ℕ) (next : PlainShow → Exchange) (all : List ℕ) (held holds : Held) (t u : Told) (a : Accepted) →
    (read : IsRead depth (coming held all t) (coming holds all u) holds.ended a) → Went held.ended holds.ended t u → LeadsTo all (text_exchange depth next) held t (next read.accepted.s) holds u
leads show marker depth next all held holds t u a read went left m status c =
    carried_next show marker depth next (coming held all t) left held.ended holds.ended a (since t m) u status read.accepted (λ off. subst (AreMarked (coming held all t)) read.after (read.fed off))
    (unmet_before held.ended holds.ended t u went) went.gives.later
    (subst (λ (xs : List ℕ). Carries (next read.accepted.s) xs left holds.ended (since u m) status) read.after c)

-- ---- no show

-- a text that is refused isn't accepted as any show
unrefused : (r : Option Refusal) (why : Refusal) → r ≡ None → r ≡ Some why → ⊥
unrefused r why none is = absurd (cc)

refused_none : ShowLaw → (depth : ℕ) (bytes : List ℕ) (r : Refusal) → IsRefusedBy (text_ways depth) (cut_of bytes) r → (s : PlainShow) → Accepts depth bytes s → ⊥
refused_none show depth bytes r (inl is) s accepts = unrefused (text_refusal (part_of bytes)) r (stands_unrefused show (part_of bytes) s accepts.short accepts.stands) is
refused_none show depth bytes r (inr (t, short, stands, is)) s accepts =
    unrefused (show_refusal (text_ways depth) (cut_of bytes) s) r accepts.accepted
    (subst (λ (p : PlainShow). show_refusal (text_ways depth) (cut_of bytes) p ≡ Some r) (show.one (part_of bytes) t s stands accepts.stands) is)

-- What these bytes lead to was written, an end frame or the frame of a cause first.
pub carried_end : (x : Exchange) (bytes left : List ℕ) (ended : Bool) (m : Span) (n first : ℕ) (others : List ℕ) (status : ℕ) → x.gives bytes (outcome n (first ∷ others)) →
    (first ≡ end_byte) ⊎ (first ≡ no_flight_byte) → Contains direct_statuses n → IsJudged n → (n ≡ 0 → ⊥) → x.ends bytes left →
    ((taken sent : List ℕ) → bytes ≡ taken ++ left → x.prompt taken sent) → m.told.faults ≤ m.tells.faults →
    Wrote n (first ∷ others) m.written m.written_after m.writes_failed m.writes_failed_after status → Carries x bytes left ended m status
carried_end x bytes left ended m n first others status gives begins known judged some ends prompt later (inl (e, appends, writes)) = record {
  gives = λ j. (outcome n (first ∷ others), gives, e, appends);
  one = λ one. absurd (judged.0 (sym e ∙ one));
  six = λ six. absurd (judged.1 (sym e ∙ six));
  seven = λ seven. absurd (judged.2 (sym e ∙ seven));
  prompt = λ seven taken sent before split old new. prompt taken sent split;
  ends = λ j. ends;
  begun = elim [
    | inl began ↦ absurd (never_appended first others m.written m.written_after begins appends began)
    | inr done ↦ absurd (some (sym e ∙ done))
  ];
  known = subst (Contains direct_statuses) (sym e) known;
  reads_later = later;
  writes_later = writes;
}
carried_end x bytes left ended m n first others status gives begins known judged some ends prompt later (inr (e, rose, front, writes)) = record {
  gives = λ j. absurd (j.2 e);
  one = λ one. absurd (omega (arith, one, e));
  six = λ six. absurd (omega (arith, six, e));
  seven = λ seven. (rose, (first ∷ others, front, inl (outcome n (first ∷ others), gives, refl)));
  prompt = λ seven taken sent before split old new. prompt taken sent split;
  ends = λ j. ends;
  begun = elim [
    | inl began ↦ absurd (never_front first others m.written m.written_after begins front began)
    | inr done ↦ absurd (omega (arith, done, e))
  ];
  known = subst (Contains direct_statuses) (sym e) (6, omega arith, refl);
  reads_later = later;
  writes_later = writes;
}

-- the end frame of a refusal was written
carried_refusal : ShowLaw → MarkerLaw → (depth : ℕ) (next : PlainShow → Exchange) (bytes left : List ℕ) (ended : Bool) (m : Span) (r : Refusal) (status : ℕ) →
    IsRefusedBy (text_ways depth) (cut_of bytes) r → IsOfInput r → length (rest_of bytes) ≤ length left + buffer_bytes → m.told.faults ≤ m.tells.faults →
    Wrote (status_of r) (end_frame (status_of r)) m.written m.written_after m.writes_failed m.writes_failed_after status → Carries (text_exchange depth next) bytes left ended m status
carried_refusal show marker depth next bytes left ended m r status is of_input few later wrote =
    let none = refused_none show depth bytes r is in
    carried_end (text_exchange depth next) bytes left ended m (status_of r) end_byte (status_of r ∷ []) status (refused_outcome (text_verb depth next) (cut_of bytes) r is) (inl refl)
    (refused_among r of_input) (refused_judged r of_input) (refused_some r)
    (record { accepted = λ s accepts. absurd (none s accepts); refused = λ unflown. few })
    (λ taken sent split whole s accepts. absurd (none s (accepts_as depth taken bytes s (sym (ap (λ (xs : List ℕ). part_of xs) split ∙ (marker taken left whole).0)) accepts)))
    later wrote

-- the end frame of a failed read was written
carried_failed : (depth : ℕ) (next : PlainShow → Exchange) (bytes left taken : List ℕ) (ended : Bool) (m : Span) (status : ℕ) →
    ended ≡ false → Rose m.told.faults m.tells.faults → bytes ≡ taken ++ left → has_whole_marker taken ≡ false → m.told.faults ≤ m.tells.faults →
    Wrote 6 (end_frame 6) m.written m.written_after m.writes_failed m.writes_failed_after status → Carries (text_exchange depth next) bytes left ended m status
carried_failed depth next bytes left taken ended m status unmet rose is none later wrote =
    let cut : IsCut (text_exchange depth next) bytes left ended m (end_frame 6) = record {
      rose = rose;
      unmet = unmet;
      taken = taken;
      is = is;
      stops = subst (λ (b : Bool). TextStops depth next b taken (end_frame 6)) (sym none) refl;
    } in
    elim wrote [
      | inl (e, appends, writes) ↦ record {
        gives = λ j. absurd (j.1 e);
        one = λ one. absurd (omega (arith, one, e));
        six = λ six. (end_frame 6, cut, appends);
        seven = λ seven. absurd (omega (arith, seven, e));
        prompt = λ seven. absurd (omega (arith, seven, e));
        ends = λ j. absurd (j.1 e);
        begun = elim [
          | inl began ↦ absurd (never_end 6 m.written m.written_after appends began)
          | inr done ↦ absurd (omega (arith, done, e))
        ];
        known = subst (Contains direct_statuses) (sym e) (5, omega arith, refl);
        reads_later = later;
        writes_later = writes;
      }
      | inr (e, failed, front, writes) ↦ record {
        gives = λ j. absurd (j.2 e);
        one = λ one. absurd (omega (arith, one, e));
        six = λ six. absurd (omega (arith, six, e));
        seven = λ seven. (failed, (end_frame 6, front, inr cut));
        prompt = λ seven others sent before split old new whole s accepts.
            absurd (let same : taken ≡ others = append_cancel_right taken others left (sym is ∙ split) in
            let off : false ≡ true = sym none ∙ ap (λ (xs : List ℕ). has_whole_marker xs) same ∙ whole in
            cc);
        ends = λ j. absurd (j.2 e);
        begun = elim [
          | inl began ↦ absurd (never_end_front 6 m.written m.written_after front began)
          | inr done ↦ absurd (omega (arith, done, e))
        ];
        known = subst (Contains direct_statuses) (sym e) (6, omega arith, refl);
        reads_later = later;
        writes_later = writes;
      }
    ]

-- out of memory, and nothing was written
pub carried_memory : (x : Exchange) (bytes left : List ℕ) (ended : Bool) (m : Span) (status : ℕ) → m.told.faults ≤ m.tells.faults → status ≡ 1 → m.written_after ≡ m.written →
    m.writes_failed_after ≡ m.writes_failed → Carries x bytes left ended m status
carried_memory x bytes left ended m status later e same faults = record {
  gives = λ j. absurd (j.0 e);
  one = λ one. (same, faults);
  six = λ six. absurd (omega (arith, six, e));
  seven = λ seven. absurd (omega (arith, seven, e));
  prompt = λ seven. absurd (omega (arith, seven, e));
  ends = λ j. absurd (j.0 e);
  begun = elim [
    | inl began ↦ absurd (never_same m.written m.written_after same began)
    | inr done ↦ absurd (omega (arith, done, e))
  ];
  known = subst (Contains direct_statuses) (sym e) (1, omega arith, refl);
  reads_later = later;
  writes_later = omega (arith, faults);
}

-- No show was read.
pub ends : ShowLaw → MarkerLaw → (depth : ℕ) (next : PlainShow → Exchange) (o : FlightOptions) (all : List ℕ) (held holds : Held) (t u : Told) (why : Unflown) →
    IsUnread depth (coming held all t) (left_of all u) held.ended t.faults u.faults why → t.faults ≤ u.faults → FlightRead o all (text_exchange depth next) held t holds u (Err why)
ends show marker depth next o all held holds t u (unflown.Refused r) is later m status wrote =
    carried_refusal show marker depth next (coming held all t) (left_of all u) held.ended (since t (record m { tells = u })) r status is.0 is.1 is.2 later wrote
ends show marker depth next o all held holds t u unflown.Read is later m status wrote =
    carried_failed depth next (coming held all t) (left_of all u) is.2.0 held.ended (since t (record m { tells = u })) status is.0 is.1 is.2.1 is.2.2 later wrote
ends show marker depth next o all held holds t u (unflown.NoFlight f) is later m status wrote = absurd is
ends show marker depth next o all held holds t u unflown.Memory is later m status wrote =
    carried_memory (text_exchange depth next) (coming held all t) (left_of all u) held.ended (since t (record m { tells = u })) status later wrote.0 wrote.1 wrote.2

-- A show was read, and then what it leads to.
pub read_next : ShowLaw → MarkerLaw → (depth : ℕ) (next : PlainShow → Exchange) (o : FlightOptions) (all : List ℕ) (held mid holds : Held) (t v u : Told) (a : Accepted) (result : Result Flight Unflown) →
    (read : IsRead depth (coming held all t) (coming mid all v) mid.ended a) → Went held.ended mid.ended t v → FlightRead o all (next read.accepted.s) mid v holds u result →
    FlightRead o all (text_exchange depth next) held t holds u result
read_next show marker depth next o all held mid holds t v u a (Ok f) read went (up, middle, down, made, none, later) =
    (up, middle, down, made, none, λ left m status c. leads show marker depth next all held mid t v a read went left m status (later left m status c))
read_next show marker depth next o all held mid holds t v u a (Err why) read went later =
    λ m status wrote. leads show marker depth next all held mid t v a read went (left_of all u) (record m { tells = u }) status (later m status wrote)

-- where the text is too large no show was read
pub little_read : (depth : ℕ) (bytes rest : List ℕ) (met : Bool) (a : Accepted) (P : Type 0) → IsRead depth bytes rest met a → most_text < length (part_of bytes) → P
little_read depth bytes rest met a P read long = absurd (omega (arith, long, read.accepted.short))

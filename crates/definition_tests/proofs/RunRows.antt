-- Small runs, computed.
use Rattle.definition_tests.proofs.Prelude.{◌≡◌, ◌⊎◌, ℕ, ◌<◌, ◌≤◌, ◌++◌, pos, List, [], ◌∷◌, All, None, Some, Contains, ap, get_or, inl, inr, length, arith, refl, sym, ◌∙◌, common_steps, All-head, Option, bernstein, raised_value, polar, segment_speed, speed, speed_of, widest_part, widest_step, part_of, rest_of, Traj, PlainShow, Settings, FlyTheirOwn, Cut, cut_of, flight, stay, no_time, settings, no_text}
use Rattle.byte_streams.specs.Causes.{Rose}
use Rattle.byte_streams.specs.Taken.{AppendsFront}
use Rattle.refusals.specs.declared.refusal.Refusal.{Refusal}
use Rattle.refusals.specs.Lines.{read_line}
use Rattle.show_judge.specs.Outcome.{IsOutcomeOf, IsSound, ShowGives}
use Rattle.show_judge.specs.Refused.{show_refusal}
use Rattle.show_judge.specs.Runs.{IsOutput}
use Rattle.show_judge.specs.Verb.{Judges, Outcome, nothing, outcome, own_text, run_of, the_input}
use Rattle.show_studies.specs.Speeds.{KeepsBounds}
use Rattle.definition_tests.specs.Runs.{BegunRows, BehavesRows, OutcomeRows, RunsRows, SaysRows, TakenRows, VerbRows, loose, says}
use Rattle.definition_tests.proofs.LandedRows.{touch}
use Rattle.definition_tests.proofs.UploadRows.{uploads}
use Rattle.definition_tests.proofs.WholeRows.{no_show}

-- a count that stays small did not rise
not_rose : (n : ℕ) → n < 3 → Rose n n → ⊥
not_rose n small (inl less) = omega (arith, less)
not_rose n small (inr last) = let e : n ≡ 18446744073709551615 = last in omega (arith, e, small)

fell : Rose 2 1 → ⊥
fell (inl less) = omega (arith, less)
fell (inr last) = let e : ◌≡◌ {A = ℕ} 1 18446744073709551615 = last in omega (arith, e)

-- the first bytes of two lists that are the same
first : (xs ys : List ℕ) → xs ≡ ys → get_or xs 0 0 ≡ get_or ys 0 0
first xs ys same = ap (λ (bytes : List ℕ). get_or bytes 0 0) same

-- what stands before the last byte isn't the first one
front : (taken : List ℕ) → 1 ∷ [] ≡ taken ++ 2 ∷ [] → ⊥
front [] same = let e : ◌≡◌ {A = ℕ} 1 2 = first (1 ∷ []) (2 ∷ []) same in omega (arith, e)
front (x ∷ []) same = let e : ◌≡◌ {A = ℕ} 1 2 = ap length same in omega (arith, e)
front (x ∷ y ∷ zs) same = let e : 1 ≡ length (x ∷ y ∷ (zs ++ 2 ∷ [])) = ap length same in omega (arith, e)

other_front : AppendsFront (Some []) (Some (8 ∷ [])) (7 ∷ 8 ∷ []) → ⊥
other_front is =
    let sent : 8 ∷ [] ≡ is.0 = is.3 in
    let whole : 7 ∷ 8 ∷ [] ≡ (8 ∷ []) ++ is.1 = is.2 ∙ ap (λ (bytes : List ℕ). bytes ++ is.1) (sym sent) in
    let e : ◌≡◌ {A = ℕ} 7 8 = first (7 ∷ 8 ∷ []) (8 ∷ is.1) whole in omega (arith, e)

pub taken : TakenRows
taken = record {
  rose = inl (omega arith);
  stayed = not_rose 1 (omega arith);
  fell = fell;
  last = inr refl;
  took = (1 ∷ [], refl);
  took_another = λ is. front is.0 is.1;
  took_two = omega arith;
  took_more = λ is. let e : 2 ≤ 1 = is in omega (arith, e);
  wrote_front = (7 ∷ [], 8 ∷ [], refl, refl);
  wrote_another = other_front;
  gave = record { bytes = 2 ∷ []; given = refl; left = tt; at_end = λ old new. tt; later = omega arith };
  gave_another = λ is. let e : ◌≡◌ {A = ℕ} 2 1 = first (2 ∷ []) (1 ∷ is.bytes) is.given in omega (arith, e);
  fewer = λ is. let e : 1 ≤ 0 = is.later in omega (arith, e);
  all = record { rest = []; is = refl; none = λ met. refl };
  all_and_more = λ is. let e : 2 ∷ [] ≡ is.rest = cc in let none : is.rest ≡ [] = is.none refl in let both : 2 ∷ [] ≡ [] = e ∙ none in absurd (cc);
  others = λ is. let e : ◌≡◌ {A = ℕ} 2 1 = first (2 ∷ []) (1 ∷ is.rest) is.is in omega (arith, e);
}

-- nothing was written, so no byte was
nothing_begun : (before later : List ℕ) (byte : ℕ) → Some [] ≡ Some before → Some [] ≡ Some (before ++ byte ∷ later) → ⊥
nothing_begun [] later byte old new = let e : Some [] ≡ Some (byte ∷ later) = new in absurd (cc)
nothing_begun (b ∷ before) later byte old new = let e : Some [] ≡ Some (b ∷ before) = old in absurd (cc)

-- the byte after nothing is the first one
byte_is : (before later bytes : List ℕ) (byte : ℕ) → Some [] ≡ Some before → Some bytes ≡ Some (before ++ byte ∷ later) → get_or bytes 0 0 ≡ byte
byte_is [] later bytes byte old new = let e : bytes ≡ byte ∷ later = cc in ap (λ (it : List ℕ). get_or it 0 0) e
byte_is (b ∷ before) later bytes byte old new = let e : Some [] ≡ Some (b ∷ before) = old in absurd (cc)

pub begun : BegunRows
begun = record {
  packet = (7 ∷ [], 1 ∷ [], refl, refl);
  upload_ends = λ is. let e : ◌≡◌ {A = ℕ} 69 80 = byte_is is.0 is.1 (69 ∷ 9 ∷ []) 80 is.2 is.3 in omega (arith, e);
  nothing = λ is. nothing_begun is.0 is.1 80 is.2 is.3;
  order = (7 ∷ [], 0 ∷ [], 1, refl, refl, (λ e. omega (arith, e)), (λ e. omega (arith, e)));
  flight_ends = λ is. let e : 69 ≡ is.2 = byte_is is.0 is.1 (69 ∷ 9 ∷ []) is.2 is.3 is.4 in is.5 (sym e);
  no_flight = λ is. let e : 5 ≡ is.2 = byte_is is.0 is.1 (5 ∷ 1 ∷ []) is.2 is.3 is.4 in is.6 (sym e);
  nobody = λ is. nothing_begun is.0 is.1 is.2 is.3 is.4;
}

other_output : outcome 0 [] ≡ outcome 0 (7 ∷ []) → ⊥
other_output same = let e : ◌≡◌ {A = ℕ} 0 7 = ap (λ (o : Outcome). get_or o.output 0 0) same in omega (arith, e)

pub outcomes : OutcomeRows
unfolding part_of rest_of
outcomes = record {
  own = refl;
  other_status = λ is. let e : ◌≡◌ {A = ℕ} 3 0 = ap (λ (o : Outcome). o.status) is in omega (arith, e);
  other_output = other_output;
  safe = refl;
  unsafe = other_output;
  no_safe_show = λ o is. no_show is.s is.stands;
}

-- what gives each outcome gives each of an accepted show
given : (r : Option Refusal) (s : PlainShow) (cut : Cut) (o : Outcome) → r ≡ None → ShowGives loose r s cut o
given None s cut o none = tt
given (Some why) s cut o none = let e : Some why ≡ None = none in absurd (cc)

each : (cut : Cut) (o : Outcome) → IsSound loose cut → IsOutcomeOf loose cut o
each cut o sound = inr (record {
  s = sound.s;
  short = sound.short;
  stands = sound.stands;
  gives = given (show_refusal loose.ways cut sound.s) sound.s cut o sound.accepted;
})

pub verbs : VerbRows
verbs = record {
  rules = record {
    one = λ s cut o p first second. first ∙ sym second;
    some = λ s cut known. (outcome 0 (7 ∷ []), refl);
    done = λ s cut o gives succeeds. ap (λ (it : Outcome). it.status) gives;
    apart = λ depth s cut is apart. tt;
    headline = λ input o old new safe written. rw (ap (λ (it : Outcome). it.output) safe) at written;
  };
  two_outcomes = λ is.
      let same = is.one stay (cut_of []) (outcome 0 []) (outcome 3 []) tt tt in
      let e : ◌≡◌ {A = ℕ} 0 3 = ap (λ (o : Outcome). o.status) same in omega (arith, e);
  no_outcome = λ is. (is.some stay (cut_of []) tt).1;
  not_done = λ is. let e : ◌≡◌ {A = ℕ} 3 0 = is.done stay (cut_of []) (outcome 3 []) refl tt in omega (arith, e);
  not_promised = λ apart is. is.apart 6 stay (cut_of []) refl apart;
  not_said = λ is. is.headline [] (outcome 0 (7 ∷ [])) (Some []) (Some (7 ∷ [])) refl refl;
  two_of_an_input = λ cut law sound.
      let same = law.one cut (outcome 0 []) (outcome 3 []) (each cut (outcome 0 []) sound) (each cut (outcome 3 []) sound) in
      let e : ◌≡◌ {A = ℕ} 0 3 = ap (λ (o : Outcome). o.status) same in omega (arith, e);
  not_complete = λ cut law complete.
      let e : ◌≡◌ {A = ℕ} 3 0 = law.complete cut (outcome 3 []) complete (each cut (outcome 3 []) complete.0) in omega (arith, e);
}

-- what a command that judges nothing would have written begins with its byte
says_eight : (output : List ℕ) → IsOutput says (run_of (Some []) (Some []) 0 0 (Some []) (Some (8 ∷ [])) 0 1) output →
    AppendsFront (Some []) (Some (8 ∷ [])) output → ⊥
says_eight output (inl is) sent =
    let of : output ≡ 7 ∷ [] = is.2 ∙ ap (λ (o : Outcome). o.output) is.1 in
    let eight : 8 ∷ [] ≡ sent.0 = sent.3 in
    let whole : 7 ∷ [] ≡ (8 ∷ []) ++ sent.1 = sym of ∙ sent.2 ∙ ap (λ (bytes : List ℕ). bytes ++ sent.1) (sym eight) in
    let e : ◌≡◌ {A = ℕ} 7 8 = first (7 ∷ []) (8 ∷ sent.1) whole in omega (arith, e)
says_eight output (inr is) sent = not_rose 0 (omega arith) is.0

-- what judges nothing ends with 0 and its byte, or with 7
always_says : (status : ℕ) (output : List ℕ) → status ≤ 6 → (status ≡ 7) ⊎ ((status ≡ 0) × (output ≡ 7 ∷ [])) → (status ≡ 0) × (output ≡ 7 ∷ [])
always_says status output low (inl is) = absurd (omega (arith, low, is))
always_says status output low (inr is) = is

no_byte : ◌≡◌ {A = List ℕ} [] (7 ∷ []) → ⊥
no_byte same = let e : ◌≡◌ {A = ℕ} 0 7 = first [] (7 ∷ []) same in omega (arith, e)

-- a status that no command has is none of the list
unlisted : (status : ℕ) → Contains (0 ∷ 1 ∷ 3 ∷ 4 ∷ 5 ∷ 6 ∷ 7 ∷ 8 ∷ 9 ∷ 10 ∷ 11 ∷ 12 ∷ 13 ∷ 14 ∷ 15 ∷ 16 ∷ 18 ∷ 19 ∷ 20 ∷ []) status →
    (status ≡ 2) ⊎ (status ≡ 17) ⊎ (status ≡ 21) → ⊥
unlisted status is others = grind (arith, common_steps, is, others)

-- what a command that judges nothing writes
abbrev lines_of : Judges → List ℕ
lines_of (nothing output) = output
lines_of the_input = []
lines_of (own_text text) = []

pub runs : RunsRows
unfolding part_of rest_of
runs = record {
  lines = record {
    outcome = λ judged. (outcome 0 (7 ∷ []), refl, refl, refl);
    exact = λ none o is. inl (sym (ap (λ (it : Outcome). it.status) is), sym (ap (λ (it : Outcome). it.output) is));
    safe = λ zero. (outcome 0 (7 ∷ []), refl, refl);
    whole = λ zero all. refl;
    one = λ e. absurd (omega (arith, e));
    always = λ output is. inr (refl, ap lines_of is);
    six = λ e. absurd (omega (arith, e));
    stopped = λ e. absurd (omega (arith, e));
    seven = λ e. absurd (omega (arith, e));
    prompt = λ e. tt;
    unread = λ none. (refl, refl);
    known = (0, omega arith, refl);
    taken = ([], refl);
    reads_later = omega arith;
    writes_later = omega arith;
  };
  unwritten = λ is. no_byte (always_says 0 [] (omega arith) (is.always (7 ∷ []) refl)).1;
  other_status = λ is.
      let both = always_says 3 (7 ∷ []) (omega arith) (is.always (7 ∷ []) refl) in let e : ◌≡◌ {A = ℕ} 3 0 = both.0 in omega (arith, e);
  no_show = λ is. let safe = is.safe refl in no_show safe.1.s safe.1.stands;
  left = λ is. let e : Some (10 ∷ []) ≡ Some [] = is.whole refl refl in absurd (cc);
  wrote = λ is. let e : Some (7 ∷ []) ≡ Some [] = (is.one refl).0 in absurd (cc);
  read_well = λ is. not_rose 0 (omega arith) (is.six refl).0;
  unstopped = λ is.
      let stopped = is.stopped refl in
      let line : stopped.0 ≡ read_line = stopped.1.4 in
      let none : [] ≡ stopped.0 = stopped.2 in
      let e : ◌≡◌ {A = ℕ} 0 101 = first [] read_line (none ∙ line) in omega (arith, e);
  wrote_well = λ is. not_rose 0 (omega arith) (is.seven refl).0;
  cut = λ is. let seven = (is.seven refl).1 in says_eight seven.0 seven.1 seven.2;
  late = λ is. is.prompt refl;
  read = λ is. let e : Some [] ≡ Some (1 ∷ []) = (is.unread refl).0 in absurd (cc);
  usage = λ is. unlisted 2 is.known (inl refl);
  arguments = λ is. unlisted 17 is.known (inr (inl refl));
  above = λ is. unlisted 21 is.known (inr (inr refl));
  other_bytes = λ is. front is.taken.0 is.taken.1;
  fewer_reads = λ is. let e : 1 ≤ 0 = is.reads_later in omega (arith, e);
  fewer_writes = λ is. let e : 1 ≤ 0 = is.writes_later in omega (arith, e);
}

-- a run without a fault that ends with 3 doesn't complete
uncomplete : ◌⊎◌ (◌≡◌ {A = ℕ} 3 0) (◌≡◌ {A = ℕ} 3 1) → ⊥
uncomplete (inl e) = omega (arith, e)
uncomplete (inr e) = omega (arith, e)

pub behaves : BehavesRows
behaves = record {
  runs = λ is. runs.unwritten is.runs;
  few = λ is. is.few (inl refl);
  takes_little = λ left after is. is (inl refl);
  marker = λ left after is. is refl refl ((λ e. omega (arith, e)), (λ e. omega (arith, e)), (λ e. omega (arith, e)));
  reading = λ is. is.reading;
  complete = λ is. uncomplete (is (not_rose 0 (omega arith), not_rose 0 (omega arith)) tt);
  completes = λ is. uncomplete (is.complete (not_rose 0 (omega arith), not_rose 0 (omega arith)) tt);
  headline = λ is. is.headline refl;
  does = λ is. runs.unwritten (is.behaves [] (record { rest = []; is = refl; none = λ met. refl })).runs;
}

bound_is : speed 0 (flight (pos 0) (pos 1)) 0 ≡ 100000
unfolding speed segment_speed speed_of widest_part widest_step polar raised_value bernstein
bound_is = refl

fast : KeepsBounds (Some 99999) 0 (flight (pos 0) (pos 1)) → ⊥
fast is = let low : speed 0 (flight (pos 0) (pos 1)) 0 ≤ 99999 = is.within 0 (omega arith) in omega (arith, low, bound_is)

fast_fleet : (ts : List Traj) → ts ≡ flight (pos 0) (pos 1) ∷ [] → All (KeepsBounds (Some 99999) 0) ts → ⊥
fast_fleet ts are keeps =
    let all : All (KeepsBounds (Some 99999) 0) (flight (pos 0) (pos 1) ∷ []) = rw are at keeps in
    fast (All-head (KeepsBounds (Some 99999) 0) (flight (pos 0) (pos 1)) [] all)

unflown : (e : Settings) (ts : List Traj) → e ≡ settings → ts ≡ no_time ∷ [] → FlyTheirOwn e ts → ⊥
unflown e ts e_is ts_are fly = uploads.undecoded (rw e_is at (rw ts_are at fly))

pub says_of : SaysRows
says_of = record {
  no_show = λ old new is. no_show is.s is.stands;
  unsaid = λ text is. no_byte is.written;
  touching = λ text old new is e_is are. touch _ _ e_is are is.apart;
  text_touches = λ text is e_is are. touch _ _ e_is are is.apart;
  no_upload = λ is. no_show is.flies.s is.flies.stands;
  unspelled = λ text is e_is are. unflown _ _ e_is are is.uploads.flown;
  fast = fast;
  no_speeds = λ old new is. no_show is.s is.stands;
  too_fast = λ input old new is are. fast_fleet _ are is.keeps;
  explained = λ all s text is. let e : ◌≡◌ {A = ℕ} 5 0 = is.0 in omega (arith, e);
}

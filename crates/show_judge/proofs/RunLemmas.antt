-- What a run of a command is, from what it read and wrote.
use Rattle.show_judge.proofs.Prelude.{common_steps, ◌≡◌, ◌⊎◌, inl, inr, ℕ, zero, suc, ◌≤◌, true, false, List, [], ◌∷◌, Contains, Option, Some, None, Result, Ok, Err, IfSome, refl, sym, ap, subst, ◌∙◌, arith, Appends, Rose, AppendsFront, TakesFront, Refusal, status_of, Answer, Done, Refused, Failure, Read, Memory, AnswersInput, IsSaid, Responds, Wrote, outcome_of, IsReadWhole, IsComplete, IsOutcome, IsOutcomeBy, IsOutcomeOf, IsSafe, IsSafeBy, IsSafeOutcome, OutcomeLaw, judged_text, IsJudged, Judges, Outcome, Run, Verb, nothing, own_text, the_input, IsOfInput, Completes, IsOutput, IsStopped, Runs, reads, told, cut_of}
use Rattle.refusals.specs.declared.refusal.Refusal.TheVariants as refusal
use Rattle.refusals.specs.Lines.{read_line}

-- what holds of known bytes gives what follows from it
pub some_map : (a : Option (List ℕ)) (P Q : List ℕ → Type 0) → ((x : List ℕ) → P x → Q x) → IfSome a P → IfSome a Q
some_map None P Q by holds = tt
some_map (Some x) P Q by holds = by x holds

-- what holds of all bytes holds of known ones
pub some_each : (a : Option (List ℕ)) (P : List ℕ → Type 0) → ((x : List ℕ) → P x) → IfSome a P
some_each None P by = tt
some_each (Some x) P by = by x

-- the statuses of a command
abbrev pub statuses : List ℕ
statuses = 0 ∷ 1 ∷ 3 ∷ 4 ∷ 5 ∷ 6 ∷ 7 ∷ 8 ∷ 9 ∷ 10 ∷ 11 ∷ 12 ∷ 13 ∷ 14 ∷ 15 ∷ 16 ∷ 18 ∷ 19 ∷ 20 ∷ []

-- A command that reads its input whole and writes one answer, as lines: where it judges its input, and what it writes where a read fails.
pub record IsPlain (c : Verb) : Type 0 where
  pub reads : c.ways.reads ≡ true
  pub judges : c.judges ≡ the_input
  pub stops : (taken : List ℕ) → c.stops taken read_line
  pub prompt : (r : Run) → c.prompt r

-- the statuses of refusals of an input are among them, and are no failures
pub refused_among : (r : Refusal) → IsOfInput r → Contains statuses (status_of r)
refused_among refusal.Usage is = absurd (is.command refl)
refused_among refusal.TooLarge is = (2, omega arith, refl)
refused_among (refusal.Line line kind) is = (2, omega arith, refl)
refused_among (refusal.Grid fault) is = (2, omega arith, refl)
refused_among (refusal.Range line axis value) is = (2, omega arith, refl)
refused_among (refusal.Room drone bytes room) is = (3, omega arith, refl)
refused_among (refusal.Segments drone segments) is = (3, omega arith, refl)
refused_among (refusal.Blocked pair index depth) is = (4, omega arith, refl)
refused_among refusal.Read is = absurd (is.read refl)
refused_among refusal.Ended is = (7, omega arith, refl)
refused_among (refusal.GaveUp drone packet) is = (8, omega arith, refl)
refused_among (refusal.Refused drone packet status) is = (9, omega arith, refl)
refused_among (refusal.Differs drone address wanted got) is = (13, omega arith, refl)
refused_among (refusal.SecondLine line) is = (10, omega arith, refl)
refused_among refusal.SecondTooLarge is = (10, omega arith, refl)
refused_among (refusal.Missing pair) is = (11, omega arith, refl)
refused_among (refusal.Extra version tree) is = (11, omega arith, refl)
refused_among (refusal.TooDeep pair) is = (11, omega arith, refl)
refused_among (refusal.Fails pair place version dir control) is = (11, omega arith, refl)
refused_among (refusal.Enters region drone cue index depth) is = (14, omega arith, refl)
refused_among (refusal.TooFast drone axis speed) is = (15, omega arith, refl)
refused_among (refusal.Accelerates drone cue axis acceleration) is = (16, omega arith, refl)
refused_among (refusal.Jumps drone cue axis speed) is = (16, omega arith, refl)

pub refused_judged : (r : Refusal) → IsOfInput r → IsJudged (status_of r)
refused_judged refusal.Usage is = absurd (is.command refl)
refused_judged refusal.Read is = absurd (is.read refl)
refused_judged r is = ((λ e. omega (arith, e)), (λ e. omega (arith, e)), (λ e. omega (arith, e)))

-- what judges its input doesn't judge nothing
pub judges_input : (j : Judges) (output : List ℕ) → j ≡ the_input → j ≡ nothing output → ⊥
judges_input j output is none = let same : the_input ≡ nothing output = sym is ∙ none in absurd (cc)

-- a sum of cases on the one that a command answers
pub answer_among : (a : Answer) → IsSaid a → Contains statuses (outcome_of a).status
answer_among (Done output) said = (0, omega arith, refl)
answer_among (Refused r) said = refused_among r said

pub answer_judged : (a : Answer) → IsSaid a → IsJudged (outcome_of a).status
answer_judged (Done output) said = ((λ e. omega (arith, e)), (λ e. omega (arith, e)), (λ e. omega (arith, e)))
answer_judged (Refused r) said = refused_judged r said

pub told_is : (c : Verb) (r : Run) → reads c ≡ true → told c r ≡ r.left
told_is c r e = rw e refl

-- ---- one answer, written whole

-- what a run has to be for an outcome that was written: of the command's law, where the source tells its input
pub record IsAnswered (c : Verb) (r : Run) (o : Outcome) : Type 0 where
  pub is : IfSome r.left (λ input. IsOutcomeOf c (cut_of input) o)
  pub safe : o.status ≡ 0 → IfSome r.left (λ input. IsSafe c (cut_of input) o)
  pub whole : o.status ≡ 0 → IsReadWhole r.left r.left_after
  pub judged : IsJudged o.status
  pub among : Contains statuses o.status
  pub taken : TakesFront r.left r.left_after
  pub later : r.reads_failed ≤ r.reads_failed_after

outcome_for : (c : Verb) (input : List ℕ) (o : Outcome) → IsPlain c → IsOutcomeOf c (cut_of input) o → IsOutcome c input o
outcome_for c input o plain is = subst (λ (j : Judges). IsOutcomeBy c j input o) (sym plain.judges) is

outcome_from : (c : Verb) (input : List ℕ) (o : Outcome) → IsPlain c → IsOutcome c input o → IsOutcomeOf c (cut_of input) o
outcome_from c input o plain is = subst (λ (j : Judges). IsOutcomeBy c j input o) plain.judges is

safe_for : (c : Verb) (input : List ℕ) (o : Outcome) → IsPlain c → IsSafe c (cut_of input) o → IsSafeOutcome c input o
safe_for c input o plain is = subst (λ (j : Judges). IsSafeBy c j input o) (sym plain.judges) is

-- The sink failed, and a prefix of what was to be written went out.
pub runs_failed : (c : Verb) (r : Run) (status : ℕ) (output : List ℕ) → status ≡ 7 → Rose r.writes_failed r.writes_failed_after → IsOutput c r output → AppendsFront r.written r.written_after output →
    c.prompt r → (reads c ≡ false → (r.left_after ≡ r.left) × (r.reads_failed_after ≡ r.reads_failed)) → TakesFront r.left r.left_after → r.reads_failed ≤ r.reads_failed_after →
    r.writes_failed ≤ r.writes_failed_after → Runs c r status
runs_failed c r status output e rose is front prompt unread taken reads_later writes_later = record {
  outcome = λ judged. absurd (judged.2 e);
  exact = λ quiet. absurd (quiet.1 rose);
  safe = λ zero. absurd (omega (arith, zero, e));
  whole = λ zero all. absurd (omega (arith, zero, e));
  one = λ one. absurd (omega (arith, one, e));
  always = λ bytes none. inl e;
  six = λ six. absurd (omega (arith, six, e));
  stopped = λ six. absurd (omega (arith, six, e));
  seven = λ seven. (rose, (output, is, front));
  prompt = λ seven. prompt;
  unread = unread;
  known = (6, omega arith, rw e refl);
  taken = taken;
  reads_later = reads_later;
  writes_later = writes_later;
}

-- An answer that is the outcome of the input was written, or the sink failed.
pub runs_wrote : (c : Verb) (r : Run) (status : ℕ) (o : Outcome) → IsPlain c → OutcomeLaw c → IsAnswered c r o →
    Wrote o.status o.output r.written r.written_after r.writes_failed r.writes_failed_after status → Runs c r status
runs_wrote c r status o plain law answered wrote =
    let told_so : told c r ≡ r.left = told_is c r plain.reads in
    elim wrote [
      | inl (e, appends, later) ↦ record {
        outcome = λ is. rw told_so (some_map r.left _ _ (λ input is_o. (o, outcome_for c input o plain is_o, e, appends)) answered.is);
        exact = λ quiet. rw told_so (some_map r.left _ _ (λ input is_o p is_p.
            let same : o ≡ p = law.one (cut_of input) o p is_o (outcome_from c input p plain is_p) in
            inl (e ∙ ap (λ (q : Outcome). q.status) same, subst (λ (q : Outcome). Appends r.written r.written_after q.output) same appends)) answered.is);
        safe = λ zero. rw told_so (some_map r.left _ _ (λ input is_safe. (o, safe_for c input o plain is_safe, appends)) (answered.safe (sym e ∙ zero)));
        whole = λ zero all. answered.whole (sym e ∙ zero);
        one = λ is. absurd (answered.judged.0 (sym e ∙ is));
        always = λ output is. absurd (judges_input c.judges output plain.judges is);
        six = λ is. absurd (answered.judged.1 (sym e ∙ is));
        stopped = λ is. absurd (answered.judged.1 (sym e ∙ is));
        seven = λ is. absurd (answered.judged.2 (sym e ∙ is));
        prompt = λ is. plain.prompt r;
        unread = λ none. absurd (let f : true ≡ false = sym plain.reads ∙ none in cc);
        known = rw e answered.among;
        taken = answered.taken;
        reads_later = answered.later;
        writes_later = later;
      }
      | inr (e, rose, front, later) ↦
          runs_failed c r status o.output e rose (inl (rw told_so (some_map r.left _ _ (λ input is_o. (o, outcome_for c input o plain is_o, refl)) answered.is))) front
          (plain.prompt r) (λ none. absurd (let f : true ≡ false = sym plain.reads ∙ none in cc)) answered.taken answered.later later
    ]

-- what was taken where a read failed, with the line that is written then
stopped_by : (c : Verb) (r : Run) → IsPlain c → TakesFront r.left r.left_after → IsStopped c r read_line
stopped_by c r plain taken = grind (arith, common_steps)

some_any : (left : Option (List ℕ)) (P : Type 0) → P → IfSome left (λ _. P)
some_any None P p = tt
some_any (Some x) P p = p

-- A read failed.
pub runs_stopped : (c : Verb) (r : Run) (status : ℕ) → IsPlain c → Rose r.reads_failed r.reads_failed_after → TakesFront r.left r.left_after → r.reads_failed ≤ r.reads_failed_after →
    Wrote 6 read_line r.written r.written_after r.writes_failed r.writes_failed_after status → Runs c r status
runs_stopped c r status plain rose taken reads_later wrote = elim wrote [
  | inl (e, appends, later) ↦ record {
    outcome = λ is. absurd (is.1 e);
    exact = λ quiet. absurd (quiet.0 rose);
    safe = λ zero. absurd (omega (arith, zero, e));
    whole = λ zero all. absurd (omega (arith, zero, e));
    one = λ is. absurd (omega (arith, is, e));
    always = λ output is. absurd (judges_input c.judges output plain.judges is);
    six = λ is. (rose, plain.reads);
    stopped = λ is. some_any r.left _ (read_line, stopped_by c r plain taken, appends);
    seven = λ is. absurd (omega (arith, is, e));
    prompt = λ is. plain.prompt r;
    unread = λ none. absurd (let f : true ≡ false = sym plain.reads ∙ none in cc);
    known = (5, omega arith, rw e refl);
    taken = taken;
    reads_later = reads_later;
    writes_later = later;
  }
  | inr (e, failed, front, later) ↦
      runs_failed c r status read_line e failed (inr (rose, stopped_by c r plain taken)) front (plain.prompt r) (λ none. absurd (let f : true ≡ false = sym plain.reads ∙ none in cc)) taken reads_later later
]

-- Out of memory, and nothing was written; what a command that reads nothing leaves of its source.
pub runs_memory : (c : Verb) (r : Run) (status : ℕ) → ((output : List ℕ) → c.judges ≡ nothing output → ⊥) → ((r : Run) → c.prompt r) → status ≡ 1 → r.written_after ≡ r.written → r.writes_failed_after ≡ r.writes_failed →
    (reads c ≡ false → (r.left_after ≡ r.left) × (r.reads_failed_after ≡ r.reads_failed)) → TakesFront r.left r.left_after → r.reads_failed ≤ r.reads_failed_after → Runs c r status
runs_memory c r status other prompt is written faults unread taken reads_later = grind (arith, common_steps, some_each)

-- A command that reads its input whole answered, failed to read or was out of memory.
pub runs_answer : (c : Verb) (r : Run) (result : Result Answer Failure) (status : ℕ) → IsPlain c → OutcomeLaw c → AnswersInput c r.left r.left_after result →
    Responds result r.written r.written_after r.writes_failed r.writes_failed_after status → (result ≡ Err Read → Rose r.reads_failed r.reads_failed_after) →
    TakesFront r.left r.left_after → r.reads_failed ≤ r.reads_failed_after → Runs c r status
runs_answer c r (Ok a) status plain law answers wrote failed taken later =
    runs_wrote c r status (outcome_of a) plain law
    (record {
      is = answers.gives;
      safe = λ done. some_map r.left _ _ (λ input safe. safe done) answers.safe;
      whole = answers.whole;
      judged = answer_judged a answers.said;
      among = answer_among a answers.said;
      taken = taken;
      later = later;
    }) wrote
runs_answer c r (Err Read) status plain law answers wrote failed taken later = runs_stopped c r status plain (failed refl) taken later wrote
runs_answer c r (Err Memory) status plain law answers wrote failed taken later =
    runs_memory c r status (λ output is. judges_input c.judges output plain.judges is) plain.prompt wrote.0 wrote.1 wrote.2 (λ none. absurd (let f : true ≡ false = sym plain.reads ∙ none in cc)) taken later

-- ---- inputs that lack nothing

-- a status that is no failure is judged, or the program was out of memory
judged_or : (n : ℕ) → (n ≡ 6 → ⊥) → (n ≡ 7 → ⊥) → (n ≡ 1) ⊎ IsJudged n
judged_or zero six seven = inr ((λ e. omega (arith, e)), six, seven)
judged_or (suc zero) six seven = inl refl
judged_or (suc (suc n)) six seven = inr ((λ e. omega (arith, e)), six, seven)

outcome_done : (c : Verb) → OutcomeLaw c → (j : Judges) (input : List ℕ) (o : Outcome) → IfSome (judged_text j input) (λ t. IsComplete c (cut_of t)) → IsOutcomeBy c j input o → o.status ≡ 0
outcome_done c law (nothing output) input o lacks is = ap (λ (p : Outcome). p.status) is
outcome_done c law the_input input o lacks is = law.complete (cut_of input) o lacks is
outcome_done c law (own_text text) input o lacks is = law.complete (cut_of text) o lacks is

pub completes : (c : Verb) → OutcomeLaw c → (r : Run) (status : ℕ) → Runs c r status → Completes c r status
completes c law r status runs quiet = grind (arith, common_steps, judged_or, some_each, some_map, outcome_done)

-- What status 0 says, from what a run promises.
use Rattle.show_judge.proofs.Prelude.{left_to_come, met_end, ◌++◌, sym, to_come, run_of, ap, told_to_come, told_input, Span, Does, common_steps, ◌≡◌, ℕ, Bool, true, false, cond, List, Option, Some, None, IfSome, refl, subst, ◌∙◌, arith, Appends, option_or, between_feeds, has_marker, part_of, ShowLaw, PlainShow, Refusal, Ways, IsSafe, IsSafeBy, IsSafeOutcome, IsVerb, show_refusal, Behaves, Runs, StopsAtMarker, TakesLittle, told, Cut, cut_of, FliesApart, Judges, Outcome, Run, Verb, of_own, outcome, the_input, IsTrue, IsAtEnd, reads_all, run_left}
use Rattle.show_judge.specs.Headline.{FliesText, SaysOf, UploadsText}
use Rattle.show_judge.proofs.RunLemmas.{completes, some_map, told_is}
use Rattle.show_judge.proofs.VerbLemmas.{outcomes}

-- where neither is there, both aren't
pub none_both : (a b : Option Refusal) → option_or a b ≡ None → (a ≡ None) × (b ≡ None)
none_both None b none = (refl, none)
none_both (Some r) b none = absurd (cc)

-- where no marker line is refused, and none may stand there, there is none
unmarked_by : (second marked : Bool) (r : Refusal) → second ≡ false → cond second None (cond marked (Some r) None) ≡ None → marked ≡ false
unmarked_by false false r alone none = refl
unmarked_by xs ys r alone none = absurd (cc)

-- an input without a marker line is its own part
part_whole : (input : List ℕ) → has_marker (between_feeds input) ≡ false → part_of input ≡ input
unfolding part_of
part_whole input unmarked = rw unmarked refl

-- the text of a show that a command of one text accepts is the whole input
pub whole_input : (w : Ways) (input : List ℕ) (s : PlainShow) → w.has_second ≡ false → show_refusal w (cut_of input) s ≡ None → part_of input ≡ input
whole_input w input s alone none = grind (arith, common_steps, none_both, part_whole, unmarked_by)

-- what a command of one text says of a show that flies apart
pub says_of : (v : Verb) (text : PlainShow → List ℕ) (input : List ℕ) (o : Outcome) (old new : Option (List ℕ)) → v.ways.has_second ≡ false → (safe : IsSafe v (cut_of input) o) → FliesApart safe.s →
    o ≡ outcome 0 (text safe.s) → Appends old new o.output → SaysOf text input old new
says_of v text input o old new alone safe flies is appended = grind (arith, common_steps, whole_input)

-- the show's text of an input whose show flies apart
pub flies_text : (v : Verb) (input : List ℕ) (o : Outcome) → (safe : IsSafe v (cut_of input) o) → FliesApart safe.s → FliesText (part_of input)
flies_text v input o safe flies = record { s = safe.s; stands = safe.stands; near = safe.near; apart = flies.apart }

-- and what is said of its uploads
uploads_text : (v : Verb) (input : List ℕ) (o : Outcome) → (safe : IsSafe v (cut_of input) o) → FliesApart safe.s → UploadsText (part_of input)
unfolding flies_text
uploads_text v input o safe flies = record { flies = flies_text v input o safe flies; uploads = flies.uploads }

-- the headline of a run with status 0
pub headlines : (v : Verb) → IsVerb v → (r : Run) (status : ℕ) → Runs v r status → status ≡ 0 → IfSome (told v r) (λ input. v.headline input r.written r.written_after)
headlines v is r status runs done = some_map (told v r) _ _ (λ input came. is.headline input came.0 r.written r.written_after came.1 came.2) (runs.safe done)

-- A run of a command with what it read.
pub behaves_of : ShowLaw → (v : Verb) → IsVerb v → (r : Run) (status : ℕ) → Runs v r status → TakesLittle v r → StopsAtMarker v r status → v.reading r status → Behaves v r status
behaves_of show v is r status runs few marker reading = grind (arith, common_steps, completes, outcomes, headlines)

-- status 0 of a command that promises of the show of its input that it flies apart
pub uploads_of : (v : Verb) → v.ways.reads ≡ true → v.judges ≡ the_input → ((s : PlainShow) (cut : Cut) → v.promises s cut → FliesApart s) → (input : List ℕ) (r : Run) (status : ℕ) → Runs v r status →
    r.left ≡ Some input → status ≡ 0 → UploadsText (part_of input)
uploads_of v reads judges promised input r status runs left done =
    let came : (o : Outcome) × IsSafeOutcome v input o × Appends r.written r.written_after o.output =
    subst (λ (t : Option (List ℕ)). IfSome t (λ i. (o : Outcome) × IsSafeOutcome v i o × Appends r.written r.written_after o.output)) (told_is v r reads ∙ left) (runs.safe done) in
    let safe : IsSafe v (cut_of input) came.0 = subst (λ (j : Judges). IsSafeBy v j input came.0) judges came.1 in
    uploads_text v input came.0 safe (promised safe.s (cut_of input) safe.promised)

-- the flight of one that judges a text of its own
pub flies_own : (depth : ℕ) (own : List ℕ) (text : PlainShow → List ℕ) (r : Run) (status : ℕ) → Runs (of_own depth own text) r status → status ≡ 0 → FliesText (part_of own)
flies_own depth own text r status runs done =
    let came : (o : Outcome) × IsSafe (of_own depth own text) (cut_of own) o × Appends r.written r.written_after o.output = runs.safe done in
    flies_text (of_own depth own text) own came.0 came.1 came.1.promised

-- ---- the end, and bytes that are known beforehand

-- A command that reads its input to the end ends with 0 only where its source has met the end.
pub read_to_end : (v : Verb) (m : Span) (status : ℕ) → Does v m status → reads_all v ≡ true → status ≡ 0 → IsTrue m.tells.ended
read_to_end v m status does reads done = met_end m.tells (λ all may. (does.behaves all may).runs.whole done reads)

-- a run over a source that exposes its input is a run on that input, and on nothing else
pub behaves_left : (v : Verb) (m : Span) (status : ℕ) (input : List ℕ) → Does v m status → m.told.left ≡ Some input → (IsTrue m.told.ended → IsAtEnd m.told.left) → Behaves v (run_left m) status
behaves_left v m status input does known at_end =
    let all : List ℕ = m.told.given ++ input in
    let before : to_come all m.told ≡ m.told.left = told_to_come m.told input ∙ sym known in
    let after : to_come all m.tells ≡ m.tells.left = left_to_come m.told m.tells input does.gives known in
    subst (λ (left : Option (List ℕ)). Behaves v (run_of left m.tells.left m.told.faults m.tells.faults m.written m.written_after m.writes_failed m.writes_failed_after) status) before
    (subst (λ (left : Option (List ℕ)). Behaves v (run_of (to_come all m.told) left m.told.faults m.tells.faults m.written m.written_after m.writes_failed m.writes_failed_after) status) after
    (does.behaves all (told_input m.told m.tells input does.gives known at_end)))

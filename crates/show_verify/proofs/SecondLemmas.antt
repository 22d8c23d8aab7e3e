-- A certificate's text that is judged as it is taken.
use Rattle.show_verify.proofs.Prelude.{◌≡◌, ℕ, suc, ◌+◌, ◌<◌, ◌≤◌, Bool, true, false, cond, nat_lt, ◌==◌, List, [], ◌∷◌, ◌++◌, append_assoc, append-nil, length, length-append, All, get_or, take, drop, Option, Some, None, Result, Ok, Err, IfOk, IfSome, refl, sym, ap, subst, ◌∙◌, arith, IsAtEnd, prepend_known, lines, take_more, AsksNext, PartLaw, begins_after, is_marked_left, part_left, rest_left, buffer_bytes, Name, PlainShow, CurvesStandFor, Raised, raised_of, Clearance, KeepReach, KeepsApart, SentLaw, Certificate, Says, bad_line, Refusal, FlyApart, clearance_of, CertificateGives, certificate_limit, judged_for, not_valid, valid_line, verify_verb, AnswersInput, IsRefusedBy, IsSaid, outcome_of, TooLarge as TakenTooLarge, Whole as TakenWhole, GoesOn, IsReadBoth, IsReadWhole, IsShowText, IsWholeText, Outcome, outcome, IsOfInput, second_refusal, GivesSecond, IsFed, IsFewTaken, IsMarkedBy, IsTakenToEnd, IsTakenWhole, Skips, TakenGives, unless_marked, verdict_outcome, Cut, cut_of, feeds, marker_number, names_of, trajectories_of}
use Rattle.byte_streams.specs.Taken.{TakesFront}
use Rattle.std.specs.Option.{option_map, option_or}
use Rattle.std.proofs.lemmas.Bool.Decides.{nat_tests}
use Rattle.text_lines.specs.Lines.{between_feeds}
use Rattle.text_lines.specs.Marker.{has_marker, part_of, rest_of}
use Rattle.byte_streams.specs.Parts.{TakesFewAfter}
use Rattle.byte_streams.specs.declared.parts.Ask.TheVariants as ask
use Rattle.byte_streams.proofs.PartLemmas.{passed}
use Rattle.choreo_show.specs.declared.show.Settings.{Settings}
use Rattle.traj_codec.specs.declared.traj.Traj.{Traj}
use Rattle.sep_certificate.proofs.TextLaws.{texts}
use Rattle.certificate_checker.specs.declared.verdict.Verdict.{Verdict}
use Rattle.certificate_checker.specs.declared.verdict.Verdict.TheVariants as verdict
use Rattle.certificate_checker.specs.Bytes.{Seen}
use Rattle.certificate_checker.specs.Verdicts.{VerdictGives}
use Rattle.refusals.specs.declared.refusal.Refusal.TheVariants as refusal
use Rattle.show_plan.specs.declared.fitted.Fitted.{Fitted}
use Rattle.show_plan.specs.Fitting.{IsValidFitted}
use Rattle.show_judge.specs.declared.ends.Answer.{Answer}
use Rattle.show_judge.specs.declared.ends.Answer.TheVariants.{Refused}
use Rattle.show_judge.specs.declared.ends.Failure.{Failure}
use Rattle.show_judge.specs.declared.input.Text.{Text}
use Rattle.show_judge.specs.declared.input.Text.TheVariants.{TooLarge, Whole}
use Rattle.show_judge.specs.Answers.{Fits}
use Rattle.show_verify.specs.declared.verifying.Taken.{Taken}
use Rattle.show_judge.specs.Outcome.{refused}
use Rattle.show_judge.proofs.AnswerLemmas.{apart_of_show, fitted_outcome, fitted_safe, plain_outcome, refused_some}
use Rattle.show_judge.proofs.RunLemmas.{some_map}
use Rattle.show_verify.proofs.CertificateLemmas.{judged_same}

-- ---- what comes next of a part
-- the marker line, or the end
marker_next : (at_line : Bool) (rest waiting : List ℕ) (left : Option (List ℕ)) → AsksNext ask.Marker at_line rest waiting left →
    (part_left at_line rest ≡ []) × (is_marked_left at_line rest ≡ true) × (prepend_known waiting left ≡ Some (rest_left at_line rest))
marker_next true [] waiting left asks = absurd (let e : false ≡ true = asks.0 in cc)
marker_next false [] waiting left asks = absurd (let e : false ≡ true = asks.0 in cc)
marker_next at_line (c ∷ bytes) waiting left asks = rw asks.0 (refl, refl, asks.1)

end_next : (at_line : Bool) (rest waiting : List ℕ) (left : Option (List ℕ)) → AsksNext ask.«End» at_line rest waiting left →
    (part_left at_line rest ≡ []) × (is_marked_left at_line rest ≡ false) × (prepend_known waiting left ≡ Some (rest_left at_line rest))
end_next at_line rest waiting left asks = rw asks.0 (refl, refl, asks.1)

-- ---- what was taken
-- what holds of what comes next, where it is known
asked_of : (all : List ℕ) (at_line : Bool) (now : Option (List ℕ)) (fed : List ℕ) (P : List ℕ → Type 0) → (is : IsFed all at_line now fed) → IfSome now P → P is.rest
asked_of all at_line now fed P is asks = rw is.now_is at asks

pub fed_none : PartLaw → (coming : Option (List ℕ)) (at_line : Bool) → at_line ≡ true → IfSome coming (λ all. IsFed all at_line coming [])
fed_none law None at_line is = tt
fed_none law (Some all) at_line is = record {
  rest = all;
  now_is = refl;
  part = ap (λ (b : Bool). part_left b all) is ∙ law.part all;
  marked = ap (λ (b : Bool). is_marked_left b all) is ∙ law.marked all;
  after = ap (λ (b : Bool). rest_left b all) is ∙ law.rest all;
}

pub fed_more : (coming : Option (List ℕ)) (at_line : Bool) (now : Option (List ℕ)) (fed waiting : List ℕ) (left : Option (List ℕ)) (count : ℕ) → IfSome coming (λ all. IsFed all at_line now fed) →
    IfSome now (λ all. AsksNext (ask.Bytes count) at_line all waiting left) →
    IfSome coming (λ all. IsFed all (begins_after at_line (take count waiting)) (prepend_known (drop count waiting) left) (fed ++ take count waiting))
fed_more None at_line now fed waiting left count is asks = tt
fed_more (Some all) at_line now fed waiting left count is asks =
    let next = asked_of all at_line now fed (λ rest. AsksNext (ask.Bytes count) at_line rest waiting left) is asks in
    let piece : List ℕ = take count waiting in
    let passes = passed at_line piece next.0 next.3 in
    record {
      rest = next.0;
      now_is = next.2;
      part = append_assoc fed piece _ ∙ ap (λ (xs : List ℕ). fed ++ xs) (sym passes.part ∙ ap (part_left at_line) (sym next.1)) ∙ is.part;
      marked = sym passes.marked ∙ ap (is_marked_left at_line) (sym next.1) ∙ is.marked;
      after = sym passes.after ∙ ap (rest_left at_line) (sym next.1) ∙ is.after;
    }

-- more bytes than a text may have
pub fed_over : (limit : ℕ) (coming : Option (List ℕ)) (at_line : Bool) (now : Option (List ℕ)) (fed : List ℕ) → limit < length fed → IfSome coming (λ all. IsFed all at_line now fed) →
    IfSome coming (λ all. limit < length (part_of all))
fed_over limit None at_line now fed over is = tt
fed_over limit (Some all) at_line now fed over is = omega (arith, over, ap (λ (xs : List ℕ). length xs) is.part, length-append fed (part_left at_line is.rest))

whole_by : (coming : Option (List ℕ)) (fed : List ℕ) (at_line : Bool) (now : Option (List ℕ)) (marker : Option ℕ) (is_marked : Bool) → IsMarkedBy fed marker is_marked →
    IfSome coming (λ all. IsFed all at_line now fed) → ((rest : List ℕ) → now ≡ Some rest → (part_left at_line rest ≡ []) × (is_marked_left at_line rest ≡ is_marked)) →
    IfSome coming (λ all. (part_of all ≡ fed) × IsMarkedBy fed marker (has_marker (between_feeds all)))
whole_by None fed at_line now marker is_marked marked is last = tt
whole_by (Some all) fed at_line now marker is_marked marked is last =
    let ends = last is.rest is.now_is in (
      sym is.part ∙ ap (λ (xs : List ℕ). fed ++ xs) ends.0 ∙ append-nil fed,
      subst (IsMarkedBy fed marker) (sym ends.1 ∙ is.marked) marked,
    )

-- the part ends at a marker line, or at the end of the input
pub fed_marked : (coming : Option (List ℕ)) (at_line : Bool) (now : Option (List ℕ)) (fed waiting : List ℕ) (left : Option (List ℕ)) (number : ℕ) → number ≡ marker_number fed → IfSome coming (λ all. IsFed all at_line now fed) →
    IfSome now (λ all. AsksNext ask.Marker at_line all waiting left) → IfSome coming (λ all. (part_of all ≡ fed) × IsMarkedBy fed (Some number) (has_marker (between_feeds all)))
fed_marked coming at_line now fed waiting left number is_number is asks =
    whole_by coming fed at_line now (Some number) true (refl, is_number) is (λ rest now_is. let next = marker_next at_line rest waiting left (rw now_is at asks) in (next.0, next.1))

pub fed_whole : (coming : Option (List ℕ)) (at_line : Bool) (now : Option (List ℕ)) (fed waiting : List ℕ) (left : Option (List ℕ)) → IfSome coming (λ all. IsFed all at_line now fed) →
    IfSome now (λ all. AsksNext ask.«End» at_line all waiting left) → IfSome coming (λ all. (part_of all ≡ fed) × IsMarkedBy fed None (has_marker (between_feeds all)))
fed_whole coming at_line now fed waiting left is asks =
    whole_by coming fed at_line now None false refl is (λ rest now_is. let next = end_next at_line rest waiting left (rw now_is at asks) in (next.0, next.1))

-- of what stands after the part at most 4,096 bytes were taken, which wait
few_of : (all waiting : List ℕ) (left : Option (List ℕ)) → prepend_known waiting left ≡ Some (rest_of all) → length waiting ≤ buffer_bytes → TakesFewAfter (Some all) left
few_of all waiting None is most = tt
few_of all waiting (Some rest) is most =
    let same : waiting ++ rest ≡ rest_of all = cc in
    omega (arith, most, length-append waiting rest, ap (λ (xs : List ℕ). length xs) same)

pub few_marked : (coming : Option (List ℕ)) (at_line : Bool) (now : Option (List ℕ)) (fed waiting : List ℕ) (left : Option (List ℕ)) → IfSome coming (λ all. IsFed all at_line now fed) →
    IfSome now (λ all. AsksNext ask.Marker at_line all waiting left) → length waiting ≤ buffer_bytes → TakesFewAfter coming left
few_marked None at_line now fed waiting left is asks most = tt
few_marked (Some all) at_line now fed waiting left is asks most =
    let next = marker_next at_line is.rest waiting left (asked_of all at_line now fed (λ rest. AsksNext ask.Marker at_line rest waiting left) is asks) in
    few_of all waiting left (next.2 ∙ ap (λ (xs : List ℕ). Some xs) is.after) most

pub few_whole : (coming : Option (List ℕ)) (at_line : Bool) (now : Option (List ℕ)) (fed waiting : List ℕ) (left : Option (List ℕ)) → IfSome coming (λ all. IsFed all at_line now fed) →
    IfSome now (λ all. AsksNext ask.«End» at_line all waiting left) → length waiting ≤ buffer_bytes → TakesFewAfter coming left
few_whole None at_line now fed waiting left is asks most = tt
few_whole (Some all) at_line now fed waiting left is asks most =
    let next = end_next at_line is.rest waiting left (asked_of all at_line now fed (λ rest. AsksNext ask.«End» at_line rest waiting left) is asks) in
    few_of all waiting left (next.2 ∙ ap (λ (xs : List ℕ). Some xs) is.after) most

-- ---- line feeds
feeds_more : (fed bytes : List ℕ) → feeds (fed ++ bytes) ≡ feeds fed + feeds bytes
feeds_more [] bytes = omega arith
feeds_more (b ∷ fed) bytes = by_test (b == 10) (feeds_more fed bytes)
  where
    by_test : (s : Bool) → feeds (fed ++ bytes) ≡ feeds fed + feeds bytes → cond s (suc (feeds (fed ++ bytes))) (feeds (fed ++ bytes)) ≡ cond s (suc (feeds fed)) (feeds fed) + feeds bytes
    by_test true more = omega (arith, more)
    by_test false more = more

pub feeds_next : (bytes : List ℕ) (i : ℕ) → i < length bytes → feeds (take (i + 1) bytes) ≡ feeds (take i bytes) + cond (get_or bytes i 0 == 10) 1 0
feeds_next bytes i within = rw (take_more bytes i 0 within) (feeds_more (take i bytes) (get_or bytes i 0 ∷ []))

pub number_more : (fed bytes : List ℕ) (number more : ℕ) → number ≡ marker_number fed → more ≡ feeds bytes → number + more ≡ marker_number (fed ++ bytes)
number_more fed bytes number more is more_is = omega (arith, is, more_is, feeds_more fed bytes)

-- ---- what a verdict is said as
within : (n : ℕ) → n ≤ certificate_limit → nat_lt certificate_limit n ≡ false
within n few = grind (arith, nat_tests)

module _ (s : PlainShow) (cut : Cut) (names : List Name) (curves : Raised) (clear : Clearance) where
  -- the refusal of a text that isn't too large
  refusal_of : length cut.second ≤ certificate_limit → (bad : Option ℕ) → bad_line (lines cut.second) ≡ bad →
      second_refusal certificate_limit (bad_line (lines cut.second)) cut
      ≡ option_or (option_map (λ (line : ℕ). refusal.SecondLine line) bad) (cond cut.is_second_marked (Some (refusal.SecondLine (marker_number cut.second))) None)
  refusal_of short bad is =
      ap (λ (b : Bool). cond b (Some refusal.SecondTooLarge) (option_or (option_map (λ (line : ℕ). refusal.SecondLine line) (bad_line (lines cut.second))) (cond cut.is_second_marked (Some (refusal.SecondLine (marker_number cut.second))) None)))
      (within (length cut.second) short)
      ∙ ap (λ (o : Option ℕ). option_or (option_map (λ (line : ℕ). refusal.SecondLine line) o) (cond cut.is_second_marked (Some (refusal.SecondLine (marker_number cut.second))) None)) is

  line_gives : (line : ℕ) → length cut.second ≤ certificate_limit → bad_line (lines cut.second) ≡ Some line →
      CertificateGives (second_refusal certificate_limit (bad_line (lines cut.second)) cut) s cut (refused (refusal.SecondLine line))
  line_gives line short is = subst (λ (o : Option Refusal). CertificateGives o s cut (refused (refusal.SecondLine line))) (sym (refusal_of short (Some line) is)) refl

  said_gives : (cert : Certificate) (o : Outcome) (marker : Option ℕ) → length cut.second ≤ certificate_limit → Says cut.second cert → IsMarkedBy cut.second marker cut.is_second_marked → o ≡ judged_for s cert →
      CertificateGives (second_refusal certificate_limit (bad_line (lines cut.second)) cut) s cut (unless_marked marker o)
  said_gives cert o (Some number) short says marked is =
      subst (λ (p : Option Refusal). CertificateGives p s cut (refused (refusal.SecondLine number)))
      (sym (refusal_of short None (texts.clean cut.second cert says) ∙ ap (λ (b : Bool). cond b (Some (refusal.SecondLine (marker_number cut.second))) None) marked.0))
      (ap (λ (n : ℕ). refused (refusal.SecondLine n)) marked.1)
  said_gives cert o None short says marked is =
      subst (λ (p : Option Refusal). CertificateGives p s cut o)
      (sym (refusal_of short None (texts.clean cut.second cert says) ∙ ap (λ (b : Bool). cond b (Some (refusal.SecondLine (marker_number cut.second))) None) marked))
      (cert, says, is)

  verdict_gives : (v : Verdict) (marker : Option ℕ) → names ≡ names_of s → curves ≡ raised_of (trajectories_of s) → clear ≡ clearance_of s.settings (trajectories_of s) → length cut.second ≤ certificate_limit →
      VerdictGives curves clear cut.second v → IsMarkedBy cut.second marker cut.is_second_marked →
      CertificateGives (second_refusal certificate_limit (bad_line (lines cut.second)) cut) s cut (verdict_outcome names marker v)
  verdict_gives (verdict.Line line) marker names_are curves_are clear_is short gives marked = line_gives line short gives
  verdict_gives (verdict.Valid depth trees) marker names_are curves_are clear_is short (cert, says, depth_is, trees_are, none) marked =
      said_gives cert (outcome 0 (valid_line depth trees)) marker short says marked
      (ap (λ (n : ℕ). outcome 0 (valid_line n trees)) (sym depth_is) ∙ ap (λ (n : ℕ). outcome 0 (valid_line cert.depth n)) (sym trees_are)
      ∙ judged_same s cert names curves clear None names_are curves_are clear_is none)
  verdict_gives (verdict.Refused version fault) marker names_are curves_are clear_is short (cert, says, version_is, is) marked =
      said_gives cert (refused (not_valid names version fault)) marker short says marked
      (ap (λ (n : ℕ). refused (not_valid names n fault)) (sym version_is)
      ∙ judged_same s cert names curves clear (Some fault) names_are curves_are clear_is is)

-- what a verdict is said as is given for the bytes that were to come
pub whole_gives : (f : Fitted) (curves : Raised) (clear : Clearance) (coming : Option (List ℕ)) (fed : List ℕ) (marker : Option ℕ) (v : Verdict) → curves ≡ raised_of f.trajs → clear ≡ clearance_of f.settings f.trajs →
    length fed ≤ certificate_limit → VerdictGives curves clear fed v → IfSome coming (λ all. (part_of all ≡ fed) × IsMarkedBy fed marker (has_marker (between_feeds all))) →
    (o : Outcome) → o ≡ verdict_outcome f.names marker v → IfSome coming (λ all. GivesSecond f all o)
whole_gives f curves clear None fed marker v curves_are clear_is short gives taken o is = tt
whole_gives f curves clear (Some all) fed marker v curves_are clear_is short gives taken o is = λ s cut fitted second marked.
    let same : fed ≡ cut.second = sym taken.0 ∙ sym second in
    subst (CertificateGives (second_refusal certificate_limit (bad_line (lines cut.second)) cut) s cut) (sym is)
    (verdict_gives s cut f.names curves clear v marker fitted.names (curves_are ∙ ap raised_of fitted.trajs)
    (clear_is ∙ ap (λ (e : Settings). clearance_of e f.trajs) fitted.settings ∙ ap (λ (ts : List Traj). clearance_of s.settings ts) fitted.trajs)
    (subst (λ (text : List ℕ). length text ≤ certificate_limit) same short) (subst (λ (text : List ℕ). VerdictGives curves clear text v) same gives)
    (subst (λ (b : Bool). IsMarkedBy cut.second marker b) (sym marked) (subst (λ (text : List ℕ). IsMarkedBy text marker (has_marker (between_feeds all))) same taken.1)))

-- ---- what a verdict promises
pub apart_of : (f : Fitted) (curves : Raised) → SentLaw → IsValidFitted f → CurvesStandFor curves f.trajs → KeepReach (clearance_of f.settings f.trajs) f.trajs → KeepsApart curves (clearance_of f.settings f.trajs) → FlyApart f.settings f.sent
unfolding clearance_of
apart_of f curves law valid stand reach keeps =
    subst (FlyApart f.settings) (sym valid.sent)
    (law f.settings.r f.settings.h f.settings.stray f.settings.late f.trajs
    (λ k d inside. subst (λ (times : List ℕ). All (λ ms. 1 ≤ ms) times) (sym (stand.one_show.same_times k d inside)) stand.one_show.lasting)
    (keeps f.trajs stand reach))

-- ---- the whole input
pub read_whole : (left after : Option (List ℕ)) → TakesFront left after → IsAtEnd after → IsReadWhole left after
read_whole None after takes at_end = tt
read_whole (Some x) None takes at_end = absurd takes.1
read_whole (Some x) (Some y) takes at_end = ap (λ (bytes : List ℕ). Some bytes) at_end

clash : (b : Bool) → b ≡ true → b ≡ false → ⊥
clash b holds fails = let f : true ≡ false = sym holds ∙ fails in cc

-- at the input's end nothing is left to take
pub ended_whole : (coming left : Option (List ℕ)) → IsAtEnd left → TakesFewAfter coming left → IsTakenWhole coming left
ended_whole None left at_end few = tt
ended_whole (Some all) left at_end few = λ short. ((λ unmarked. at_end), few)

-- at a marker line nothing is left to show
pub skipped_marked : (coming : Option (List ℕ)) (n : ℕ) (at_line : Bool) (now : Option (List ℕ)) (waiting : List ℕ) (left : Option (List ℕ)) → Skips coming n at_line now →
    IfSome now (λ all. AsksNext ask.Marker at_line all waiting left) → TakesFewAfter coming left → IsTakenWhole coming left
skipped_marked None n at_line now waiting left skips asks few = tt
skipped_marked (Some all) n at_line now waiting left skips asks few = λ short. (
  (λ unmarked. absurd (clash (has_marker (between_feeds all)) (fed_marked (Some all) at_line now skips.fed waiting left (marker_number skips.fed) refl skips.is_fed asks).1.0 unmarked)),
  few,
)

-- nor where more bytes than a text may have were taken
pub skipped_over : (coming : Option (List ℕ)) (n : ℕ) (at_line : Bool) (now left : Option (List ℕ)) → certificate_limit < n → Skips coming n at_line now → IsTakenWhole coming left
skipped_over None n at_line now left over skips = tt
skipped_over (Some all) n at_line now left over skips = λ short.
    absurd (omega (arith, over, short, skips.count, ap (λ (xs : List ℕ). length xs) skips.is_fed.part, length-append skips.fed (part_left at_line skips.is_fed.rest)))

-- what a checker was given was taken whole
pub taken_whole : (curves : Raised) (coming left : Option (List ℕ)) (c : Seen) (taken : Taken) → TakenGives curves coming c taken → IsTakenToEnd left taken → IsFewTaken coming left taken →
    IsTakenWhole coming left
taken_whole curves None left c taken gives ends few = tt
taken_whole curves (Some all) left c TakenTooLarge gives ends few = λ short. absurd (omega (arith, gives, short))
taken_whole curves (Some all) left c (TakenWhole None) gives ends few = λ short. ((λ unmarked. ends), few)
taken_whole curves (Some all) left c (TakenWhole (Some number)) gives ends few = λ short. ((λ unmarked. absurd (clash (has_marker (between_feeds all)) gives.3.1.0 unmarked)), few)

-- both texts were read
pub both_read : (left coming after : Option (List ℕ)) (show : Text) → IfSome left (λ all. IsShowText show (cut_of all)) → GoesOn show left coming →
    (IsWholeText show → IsTakenWhole coming after) → TakesFront left after → IsReadBoth certificate_limit left after
both_read None coming after show text goes taken takes = tt
both_read (Some all) coming after TooLarge text goes taken takes = λ short. absurd (omega (arith, text, short))
both_read (Some all) coming after (Whole part) text goes taken takes = λ short second.
    let whole = (rw goes at (taken tt)) second in
    ((λ unmarked. read_whole (Some all) after takes (whole.0 unmarked)), whole.1)

-- what is known of a result that is there
pub there : (result : Result Answer Failure) (P Q R : Type 0) → ((P → Q) → R) → (P → IfOk result (λ _. Q)) → IfOk result (λ _. R)
there (Ok a) P Q R by holds = by holds
there (Err e) P Q R by holds = tt

-- what is to come after a show's text
second_of : (left coming : Option (List ℕ)) (show : Text) (P : List ℕ → Type 0) → IsWholeText show → GoesOn show left coming → IfSome coming P → IfSome left (λ all. P (rest_of all))
second_of None coming show P whole goes is = tt
second_of (Some all) coming TooLarge P whole goes is = absurd whole
second_of (Some all) coming (Whole part) P whole goes is = rw goes at is

both_by : (left : Option (List ℕ)) (P Q R : List ℕ → Type 0) → ((x : List ℕ) → P x → Q x → R x) → IfSome left P → IfSome left Q → IfSome left R
both_by None P Q R by first second = tt
both_by (Some x) P Q R by first second = by x first second

-- for a show that fits
pub input_fitted : (left coming after : Option (List ℕ)) (show : Text) (f : Fitted) (result : Result Answer Failure) → IfSome left (λ all. IsShowText show (cut_of all)) → IsWholeText show → GoesOn show left coming →
    ((cut : Cut) → IsShowText show cut → Fits verify_verb.ways cut f) → IfSome coming (λ all. IfOk result (λ a. GivesSecond f all (outcome_of a))) →
    IfOk result (λ a. (outcome_of a).status ≡ 0 → FlyApart f.settings f.sent) → IfOk result (λ a. (outcome_of a).status ≡ 0 → IsAtEnd after) → IfOk result IsSaid → TakesFront left after →
    AnswersInput verify_verb left after result
input_fitted left coming after show f (Err e) text whole goes fits gives apart ends is_said takes = record {
  gives = some_map left _ _ (λ input is. tt) text;
  safe = some_map left _ _ (λ input is. tt) text;
  whole = tt;
  said = tt;
}
input_fitted left coming after show f (Ok a) text whole goes fits gives apart ends is_said takes =
    let second = second_of left coming show (λ all. GivesSecond f all (outcome_of a)) whole goes gives in
    record {
      gives = both_by left _ _ _ (λ input is second. let it = fits (cut_of input) is in fitted_outcome verify_verb None (cut_of input) f (outcome_of a) refl it (second it.s (cut_of input) it.fitted refl refl)) text second;
      safe = both_by left _ _ _ (λ input is second done. let it = fits (cut_of input) is in fitted_safe verify_verb None (cut_of input) f (outcome_of a) refl refl it (second it.s (cut_of input) it.fitted refl refl) (apart_of_show verify_verb (cut_of input) f it (apart done)) done) text second;
      whole = λ done. read_whole left after takes (ends done);
      said = is_said;
    }

-- for a show that is refused
pub input_refused : (left after : Option (List ℕ)) (show : Text) (r : Refusal) (result : Result Answer Failure) → IfSome left (λ all. IsShowText show (cut_of all)) →
    ((cut : Cut) → IsShowText show cut → IsRefusedBy verify_verb.ways cut r) → IsOfInput r → IfOk result (λ a. a ≡ Refused r) → AnswersInput verify_verb left after result
input_refused left after show r (Err e) text is of_input answer = record {
  gives = some_map left _ _ (λ input is. tt) text;
  safe = some_map left _ _ (λ input is. tt) text;
  whole = tt;
  said = tt;
}
input_refused left after show r (Ok a) text is of_input answer =
    subst (λ (b : Answer). AnswersInput verify_verb left after (Ok b)) (sym answer) (record {
      gives = some_map left _ _ (λ input text. plain_outcome verify_verb (cut_of input) r refl (is (cut_of input) text)) text;
      safe = some_map left _ _ (λ input text done. absurd (refused_some r done)) text;
      whole = λ done. absurd (refused_some r done);
      said = of_input;
    })

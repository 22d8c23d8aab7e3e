-- What a command gives, from what its steps do.
use Rattle.show_judge.proofs.Prelude.{common_steps, ◌≡◌, inl, inr, ℕ, ◌≤◌, false, List, length, Option, Some, None, Result, Ok, Err, IfOk, IfSome, refl, sym, ap, subst, ◌∙◌, arith, AllocError, PlainShow, StandsFor, Refusal, status_of, Fitted, IsFitted, FlyApart, Judged, Answer, Refused, Input, Text, TooLarge, Whole, Ways, grid_of, Lands, AnswersInput, AnswersText, AnswersTwo, EndsJudged, Fits, IsAccepted, IsRefusedBy, IsSaid, JudgedGives, JudgesInput, outcome_of, IsShowText, IsText, IsUnmarked, IsWholeText, IsWithin, ReadsShow, ReadsTwo, IsOutcomeOf, IsSafe, IsVerb, ShowGives, refused, said, FliesApart, Outcome, Verb, Settings, IsOfInput, blocked_by, show_refusal, most_text, Cut, cut_of, nodes_of, sent_of}
use Rattle.refusals.specs.declared.refusal.Refusal.TheVariants as refusal
use Rattle.show_judge.specs.declared.judging.Accepted.{Accepted}
use Rattle.cue_grid.specs.declared.grid.Grid.{Grid}
use Rattle.show_judge.proofs.PlanLemmas.{cut_at}
use Rattle.show_judge.proofs.RunLemmas.{some_map}

-- a refusal has no status 0
pub refused_some : (r : Refusal) → status_of r ≡ 0 → ⊥
refused_some refusal.Usage is = omega (arith, is)
refused_some r is = omega (arith, is)

-- a command that writes no frames says a refusal by its line
pub said_plain : (c : Verb) (r : Refusal) → c.ways.by_frames ≡ false → said c r ≡ refused r
said_plain c r plain = rw plain refl

-- where a command refuses, it gives what it says then
pub refused_outcome : (c : Verb) (cut : Cut) (r : Refusal) → IsRefusedBy c.ways cut r → IsOutcomeOf c cut (said c r)
refused_outcome c cut r (inl is) = inl (rw is refl)
refused_outcome c cut r (inr (s, short, stands, is)) =
    inr (record { s = s; short = short; stands = stands; gives = subst (λ (o : Option Refusal). ShowGives c o s cut (said c r)) (sym is) refl })

pub plain_outcome : (c : Verb) (cut : Cut) (r : Refusal) → c.ways.by_frames ≡ false → IsRefusedBy c.ways cut r → IsOutcomeOf c cut (refused r)
plain_outcome c cut r plain is = subst (IsOutcomeOf c cut) (said_plain c r plain) (refused_outcome c cut r is)

-- what a show gives that nothing refuses
show_outcome : (c : Verb) (cut : Cut) (s : PlainShow) (o : Outcome) → length cut.show ≤ most_text → StandsFor cut.show s → show_refusal c.ways cut s ≡ None → c.gives s cut o → IsOutcomeOf c cut o
show_outcome c cut s o short stands none gives =
    inr (record { s = s; short = short; stands = stands; gives = subst (λ (r : Option Refusal). ShowGives c r s cut o) (sym none) gives })

-- ---- a show that is accepted, and one that is refused

-- the outcome of a show that is accepted, and that it is safe
pub accepted_outcome : (c : Verb) (depth : ℕ) (cut : Cut) (a : Accepted) (o : Outcome) → (is : IsAccepted c.ways depth cut a) → c.gives is.s cut o → IsOutcomeOf c cut o
accepted_outcome c depth cut a o is gives = show_outcome c cut is.s o is.short is.stands is.accepted gives

pub accepted_safe : (c : Verb) → IsVerb c → (depth : ℕ) (cut : Cut) (a : Accepted) (o : Outcome) → (is : IsAccepted c.ways depth cut a) → c.gives is.s cut o → o.status ≡ 0 → IsSafe c cut o
accepted_safe c law depth cut a o is gives done =
    let promised = law.apart depth is.s cut is.searched (record { apart = is.safe.apart; uploads = is.safe.uploads }) in
    record { s = is.s; stands = is.stands; near = is.safe.near; promised = promised; accepted = is.accepted; gives = gives; done = done }

pub answers_refused : (c : Verb) (text : Text) (r : Refusal) → c.ways.by_frames ≡ false → ((cut : Cut) → IsShowText text cut → IsRefusedBy c.ways cut r) → IsOfInput r → AnswersText c text (Ok (Refused r))
answers_refused c text r plain is of_input = grind (arith, common_steps, plain_outcome, refused_some)

pub answers_memory : (c : Verb) (text : Text) (e : AllocError) → AnswersText c text (Err e)
answers_memory c text e = record { gives = λ cut is. tt; safe = λ cut is. tt; whole = tt; said = tt }

-- a command answers this for a show that is accepted
pub answers_accepted : (c : Verb) → IsVerb c → (depth : ℕ) (text : Text) (a : Accepted) (result : Result Answer AllocError) → ((cut : Cut) → IsShowText text cut → IsAccepted c.ways depth cut a) →
    ((cut : Cut) (s : PlainShow) → IsFitted a.fitted s → a.nodes ≡ nodes_of s depth → IfOk result (λ answer. c.gives s cut (outcome_of answer))) → IsUnmarked text → IfOk result IsSaid →
    AnswersText c text result
answers_accepted c law depth text a (Err e) accepted gives unmarked is_said = answers_memory c text e
answers_accepted c law depth text a (Ok answer) accepted gives unmarked is_said = record {
  gives = λ cut is. let it = accepted cut is in accepted_outcome c depth cut a (outcome_of answer) it (gives cut it.s it.fitted it.nodes);
  safe = λ cut is done. let it = accepted cut is in accepted_safe c law depth cut a (outcome_of answer) it (gives cut it.s it.fitted it.nodes) done;
  whole = λ done. unmarked;
  said = is_said;
}

-- ---- a show that fits

-- what a show gives with status 0 is no refusal
record IsGiven (c : Verb) (refused : Option Refusal) (s : PlainShow) (cut : Cut) (o : Outcome) : Type 0 where
  none : refused ≡ None
  gives : c.gives s cut o

given_by : (c : Verb) (r : Option Refusal) (s : PlainShow) (cut : Cut) (o : Outcome) → c.ways.by_frames ≡ false → ShowGives c r s cut o → o.status ≡ 0 → IsGiven c r s cut o
given_by c (Some r) s cut o plain gives done =
    absurd (refused_some r (ap (λ (p : Outcome). p.status) (sym (said_plain c r plain)) ∙ sym (ap (λ (p : Outcome). p.status) gives) ∙ done))
given_by c None s cut o plain gives done = record { none = refl; gives = gives }

left_of : (c : Verb) (d : Option ℕ) (cut : Cut) (f : Fitted) → c.ways.depth ≡ d → (fits : Fits c.ways cut f) → show_refusal c.ways cut fits.s ≡ blocked_by d fits.s
left_of c d cut f is fits = fits.left ∙ ap (λ (e : Option ℕ). blocked_by e fits.s) is

-- what is given for a show that fits is an outcome, and a safe one at status 0
pub fitted_outcome : (c : Verb) (d : Option ℕ) (cut : Cut) (f : Fitted) (o : Outcome) → c.ways.depth ≡ d → (fits : Fits c.ways cut f) → ShowGives c (blocked_by d fits.s) fits.s cut o → IsOutcomeOf c cut o
fitted_outcome c d cut f o is fits gives =
    inr (record { s = fits.s; short = fits.short; stands = fits.stands; gives = subst (λ (r : Option Refusal). ShowGives c r fits.s cut o) (sym (left_of c d cut f is fits)) gives })

pub fitted_safe : (c : Verb) (d : Option ℕ) (cut : Cut) (f : Fitted) (o : Outcome) → c.ways.by_frames ≡ false → c.ways.depth ≡ d → (fits : Fits c.ways cut f) →
    ShowGives c (blocked_by d fits.s) fits.s cut o → c.promises fits.s cut → o.status ≡ 0 → IsSafe c cut o
fitted_safe c d cut f o plain is fits gives promised done = grind (arith, common_steps, given_by, left_of)

-- where what fits flies apart, that is promised of its show
pub apart_of_show : (c : Verb) (cut : Cut) (f : Fitted) → (fits : Fits c.ways cut f) → FlyApart f.settings f.sent → FliesApart fits.s
apart_of_show c cut f fits apart =
    let of_show : FlyApart fits.s.settings (sent_of fits.s) = subst (λ (e : Settings). FlyApart e (sent_of fits.s)) fits.fitted.settings (subst (FlyApart f.settings) fits.fitted.sent apart) in
    record { apart = of_show; uploads = fits.uploads of_show }

pub answers_fitted : (c : Verb) (d : Option ℕ) (text : Text) (f : Fitted) (result : Result Answer AllocError) → c.ways.by_frames ≡ false → c.ways.depth ≡ d →
    ((cut : Cut) → IsShowText text cut → Fits c.ways cut f) → ((s : PlainShow) (cut : Cut) → IsFitted f s → IfOk result (λ a. ShowGives c (blocked_by d s) s cut (outcome_of a))) →
    ((cut : Cut) → IsShowText text cut → (fits : Fits c.ways cut f) → IfOk result (λ a. (outcome_of a).status ≡ 0 → c.promises fits.s cut)) → IfOk result IsSaid → IsUnmarked text →
    AnswersText c text result
answers_fitted c d text f (Err e) plain is fits gives promised is_said unmarked = answers_memory c text e
answers_fitted c d text f (Ok a) plain is fits gives promised is_said unmarked = record {
  gives = λ cut is_text. let it = fits cut is_text in fitted_outcome c d cut f (outcome_of a) is it (gives it.s cut it.fitted);
  safe = λ cut is_text done. let it = fits cut is_text in fitted_safe c d cut f (outcome_of a) plain is it (gives it.s cut it.fitted) (promised cut is_text it done) done;
  whole = λ done. unmarked;
  said = is_said;
}

-- ---- two texts

pub two_refused : (c : Verb) (limit : ℕ) (input : Input) (r : Refusal) → c.ways.by_frames ≡ false → ((cut : Cut) → IsShowText input.show cut → IsRefusedBy c.ways cut r) → IsOfInput r →
    AnswersTwo c limit input (Ok (Refused r))
two_refused c limit input r plain is of_input = grind (arith, common_steps, plain_outcome, refused_some)

pub two_memory : (c : Verb) (limit : ℕ) (input : Input) (e : AllocError) → AnswersTwo c limit input (Err e)
two_memory c limit input e = record { gives = λ cut is. tt; safe = λ cut is. tt; whole = tt; said = tt }

pub two_fitted : (c : Verb) (d : Option ℕ) (limit : ℕ) (input : Input) (f : Fitted) (result : Result Answer AllocError) → c.ways.by_frames ≡ false → c.ways.depth ≡ d →
    ((cut : Cut) → IsShowText input.show cut → Fits c.ways cut f) →
    ((s : PlainShow) (cut : Cut) → IsFitted f s → IsText limit input.second cut.second cut.is_second_marked → IfOk result (λ a. ShowGives c (blocked_by d s) s cut (outcome_of a))) →
    ((cut : Cut) → IsText limit input.second cut.second cut.is_second_marked → (fits : Fits c.ways cut f) → IfOk result (λ a. (outcome_of a).status ≡ 0 → c.promises fits.s cut)) → IsWholeText input.show →
    IfOk result (λ a. (outcome_of a).status ≡ 0 → IsUnmarked input.second) → IfOk result IsSaid → AnswersTwo c limit input result
two_fitted c d limit input f (Err e) plain is fits gives promised whole unmarked is_said = two_memory c limit input e
two_fitted c d limit input f (Ok a) plain is fits gives promised whole unmarked is_said = record {
  gives = λ cut texts. let it = fits cut texts.show in fitted_outcome c d cut f (outcome_of a) is it (gives it.s cut it.fitted (texts.second whole));
  safe = λ cut texts done. let it = fits cut texts.show in fitted_safe c d cut f (outcome_of a) plain is it (gives it.s cut it.fitted (texts.second whole)) (promised cut (texts.second whole) it done) done;
  whole = λ done. (whole, unmarked done);
  said = is_said;
}

-- ---- what was read

pub input_text : (c : Verb) (left after : Option (List ℕ)) (text : Text) (a : Answer) → ReadsShow left after text → AnswersText c text (Ok a) → AnswersInput c left after (Ok a)
input_text c left after text a read answers = record {
  gives = some_map left _ _ (λ input is. answers.gives (cut_of input) is) read.show;
  safe = some_map left _ _ (λ input is. answers.safe (cut_of input) is) read.show;
  whole = λ done. read.whole (answers.whole done);
  said = answers.said;
}

pub input_two : (c : Verb) (limit : ℕ) (left after : Option (List ℕ)) (input : Input) (a : Answer) → ReadsTwo limit left after input → AnswersTwo c limit input (Ok a) → AnswersInput c left after (Ok a)
input_two c limit left after input a read answers = record {
  gives = some_map left _ _ (λ all is. answers.gives (cut_of all) is) read.texts;
  safe = some_map left _ _ (λ all is. answers.safe (cut_of all) is) read.texts;
  whole = λ done. let parts = answers.whole done in read.whole parts.0 parts.1;
  said = answers.said;
}

-- what is judged of a text is judged of the input
pub judges_text : (c : Ways) (depth : ℕ) (left after : Option (List ℕ)) (text : Text) (j : Judged) → c.has_second ≡ false → ReadsShow left after text →
    ((cut : Cut) → IsShowText text cut → JudgedGives c depth cut j) → EndsJudged c text j → JudgesInput c depth left after (Ok j)
judges_text c depth left after text j alone read gives ends = grind (arith, common_steps, some_map)

-- what is accepted of a text lands
pub accepted_lands : (c : Ways) (depth : ℕ) (text : Text) (a : Accepted) → IsWholeText text → IsWithin most_text text → ((cut : Cut) → IsShowText text cut → IsAccepted c depth cut a) →
    (g : Grid) × Lands g a.fitted.settings a.fitted.sent
accepted_lands c depth TooLarge a whole short accepted = absurd whole
accepted_lands c depth (Whole part) a whole short accepted =
    let is = accepted (cut_at part) (refl, refl, short) in
    (grid_of is.s, subst (λ (e : Settings). Lands (grid_of is.s) e a.fitted.sent) (sym is.fitted.settings) (subst (Lands (grid_of is.s) is.s.settings) (sym is.fitted.sent) is.safe.uploads.stored))

-- a command answers this for a show that is accepted and a second text
pub two_accepted : (c : Verb) → IsVerb c → (depth limit : ℕ) (input : Input) (a : Accepted) (result : Result Answer AllocError) → ((cut : Cut) → IsShowText input.show cut → IsAccepted c.ways depth cut a) →
    ((s : PlainShow) (cut : Cut) → IsFitted a.fitted s → IsText limit input.second cut.second cut.is_second_marked → IfOk result (λ o. c.gives s cut (outcome_of o))) →
    IsWholeText input.show → IfOk result (λ o. (outcome_of o).status ≡ 0 → IsUnmarked input.second) → IfOk result IsSaid → AnswersTwo c limit input result
two_accepted c law depth limit input a (Err e) accepted gives whole unmarked is_said = two_memory c limit input e
two_accepted c law depth limit input a (Ok answer) accepted gives whole unmarked is_said = record {
  gives = λ cut texts. let it = accepted cut texts.show in accepted_outcome c depth cut a (outcome_of answer) it (gives it.s cut it.fitted (texts.second whole));
  safe = λ cut texts done. let it = accepted cut texts.show in accepted_safe c law depth cut a (outcome_of answer) it (gives it.s cut it.fitted (texts.second whole)) done;
  whole = λ done. (whole, unmarked done);
  said = is_said;
}

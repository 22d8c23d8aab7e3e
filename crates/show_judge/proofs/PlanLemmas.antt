-- From a show that fits to one that is accepted.
use Rattle.show_judge.proofs.Prelude.{common_steps, ◌≡◌, inr, ℕ, ◌≤◌, Bool, false, cond, [], length, Option, Some, None, Result, Ok, Err, IfOk, refl, ap, subst, ◌∙◌, arith, AllocError, PlainShow, StandsFor, Settings, grid_of, Ways, Refusal, Fitted, IsFitted, AreUploadable, FlyApart, Judged, Fits, JudgedGives, PlanGives, blocked_by, show_refusal, most_text, Cut, sent_of}
use Rattle.byte_streams.specs.declared.parts.Part.{Part}
use Rattle.show_plan.specs.Flight.{KeepsNearShow}
use Rattle.show_plan.specs.Uploading.{UploadsLaw}
use Rattle.show_judge.specs.declared.judging.Judged.TheVariants as judged
use Rattle.show_judge.specs.declared.judging.Planned.{Planned}
use Rattle.show_judge.specs.declared.judging.Planned.TheVariants as planned
use Rattle.show_judge.specs.Steps.{FitsAs, Separated, ShowPlanned}

-- the input that is cut after a show's text
abbrev pub cut_at : Part → Cut
cut_at part = record { show = part.bytes.items; is_marked = part.marker; frames = []; second = []; is_second_marked = false }

-- where no marker line is refused, none stands there, unless bytes are wanted after it
pub no_marker : (second marked : Bool) (r : Refusal) → cond second None (cond marked (Some r) None) ≡ None → second ≡ false → marked ≡ false
no_marker false false r none is = refl
no_marker xs ys r none is = absurd (cc)

pub apart_of : (f : Fitted) (s : PlainShow) → IsFitted f s → FlyApart f.settings f.sent → FlyApart s.settings (sent_of s)
apart_of f s is apart = subst (λ (e : Settings). FlyApart e (sent_of s)) is.settings (subst (FlyApart f.settings) is.sent apart)

-- what fits of a show is near to it, and where it is kept apart its uploads go right
pub fits_as : UploadsLaw → (c : Ways) (cut : Cut) (s : PlainShow) (f : Fitted) → show_refusal c cut s ≡ blocked_by c.depth s → IsFitted f s →
    AreUploadable f.settings f.sent → KeepsNearShow (grid_of s) f.sent → FitsAs c cut s f
fits_as law c cut s f left is up near = record {
  left = left;
  fitted = is;
  near = subst (KeepsNearShow (grid_of s)) is.sent near;
  uploads = λ apart. law (grid_of s) s.settings (sent_of s)
      (subst (λ (e : Settings). AreUploadable e (sent_of s)) is.settings (subst (AreUploadable f.settings) is.sent up)) (subst (KeepsNearShow (grid_of s)) is.sent near) apart;
}

-- what becomes of a show is what becomes of its text
pub plan_of_text : (c : Ways) (cut : Cut) (s : PlainShow) (result : Result Planned AllocError) → length cut.show ≤ most_text → StandsFor cut.show s →
    IfOk result (ShowPlanned c cut s) → IfOk result (PlanGives c cut)
plan_of_text c cut s (Err e) short stands is = tt
plan_of_text c cut s (Ok (planned.Fits f)) short stands is =
    record { s = s; short = short; stands = stands; left = is.left; fitted = is.fitted; near = is.near; uploads = is.uploads }
plan_of_text c cut s (Ok (planned.Refused r)) short stands is = inr (s, short, stands, is)

-- where a show that fits is judged for separation, it is accepted or refused
pub judged_of_fit : (c : Ways) (depth : ℕ) (cut : Cut) (f : Fitted) (result : Result Judged AllocError) → c.depth ≡ Some depth → Fits c cut f → IfOk result (Separated depth f) →
    IfOk result (JudgedGives c depth cut)
judged_of_fit c depth cut f (Err e) is fits separated = tt
judged_of_fit c depth cut f (Ok (judged.Accepted a)) is fits separated = grind (arith, common_steps, apart_of)
judged_of_fit c depth cut f (Ok (judged.Refused r)) is fits separated =
    inr (fits.s, fits.short, fits.stands, fits.left ∙ ap (λ (d : Option ℕ). blocked_by d fits.s) is ∙ separated fits.s fits.fitted)

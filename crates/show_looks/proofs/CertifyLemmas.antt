-- What `certify` gives and promises.
use Rattle.show_looks.proofs.Prelude.{◌≡◌, ℕ, Result, Ok, Err, IfOk, refl, sym, ap, ◌∙◌, PlainShow, Fitted, IsFitted, sent_of, FliesApart, Outcome, outcome, IsVerb, says_of}
use Rattle.std.specs.declared.alloc.AllocError.{AllocError}
use Rattle.cue_grid.specs.Cues.{grid_of}
use Rattle.show_plan.specs.Separation.{FlyApart}
use Rattle.show_plan.specs.Uploading.{Uploads}
use Rattle.show_judge.specs.declared.ends.Answer.{Answer}
use Rattle.show_judge.specs.Answers.{outcome_of}
use Rattle.show_judge.proofs.PlanLemmas.{apart_of}
use Rattle.show_looks.specs.Certify.{certify_text, certify_verb}

pub certify_laws : (depth : ℕ) → IsVerb (certify_verb depth)
certify_laws depth = record {
  one = λ s cut o p first second. first ∙ sym second;
  some = λ s cut known. (outcome 0 (certify_text depth s), refl);
  done = λ s cut o gives succeeds. ap (λ (o : Outcome). o.status) gives;
  apart = λ d s cut searched apart. apart;
  headline = λ input o old new safe appended. says_of (certify_verb depth) (certify_text depth) input o old new refl safe safe.promised safe.gives appended;
}

-- where what fits flies apart, its show does
pub apart_kept : (f : Fitted) (s : PlainShow) → IsFitted f s → (FlyApart s.settings (sent_of s) → Uploads (grid_of s) s.settings (sent_of s)) → FlyApart f.settings f.sent → FliesApart s
apart_kept f s is uploads apart = let of_show = apart_of f s is apart in record { apart = of_show; uploads = uploads of_show }

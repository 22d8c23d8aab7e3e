-- What `certify` gives.
use Rattle.std.specs.Prelude.{◌≡◌, ℕ, List, Some}
use Rattle.choreo_show.specs.Plain.{PlainShow}
use Rattle.sep_certificate.specs.Texts.{text_of}
use Rattle.show_plan.specs.Separation.{best_certificate}
use Rattle.show_judge.specs.Headline.{SaysOf}
use Rattle.show_judge.specs.Shows.{trajectories_of}
use Rattle.show_judge.specs.Verb.{FliesApart, Verb, of_any, outcome}

abbrev pub certify_text : ℕ → PlainShow → List ℕ
certify_text depth s = text_of (best_certificate s.settings depth (trajectories_of s))

abbrev pub certify_verb : ℕ → Verb
certify_verb depth =
    of_any (Some depth) (λ s cut o. o ≡ outcome 0 (certify_text depth s)) (λ s cut. Unit {0}) (λ s cut. FliesApart s)
    (λ s cut. Unit {0})
    (λ input old new. SaysOf (certify_text depth) input old new)

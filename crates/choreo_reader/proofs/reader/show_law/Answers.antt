use Rattle.choreo_reader.proofs.Prelude.{◌≡◌, ℕ, List, None, Result, Ok, Err, refl, sym, ap, ◌∙◌, PlainShow, StandsFor, reading, Fault}
use Rattle.choreo_reader.proofs.CompleteShow.{complete}
use Rattle.choreo_reader.proofs.Faulty.{fault_in, faulty}
use Rattle.choreo_reader.proofs.Sound.{sound}
use Rattle.choreo_reader.proofs.ValidShow.{valid}
use Rattle.choreo_reader.proofs.reader.show_law.Goals as goal

same_show : (show other : PlainShow) (r : Result PlainShow Fault) → r ≡ Ok show → r ≡ Ok other → show ≡ other
same_show show other r first second = cc

-- a reading without a fault is that of a show, for which the text stands
shown : (text : List ℕ) (r : Result PlainShow Fault) → reading text ≡ r → fault_in r ≡ None → (show : PlainShow) × StandsFor text show
shown text (Ok show) is none = (show, sound text show is)
shown text (Err f) is none = absurd (cc)

pub returns : goal.returns
returns c = record {
  one = λ text show other first second. same_show show other (reading text) (complete text show first) (complete text other second);
  valid = valid;
  faultless = λ text. (
    (λ stands. faulty text ∙ ap fault_in (complete text stands.0 stands.1)),
    (λ none. shown text (reading text) refl (sym (faulty text) ∙ none)),
  );
}

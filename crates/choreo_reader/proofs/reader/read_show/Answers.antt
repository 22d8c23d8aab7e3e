use Rattle.choreo_reader.proofs.Prelude.{ℕ, List, ap, subst, ◌∙◌, Result, Ok, Err, IfOk, PlainShow, plain, StandsFor, IsValid, Fault, fault, reading, ShowGives, FaultGives}
use Rattle.choreo_reader.proofs.CompleteShow.{complete}
use Rattle.choreo_reader.proofs.Sound.{sound}
use Rattle.choreo_reader.proofs.ValidShow.{valid}
use Rattle.choreo_reader.proofs.Faulty.{faulty, fault_in}
use Rattle.choreo_reader.specs.declared.fault.ShowFault.{ShowFault}
use Rattle.choreo_reader.specs.declared.fault.ShowFault.TheVariants as failing
use Rattle.choreo_show.specs.declared.show.Show.{Show}
use Rattle.choreo_reader.proofs.reader.read_show.Goals as goal

pub returns-clause-only : goal.returns-clause-only
returns-clause-only c show stands =
    subst (λ (r : Result PlainShow Fault). ShowGives plain c.read_text.result r) (complete c.args.text.now show stands) c.read_text.ensures

stands_for : (text : List ℕ) (r : Result Show ShowFault) → ShowGives plain r (reading text) → IfOk r (λ show. StandsFor text (plain show))
stands_for text (Ok show) h = sound text (plain show) h
stands_for text (Err f) h = tt

pub returns-clause-found : goal.returns-clause-found
returns-clause-found c = stands_for c.args.text.now c.read_text.result c.read_text.ensures

names_fault : (text : List ℕ) (r : Result Show ShowFault) → ShowGives plain r (reading text) → FaultGives r (fault text)
names_fault text (Ok show) h = faulty text ∙ ap fault_in h
names_fault text (Err (failing.Line n k)) h = faulty text ∙ ap fault_in h
names_fault text (Err failing.Memory) h = tt

pub returns-clause-fault : goal.returns-clause-fault
returns-clause-fault c = names_fault c.args.text.now c.read_text.result c.read_text.ensures

is_valid : (text : List ℕ) (r : Result Show ShowFault) → ShowGives plain r (reading text) → IfOk r (λ show. IsValid (plain show))
is_valid text (Ok show) h = valid text (plain show) (sound text (plain show) h)
is_valid text (Err f) h = tt

pub returns-clause-valid : goal.returns-clause-valid
returns-clause-valid c = is_valid c.args.text.now c.read_text.result c.read_text.ensures

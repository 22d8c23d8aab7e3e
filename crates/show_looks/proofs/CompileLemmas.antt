-- What status 0 of `compile` says.
use Rattle.show_looks.proofs.Prelude.{◌≡◌, ℕ, List, Option, Some, refl, ap, subst, IsSafe, IsSafeOutcome, cut_of, sent_of, Outcome, Run, show_ways, whole_input}
use Rattle.std.specs.Io.KnownBytes.{Appends}
use Rattle.choreo_reader.specs.Grammar.{StandsFor}
use Rattle.show_judge.specs.Runs.{Runs}
use Rattle.show_looks.specs.Compile.{Headline, compile_verb}

-- what was written safely is a plan that is near and apart, and of which each upload goes right
headline : (depth : ℕ) (input : List ℕ) (old new : Option (List ℕ)) (o : Outcome) → IsSafe (compile_verb depth) (cut_of input) o → Appends old new o.output → Headline input old new
headline depth input old new o safe appended = record {
  s = safe.s;
  sent = sent_of safe.s;
  stands = subst (λ (text : List ℕ). StandsFor text safe.s) (whole_input (show_ways depth) input safe.s refl safe.accepted) safe.stands;
  planned = subst (λ (output : List ℕ). Appends old new output) (ap (λ (p : Outcome). p.output) safe.gives) appended;
  near = safe.near;
  apart = safe.promised.apart;
  uploads = safe.promised.uploads;
}

-- the same of a run
pub headline_of : (depth : ℕ) (input : List ℕ) (r : Run) (status : ℕ) → Runs (compile_verb depth) r status → r.left ≡ Some input → status ≡ 0 → Headline input r.written r.written_after
headline_of depth input r status runs left is_done =
    let safe : (o : Outcome) × IsSafeOutcome (compile_verb depth) input o × Appends r.written r.written_after o.output = rw left at (runs.safe is_done) in
    headline depth input r.written r.written_after safe.0 safe.1 safe.2

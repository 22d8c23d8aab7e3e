-- The laws of `boxes`.
use Rattle.show_studies.proofs.Prelude.{common_steps, ◌≡◌, ℕ, List, length, Option, Some, None, Result, Ok, Err, refl, sym, ap, subst, ◌∙◌, arith, Appends, PlainShow, raised_of, Judged, Kept, Enters, Region, JudgeGives, regions_of, Refusal, IsSafe, second_refusal, Cut, cut_of, name_at, names_of, trajectories_of, Outcome, refused_some, none_both, most_text, BoxesLaw, RegionsGive, StaysInRegions, aside_of, boxes_verb, faulty_line, regions_end, upwards_of, none_mapped, read_given, refused_as, within_limit}
use Rattle.keepout_boxes.specs.Lines.{kept_line}
use Rattle.refusals.specs.declared.refusal.Refusal.TheVariants as refusal
use Rattle.show_studies.proofs.DecidingLemmas.{judge_some}
use Rattle.show_studies.proofs.StudyLemmas.{judge_one, regions_given_one, regions_one}

-- ---- there is one

-- a text of regions gives an outcome
regions_some : (why : Option Refusal) (s : PlainShow) (depth : ℕ) (cut : Cut) → second_refusal most_text (faulty_line (regions_of cut.second)) cut ≡ why → (o : Outcome) × RegionsGive why s depth cut o
regions_some (Some r) s depth cut is = (_, refl)
regions_some None s depth cut is =
    let parts = within_limit most_text (length cut.second) _ _ is in
    let regions = read_given (regions_of cut.second) (none_mapped _ (faulty_line (regions_of cut.second)) (none_both _ _ parts.1).0) in
    let judged = judge_some (raised_of (trajectories_of s)) (aside_of s.settings) (upwards_of s.settings) depth regions.0 in
    (regions_end (names_of s) depth (length regions.0) judged.0, (regions.0, judged.0, regions.1, judged.1, refl))

-- ---- status 0

regions_done : (refused : Option Refusal) (s : PlainShow) (depth : ℕ) (cut : Cut) (o : Outcome) (regions : List Region) → refused ≡ None → RegionsGive refused s depth cut o →
    regions_of cut.second ≡ Ok regions → JudgeGives (raised_of (trajectories_of s)) (aside_of s.settings) (upwards_of s.settings) depth regions Kept → o.status ≡ 0
regions_done (Some r) s depth cut o regions none gives is kept = absurd (cc)
regions_done None s depth cut o regions none (others, j, reads, judges, ends) is kept =
    let same : others ≡ regions = regions_given_one (regions_of cut.second) others regions reads is in
    let judged : j ≡ Kept = judge_one _ (aside_of s.settings) (upwards_of s.settings) depth regions j Kept
    (subst (λ (rs : List Region). JudgeGives (raised_of (trajectories_of s)) (aside_of s.settings) (upwards_of s.settings) depth rs j) same judges) kept in
    ap (λ (p : Outcome). p.status) ends ∙ (ap (λ (k : Judged). (regions_end (names_of s) depth (length others) k).status) judged)

status_of_outcome : (o p : Outcome) → o ≡ p → o.status ≡ 0 → p.status ≡ 0
status_of_outcome o p same done = sym (ap (λ (q : Outcome). q.status) same) ∙ done

-- drones that are judged with status 0 are kept, and that is what is written
kept_written : (s : PlainShow) (depth n : ℕ) (j : Judged) (o : Outcome) → o ≡ regions_end (names_of s) depth n j → o.status ≡ 0 → o.output ≡ kept_line n
kept_written s depth n Kept o ends done = ap (λ (q : Outcome). q.output) ends
kept_written s depth n (Enters region drone cue index) o ends done =
    absurd (refused_some (refusal.Enters region (name_at (names_of s) drone) cue index depth) (status_of_outcome o _ ends done))

regions_written : (refused : Option Refusal) (s : PlainShow) (depth : ℕ) (cut : Cut) (o : Outcome) (regions : List Region) → RegionsGive refused s depth cut o → o.status ≡ 0 →
    regions_of cut.second ≡ Ok regions → o.output ≡ kept_line (length regions)
regions_written (Some r) s depth cut o regions gives done says = absurd (refused_some r (status_of_outcome o _ gives done))
regions_written None s depth cut o regions (others, j, reads, judges, ends) done says =
    kept_written s depth (length others) j o ends done
    ∙ ap (λ (rs : List Region). kept_line (length rs)) (regions_given_one (regions_of cut.second) others regions reads says)

stays : (depth : ℕ) (input : List ℕ) (old new : Option (List ℕ)) (o : Outcome) → IsSafe (boxes_verb depth) (cut_of input) o → Appends old new o.output → StaysInRegions input old new
stays depth input old new o safe appended = grind (arith, common_steps, regions_written)

-- ---- the laws

pub boxes_laws : BoxesLaw
boxes_laws depth = record {
  one = λ s cut o p first second. regions_one (second_refusal most_text (faulty_line (regions_of cut.second)) cut) s depth cut o p first second;
  some = λ s cut known. regions_some (second_refusal most_text (faulty_line (regions_of cut.second)) cut) s depth cut refl;
  done = λ s cut o gives succeeds. regions_done (second_refusal most_text (faulty_line (regions_of cut.second)) cut) s depth cut o succeeds.0
      (refused_as most_text (regions_of cut.second) succeeds.0 cut succeeds.2 succeeds.1) gives succeeds.2 succeeds.3;
  apart = λ d s cut searched apart. absurd (cc);
  headline = λ input o old new safe appended. stays depth input old new o safe appended;
}

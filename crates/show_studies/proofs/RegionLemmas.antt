-- What `boxes` answers, from what its steps do.
use Rattle.show_studies.proofs.Prelude.{common_steps, ◌≡◌, ℕ, ◌≤◌, false, nat_lt, List, length, Result, Ok, Err, IfOk, refl, arith, AllocError, PlainShow, Region, KeepClear, regions_of, Fitted, IsFitted, Answer, outcome_of, most_text, RegionsGive, aside_of, faulty_line, upwards_of, second_refusal, Cut, sent_of, nothing_refused, EndsRegions}
use Rattle.std.proofs.lemmas.Bool.{le-ltb}

-- so each drone of its show keeps to each region of the text
pub regions_promised : (f : Fitted) (s : PlainShow) (cut : Cut) (regions : List Region) (result : Result Answer AllocError) → IsFitted f s → regions_of cut.second ≡ Ok regions →
    IfOk result (λ a. (outcome_of a).status ≡ 0 → KeepClear (aside_of f.settings) (upwards_of f.settings) regions f.sent) →
    IfOk result (λ a. (outcome_of a).status ≡ 0 → (rs : List Region) × (regions_of cut.second ≡ Ok rs) × KeepClear (aside_of s.settings) (upwards_of s.settings) rs (sent_of s))
regions_promised f s cut regions (Err e) is reads clear = tt
regions_promised f s cut regions (Ok a) is reads clear = grind (arith, common_steps)

-- what a text of regions gives that says these
pub regions_give : (s : PlainShow) (depth : ℕ) (cut : Cut) (regions : List Region) (result : Result Answer AllocError) → length cut.second ≤ most_text →
    regions_of cut.second ≡ Ok regions → cut.is_second_marked ≡ false → IfOk result (λ a. EndsRegions s depth regions (outcome_of a)) →
    IfOk result (λ a. RegionsGive (second_refusal most_text (faulty_line (regions_of cut.second)) cut) s depth cut (outcome_of a))
regions_give s depth cut regions (Err e) short is unmarked gives = tt
regions_give s depth cut regions (Ok a) short is unmarked gives = grind (arith, common_steps, nothing_refused, nat_lt, le-ltb)

-- What the reading of a text gives.
use Rattle.show_direct.proofs.Prelude.{◌≡◌, ◌⊎◌, inl, inr, ℕ, ◌<◌, ◌≤◌, Bool, true, false, cond, nat_lt, List, [], length, Some, Result, Ok, Err, refl, sym, ap, ◌∙◌, arith, option_map, IsTrue, part_of, rest_of, consumed, Rose, Asked, Held, has_whole_marker, stream, TakesFewAfter, TakesPart, TookMarked, MayGive, Told, Took, to_come, most_text, Accepted, faulty, text_refusal, Cut, cut_of, Unflown, JudgeGives, ReadGives, coming}
use Rattle.std.proofs.lemmas.Bool.Decides.{nat_tests}
use Rattle.choreo_reader.specs.Context.{fault}
use Rattle.byte_streams.specs.declared.parts.Part.{Part}
use Rattle.refusals.specs.declared.refusal.Refusal.TheVariants as refusal
use Rattle.show_judge.specs.declared.input.Text.TheVariants.{Whole}
use Rattle.show_judge.specs.Input.{IsShowText}
use Rattle.show_direct.specs.declared.reading.Unflown.TheVariants as unflown
use Rattle.show_direct.proofs.FewLemmas.{few_asked}

-- where the end wasn't met, a marker line ended the text
fed_before : (marked met : Bool) (P : Type 0) → (marked ≡ false → IsTrue met) → (marked ≡ true → IsTrue met ⊎ P) → met ≡ false → P
fed_before false met P to_end fed off = absurd (let e : false ≡ true = sym off ∙ to_end refl in cc)
fed_before true met P to_end fed off = elim (fed refl) [
  | inl is ↦ absurd (let e : false ≡ true = sym off ∙ is in cc)
  | inr p ↦ p
]

-- known bytes are one
pub of_some : (xs ys : List ℕ) → Some xs ≡ Some ys → xs ≡ ys
of_some xs ys e = cc

-- a text was read whole, and judged
pub read_whole : (depth : ℕ) (held holds : Held) (old new : Told) (all : List ℕ) (part : Part) (result : Result Accepted Unflown) →
    TakesPart (stream held (to_come all old)) (stream holds (to_come all new)) part.bytes.items part.marker → length part.bytes.items ≤ most_text →
    (part.marker ≡ false → IsTrue holds.ended) → (part.marker ≡ true → IsTrue holds.ended ⊎ TookMarked held.waiting holds.waiting old new) → MayGive holds.ended new all →
    TakesFewAfter (stream held (to_come all old)) (to_come all new) → ((cut : Cut) → IsShowText (Whole part) cut → JudgeGives depth cut result) → ReadGives depth held holds old new all result
read_whole depth held holds old new all part (Ok a) takes short to_end fed may few gives = record {
  accepted = gives (cut_of (coming held all old)) (takes.part, takes.marker, omega (arith, short, ap (λ (xs : List ℕ). length xs) takes.part));
  after = of_some (coming holds all new) (rest_of (coming held all old)) takes.rest;
  fed = λ off.
      (let it = fed_before part.marker holds.ended (TookMarked held.waiting holds.waiting old new) to_end fed off in
      (it.0, consumed holds.ended old new all held.waiting holds.waiting it.0 it.1 may, it.2));
}
read_whole depth held holds old new all part (Err (unflown.Refused r)) takes short to_end fed may few gives =
    let it = gives (cut_of (coming held all old)) (takes.part, takes.marker, omega (arith, short, ap (λ (xs : List ℕ). length xs) takes.part)) in
    (it.0, it.1, few)
read_whole depth held holds old new all part (Err unflown.Read) takes short to_end fed may few gives =
    absurd (gives (cut_of (coming held all old)) (takes.part, takes.marker, omega (arith, short, ap (λ (xs : List ℕ). length xs) takes.part)))
read_whole depth held holds old new all part (Err (unflown.NoFlight f)) takes short to_end fed may few gives =
    absurd (gives (cut_of (coming held all old)) (takes.part, takes.marker, omega (arith, short, ap (λ (xs : List ℕ). length xs) takes.part)))
read_whole depth held holds old new all part (Err unflown.Memory) takes short to_end fed may few gives = tt

-- a text that is too large is refused for that
too_large : (text : List ℕ) → most_text < length text → text_refusal text ≡ Some refusal.TooLarge
too_large text long =
    let test : nat_lt most_text (length text) ≡ true = grind (arith, nat_tests) in
    ap (λ (b : Bool). cond b (Some refusal.TooLarge) (option_map faulty (fault text))) test

-- a text was too large
pub read_too_large : (depth : ℕ) (held holds : Held) (old new : Told) (all : List ℕ) → MayGive holds.ended new all → most_text < length (part_of (coming held all old)) →
    (new ≡ old) ⊎ Asked held.waiting old new → length held.waiting ≤ 4096 → ReadGives depth held holds old new all (Err (unflown.Refused refusal.TooLarge))
read_too_large depth held holds old new all may long asks few = (
  inl (too_large (part_of (coming held all old)) long),
  record { sayable = tt; command = λ e. omega (arith, e); read = λ e. omega (arith, e) },
  few_asked holds.ended old new all held.waiting may asks few,
)

-- a read failed
pub read_failed : (depth : ℕ) (held holds : Held) (old new : Told) (all : List ℕ) → MayGive holds.ended new all → Rose old.faults new.faults →
    (held.ended ≡ false) × (holds.waiting ≡ []) × ((taken : List ℕ) × Took held.waiting [] old new taken × (has_whole_marker taken ≡ false)) →
    ReadGives depth held holds old new all (Err unflown.Read)
read_failed depth held holds old new all may rose (unmet, none, (taken, took, unmarked)) =
    (unmet, rose, (taken, consumed holds.ended old new all held.waiting [] taken took may, unmarked))

-- How much a run reads.
use Rattle.show_judge.proofs.Prelude.{IsTrue, common_steps, ◌≡◌, ◌∙◌, ◌++◌, ap, Bool, [], Held, stream, IsReadWhole, IsUnmarked, IsWithin, ReadsShow, ℕ, ◌<◌, List, Option, Some, None, Result, Ok, Err, IfOk, IfSome, length, sym, subst, arith, TakesFewAfter, TakesAtMost, Answer, Failure, Read, Memory, Responds, part_of, rest_of, Text, TooLarge, Whole, Input, GoesOn, IsNextText, IsReadBoth, IsWholeText, ReadsTwo, TakesOneText, most_text, IsJudged, ◌≤◌, Rose, IsInput, Told, to_come}
use Rattle.show_judge.proofs.FewLemmas.{at_new}
use Rattle.show_judge.specs.TextsRead.{IsPastTwo, OneTextRead, TwoTextsRead}

-- where an answer was judged, it is there
pub judged_answer : (answer : Result Answer Failure) (old new : Option (List ℕ)) (before after status : ℕ) (P : Type 0) → Responds answer old new before after status →
    IfOk answer (λ _. P) → IsJudged status → P
judged_answer (Ok a) old new before after status P responds holds judged = holds
judged_answer (Err Read) old new before after status P responds holds judged = grind (arith, common_steps)
judged_answer (Err Memory) old new before after status P responds holds judged = absurd (judged.0 responds.0)

-- both texts were read
pub two_read : (limit : ℕ) (left after : Option (List ℕ)) (input : Input) → ReadsTwo limit left after input →
    (IsWholeText input.show → IsWholeText input.second → IfSome left (λ all. TakesFewAfter (Some (rest_of all)) after)) → IsReadBoth limit left after
two_read limit None after input reads past = tt
two_read limit (Some all) after input reads past = grind (arith, common_steps)

-- few bytes were taken of what stands after the second text
pub few_both : (left mid after : Option (List ℕ)) (show : Text) → IsWholeText show → GoesOn show left mid → TakesFewAfter mid after → IfSome left (λ all. TakesFewAfter (Some (rest_of all)) after)
few_both None mid after show whole goes few = tt
few_both (Some all) mid after TooLarge whole goes few = absurd whole
few_both (Some all) mid after (Whole part) whole goes few = rw goes at few

-- after a show's text that is too long nothing is taken
pub little_two : (left mid after : Option (List ℕ)) (show : Text) → IsNextText most_text show left → TakesOneText left mid → ((IsWholeText show → ⊥) → after ≡ mid) →
    IfSome left (λ all. most_text < length (part_of all)) → TakesOneText left after
little_two None mid after show text few stays long = tt
little_two (Some all) mid after TooLarge text few stays long = subst (TakesOneText (Some all)) (sym (stays (λ whole. whole))) few
little_two (Some all) mid after (Whole part) text few stays long = absurd (omega (arith, text.2, long))

-- ---- texts that were read

-- the input was read to its end
read_whole : (old : Option (List ℕ)) (new : List ℕ) → new ≡ [] → IsReadWhole old (Some new)
read_whole None new none = tt
read_whole (Some all) new none = ap Some none

-- the show's text was read
pub show_read : (result : Result Text Failure) (held : Held) (old : Option (List ℕ)) (new : List ℕ) (met : Bool) → held.waiting ≡ [] → IfOk result (λ text. IsNextText most_text text (stream held old)) →
    IfOk result (λ text. IsWithin most_text text) → IfOk result (λ text. IsUnmarked text → IsTrue met) → (IsTrue met → new ≡ []) → IfOk result (λ text. ReadsShow old (Some new) text)
show_read (Err why) held old new met none text within whole end = tt
show_read (Ok text) held old new met none is within whole end =
    record { show = at_new (λ (left : Option (List ℕ)). IsNextText most_text text left) held old none is; short = within; whole = λ unmarked. read_whole old new (end (whole unmarked)) }

-- the second text is what comes after the show's
second_text : (limit : ℕ) (held after : Held) (old mid : List ℕ) (show second : Text) → held.waiting ≡ [] → GoesOn show (stream held (Some old)) (stream after (Some mid)) →
    (IsWholeText show → IsNextText limit second (stream after (Some mid))) → IsWholeText show → IsNextText limit second (Some (rest_of old))
second_text limit held after old mid TooLarge second none goes text whole = absurd whole
second_text limit held after old mid (Whole part) second none goes text whole =
    subst (λ (left : Option (List ℕ)). IsNextText limit second left) (goes ∙ ap (λ (waits : List ℕ). Some (rest_of (waits ++ old))) none) (text whole)

-- both texts were read
pub texts_read : (limit : ℕ) (held after : Held) (old mid new : List ℕ) (show second : Text) → held.waiting ≡ [] → IsNextText most_text show (stream held (Some old)) →
    GoesOn show (stream held (Some old)) (stream after (Some mid)) → (IsWholeText show → IsNextText limit second (stream after (Some mid))) → IsWithin most_text show → IsWithin limit second →
    (IsWholeText show → IsUnmarked second → new ≡ []) → ReadsTwo limit (Some old) (Some new) (record { show = show; second = second })
texts_read limit held after old mid new show second none first goes text short long end = record {
  texts = record { show = at_new (λ (left : Option (List ℕ)). IsNextText most_text show left) held (Some old) none first; second = second_text limit held after old mid show second none goes text };
  short = short;
  second = long;
  whole = λ whole unmarked. ap Some (end whole unmarked);
}

-- ---- what a call says of the texts that it read

-- what holds anyway holds where a result is there
at_ok : {T : Type 0} (result : Result T Failure) (P : Type 0) → P → IfOk result (λ _. P)
at_ok (Ok value) P holds = holds
at_ok (Err why) P holds = tt

-- a count that rose later rose from before that too
pub rose_later : (a b c : ℕ) → a ≤ b → Rose b c → Rose a c
rose_later a b c later rose = grind (arith, common_steps)

-- where two calls fail for one reason, what `Read` says of the one it says of the other
pub failed_as : {T U : Type 0} (before : Result T Failure) (after : Result U Failure) (why : Failure) (P : Type 0) → before ≡ Err why → after ≡ Err why → (before ≡ Err Read → P) → after ≡ Err Read → P
failed_as before after Read P was is by read = by was
failed_as before after Memory P was is by read = absurd (let e : after ≡ Err Read = read in cc)

-- A text was read, and its call went on to this result without reading.
pub one_made : {T U : Type 0} (Fact Made : Option (List ℕ) → Option (List ℕ) → Type 0) (old new : Told) (text : T) (made : Result U Failure) → OneTextRead Fact old new (Ok text) →
    (made ≡ Err Read → ⊥) → ((all : List ℕ) → IsInput new all → Made (to_come all old) (to_come all new)) → OneTextRead Made old new made
one_made Fact Made old new text made reads sure gives = record {
  fact = gives;
  failed = λ is. absurd (sure is);
  few = reads.few;
  after = λ all is. at_ok made _ (reads.after all is);
  gives = reads.gives;
}

-- Two texts were read, and their call went on to this result without reading.
pub two_made : {U : Type 0} (limit : ℕ) (Made : Option (List ℕ) → Option (List ℕ) → Type 0) (old new : Told) (input : Input) (made : Result U Failure) →
    TwoTextsRead (λ left left_after. ReadsTwo limit left left_after input) IsPastTwo old new (Ok input) →
    (made ≡ Err Read → ⊥) → ((all : List ℕ) → IsInput new all → Made (to_come all old) (to_come all new)) → TwoTextsRead Made (λ _ left left_after. IsReadBoth limit left left_after) old new made
two_made limit Made old new input made reads sure gives = record {
  fact = gives;
  past = λ all is. at_ok made _ (two_read limit _ _ input (reads.fact all is) (reads.past all is));
  failed = λ is. absurd (sure is);
  few = reads.few;
  gives = reads.gives;
}

-- Whether a show's text is refused.
use Rattle.show_judge.proofs.Prelude.{common_steps, ◌≡◌, ℕ, ◌≤◌, cond, nat_lt, List, length, Option, Some, None, ap, ◌∙◌, arith, option_map, nat_tests, PlainShow, StandsFor, ShowLaw, fault, Refusal, said, Outcome, Verb, faulty, text_refusal, most_text}

-- a text that isn't too long is refused for its first fault alone
refusal_is : (text : List ℕ) → length text ≤ most_text → text_refusal text ≡ option_map faulty (fault text)
refusal_is text short = grind (arith, common_steps, nat_lt, nat_tests, cond)

-- a text that stands for a show isn't refused
pub stands_unrefused : ShowLaw → (text : List ℕ) (s : PlainShow) → length text ≤ most_text → StandsFor text s → text_refusal text ≡ None
stands_unrefused law text s short stands = refusal_is text short ∙ ap (option_map faulty) ((law.faultless text).0 (s, stands))

-- what gives nothing is said by nothing
pub none_said : (c : Verb) (r : Option Refusal) (o : Outcome) → r ≡ None → option_map (said c) r ≡ Some o → ⊥
none_said c None o is said = absurd (cc)
none_said c (Some r) o is said = absurd (cc)

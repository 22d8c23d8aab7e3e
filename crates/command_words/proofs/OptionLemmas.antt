-- Words are read as options exactly where they are these options, and the walk over them finds what the definition finds.
use Rattle.std.proofs.lemmas.Grind.{common_steps}
use Rattle.std.proofs.Common.{◌≡◌, ℕ, Bool, true, false, cond, List, [], ◌∷◌, ◌++◌, Option, Some, None, refl, sym, ap, subst, ◌∙◌, arith}
use Rattle.std.specs.Prelude.{bytes_eq, find, is_some}
use Rattle.std.specs.Option.{option_map, option_and_then}
use Rattle.std.proofs.lemmas.Slice.Eq.{bytes_eq-Decides}
use Rattle.command_words.specs.declared.options.OptionName.{OptionName}
use Rattle.command_words.specs.declared.options.OptionName.TheVariants.{Depth, Step, Start, Readback, Limit, Fine, Accel, Jump, Near, At, Silence, Floor, Descent, Then, All}
use Rattle.command_words.specs.declared.options.Range.{Range}
use Rattle.command_words.specs.Commands.{Given, word_of, range_of, named_by, flag_with, flag, valued_with, valued, value_of, before, options_of, SpellsWith, SpellsOption, SpellsOptions, WordsLaw}

-- ---- one option before others

-- a flag before other words is an option before theirs
pub flag_then : (word : List ℕ) (g : Given) (rest : List (List ℕ)) → flag word ≡ Some g → options_of (word ∷ rest) ≡ before (Some g) (options_of rest)
flag_then word g [] is = ap (λ (f : Option Given). before f (Some [])) is
flag_then word g (value ∷ words) is =
    ap (λ (f : Option Given). cond (is_some f) (before f (options_of (value ∷ words))) (before (valued word value) (options_of words))) is

-- an option with its number before other words is an option before theirs
pub valued_then : (word value : List ℕ) (g : Given) (rest : List (List ℕ)) → flag word ≡ None → valued word value ≡ Some g → options_of (word ∷ value ∷ rest) ≡ before (Some g) (options_of rest)
valued_then word value g rest none is = grind (arith, common_steps, cond)

-- ---- words that are options are read

flag_word : (n : OptionName) → flag (word_of n) ≡ flag_with n (range_of n)
flag_word Depth = refl
flag_word Step = refl
flag_word Start = refl
flag_word Readback = refl
flag_word Limit = refl
flag_word Fine = refl
flag_word Accel = refl
flag_word Jump = refl
flag_word Near = refl
flag_word At = refl
flag_word Silence = refl
flag_word Floor = refl
flag_word Descent = refl
flag_word Then = refl
flag_word All = refl

valued_word : (n : OptionName) (value : List ℕ) → valued (word_of n) value ≡ valued_with n value (range_of n)
valued_word Depth value = refl
valued_word Step value = refl
valued_word Start value = refl
valued_word Readback value = refl
valued_word Limit value = refl
valued_word Fine value = refl
valued_word Accel value = refl
valued_word Jump value = refl
valued_word Near value = refl
valued_word At value = refl
valued_word Silence value = refl
valued_word Floor value = refl
valued_word Descent value = refl
valued_word Then value = refl
valued_word All value = refl

-- one option, spelled by its words, before others
head : (g : Given) (front rest : List (List ℕ)) (r : Option Range) → range_of g.name ≡ r → SpellsWith g front r → options_of (front ++ rest) ≡ before (Some g) (options_of rest)
head g front rest None is (front_is, one) = grind (arith, common_steps, flag_then, flag_word)
head g front rest (Some r) is (value, front_is, n_is) = grind (arith, common_steps, valued_then, flag_word, valued_word)

reads : (gs : List Given) (words : List (List ℕ)) → SpellsOptions gs words → options_of words ≡ Some gs
reads [] words is = ap options_of is
reads (g ∷ gs) words (front, rest, spells, more, is) =
    ap options_of is ∙ head g front rest (range_of g.name) refl spells ∙ ap (before (Some g)) (reads gs rest more)

-- ---- words that are read are options

-- what is read before the rest, and the rest
pub record Splits (first : Option Given) (rest : Option (List Given)) (gs : List Given) : Type 0 where
  pub given : Given
  pub more : List Given
  pub first_is : first ≡ Some given
  pub rest_is : rest ≡ Some more
  pub is : gs ≡ given ∷ more

splits : (first : Option Given) (rest : Option (List Given)) (gs : List Given) → before first rest ≡ Some gs → Splits first rest gs
splits None rest gs are = absurd (cc)
splits (Some given) None gs are = absurd (cc)
splits (Some given) (Some more) gs are = record { given = given; more = more; first_is = refl; rest_is = refl; is = cc }

-- the option that a word names has that word
named_is : (word : List ℕ) (ns : List OptionName) (n : OptionName) → find (λ m. bytes_eq word (word_of m)) ns ≡ Some n → word ≡ word_of n
named_is word [] n is = absurd (cc)
named_is word (m ∷ ns) n is = by (bytes_eq word (word_of m)) refl (λ more. named_is word ns n more)
  where
    by : (same : Bool) → bytes_eq word (word_of m) ≡ same → (find (λ k. bytes_eq word (word_of k)) ns ≡ Some n → word ≡ word_of n) → word ≡ word_of n
    by true e later =
        let found : Some m ≡ Some n = ap (λ (b : Bool). cond b (Some m) (find (λ k. bytes_eq word (word_of k)) ns)) (sym e) ∙ is in
        let same : m ≡ n = cc found in
        (bytes_eq-Decides word (word_of m)).0 e ∙ ap word_of same
    by false e later = later (ap (λ (b : Bool). cond b (Some m) (find (λ k. bytes_eq word (word_of k)) ns)) (sym e) ∙ is)

-- a flag that is read is spelled by its word
flag_found : (word : List ℕ) (found : Option OptionName) (g : Given) → named_by word ≡ found → flag word ≡ Some g → SpellsOption g (word ∷ [])
flag_found word None g is are = absurd (cc)
flag_found word (Some n) g is are = by (range_of n) refl
  where
    flag_is : flag_with n (range_of n) ≡ Some g
    flag_is = ap (λ (m : Option OptionName). option_and_then (λ (k : OptionName). flag_with k (range_of k)) m) (sym is) ∙ are

    by : (r : Option Range) → range_of n ≡ r → SpellsOption g (word ∷ [])
    by None e =
        let same : record { name = n; value = 1 } ≡ g = cc (ap (flag_with n) (sym e) ∙ flag_is) in
        subst (λ (x : Given). SpellsOption x (word ∷ [])) same
        (subst (λ (r : Option Range). SpellsWith (record { name = n; value = 1 }) (word ∷ []) r) (sym e)
        (ap (λ (w : List ℕ). w ∷ []) (named_is word (All ∷ Depth ∷ Step ∷ Start ∷ Readback ∷ Limit ∷ Fine ∷ Accel ∷ Jump ∷ Near ∷ At ∷ Silence ∷ Floor ∷ Descent ∷ Then ∷ []) n is), refl))
    by (Some r) e = absurd (cc (ap (flag_with n) (sym e) ∙ flag_is))

-- an option with its number that is read is spelled by the two words
valued_found : (word value : List ℕ) (found : Option OptionName) (g : Given) → named_by word ≡ found → valued word value ≡ Some g → SpellsOption g (word ∷ value ∷ [])
valued_found word value None g is are = absurd (cc)
valued_found word value (Some n) g is are = by (range_of n) refl
  where
    valued_is : valued_with n value (range_of n) ≡ Some g
    valued_is = ap (λ (m : Option OptionName). option_and_then (λ (k : OptionName). valued_with k value (range_of k)) m) (sym is) ∙ are

    by : (r : Option Range) → range_of n ≡ r → SpellsOption g (word ∷ value ∷ [])
    by None e = absurd (cc (ap (valued_with n value) (sym e) ∙ valued_is))
    by (Some r) e = with_number (value_of n r value) refl
      where
        with_number : (v : Option ℕ) → value_of n r value ≡ v → SpellsOption g (word ∷ value ∷ [])
        with_number None none =
            absurd (cc (ap (option_map (λ (k : ℕ). record { name = n; value = k })) (sym none) ∙ ap (valued_with n value) (sym e) ∙ valued_is))
        with_number (Some k) number_is =
            let same : record { name = n; value = k } ≡ g =
            cc (ap (option_map (λ (j : ℕ). record { name = n; value = j })) (sym number_is) ∙ ap (valued_with n value) (sym e) ∙ valued_is) in
            subst (λ (x : Given). SpellsOption x (word ∷ value ∷ [])) same
            (subst (λ (s : Option Range). SpellsWith (record { name = n; value = k }) (word ∷ value ∷ []) s) (sym e)
            (value, ap (λ (w : List ℕ). w ∷ value ∷ []) (named_is word (All ∷ Depth ∷ Step ∷ Start ∷ Readback ∷ Limit ∷ Fine ∷ Accel ∷ Jump ∷ Near ∷ At ∷ Silence ∷ Floor ∷ Descent ∷ Then ∷ []) n is), number_is))

-- words that are read begin with a flag or with an option and its number
several_are : (word value : List ℕ) (words : List (List ℕ)) (one : Bool) (gs : List Given) →
    ((more : List Given) → options_of (value ∷ words) ≡ Some more → SpellsOptions more (value ∷ words)) → ((more : List Given) → options_of words ≡ Some more → SpellsOptions more words) →
    cond one (before (flag word) (options_of (value ∷ words))) (before (valued word value) (options_of words)) ≡ Some gs → SpellsOptions gs (word ∷ value ∷ words)
several_are word value words true gs after_one after_two are =
    let s = splits (flag word) (options_of (value ∷ words)) gs are in
    subst (λ (g : List Given). SpellsOptions g (word ∷ value ∷ words)) (sym s.is) (word ∷ [], value ∷ words, flag_found word (named_by word) s.given refl s.first_is, after_one s.more s.rest_is, refl)
several_are word value words false gs after_one after_two are =
    let s = splits (valued word value) (options_of words) gs are in
    subst (λ (g : List Given). SpellsOptions g (word ∷ value ∷ words)) (sym s.is) (word ∷ value ∷ [], words, valued_found word value (named_by word) s.given refl s.first_is, after_two s.more s.rest_is, refl)

are_spelled : (words : List (List ℕ)) (gs : List Given) → options_of words ≡ Some gs → SpellsOptions gs words
are_spelled [] [] are = refl
are_spelled [] (given ∷ gs) are = absurd (cc)
are_spelled (word ∷ []) gs are =
    let s = splits (flag word) (Some []) gs are in
    let none : [] ≡ s.more = cc (s.rest_is) in
    subst (λ (g : List Given). SpellsOptions g (word ∷ [])) (sym s.is)
    (word ∷ [], [], flag_found word (named_by word) s.given refl s.first_is, subst (λ (more : List Given). SpellsOptions more []) none refl, refl)
are_spelled (word ∷ value ∷ words) gs are =
    several_are word value words (is_some (flag word)) gs
    (λ more is. are_spelled (value ∷ words) more is) (λ more is. are_spelled words more is) are

pub words_law : WordsLaw
words_law words gs = (are_spelled words gs, reads gs words)

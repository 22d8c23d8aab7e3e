use Rattle.hemtoghai.proofs.Prelude.{◌≡◌, arith, map, Err, ap, ◌∙◌, string_bytes}
use Rattle.hemtoghai.specs.declared.words.WordsFault.TheVariants.{NotText}
use Rattle.hemtoghai.proofs.WordLemmas.{words_taken, words_done, not_all}
use Rattle.hemtoghai.proofs.words.words_of.Goals as goal

pub returns-in-Err-clause-not_text : goal.returns-in-Err-clause-not_text
returns-in-Err-clause-not_text c = λ same.
    let is : c.in-Err.fault ≡ NotText = cc in
    not_all c.word_len-len.result c.words.rest.now (map string_bytes c.words.list.items) _ c.word_len-len.ensures.value c.words.invariant.so_far (c.put_word.ensures.not_text (c.in-Err.is ∙ ap Err is))

pub returns-then-len-rest-clause-ok : goal.returns-then-len-rest-clause-ok
returns-then-len-rest-clause-ok c = words_done c.word_len-len.result c.words.rest.now (map string_bytes c.words.list.items) _ _ c.word_len-len.ensures.value (omega arith) c.in-Ok.ensures.ok c.words.invariant.so_far

pub words-preserved : goal.words-preserved
words-preserved c = record {
  so_far = rw c.after_byte-rest.ensures (words_taken c.word_len-len.result c.words.rest.now (map string_bytes c.words.list.items) _ _ c.word_len-len.ensures.value (omega arith) c.in-Ok.ensures.ok c.words.invariant.so_far);
}

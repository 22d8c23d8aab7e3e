use Rattle.choreo_lines.proofs.Prelude.{◌≡◌, List, ℕ, true, Result, Ok, Err, subst, IfOk, words_in, Gives, entry_of, Says, may_say, Form, Place, Entry}
use Rattle.choreo_lines.proofs.Saying.{says_of, says_entry}
use Rattle.choreo_lines.specs.declared.line.LineError.{LineError}
use Rattle.choreo_lines.proofs.entry.entry_of.Goals as goal

said : (form : Form) (p : Place) (ws : List (List ℕ)) (r : Result Entry LineError) → Gives r (entry_of form p ws) → IfOk r (λ e. Says form ws e × (may_say p e ≡ true))
said form p ws (Ok e) h = says_of form p ws e h
said form p ws (Err f) h = tt

pub returns-clause-says : goal.returns-clause-says
returns-clause-says c = said c.args.form c.args.place (words_in c.args.text.now c.args.words.now) c.entry_at.result c.entry_at.ensures

pub returns-clause-said : goal.returns-clause-said
returns-clause-said c = λ e says stands.
    subst (Gives c.entry_at.result) (says_entry c.args.form c.args.place (words_in c.args.text.now c.args.words.now) e says stands) c.entry_at.ensures

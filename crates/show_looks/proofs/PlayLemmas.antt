-- What `play` needs of what is sent.
use Rattle.show_looks.proofs.Prelude.{common_steps, ◌≡◌, ℕ, List, [], ◌∷◌, map, sum, All, ap, ◌∙◌, arith, All-nil, All-cons, All-head, All-tail, Name, PlainShow, duration_of, play_text, Traj, Fitted, IsFitted, sent_of, words_of}
use Rattle.traj_codec.specs.Joined.{JoinLaw, joined}
use Rattle.traj_codec.specs.Positions.{durations}
use Rattle.show_looks.specs.Reports as reports

-- what is sent lasts as long as the cues
pub sent_lasts : JoinLaw → (times : List ℕ) (total : ℕ) → sum times ≡ total → (ts : List Traj) → All (λ (t : Traj). durations t.segments ≡ times) ts → All (λ (t : Traj). duration_of t ≡ total) (map joined ts)
sent_lasts law times total is [] lasting = All-nil (λ (t : Traj). duration_of t ≡ total)
sent_lasts law times total is (t ∷ ts) lasting =
    All-cons (λ (t : Traj). duration_of t ≡ total) (joined t) (map joined ts)
    (law.lasts t ∙ ap (λ (ms : List ℕ). sum ms) (All-head (λ (t : Traj). durations t.segments ≡ times) t ts lasting) ∙ is)
    (sent_lasts law times total is ts (All-tail (λ (t : Traj). durations t.segments ≡ times) t ts lasting))

-- the rows of what fits are those of the show
pub rows_of : (f : Fitted) (s : PlainShow) (step : ℕ) → IsFitted f s →
    play_text f.duration step (map (λ (name : Name). name.items) f.names) f.sent ≡ play_text (reports.duration_of s) step (words_of s) (sent_of s)
rows_of f s step is = grind (arith, common_steps)

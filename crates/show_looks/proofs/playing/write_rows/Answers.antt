use Rattle.show_looks.proofs.Prelude.{All, subst, sym, ◌∙◌, ◌≡◌, duration_of, Traj}
use Rattle.show_looks.proofs.PlayLemmas.{sent_lasts}
use Rattle.show_looks.proofs.playing.write_rows.Goals as goal

pub play-requires-clause-total : goal.play-requires-clause-total
play-requires-clause-total g c =
    let f = c.args.fitted.now in
    subst (All (λ (t : Traj). duration_of t ≡ f.duration)) (sym (c.as_slice-sent.ensures ∙ c.requires.valid.sent))
    (sent_lasts c.join_law.ensures.curve c.requires.valid.times f.duration c.requires.valid.duration f.trajs c.requires.valid.same_times)

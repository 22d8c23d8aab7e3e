use Rattle.show_looks.proofs.Prelude.{show_verb, behaves_of, play_verb, rows}
use Rattle.show_looks.proofs.playing.play.Goals as goal

pub returns : goal.returns
returns g c = record {
  gives = c.carry.ensures.gives;
  behaves = λ all is.
      behaves_of c.show_law.ensures (play_verb c.args.depth c.args.step) (show_verb c.args.depth (rows c.args.step)) _ c.carry.result (c.carry.ensures.runs all is) (c.carry.ensures.few all is) (c.carry.ensures.marker all is) tt;
}

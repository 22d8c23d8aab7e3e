use Rattle.show_looks.proofs.Prelude.{Gives-none, refl, nothing_behaves}
use Rattle.show_looks.proofs.helping.tell.Goals as goal

pub returns : goal.returns
returns g c = record {
  gives = Gives-none _ _ refl;
  behaves = λ all is. nothing_behaves c.show_law.ensures c.args.bytes.now _ _ _ _ _ _ c.finish.result c.finish.ensures;
}

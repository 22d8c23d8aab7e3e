-- Three texts, computed.
use Rattle.definition_tests.proofs.Prelude.{◌≡◌, ℕ, arith, part_of, rest_of, PlainShow, StandsFor, FlyAsOneRows, no_text}
use Rattle.definition_tests.proofs.LandedRows.{touch}
use Rattle.definition_tests.proofs.StandsRows.{begins_so}

pub no_show : (s : PlainShow) → StandsFor no_text s → ⊥
no_show s is = let letters : ◌≡◌ {A = ℕ} 108 99 = begins_so no_text s is in omega (arith, letters)

pub wholes : FlyAsOneRows
unfolding part_of rest_of
wholes = record {
  no_up = λ o is. no_show is.up.s is.up.stands;
  no_show = λ o is. no_show is.show.s is.show.stands;
  no_down = λ o is. no_show is.down.s is.down.stands;
  up_touches = λ o input is e_is are. touch _ _ e_is are is.up.apart;
  show_touches = λ o input is e_is are. touch _ _ e_is are is.show.apart;
  down_touches = λ o input is e_is are. touch _ _ e_is are is.down.apart;
}

-- Uploads that go right, with any events.
use Rattle.definition_tests.proofs.Prelude.{◌≡◌, None, Some, arith, refl, packet_count, part_count, read_count, write_count}
use Rattle.definition_tests.specs.Rights.{RightRows}
use Rattle.definition_tests.proofs.BeginRows.{found}

pub rights : RightRows
unfolding part_count read_count write_count packet_count
rights = record {
  verified = λ drones events goes done. found drones events (goes.verified done 0 0 (omega arith) (omega arith));
  read_before = λ drones events goes sent. found drones events (goes.starts_last 0 0 0 (omega arith) (omega arith) (omega arith) sent).1;
  covered = λ s drones events goes reads long.
      let cover = goes.covered reads 0 20 long in
      (cover.0, cover.1, cover.2.0, cover.2.1);
  unstarted = λ drones goes. goes.unstarted 0 (omega arith) (λ i e is takes. let none : None ≡ Some e = is in absurd (cc));
  begun = λ drones events goes done one. goes.begun_once refl done 0 (omega arith) one;
  unaltered = λ drones events goes alone done. (goes.unaltered alone).loaded 0 (omega arith) done 2 (omega arith);
}

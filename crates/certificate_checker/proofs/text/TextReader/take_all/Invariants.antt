use Rattle.certificate_checker.proofs.Prelude.{◌≡◌, take, checked_all, IsTextReader, checking_of}
use Rattle.certificate_checker.proofs.text.TextReader.take_all.Given as goal

abbrev pub invariant-loop-byte : goal.invariant-loop-byte
invariant-loop-byte l = record {
  read : checking_of l.self ≡ checked_all l.tables l.curves (checking_of l.initial.self) (take l.byte-index l.bytes);
  reader : IsTextReader l.curves l.self;
}

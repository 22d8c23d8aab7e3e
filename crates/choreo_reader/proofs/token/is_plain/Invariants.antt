use Rattle.choreo_reader.proofs.Prelude.{◌≡◌, drop, ◌&&◌, list_all, stands_anywhere}
use Rattle.choreo_reader.proofs.token.is_plain.Given as goal

abbrev pub invariant-loop-byte : goal.invariant-loop-byte
invariant-loop-byte l = (l.plain && list_all stands_anywhere (drop l.byte-index l.text)) ≡ list_all stands_anywhere l.text

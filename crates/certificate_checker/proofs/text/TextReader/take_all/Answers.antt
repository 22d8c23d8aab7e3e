use Rattle.certificate_checker.proofs.Prelude.{◌+◌, get_or, length, sym, subst, take, ap, refl, ◌∙◌, arith, length-take-le, most_bytes, Checking, checked, checked_all, AreFew, checking_of}
use Rattle.certificate_checker.proofs.Bytes.{checked_more}
use Rattle.certificate_checker.proofs.Few.{few_read, few_within}
use Rattle.certificate_checker.proofs.text.TextReader.take_all.Goals as goal

pub loop-byte-init : goal.loop-byte-init
unfolding checked_all
loop-byte-init c = record { read = refl; reader = c.requires.reader }

pub take-requires-clause-few : goal.take-requires-clause-few
take-requires-clause-few c =
    let read = take c.loop-byte.byte-index c.args.bytes.now in
    let n = c.requires.few.0 in
    let short = length-take-le c.loop-byte.byte-index c.args.bytes.now (omega arith) in
    few_within (length read + n) most_bytes (checking_of c.loop-byte.self).reading (omega (arith, c.requires.few.1, short))
    (subst (λ (checking : Checking). AreFew (length read + n) checking.reading) (sym c.loop-byte.invariant.read)
    (few_read c.args.tables.now c.args.curves.now read n (checking_of c.args.self.now) c.requires.few.2))

pub loop-byte-preserved : goal.loop-byte-preserved
loop-byte-preserved c = record {
  read = c.take.ensures.read ∙ ap (λ (checking : Checking). checked c.args.tables.now c.args.curves.now checking (get_or c.args.bytes.now c.loop-byte.byte-index 0)) c.loop-byte.invariant.read
      ∙ sym (checked_more c.args.tables.now c.args.curves.now (checking_of c.args.self.now) c.args.bytes.now c.loop-byte.byte-index (omega arith));
  reader = c.take.ensures.reader;
}

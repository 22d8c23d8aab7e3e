use Rattle.certificate_checker.proofs.Prelude.{◌≡◌, ap, length, sym, subst, Seen, checked_all, AreFew, checking_of}
use Rattle.certificate_checker.proofs.Bytes.{few_of, next_of, read_more}
use Rattle.certificate_checker.proofs.checker.Checker.feed.Goals as goal

pub take_all-requires-clause-few : goal.take_all-requires-clause-few
take_all-requires-clause-few c =
    let read = c.requires.0 in (
      length read,
      c.requires.1,
      subst (λ (s : Seen). AreFew (length read) s.checking.reading) (sym c.self.view_is) (few_of c.args.self.now c.args.curves.now read c.requires.2),
    )

pub returns-clause-has_read : goal.returns-clause-has_read
returns-clause-has_read c = λ read short has_read.
    read_more c.args.self.now _ c.args.curves.now read c.args.bytes.now (ap (λ (s : Seen). s.clearance) c.self.view_is) has_read
    (subst (λ (s : Seen). checking_of c.take_all.new.self ≡ checked_all s.clearance c.args.curves.now s.checking c.args.bytes.now) c.self.view_is c.take_all.ensures.read)
    (next_of c.args.curves.now c.take_all.new.self.reader c.take_all.ensures.reader)

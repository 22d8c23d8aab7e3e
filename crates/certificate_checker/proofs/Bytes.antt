-- What a checker has read after a byte more, and what its verdict says.
use Rattle.certificate_checker.proofs.Prelude.{common_steps, ◌≡◌, ℕ, ◌+◌, ◌^◌, ◌≤◌, ◌<◌, arith, get_or, refl, sym, subst, List, [], ◌∷◌, ◌++◌, length, take, take_more, Raised, Clearance, slots, table_of, table_small, rules_of, Valid, Line, Refused, VerdictGives, Checking, FirstLine, Reading, checked, checked_all, closed, nothing_checked, verdict_of, Seen, NamesFault, ApartWhereValid, HasRead, most_bytes, AreFew, AreWithin, IsNextIn, HasRoom, IsReader, reading_by, reading_of}
use Rattle.bezier_core.specs.declared.Bez.{Bez}
use Rattle.sep_certificate.proofs.Keeping.{keeps}
use Rattle.sep_certificate.proofs.Named.{fault_named}
use Rattle.sep_certificate.proofs.Verdicts.{valid_of}
use Rattle.certificate_checker.specs.declared.reader.Reader.{Reader}
use Rattle.certificate_checker.specs.declared.reader.Stage.{Stage}
use Rattle.certificate_checker.specs.declared.reader.Stage.TheVariants as stage
use Rattle.certificate_checker.specs.declared.verdict.Verdict.{Verdict}
use Rattle.certificate_checker.proofs.Few.{few_read, few_within}
use Rattle.certificate_checker.proofs.Verdicts.{checking_told}

-- ---- what is kept, and what it stands for
-- the numbers of a reader are small where those that it stands for are
owed_by : (r : Reader) (s : Stage) (o l k : ℕ) → r.stage ≡ s → AreWithin o l k (reading_by r s) → r.stage ≡ stage.Tree → r.owed ≤ o
owed_by r stage.Tree o l k is within tree = within.0
owed_by r stage.First o l k is within tree = absurd (cc)
owed_by r stage.Depth o l k is within tree = absurd (cc)
owed_by r stage.Faulty o l k is within tree = absurd (cc)

pub room_of : (r : Reader) (o l k : ℕ) → o < 2 ^ 31 → AreWithin o l k (reading_of r) → HasRoom r
room_of r o l k small within = λ tree. let few = owed_by r r.stage o l k refl within tree in omega (arith, small, few)

next_in : (curves : Raised) (r : Reader) (s : Stage) → r.stage ≡ s → IsReader curves r → IsNextIn curves (reading_by r s) r.judging.diff
next_in curves r stage.Tree is reader = reader.judging is
next_in curves r stage.First is reader = tt
next_in curves r stage.Depth is reader = tt
next_in curves r stage.Faulty is reader = tt

pub first_next : (curves : Raised) (reading : Reading) (diff : List (Bez 8)) → reading ≡ FirstLine [] → IsNextIn curves reading diff
first_next curves reading diff is = subst (λ (x : Reading). IsNextIn curves x diff) (sym is) tt

pub next_of : (curves : Raised) (r : Reader) → IsReader curves r → IsNextIn curves (reading_of r) r.judging.diff
next_of curves r reader = next_in curves r r.stage refl reader

-- ---- the bytes that a checker has read
pub few_of : (c : Seen) (curves : Raised) (bytes : List ℕ) → HasRead c curves bytes → AreFew (length bytes) c.checking.reading
few_of c curves bytes has_read =
    let few : AreFew (length bytes + 0) (checked_all c.clearance curves nothing_checked bytes).reading = few_read c.clearance curves bytes 0 nothing_checked tt in
    few_within (length bytes + 0) (length bytes) c.checking.reading (omega arith) (subst (λ (checking : Checking). AreFew (length bytes + 0) checking.reading) (sym has_read.read) few)

pub checked_append : (clearance : Clearance) (curves : Raised) (c : Checking) (bytes more : List ℕ) → checked_all clearance curves c (bytes ++ more) ≡ checked_all clearance curves (checked_all clearance curves c bytes) more
unfolding checked_all
checked_append clearance curves c [] more = refl
checked_append clearance curves c (b ∷ bytes) more = checked_append clearance curves (checked clearance curves c b) bytes more

pub checked_more : (clearance : Clearance) (curves : Raised) (c : Checking) (bytes : List ℕ) (i : ℕ) → i < length bytes →
    checked_all clearance curves c (take (i + 1) bytes) ≡ checked clearance curves (checked_all clearance curves c (take i bytes)) (get_or bytes i 0)
unfolding checked_all
checked_more clearance curves c bytes i within = rw (take_more bytes i 0 within) (checked_append clearance curves c (take i bytes) (get_or bytes i 0 ∷ []))

pub read_more : (old new : Seen) (curves : Raised) (read bytes : List ℕ) → new.clearance ≡ old.clearance → HasRead old curves read →
    new.checking ≡ checked_all old.clearance curves old.checking bytes → IsNextIn curves new.checking.reading new.diff → HasRead new curves (read ++ bytes)
read_more old new curves read bytes same has_read is next = grind (arith, common_steps, checked_append)

-- ---- the verdict
pub verdict_told : (c : Seen) (curves : Raised) (bytes : List ℕ) (verdict : Verdict) → 1 ≤ curves.drones → 1 ≤ curves.cues → length bytes ≤ most_bytes → HasRead c curves bytes →
    verdict ≡ verdict_of curves (closed c.clearance curves c.checking) → VerdictGives curves c.clearance bytes verdict
verdict_told c curves bytes verdict drones cues short has_read is = grind (arith, common_steps, checking_told)

pub named_told : (curves : Raised) (clearance : Clearance) (text : List ℕ) (verdict : Verdict) → VerdictGives curves clearance text verdict → NamesFault curves verdict
named_told curves clearance text (Valid depth trees) gives = tt
named_told curves clearance text (Line line) gives = tt
named_told curves clearance text (Refused version fault) (cert, says, version_is, is) = grind (arith, common_steps, fault_named)

pub safe_told : (curves : Raised) (clearance : Clearance) (text : List ℕ) (verdict : Verdict) → VerdictGives curves clearance text verdict → ApartWhereValid curves clearance verdict
safe_told curves clearance text (Line line) gives = tt
safe_told curves clearance text (Refused version fault) gives = tt
safe_told curves clearance text (Valid depth trees) (cert, says, depth_is, trees_are, none) =
    keeps (rules_of clearance cert) (table_of cert.version) curves cert.trees (table_small cert.version)
    (valid_of (rules_of clearance cert) (table_of cert.version) curves (slots curves.drones curves.cues) 0 cert.trees says.whole.whole.trees none)

-- The verdict after the bytes of a text is what the text is.
use Rattle.certificate_checker.proofs.Prelude.{◌≡◌, ℕ, ◌+◌, ◌^◌, ◌≤◌, ◌<◌, Bool, true, false, cond, nat_lt, arith, refl, sym, ◌∙◌, ap, List, [], length, Option, Some, None, lines, Raised, Clearance, slot_at, slots, table_of, first_ahead, Certificate, Missing, fault_of, rules_of, Says, bad_line, Valid, Refused, VerdictGives, Clear, FirstLine, Judged, Wrong, before_tree, checked_all, closed, judged_verdict, nothing_checked, verdict_of}
use Rattle.sep_certificate.proofs.Sayings.{said}
use Rattle.certificate_checker.proofs.Folds.{lines_read}
use Rattle.certificate_checker.proofs.Faults.{IsCount, count_trees, fault_in, faults_told}
use Rattle.certificate_checker.proofs.Lines.{all_judged, faulty_told, said_told}
use Rattle.certificate_checker.proofs.Texts.{text_told}

module _ (curves : Raised) (clearance : Clearance) (text : List ℕ) where
  -- what is judged of a certificate that the text says
  judged_told : (cert : Certificate) (j : Judged) → Says text cert → IsCount (rules_of clearance cert) (table_of cert.version) curves (length cert.trees) j → fault_in curves j ≡ fault_of (table_of cert.version) curves clearance cert →
      VerdictGives curves clearance text (judged_verdict curves cert.version cert.depth j)
  judged_told cert (Wrong f) says count is = (cert, says, refl, sym is)
  judged_told cert (Clear slot places n) says count is = go (nat_lt slot.b curves.drones) is
    where
      go : (s : Bool) → cond s (Some (Missing slot.a slot.b slot.cue)) None ≡ fault_of (table_of cert.version) curves clearance cert →
          VerdictGives curves clearance text (cond s (Refused cert.version (Missing slot.a slot.b slot.cue)) (Valid cert.depth n))
      go true is = (cert, says, refl, sym is)
      go false is = (cert, says, refl, sym count, sym is)

  verdict_said : 1 ≤ curves.drones → 1 ≤ curves.cues → (cert : Certificate) → Says text cert →
      VerdictGives curves clearance text (verdict_of curves (lines_read clearance curves (FirstLine []) (lines text)))
  verdict_said drones cues cert says =
      let told = said_told clearance curves cert says.whole in
      let reading = ap (lines_read clearance curves (FirstLine [])) says.lines_are ∙ told.1 in
      let zero_more : 0 + length cert.trees ≡ length cert.trees = omega arith in
      rw reading
      (judged_told cert (all_judged clearance curves cert) says
      (rw zero_more at (count_trees (rules_of clearance cert) (table_of cert.version) curves 0 (before_tree (slot_at 0 1 0) 0) cert.trees refl))
      (faults_told (rules_of clearance cert) (table_of cert.version) curves (slots curves.drones curves.cues) (slot_at 0 1 0) 0 cert.trees (first_ahead curves.drones curves.cues drones cues) says.whole.whole.trees))

  verdict_faulty : (k : ℕ) → bad_line (lines text) ≡ Some k → VerdictGives curves clearance text (verdict_of curves (lines_read clearance curves (FirstLine []) (lines text)))
  verdict_faulty k e = rw (faulty_told clearance curves (lines text) k e) e

  verdict_lines : 1 ≤ curves.drones → 1 ≤ curves.cues → length text < 2 ^ 30 → VerdictGives curves clearance text (verdict_of curves (lines_read clearance curves (FirstLine []) (lines text)))
  verdict_lines drones cues short = go (bad_line (lines text)) refl
    where
      go : (o : Option ℕ) → bad_line (lines text) ≡ o → VerdictGives curves clearance text (verdict_of curves (lines_read clearance curves (FirstLine []) (lines text)))
      go (Some k) e = verdict_faulty k e
      go None e = let found = said text short e in verdict_said drones cues found.0 found.1

  pub checking_told : 1 ≤ curves.drones → 1 ≤ curves.cues → length text < 2 ^ 30 → VerdictGives curves clearance text (verdict_of curves (closed clearance curves (checked_all clearance curves nothing_checked text)))
  checking_told drones cues short = rw (text_told clearance curves (FirstLine []) text) (verdict_lines drones cues short)

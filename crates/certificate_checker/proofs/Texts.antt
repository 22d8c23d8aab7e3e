-- The machine over the bytes of a text is the machine over its lines.
use Rattle.certificate_checker.proofs.Prelude.{Clearance, ◌≡◌, ℕ, ◌-◌, Bool, true, false, cond, ◌==◌, take, slice_index, arith, refl, sym, ◌∙◌, ap, List, [], ◌∷◌, ◌++◌, append_assoc, append-nil, length, length-append, All, lines, lines_of_parts, strip_carriage_return, nat_tests, All-nil, All-cons, All-append, Raised, Checking, Reading, byte_read, checked_all, closed, fresh, line_byte, line_read, with_return}
use Rattle.std.specs.List.{slice_split}
use Rattle.std.proofs.lemmas.List.Splits.{slice_split_at, slice_split_none, length-slice_split}
use Rattle.sep_certificate.proofs.FirstLines.{strip_first}
use Rattle.certificate_checker.proofs.Folds.{bytes_more, bytes_read, lines_read}

abbrev is_feed : ℕ → Bool
is_feed b = b == 10

-- ---- the carriage return at the end of a line
last_at : (p : List ℕ) (b : ℕ) → slice_index (p ++ b ∷ []) (length p) ≡ b
last_at [] b = refl
last_at (x ∷ p) b = last_at p b

front_of : (p : List ℕ) (b : ℕ) → take (length p) (p ++ b ∷ []) ≡ p
front_of [] b = refl
front_of (x ∷ p) b = ap (λ (xs : List ℕ). x ∷ xs) (front_of p b)

stripped : (p : List ℕ) (b : ℕ) → strip_carriage_return (p ++ b ∷ []) ≡ cond (b == 13) p (p ++ b ∷ [])
stripped p b =
    let e : length (p ++ b ∷ []) - 1 ≡ length p = omega (arith, length-append p (b ∷ [])) in
    rw (e, last_at p b, front_of p b) refl

module _ (clearance : Clearance) (curves : Raised) where
  -- within a line of which these bytes were read
  record IsWithin (reading : Reading) (p : List ℕ) (c : Checking) : Type 0 where
    whole : with_return clearance curves c.is_returned c.reading ≡ bytes_read clearance curves reading p
    front : c.reading ≡ bytes_read clearance curves reading (strip_carriage_return p)
    begun : c.is_begun ≡ cond (length p == 0) false true

  some_begun : (p : List ℕ) (b : ℕ) → true ≡ cond (length (p ++ b ∷ []) == 0) false true
  some_begun p b =
      let some : (length (p ++ b ∷ []) == 0) ≡ false = grind (arith, nat_tests, length-append p (b ∷ [])) in
      rw some refl

  within_more : (reading : Reading) (p : List ℕ) (c : Checking) (b : ℕ) → IsWithin reading p c → IsWithin reading (p ++ b ∷ []) (line_byte clearance curves c b)
  within_more reading p c b is = go (b == 13) refl
    where
      go : (s : Bool) → (b == 13) ≡ s →
          IsWithin reading (p ++ b ∷ []) (cond s (record { reading = with_return clearance curves c.is_returned c.reading; is_returned = true; is_begun = true })
          (record { reading = byte_read clearance curves (with_return clearance curves c.is_returned c.reading) b; is_returned = false; is_begun = true }))
      go true e =
          let b_is : b ≡ 13 = grind (arith, nat_tests) in
          record {
            whole = ap (λ (x : ℕ). byte_read clearance curves (with_return clearance curves c.is_returned c.reading) x) (sym b_is)
                ∙ ap (λ (x : Reading). byte_read clearance curves x b) is.whole ∙ sym (bytes_more clearance curves reading p b);
            front = is.whole ∙ ap (bytes_read clearance curves reading) (sym (stripped p b ∙ ap (λ (s : Bool). cond s p (p ++ b ∷ [])) e));
            begun = some_begun p b;
          }
      go false e =
          let one_more : byte_read clearance curves (with_return clearance curves c.is_returned c.reading) b ≡ bytes_read clearance curves reading (p ++ b ∷ []) =
          ap (λ (x : Reading). byte_read clearance curves x b) is.whole ∙ sym (bytes_more clearance curves reading p b) in
          record {
            whole = one_more;
            front = one_more ∙ ap (bytes_read clearance curves reading) (sym (stripped p b ∙ ap (λ (s : Bool). cond s p (p ++ b ∷ [])) e));
            begun = some_begun p b;
          }

  closed_here : (reading : Reading) (p : List ℕ) (c : Checking) → IsWithin reading p c → closed clearance curves c ≡ lines_read clearance curves reading (lines_of_parts (p ∷ []))
  closed_here reading [] c is = rw (is.begun) (is.front)
  closed_here reading (x ∷ xs) c is =
      let some : (length (x ∷ xs) == 0) ≡ false = grind (arith, nat_tests) in
      rw (is.begun, some) (ap (line_read curves) is.whole)

  texts_from : (text : List ℕ) (reading : Reading) (p : List ℕ) (c : Checking) → All (λ b. is_feed b ≡ false) p → IsWithin reading p c →
      closed clearance curves (checked_all clearance curves c text) ≡ lines_read clearance curves reading (lines_of_parts (slice_split is_feed (p ++ text)))
  unfolding checked_all
  texts_from [] reading p c plain is =
      closed_here reading p c is
      ∙ ap (λ (parts : List (List ℕ)). lines_read clearance curves reading (lines_of_parts parts)) (sym (ap (slice_split is_feed) (append-nil p) ∙ slice_split_none is_feed p plain))
  texts_from (b ∷ text) reading p c plain is =
      go (texts_from text (line_read curves c.reading) [] (fresh (line_read curves c.reading)) (All-nil (λ b. is_feed b ≡ false)) (record { whole = refl; front = refl; begun = refl }))
      (λ all more. texts_from text reading (p ++ b ∷ []) (line_byte clearance curves c b) all more) (b == 10) refl
    where
      go : closed clearance curves (checked_all clearance curves (fresh (line_read curves c.reading)) text) ≡ lines_read clearance curves (line_read curves c.reading) (lines_of_parts (slice_split is_feed text)) →
          (All (λ b. is_feed b ≡ false) (p ++ b ∷ []) → IsWithin reading (p ++ b ∷ []) (line_byte clearance curves c b) →
          closed clearance curves (checked_all clearance curves (line_byte clearance curves c b) text) ≡ lines_read clearance curves reading (lines_of_parts (slice_split is_feed ((p ++ b ∷ []) ++ text)))) →
          (s : Bool) → (b == 10) ≡ s →
          closed clearance curves (checked_all clearance curves (cond s (fresh (line_read curves c.reading)) (line_byte clearance curves c b)) text)
          ≡ lines_read clearance curves reading (lines_of_parts (slice_split is_feed (p ++ b ∷ text)))
      go next same true e =
          next
          ∙ ap (λ (x : Reading). lines_read clearance curves (line_read curves x) (lines_of_parts (slice_split is_feed text))) is.front
          ∙ sym (ap (λ (parts : List (List ℕ)). lines_read clearance curves reading (lines_of_parts parts)) (slice_split_at is_feed p b text plain e)
          ∙ ap (lines_read clearance curves reading) (strip_first p (slice_split is_feed text) (omega (arith, length-slice_split is_feed text))))
      go next same false e =
          same
          (All-append (λ b. is_feed b ≡ false) p (b ∷ []) plain (All-cons (λ b. is_feed b ≡ false) b [] e (All-nil (λ b. is_feed b ≡ false))))
          (within_more reading p c b is)
          ∙ ap (λ (xs : List ℕ). lines_read clearance curves reading (lines_of_parts (slice_split is_feed xs))) (append_assoc p (b ∷ []) text)

  pub text_told : (reading : Reading) (text : List ℕ) →
      closed clearance curves (checked_all clearance curves (fresh reading) text) ≡ lines_read clearance curves reading (lines text)
  text_told reading text = texts_from text reading [] (fresh reading) (All-nil (λ b. is_feed b ≡ false)) (record { whole = refl; front = refl; begun = refl })

-- The lines before the trees, of which fifteen bytes are kept.
use Rattle.certificate_checker.proofs.Prelude.{common_steps, Clearance, ◌≡◌, ℕ, ◌+◌, ◌≤◌, ◌<◌, Bool, true, false, cond, nat_lt, bytes_eq, arith, refl, sym, ◌∙◌, ap, List, [], ◌∷◌, ◌++◌, append_assoc, append-nil, length, length-append, nat_tests, Raised, is_depth_line, version_line, header_from, same_told, FirstLine, DepthLine, Faulty, kept, line_read, depth_read}
use Rattle.certificate_checker.proofs.Folds.{bytes_read}

-- what is kept of these bytes after others
abbrev pub all_kept : List ℕ → List ℕ → List ℕ
all_kept head [] = head
all_kept head (b ∷ bytes) = all_kept (kept head b) bytes

pub first_bytes : (clearance : Clearance) (curves : Raised) (head bytes : List ℕ) → bytes_read clearance curves (FirstLine head) bytes ≡ FirstLine (all_kept head bytes)
first_bytes clearance curves head [] = refl
first_bytes clearance curves head (b ∷ bytes) = first_bytes clearance curves (kept head b) bytes

pub depth_bytes : (clearance : Clearance) (curves : Raised) (head bytes : List ℕ) → bytes_read clearance curves (DepthLine head) bytes ≡ DepthLine (all_kept head bytes)
depth_bytes clearance curves head [] = refl
depth_bytes clearance curves head (b ∷ bytes) = depth_bytes clearance curves (kept head b) bytes

below : (m n : ℕ) → m < n → nat_lt m n ≡ true
below m n less = grind (arith, nat_tests)

above : (m n : ℕ) → n ≤ m → nat_lt m n ≡ false
above m n more = grind (arith, nat_tests)

-- a short line is kept whole
kept_short : (head bytes : List ℕ) → length head + length bytes ≤ 15 → all_kept head bytes ≡ head ++ bytes
kept_short head [] few = sym (append-nil head)
kept_short head (b ∷ bytes) few =
    let here : nat_lt (length head) 15 ≡ true = below (length head) 15 (omega arith) in
    rw here (kept_short (head ++ b ∷ []) bytes (omega (arith, few, length-append head (b ∷ []))) ∙ append_assoc head (b ∷ []) bytes)

-- of a long one there are fifteen bytes
kept_long : (head bytes : List ℕ) → length head ≤ 15 → 15 ≤ length head + length bytes → length (all_kept head bytes) ≡ 15
kept_long head [] few many = omega arith
kept_long head (b ∷ bytes) few many =
    go (nat_lt (length head) 15) refl (λ one rest. kept_long (head ++ b ∷ []) bytes one rest) (λ rest. kept_long head bytes few rest)
  where
    go : (s : Bool) → nat_lt (length head) 15 ≡ s →
        (length (head ++ b ∷ []) ≤ 15 → 15 ≤ length (head ++ b ∷ []) + length bytes → length (all_kept (head ++ b ∷ []) bytes) ≡ 15) →
        (15 ≤ length head + length bytes → length (all_kept head bytes) ≡ 15) → length (all_kept (cond s (head ++ b ∷ []) head) bytes) ≡ 15
    go true p one same =
        let room : length head < 15 = grind (arith, nat_tests) in
        one (omega (arith, room, length-append head (b ∷ []))) (omega (arith, many, length-append head (b ∷ [])))
    go false p one same = let full : 15 ≤ length head = grind (arith, nat_tests) in same (omega arith)

no_version : (line : List ℕ) → 14 ≤ length line → bytes_eq line version_line ≡ false
no_version line long = grind (arith, common_steps, bytes_eq, same_told)

no_depth : (line : List ℕ) → 14 ≤ length line → is_depth_line line ≡ false
no_depth line long = grind (arith, common_steps, header_from)

-- what is kept of a line is judged as the line
module _ (curves : Raised) where
  depth_faulty : (version n : ℕ) (line : List ℕ) → 14 ≤ length line → depth_read version n line ≡ Faulty n
  depth_faulty version n line long = rw (no_depth line long) refl

  first_faulty : (line : List ℕ) → 14 ≤ length line → line_read curves (FirstLine line) ≡ Faulty 1
  first_faulty line long = rw (no_version line long, no_depth line long) refl

  by_length : (line : List ℕ) (P : List ℕ → Type 0) → (length line ≤ 15 → all_kept [] line ≡ line → P (all_kept [] line)) → (15 ≤ length line → length (all_kept [] line) ≡ 15 → P (all_kept [] line)) → P (all_kept [] line)
  by_length line P short long = go (nat_lt (length line) 15) refl
    where
      go : (s : Bool) → nat_lt (length line) 15 ≡ s → P (all_kept [] line)
      go true p = let few : length line ≤ 15 = grind (arith, nat_tests) in short few (kept_short [] line (omega arith))
      go false p = let many : 15 ≤ length line = grind (arith, nat_tests) in long many (kept_long [] line (omega arith) (omega arith))

  pub first_line : (line : List ℕ) → line_read curves (FirstLine (all_kept [] line)) ≡ line_read curves (FirstLine line)
  first_line line =
      by_length line (λ head. line_read curves (FirstLine head) ≡ line_read curves (FirstLine line))
      (λ few same. ap (λ (head : List ℕ). line_read curves (FirstLine head)) same)
      (λ many is. first_faulty (all_kept [] line) (omega (arith, is)) ∙ sym (first_faulty line (omega (arith, many))))

  pub depth_line_read : (version n : ℕ) (line : List ℕ) → depth_read version n (all_kept [] line) ≡ depth_read version n line
  depth_line_read version n line =
      by_length line (λ head. depth_read version n head ≡ depth_read version n line)
      (λ few same. ap (depth_read version n) same)
      (λ many is. depth_faulty version n (all_kept [] line) (omega (arith, is)) ∙ sym (depth_faulty version n line (omega (arith, many))))

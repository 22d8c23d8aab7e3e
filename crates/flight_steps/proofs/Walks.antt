-- Walks over what is left of a list.
use Rattle.flight_steps.proofs.Prelude.{◌≡◌, ◌<◌, ◌≤◌, ◌+◌, ◌∷◌, ◌++◌, ◌∙◌, [], List, Bool, false, cond, true, ◌||◌, refl, sym, ap, None, Some, Option, ℕ, zero, suc, ℤ, drop, length, map, arith, range_with_len, list_any, flat_map, append_assoc, ArrayVec, at, Traj, Leg, Step, moves, last_move, first_other, seams_fault, flat_map_more, map-id}
use Rattle.std.proofs.lemmas.List.FromFn.{map-range_with_len_more}

-- the last leg in which a drone moves, or else this one
abbrev pub last_from : Option Leg → List Leg → Option Leg
last_from o [] = o
last_from o (l ∷ ls) = last_from (cond (moves l) (Some l) o) ls

pub last_from-is : (o : Option Leg) (ls : List Leg) → last_from o ls ≡ cond (list_any moves ls) (last_move ls) o
last_from-is o [] = refl
last_from-is o (l ∷ ls) = last_from-is (cond (moves l) (Some l) o) ls ∙ cases (moves l) (list_any moves ls) l o (last_move ls) where
  cases : (m any : Bool) (l : Leg) (o last : Option Leg) → cond any last (cond m (Some l) o) ≡ cond (m || any) (cond any last (cond m (Some l) None)) o
  cases true true l o last = refl
  cases true false l o last = refl
  cases false true l o last = refl
  cases false false l o last = refl

last_from-none : (ls : List Leg) → last_from None ls ≡ last_move ls
last_from-none [] = refl
last_from-none (l ∷ ls) = last_from-is (cond (moves l) (Some l) None) ls

last_from-past : (o : Option Leg) (ls : List Leg) (i : ℕ) → length ls ≤ i → last_from o (drop i ls) ≡ o
last_from-past o [] zero m = refl
last_from-past o [] (suc i) m = refl
last_from-past o (l ∷ ls) zero m = absurd (omega arith)
last_from-past o (l ∷ ls) (suc i) m = last_from-past o ls i (omega arith)

pub last_end : (o : Option Leg) (ls : List Leg) (i : ℕ) → length ls ≤ i → last_from o (drop i ls) ≡ last_from None ls → o ≡ last_move ls
last_end o ls i m e = sym (last_from-past o ls i m) ∙ (e ∙ last_from-none ls)

-- names past the end of one list
other-short : (n : ℕ) (a b : List (ArrayVec ℕ)) (d : ℕ) → d < length a → length b ≤ d → first_other n (drop d a) (drop d b) ≡ Some n
other-short n [] b d l m = absurd (omega arith)
other-short n (x ∷ a) [] zero l m = refl
other-short n (x ∷ a) (y ∷ b) zero l m = absurd (omega arith)
other-short n (x ∷ a) [] (suc d) l m = more n a d (omega arith) where
  more : (n : ℕ) (a : List (ArrayVec ℕ)) (d : ℕ) → d < length a → first_other n (drop d a) [] ≡ Some n
  more n [] d l = absurd (omega arith)
  more n (x ∷ a) zero l = refl
  more n (x ∷ a) (suc d) l = more n a d (omega arith)
other-short n (x ∷ a) (y ∷ b) (suc d) l m = other-short n a b d (omega arith) (omega arith)

pub other_here : (a b : List (ArrayVec ℕ)) (d : ℕ) → d < length a → length b ≤ d → first_other 0 a b ≡ first_other d (drop d a) (drop d b) → Some d ≡ first_other 0 a b
other_here a b d l m e = sym (e ∙ other-short d a b d l m)

other-last : (n : ℕ) (a b : List (ArrayVec ℕ)) → length a < length b → first_other n (drop (length a) a) (drop (length a) b) ≡ Some n
other-last n [] [] l = absurd (omega arith)
other-last n [] (y ∷ b) l = refl
other-last n (x ∷ a) [] l = absurd (omega arith)
other-last n (x ∷ a) (y ∷ b) l = other-last n a b (omega arith)

pub other_end : (a b : List (ArrayVec ℕ)) (d : ℕ) → d ≡ length a → length a < length b → first_other 0 a b ≡ first_other d (drop d a) (drop d b) → Some (length a) ≡ first_other 0 a b
other_end a b d is l e = sym (e ∙ (ap (λ (k : ℕ). first_other k (drop k a) (drop k b)) is ∙ other-last (length a) a b l))

-- ways past the end of the shows, or of the ways down
seams-none : (n : ℕ) (us : List Traj) (ss : List Traj) → seams_fault n us ss [] ≡ None
seams-none n [] ss = refl
seams-none n (u ∷ us) [] = refl
seams-none n (u ∷ us) (s ∷ ss) = refl

seams-none_show : (n : ℕ) (us ns : List Traj) → seams_fault n us [] ns ≡ None
seams-none_show n [] ns = refl
seams-none_show n (u ∷ us) ns = refl

drop_short : (ss : List Traj) (d : ℕ) → length ss ≤ d → drop d ss ≡ []
drop_short [] zero m = refl
drop_short [] (suc d) m = refl
drop_short (s ∷ ss) zero m = absurd (omega arith)
drop_short (s ∷ ss) (suc d) m = drop_short ss d (omega arith)

pub seams_short-shows : (us ss ns : List Traj) (d : ℕ) → length ss ≤ d → seams_fault 0 us ss ns ≡ seams_fault d (drop d us) (drop d ss) (drop d ns) → None ≡ seams_fault 0 us ss ns
seams_short-shows us ss ns d m e = sym (e ∙ (ap (λ (xs : List Traj). seams_fault d (drop d us) xs (drop d ns)) (drop_short ss d m) ∙ seams-none_show d (drop d us) (drop d ns)))

pub seams_short-downs : (us ss ns : List Traj) (d : ℕ) → length ns ≤ d → seams_fault 0 us ss ns ≡ seams_fault d (drop d us) (drop d ss) (drop d ns) → None ≡ seams_fault 0 us ss ns
seams_short-downs us ss ns d m e = sym (e ∙ (ap (λ (xs : List Traj). seams_fault d (drop d us) (drop d ss) xs) (drop_short ns d m) ∙ seams-none d (drop d us) (drop d ss)))

-- ---- steps, one leg after another

-- one step more, and the steps of one leg more
pub put_one : (f : ℕ → Step) (old before after : List Step) (k : ℕ) → before ≡ old ++ map f (range_with_len 0 k) → after ≡ before ++ f k ∷ [] →
    after ≡ old ++ map f (range_with_len 0 (k + 1))
put_one f old before after k is put =
    put ∙ (ap (λ (xs : List Step). xs ++ f k ∷ []) is
    ∙ (append_assoc old (map f (range_with_len 0 k)) (f k ∷ [])
    ∙ ap (λ (xs : List Step). old ++ xs) (sym (map-range_with_len_more f 0 k k (omega arith)))))

pub put_more : (h : ℕ → List Step) (old before after : List Step) (k : ℕ) → before ≡ old ++ flat_map h (range_with_len 0 k) → after ≡ before ++ h k →
    after ≡ old ++ flat_map h (range_with_len 0 (k + 1))
put_more h old before after k is put =
    put ∙ (ap (λ (xs : List Step). xs ++ h k) is
    ∙ (flat_map_more h old (range_with_len 0 k) k
    ∙ ap (λ (ks : List ℕ). old ++ flat_map h ks) (sym (next k))))
  where
    next : (k : ℕ) → range_with_len 0 (k + 1) ≡ range_with_len 0 k ++ k ∷ []
    next k =
        sym (map-id (range_with_len 0 (k + 1)))
        ∙ (map-range_with_len_more (λ (n : ℕ). n) 0 k k (omega arith) ∙ ap (λ (ks : List ℕ). ks ++ k ∷ []) (map-id (range_with_len 0 k)))

-- four values are these, if each is
pub four-are : (f : ℕ → ℤ) (v : List ℤ) → length v ≡ 4 → ((k : ℕ) → k < 4 → at v k ≡ f k) → v ≡ f 0 ∷ f 1 ∷ f 2 ∷ f 3 ∷ []
four-are f (a ∷ b ∷ c ∷ d ∷ []) size is =
    let first : a ≡ f 0 = is 0 (omega arith) in
    let second : b ≡ f 1 = is 1 (omega arith) in
    let third : c ≡ f 2 = is 2 (omega arith) in
    let fourth : d ≡ f 3 = is 3 (omega arith) in cc
four-are f xs size is = absurd (omega arith)

-- Small memories, computed.
use Rattle.definition_tests.proofs.Prelude.{common_steps, ◌≡◌, ℕ, pos, ◌++◌, List, [], ◌∷◌, All, None, Some, ap, ◌∙◌, subst, drop, arith, refl, slice_get, All-cons, All-nil, HasDuration, IsTrajectory, spelling, Def, Carries, DecodesTo, CarriesRows, loaded_with, flight}

small : IsTrajectory (flight (pos 0) (pos 1))
small = grind (arith, common_steps, All-cons, All-nil)

lasts : All HasDuration (flight (pos 0) (pos 1)).segments
lasts = grind (arith, common_steps, All-cons, All-nil)

decodes : (rest : List ℕ) → DecodesTo (loaded_with rest) 0 (flight (pos 0) (pos 1))
decodes rest = record {
  entry = record { offset = 2; pieces = 1 };
  used = 13;
  listed = refl;
  begins = record {
    spelled = spelling (flight (pos 0) (pos 1));
    rest = rest;
    cut = refl;
    spells = record { text = refl; durations = lasts };
    formed = small;
    many = refl;
    takes = refl;
  };
}

pub entry_is : (rest : List ℕ) (e : Def) → slice_get (loaded_with rest).table 0 ≡ Some (Some e) → e.offset ≡ 2
entry_is rest e listed = cc

ended : (rest : List ℕ) → Carries (loaded_with rest) 0 (flight (pos 0) (pos 1)) → (more : List ℕ) × (rest ≡ 0 ∷ 0 ∷ 0 ∷ more)
ended rest carries =
    let at_two : carries.decodes.entry.offset ≡ 2 = entry_is rest carries.decodes.entry carries.decodes.listed in
    let whole : drop 2 (loaded_with rest).memory ≡ spelling (flight (pos 0) (pos 1)) ++ (0 ∷ 0 ∷ 0 ∷ carries.rest) = subst (λ (o : ℕ). drop o (loaded_with rest).memory ≡ spelling (flight (pos 0) (pos 1)) ++ (0 ∷ 0 ∷ 0 ∷ carries.rest)) at_two carries.whole in
    (carries.rest, cc)

no_other : (more : List ℕ) → (0 ∷ 0 ∷ 1 ∷ []) ≡ (0 ∷ 0 ∷ 0 ∷ more) → ⊥
no_other more e = cc

pub third : Carries (loaded_with (0 ∷ 0 ∷ 1 ∷ [])) 0 (flight (pos 0) (pos 1)) → ⊥
third carries = let e = ended (0 ∷ 0 ∷ 1 ∷ []) carries in no_other e.0 e.1

first : Carries (loaded_with (1 ∷ 0 ∷ 0 ∷ [])) 0 (flight (pos 0) (pos 1)) → ⊥
first carries = let e = ended (1 ∷ 0 ∷ 0 ∷ []) carries in no_first e.0 e.1 where
  no_first : (more : List ℕ) → (1 ∷ 0 ∷ 0 ∷ []) ≡ (0 ∷ 0 ∷ 0 ∷ more) → ⊥
  no_first more e = cc

two : Carries (loaded_with (0 ∷ 0 ∷ [])) 0 (flight (pos 0) (pos 1)) → ⊥
two carries = let e = ended (0 ∷ 0 ∷ []) carries in no_two e.0 e.1 where
  no_two : (more : List ℕ) → (0 ∷ 0 ∷ []) ≡ (0 ∷ 0 ∷ 0 ∷ more) → ⊥
  no_two more e = cc

other : DecodesTo (loaded_with (0 ∷ 0 ∷ 0 ∷ [])) 0 (flight (pos 0) (pos 2)) → ⊥
other is =
    let at_two : is.entry.offset ≡ 2 = entry_is (0 ∷ 0 ∷ 0 ∷ []) is.entry is.listed in
    let begins = is.begins in
    let cut : spelling (flight (pos 0) (pos 1)) ++ 0 ∷ 0 ∷ 0 ∷ [] ≡ begins.spelled ++ begins.rest = subst (λ (o : ℕ). drop o (loaded_with (0 ∷ 0 ∷ 0 ∷ [])).memory ≡ begins.spelled ++ begins.rest) at_two begins.cut in
    let clash : spelling (flight (pos 0) (pos 1)) ++ 0 ∷ 0 ∷ 0 ∷ [] ≡ spelling (flight (pos 0) (pos 2)) ++ begins.rest = cut ∙ ap (λ (xs : List ℕ). xs ++ begins.rest) begins.spells.text in
    cc

unlisted : DecodesTo (loaded_with (0 ∷ 0 ∷ 0 ∷ [])) 1 (flight (pos 0) (pos 1)) → ⊥
unlisted is = let none : Some None ≡ Some (Some is.entry) = is.listed in absurd (cc)

-- with nothing after the three zero bytes
pub alone : Carries (loaded_with (0 ∷ 0 ∷ 0 ∷ [])) 0 (flight (pos 0) (pos 1))
unfolding decodes
alone = record { decodes = decodes (0 ∷ 0 ∷ 0 ∷ []); rest = []; whole = refl }

pub carries : CarriesRows
unfolding decodes
carries = record {
  whole = record { decodes = decodes (0 ∷ 0 ∷ 0 ∷ 7 ∷ []); rest = 7 ∷ []; whole = refl };
  decodes = decodes (0 ∷ 0 ∷ 1 ∷ []);
  third = third;
  first = first;
  two = two;
  other = other;
  unlisted = unlisted;
}

-- How near drones have to be before a leg, of a small way up and down.
use Rattle.definition_tests.proofs.Prelude.{◌≡◌, ◌≤◌, ◌<◌, true, false, refl, ℕ, zero, suc, arith, leg, moves, routes}
use Rattle.flight_model.specs.Turns.{HoldsUntil, IsUpBound, IsDownBound}
use Rattle.definition_tests.specs.FlightBounds.{BoundRows, rising, sinking}

one-held : HoldsUntil rising 1
one-held zero l = refl
one-held (suc j) l = absurd (omega (arith, l))

-- it moves in leg 1 first, and in no leg from the third on
none-sooner : (j : ℕ) → j < 1 → moves (leg rising j) ≡ true → ⊥
none-sooner zero l first = cc
none-sooner (suc j) l first = omega (arith, l)

none-later : (j : ℕ) → 2 ≤ j → moves (leg sinking j) ≡ false
none-later zero l = absurd (omega (arith, l))
none-later (suc zero) l = absurd (omega (arith, l))
none-later (suc (suc zero)) l = refl
none-later (suc (suc (suc j))) l = cc

two-held : HoldsUntil rising 2 → ⊥
two-held holds = let no : true ≡ false = holds 1 (omega arith) in cc

waits : IsUpBound routes rising 1 100
waits = record { on_pad = λ holds. refl; risen = λ j same holds first. refl; in_the_air = λ j l first. absurd (omega (arith, l)) }

has_risen : IsUpBound routes rising 2 100
has_risen = record {
  on_pad = λ holds. refl;
  risen = λ j same holds first. refl;
  in_the_air = λ j l first. absurd (none-sooner j (omega (arith, l)) first);
}

flies : IsUpBound routes rising 3 50
flies = record {
  on_pad = λ holds. absurd (two-held (λ j l. holds j (omega (arith, l))));
  risen = λ j same holds first. absurd (two-held (λ i l. holds i (omega (arith, l, same))));
  in_the_air = λ j l first. refl;
}

lands : IsDownBound routes sinking 1 50
lands = record { in_the_air = λ j l moving. refl; landed = λ holds. (let no : true ≡ false = holds 1 (omega arith) in absurd (cc)) }

has_landed : IsDownBound routes sinking 2 100
has_landed = record {
  in_the_air = λ j l moving. (let is = none-later j l in let no : true ≡ false = cc in absurd (cc));
  landed = λ holds. refl;
}

pub bound_rows : BoundRows
bound_rows = record {
  waits = waits;
  waits_close = λ h. (let no = h.on_pad one-held in cc);
  has_risen = has_risen;
  has_risen_close = λ h. (let no = h.risen 1 refl one-held refl in cc);
  flies = flies;
  flies_far = λ h. (let no = h.in_the_air 1 (omega arith) refl in cc);
  lands = lands;
  lands_far = λ h. (let no = h.in_the_air 1 (omega arith) refl in cc);
  has_landed = has_landed;
  has_landed_close = λ h. (let no = h.landed none-later in cc);
}

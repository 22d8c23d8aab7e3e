-- Three values that no law says, on which mutants of this crate rest. They are in definition_tests too, with all other
-- rows of its definitions.
use Rattle.std.specs.Prelude.{◌≡◌, ℕ, Bool, true, false, ℤ, pos, []}
use Rattle.flight_model.specs.Directors.{Steps, State, is_off_hold}
use Rattle.flight_model.specs.Example.{flight, sample}
use Rattle.flight_model.specs.Ours.{is_for}

-- n steps of the small flight have begun, the last of them so long ago
abbrev pub since : ℕ → ℕ → State
since n waited = record {
  phase = Steps;
  next = n;
  waited = waited;
  steady = 0;
  stood = 0;
  showing = false;
  kept = true;
  wanted = false;
  tracks = [];
  answered = [];
}

-- its second drone is found off there, in a sample of this age
unfoldable pub is_off_at : State → ℕ → ℤ → ℤ → ℤ → Bool
is_off_at s age x y z = is_off_hold (flight true) s 1 (record (sample x y z true false) { age = age })

pub record MutantRows : Type 0 where
  -- halfway up: watched, and no higher than the way is by then
  pub higher : is_off_at (since 3 1000) 0 (pos 2000) (pos 0) (pos 601) ≡ true
  -- where its way up ends, for as long as nobody says go
  pub climbs : is_off_at (since 3 3000) 0 (pos 2000) (pos 0) (pos 1101) ≡ true
  -- a packet for the first group alone, and a drone in the second
  pub to_second : is_for 1 2 ≡ false

-- What the definition of a carried flight says of small memories.
use Rattle.std.specs.Prelude.{ℕ, ◌∷◌, ◌++◌, [], List, None, Some, pos}
use Rattle.traj_codec.specs.Spelling.{spelling}
use Rattle.upload_model.specs.Drones.{DroneState}
use Rattle.firmware_memory.specs.Decoded.{Carries, DecodesTo}
use Rattle.definition_tests.specs.Flights.{flight}

-- A drone with an entry of one segment at the offset 2 of its memory, in which these bytes stand after a flight.
abbrev pub loaded_with : List ℕ → DroneState
loaded_with rest = record {
  memory_id = 0;
  memory = 9 ∷ 9 ∷ spelling (flight (pos 0) (pos 1)) ++ rest;
  table = Some (record { offset = 2; pieces = 1 }) ∷ None ∷ [];
  started = None;
}

-- Where three zero bytes stand after its bytes a drone carries the flight. Where one of them is another or lacks it
-- doesn't, though its memory decodes to the flight; nor does it carry another flight, or this one under an id without
-- an entry.
pub record CarriesRows : Type 0 where
  pub whole : Carries (loaded_with (0 ∷ 0 ∷ 0 ∷ 7 ∷ [])) 0 (flight (pos 0) (pos 1))
  pub decodes : DecodesTo (loaded_with (0 ∷ 0 ∷ 1 ∷ [])) 0 (flight (pos 0) (pos 1))
  pub third : Carries (loaded_with (0 ∷ 0 ∷ 1 ∷ [])) 0 (flight (pos 0) (pos 1)) → ⊥
  pub first : Carries (loaded_with (1 ∷ 0 ∷ 0 ∷ [])) 0 (flight (pos 0) (pos 1)) → ⊥
  pub two : Carries (loaded_with (0 ∷ 0 ∷ [])) 0 (flight (pos 0) (pos 1)) → ⊥
  pub other : DecodesTo (loaded_with (0 ∷ 0 ∷ 0 ∷ [])) 0 (flight (pos 0) (pos 2)) → ⊥
  pub unlisted : DecodesTo (loaded_with (0 ∷ 0 ∷ 0 ∷ [])) 1 (flight (pos 0) (pos 1)) → ⊥

-- What the definition of three shows that fly as one says of small inputs.
use Rattle.std.specs.Prelude.{◌≡◌, ℕ, List, [], ◌∷◌, ◌++◌, codes, pos}
use Rattle.show_judge.specs.Shows.{sent_of}
use Rattle.command_words.specs.declared.flight.FlightOptions.{FlightOptions}
use Rattle.show_direct.specs.Direct.{FlyAsOne}
use Rattle.definition_tests.specs.Flights.{flight}
use Rattle.definition_tests.specs.Headlines.{stay_text}
use Rattle.definition_tests.specs.Stands.{line_of}
use Rattle.definition_tests.specs.Stored.{settings}

-- a marker line
abbrev pub marker : List ℕ
marker = line_of (codes "%%")

-- the text of no show, since it has no header
abbrev pub no_text : List ℕ
no_text = line_of (codes "late 3")

-- Three texts fly as one only if each is that of a show, the second and the third as well. With settings of half axes
-- of 1 mm, drones that stay a millimetre from each other touch: of no such way up, show or way down is it true.
pub record FlyAsOneRows : Type 0 where
  pub no_up : (o : FlightOptions) → FlyAsOne o (no_text ++ marker ++ stay_text ++ marker ++ stay_text ++ marker) → ⊥
  pub no_show : (o : FlightOptions) → FlyAsOne o (stay_text ++ marker ++ no_text ++ marker ++ stay_text ++ marker) → ⊥
  pub no_down : (o : FlightOptions) → FlyAsOne o (stay_text ++ marker ++ stay_text ++ marker ++ no_text ++ marker) → ⊥
  pub up_touches : (o : FlightOptions) (input : List ℕ) (is : FlyAsOne o input) → is.up.s.settings ≡ settings →
      sent_of is.up.s ≡ flight (pos 50) (pos 50) ∷ flight (pos 51) (pos 51) ∷ [] → ⊥
  pub show_touches : (o : FlightOptions) (input : List ℕ) (is : FlyAsOne o input) → is.show.s.settings ≡ settings →
      sent_of is.show.s ≡ flight (pos 50) (pos 50) ∷ flight (pos 51) (pos 51) ∷ [] → ⊥
  pub down_touches : (o : FlightOptions) (input : List ℕ) (is : FlyAsOne o input) → is.down.s.settings ≡ settings →
      sent_of is.down.s ≡ flight (pos 50) (pos 50) ∷ flight (pos 51) (pos 51) ∷ [] → ⊥

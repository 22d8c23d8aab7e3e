-- Words and what they are.
use Rattle.std.proofs.Common.{◌≡◌, ℕ, pos, Bool, [], ◌∷◌, Some, None, true, false, refl}
use Rattle.std.specs.Prelude.{codes}
use Rattle.command_words.specs.declared.command.Command.{Command}
use Rattle.command_words.specs.declared.command.Command.TheVariants.{Version, Play, Rehearse, Upload, Direct, Drill, Boxes, Speed, Explain, Dynamics}
use Rattle.command_words.specs.Commands.{command_of}
unfoldable use Rattle.command_words.specs.Commands.{value_of}

-- a flight of these options
abbrev flown_by : ℕ → ℕ → ℕ → ℕ → ℕ → ℕ → Bool → Command
flown_by depth near at_place silence floor descent then_land = Direct (record {
  near = near;
  at_place = at_place;
  silence = silence;
  floor = pos floor;
  descent = descent;
  then_land = then_land;
  depth = depth;
})

record WordRows : Type 0 where
  either_order : command_of (codes "play" ∷ codes "--step" ∷ codes "500" ∷ codes "--depth" ∷ codes "3" ∷ []) ≡ Some (Play 3 500)
  start_first : command_of (codes "rehearse" ∷ codes "--start" ∷ codes "--depth" ∷ codes "0" ∷ []) ≡ Some (Rehearse 0 true false)
  start_last : command_of (codes "upload" ∷ codes "--depth" ∷ codes "000000008" ∷ codes "--start" ∷ []) ≡ Some (Upload 8 true false)
  twice : command_of (codes "upload" ∷ codes "--start" ∷ codes "--start" ∷ []) ≡ None
  swallowed : command_of (codes "rehearse" ∷ codes "--start" ∷ codes "3" ∷ []) ≡ None
  taken_for_option : command_of (codes "play" ∷ codes "--depth" ∷ codes "--step" ∷ codes "5" ∷ []) ≡ None
  no_value : command_of (codes "compile" ∷ codes "--depth" ∷ []) ≡ None
  of_another : command_of (codes "check" ∷ codes "--start" ∷ []) ≡ None
  zeros : command_of (codes "drill" ∷ codes "004" ∷ []) ≡ Some (Drill 4 6)
  number_last : command_of (codes "drill" ∷ codes "--depth" ∷ codes "3" ∷ codes "4" ∷ []) ≡ None
  too_many : command_of (codes "drill" ∷ codes "33" ∷ []) ≡ None
  too_great : command_of (codes "play" ∷ codes "--step" ∷ codes "60001" ∷ []) ≡ None
  digits : command_of (codes "play" ∷ codes "--step" ∷ codes "0000000005" ∷ []) ≡ None
  bare : command_of (codes "verify" ∷ codes "--depth" ∷ codes "6" ∷ []) ≡ None
  limited : command_of (codes "speed" ∷ codes "--limit" ∷ codes "1600000" ∷ codes "--depth" ∷ codes "0" ∷ []) ≡ Some (Speed 0 (Some 1600000))
  unlimited : command_of (codes "speed" ∷ []) ≡ Some (Speed 6 None)
  no_limit : command_of (codes "speed" ∷ codes "--limit" ∷ codes "0" ∷ []) ≡ None
  finest : command_of (codes "explain" ∷ []) ≡ Some (Explain 6 5 false)
  all_blocked : command_of (codes "explain" ∷ codes "--all" ∷ codes "--fine" ∷ codes "0" ∷ []) ≡ Some (Explain 6 0 true)
  all_twice : command_of (codes "explain" ∷ codes "--all" ∷ codes "--all" ∷ []) ≡ None
  all_of_another : command_of (codes "check" ∷ codes "--all" ∷ []) ≡ None
  too_fine : command_of (codes "explain" ∷ codes "--fine" ∷ codes "6" ∷ []) ≡ None
  boxed : command_of (codes "boxes" ∷ codes "--depth" ∷ codes "8" ∷ []) ≡ Some (Boxes 8)
  boxes_limited : command_of (codes "boxes" ∷ codes "--limit" ∷ codes "5" ∷ []) ≡ None
  version : command_of (codes "version" ∷ []) ≡ Some Version
  version_of_one : command_of (codes "version" ∷ codes "check" ∷ []) ≡ None
  nothing : command_of [] ≡ None
  read_back : command_of (codes "rehearse" ∷ codes "--readback" ∷ codes "--depth" ∷ codes "3" ∷ codes "--start" ∷ []) ≡ Some (Rehearse 3 true true)
  read_back_last : command_of (codes "upload" ∷ codes "--readback" ∷ []) ≡ Some (Upload 6 false true)
  read_back_twice : command_of (codes "upload" ∷ codes "--readback" ∷ codes "--readback" ∷ []) ≡ None
  read_back_of_another : command_of (codes "check" ∷ codes "--readback" ∷ []) ≡ None
  unbounded : command_of (codes "dynamics" ∷ []) ≡ Some (Dynamics 6 None None)
  bounded : command_of (codes "dynamics" ∷ codes "--jump" ∷ codes "0" ∷ codes "--depth" ∷ codes "8" ∷ codes "--accel" ∷ codes "999999999" ∷ []) ≡ Some (Dynamics 8 (Some 999999999) (Some 0))
  bounded_twice : command_of (codes "dynamics" ∷ codes "--accel" ∷ codes "1" ∷ codes "--accel" ∷ codes "1" ∷ []) ≡ None
  bound_of_another : command_of (codes "speed" ∷ codes "--jump" ∷ codes "300" ∷ []) ≡ None
  dynamics_limited : command_of (codes "dynamics" ∷ codes "--limit" ∷ codes "5" ∷ []) ≡ None
  flown : command_of (codes "direct" ∷ []) ≡ Some (flown_by 6 80 80 1000 0 4000 true)
  flown_on : command_of (codes "direct" ∷ codes "--then" ∷ codes "fly" ∷ codes "--near" ∷ codes "120" ∷ codes "--floor" ∷ codes "40" ∷ []) ≡ Some (flown_by 6 120 80 1000 40 4000 false)
  flown_all : command_of (codes "direct" ∷ codes "--descent" ∷ codes "60000" ∷ codes "--at" ∷ codes "32767" ∷ codes "--silence" ∷ codes "1" ∷ codes "--depth" ∷ codes "8" ∷ codes "--then" ∷ codes "land" ∷ []) ≡ Some (flown_by 8 80 32767 1 0 60000 true)
  flown_how : command_of (codes "direct" ∷ codes "--then" ∷ codes "stop" ∷ []) ≡ None
  never_silent : command_of (codes "direct" ∷ codes "--silence" ∷ codes "0" ∷ []) ≡ None
  too_high : command_of (codes "direct" ∷ codes "--floor" ∷ codes "32768" ∷ []) ≡ None
  near_of_another : command_of (codes "upload" ∷ codes "--near" ∷ codes "80" ∷ []) ≡ None

word_rows : WordRows
unfolding value_of
word_rows = record { either_order = refl; start_first = refl; start_last = refl; twice = refl; swallowed = refl; taken_for_option = refl; no_value = refl; of_another = refl; zeros = refl; number_last = refl; too_many = refl; too_great = refl; digits = refl; bare = refl; limited = refl; unlimited = refl; no_limit = refl; finest = refl; all_blocked = refl; all_twice = refl; all_of_another = refl; too_fine = refl; boxed = refl; boxes_limited = refl; version = refl; version_of_one = refl; nothing = refl; read_back = refl; read_back_last = refl; read_back_twice = refl; read_back_of_another = refl; unbounded = refl; bounded = refl; bounded_twice = refl; bound_of_another = refl; dynamics_limited = refl; flown = refl; flown_on = refl; flown_all = refl; flown_how = refl; never_silent = refl; too_high = refl; near_of_another = refl }

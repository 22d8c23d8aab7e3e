-- What the definitions of a command line say of the ends of each option's range, and of each command without options.
use Rattle.std.specs.Prelude.{◌≡◌, ℕ, pos, Bool, [], ◌∷◌, Some, None, true, false, codes}
use Rattle.command_words.specs.declared.command.Command.{Command}
use Rattle.command_words.specs.declared.command.Command.TheVariants.{Boxes, Certify, Check, Compile, Direct, Drill, Dynamics}
use Rattle.command_words.specs.declared.command.Command.TheVariants.{Explain, Help, Play, Rehearse, Report, Speed, Verify}
use Rattle.command_words.specs.Commands.{command_of}

-- a flight of these options
abbrev pub flown_by : ℕ → ℕ → ℕ → ℕ → ℕ → ℕ → Bool → Command
flown_by depth near at_place silence floor descent then_land = Direct (record {
  near = near;
  at_place = at_place;
  silence = silence;
  floor = pos floor;
  descent = descent;
  then_land = then_land;
  depth = depth;
})

-- Each option takes the least and the greatest number of its range, and none beyond; without it the usual one counts.
pub record OptionRows : Type 0 where
  pub depth_zero : command_of (codes "check" ∷ codes "--depth" ∷ codes "0" ∷ []) ≡ Some (Check 0)
  pub depth_most : command_of (codes "check" ∷ codes "--depth" ∷ codes "8" ∷ []) ≡ Some (Check 8)
  pub too_deep : command_of (codes "check" ∷ codes "--depth" ∷ codes "9" ∷ []) ≡ None
  pub step_least : command_of (codes "play" ∷ codes "--step" ∷ codes "1" ∷ []) ≡ Some (Play 6 1)
  pub step_most : command_of (codes "play" ∷ codes "--step" ∷ codes "60000" ∷ []) ≡ Some (Play 6 60000)
  pub no_step : command_of (codes "play" ∷ codes "--step" ∷ codes "0" ∷ []) ≡ None
  pub fine_least : command_of (codes "explain" ∷ codes "--fine" ∷ codes "0" ∷ []) ≡ Some (Explain 6 0 false)
  pub fine_most : command_of (codes "explain" ∷ codes "--fine" ∷ codes "5" ∷ []) ≡ Some (Explain 6 5 false)
  pub limit_least : command_of (codes "speed" ∷ codes "--limit" ∷ codes "1" ∷ []) ≡ Some (Speed 6 (Some 1))
  pub limit_most : command_of (codes "speed" ∷ codes "--limit" ∷ codes "999999999" ∷ []) ≡
      Some (Speed 6 (Some 999999999))
  pub accel_least : command_of (codes "dynamics" ∷ codes "--accel" ∷ codes "0" ∷ []) ≡ Some (Dynamics 6 (Some 0) None)
  pub jump_most : command_of (codes "dynamics" ∷ codes "--jump" ∷ codes "999999999" ∷ []) ≡
      Some (Dynamics 6 None (Some 999999999))
  pub ten_digits : command_of (codes "dynamics" ∷ codes "--jump" ∷ codes "1000000000" ∷ []) ≡ None
  pub near_least : command_of (codes "direct" ∷ codes "--near" ∷ codes "0" ∷ []) ≡ Some (flown_by 6 0 80 1000 0 4000 true)
  pub near_most : command_of (codes "direct" ∷ codes "--near" ∷ codes "32767" ∷ []) ≡
      Some (flown_by 6 32767 80 1000 0 4000 true)
  pub too_near : command_of (codes "direct" ∷ codes "--near" ∷ codes "32768" ∷ []) ≡ None
  pub at_least : command_of (codes "direct" ∷ codes "--at" ∷ codes "0" ∷ []) ≡ Some (flown_by 6 80 0 1000 0 4000 true)
  pub too_far : command_of (codes "direct" ∷ codes "--at" ∷ codes "32768" ∷ []) ≡ None
  pub silence_most : command_of (codes "direct" ∷ codes "--silence" ∷ codes "60000" ∷ []) ≡
      Some (flown_by 6 80 80 60000 0 4000 true)
  pub too_silent : command_of (codes "direct" ∷ codes "--silence" ∷ codes "60001" ∷ []) ≡ None
  pub floor_most : command_of (codes "direct" ∷ codes "--floor" ∷ codes "32767" ∷ []) ≡
      Some (flown_by 6 80 80 1000 32767 4000 true)
  pub descent_least : command_of (codes "direct" ∷ codes "--descent" ∷ codes "1" ∷ []) ≡
      Some (flown_by 6 80 80 1000 0 1 true)
  pub no_descent : command_of (codes "direct" ∷ codes "--descent" ∷ codes "0" ∷ []) ≡ None
  pub slow_descent : command_of (codes "direct" ∷ codes "--descent" ∷ codes "60001" ∷ []) ≡ None
  pub drill_least : command_of (codes "drill" ∷ codes "1" ∷ []) ≡ Some (Drill 1 6)
  pub drill_most : command_of (codes "drill" ∷ codes "32" ∷ []) ≡ Some (Drill 32 6)
  pub no_drill : command_of (codes "drill" ∷ codes "0" ∷ []) ≡ None
  pub plain_compile : command_of (codes "compile" ∷ []) ≡ Some (Compile 6)
  pub plain_certify : command_of (codes "certify" ∷ []) ≡ Some (Certify 6)
  pub plain_report : command_of (codes "report" ∷ []) ≡ Some (Report 6)
  pub plain_verify : command_of (codes "verify" ∷ []) ≡ Some Verify
  pub plain_boxes : command_of (codes "boxes" ∷ []) ≡ Some (Boxes 6)
  pub plain_explain : command_of (codes "explain" ∷ []) ≡ Some (Explain 6 5 false)
  pub plain_help : command_of (codes "help" ∷ []) ≡ Some Help
  pub plain_rehearse : command_of (codes "rehearse" ∷ []) ≡ Some (Rehearse 6 false false)

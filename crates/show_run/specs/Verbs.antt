-- The commands of the program.
use Rattle.std.specs.Prelude.{◌≡◌, ℕ, List, [], ◌∷◌, map, string_bytes, codes, slice_get, Option, Some}
use Rattle.std.specs.Prelude.{String}
use Rattle.std.specs.declared.alloc.Global.{Global}
use Rattle.command_words.specs.Commands.{command_of, help_text}
use Rattle.command_words.specs.declared.command.Command.{Command}
use Rattle.command_words.specs.declared.command.Command.TheVariants.{Help, Version, Check, Compile, Certify, Play}
use Rattle.command_words.specs.declared.command.Command.TheVariants.{Report, Verify, Rehearse, Upload, Direct, Drill}
use Rattle.command_words.specs.declared.command.Command.TheVariants.{Boxes, Speed, Explain, Dynamics}
use Rattle.show_direct.specs.Direct.{direct_verb}
use Rattle.show_judge.specs.Verb.{Verb}
use Rattle.show_looks.specs.Certify.{certify_verb}
use Rattle.show_looks.specs.Check.{check_verb}
use Rattle.show_looks.specs.Compile.{compile_verb}
use Rattle.show_looks.specs.Drilled.{drill_verb}
use Rattle.show_looks.specs.Help.{help_verb}
use Rattle.show_looks.specs.Play.{play_verb}
use Rattle.show_looks.specs.Report.{report_verb}
use Rattle.show_looks.specs.Version.{version_verb}
use Rattle.show_studies.specs.Boxes.{boxes_verb}
use Rattle.show_studies.specs.Dynamics.{dynamics_verb}
use Rattle.show_studies.specs.Explained.{explain_verb}
use Rattle.show_studies.specs.Speeds.{speed_verb}
use Rattle.show_uploads.specs.Rehearse.{rehearse_verb}
use Rattle.show_uploads.specs.Upload.{upload_verb}
use Rattle.show_verify.specs.Verify.{verify_verb}

-- the command that these words are
abbrev pub command_in : List (String Global) → Option Command
command_in words = command_of (map string_bytes words)

-- what it reads, gives, promises and writes: a line a command
abbrev pub verb_of : Command → Verb
verb_of Help = help_verb help_text
verb_of Version = version_verb
verb_of (Check depth) = check_verb depth
verb_of (Compile depth) = compile_verb depth
verb_of (Certify depth) = certify_verb depth
verb_of (Play depth step) = play_verb depth step
verb_of (Report depth) = report_verb depth
verb_of Verify = verify_verb
verb_of (Rehearse depth start readback) = rehearse_verb depth start readback
verb_of (Upload depth start readback) = upload_verb depth start readback
verb_of (Direct options) = direct_verb options
verb_of (Drill drones depth) = drill_verb drones depth
verb_of (Boxes depth) = boxes_verb depth
verb_of (Speed depth limit) = speed_verb depth limit
verb_of (Explain depth fine all) = explain_verb depth fine all
verb_of (Dynamics depth accel jump) = dynamics_verb depth accel jump

-- the first of these words
abbrev pub IsCalled : List (String Global) → List ℕ → Type 0
IsCalled words name = slice_get (map string_bytes words) 0 ≡ Some name

-- The names of the commands that judge whether the drones of their input keep apart.
abbrev pub judges_apart : List (List ℕ)
judges_apart =
    codes "check" ∷ codes "compile" ∷ codes "certify" ∷ codes "play" ∷ codes "report" ∷ codes "verify"
    ∷ codes "rehearse" ∷ codes "upload" ∷ []

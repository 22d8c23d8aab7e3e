-- Words of the private steps of writing a line: which refusals belong together.
use Rattle.std.specs.Prelude.{Bool, true, false}
use Rattle.refusals.specs.declared.refusal.Refusal.{Refusal}
use Rattle.refusals.specs.declared.refusal.Refusal.TheVariants as refused

-- those of a show and of a failed read
abbrev pub is_of_show : Refusal → Bool
is_of_show refused.TooLarge = true
is_of_show (refused.Line line kind) = true
is_of_show (refused.Grid fault) = true
is_of_show (refused.Range line axis value) = true
is_of_show (refused.Room drone bytes room) = true
is_of_show (refused.Segments drone segments) = true
is_of_show (refused.Blocked pair index depth) = true
is_of_show refused.Read = true
is_of_show _ = false

-- those of an upload
abbrev pub is_of_upload : Refusal → Bool
is_of_upload refused.Ended = true
is_of_upload (refused.GaveUp drone packet) = true
is_of_upload (refused.Refused drone packet status) = true
is_of_upload (refused.Differs drone address wanted got) = true
is_of_upload _ = false

-- those of the second text and of its certificate
abbrev pub is_of_certificate : Refusal → Bool
is_of_certificate (refused.SecondLine line) = true
is_of_certificate refused.SecondTooLarge = true
is_of_certificate (refused.Missing pair) = true
is_of_certificate (refused.Extra version tree) = true
is_of_certificate (refused.TooDeep pair) = true
is_of_certificate (refused.Fails pair place version dir control) = true
is_of_certificate _ = false

-- those of a study of regions or speeds
abbrev pub is_of_study : Refusal → Bool
is_of_study (refused.Enters region drone cue index depth) = true
is_of_study (refused.TooFast drone axis speed) = true
is_of_study _ = false

-- those of a study of accelerations and of jumps of speed
abbrev pub is_of_dynamics : Refusal → Bool
is_of_dynamics (refused.Accelerates drone cue axis acceleration) = true
is_of_dynamics (refused.Jumps drone cue axis speed) = true
is_of_dynamics _ = false

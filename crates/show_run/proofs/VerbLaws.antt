-- Each command keeps the laws of a command, and what status 0 of it says.
use Rattle.show_run.proofs.Prelude.{help_text, Command, Help, Version, Check, Compile, Certify, Play, Report, Verify, Rehearse, Upload, Direct, Drill, Boxes, Speed, Explain, Dynamics, drill_text, DirectLaw, drill_of, report_of, verb_of}
use Rattle.report_text.specs.Report.{report_text}
use Rattle.show_judge.specs.Outcome.{IsVerb}
use Rattle.show_judge.proofs.DriverLemmas.{show_verb}
use Rattle.show_judge.proofs.UnreadLemmas.{nothing_verb, own_verb}
use Rattle.show_looks.specs.Check.{check_text}
use Rattle.show_looks.specs.Compile.{plan_of}
use Rattle.show_looks.specs.Play.{rows}
use Rattle.show_looks.specs.Version.{version_line}
use Rattle.show_looks.proofs.CertifyLemmas.{certify_laws}
use Rattle.show_studies.specs.Boxes.{BoxesLaw}
use Rattle.show_studies.proofs.StudyLaws.{dynamics_laws, explain_laws, speed_laws}
use Rattle.show_uploads.specs.Rehearse.{RehearseLaw}
use Rattle.show_uploads.specs.Upload.{UploadingLaw}
use Rattle.show_verify.specs.Verify.{VerifyLaw}

pub laws : VerifyLaw → RehearseLaw → UploadingLaw → DirectLaw → BoxesLaw → (c : Command) → IsVerb (verb_of c)
laws verify rehearse uploading direct boxes Help = nothing_verb help_text
laws verify rehearse uploading direct boxes Version = nothing_verb version_line
laws verify rehearse uploading direct boxes (Check depth) = show_verb depth check_text
laws verify rehearse uploading direct boxes (Compile depth) = show_verb depth plan_of
laws verify rehearse uploading direct boxes (Certify depth) = certify_laws depth
laws verify rehearse uploading direct boxes (Play depth step) = show_verb depth (rows step)
laws verify rehearse uploading direct boxes (Report depth) = show_verb depth (λ s. report_text (report_of s depth))
laws verify rehearse uploading direct boxes Verify = verify
laws verify rehearse uploading direct boxes (Rehearse depth start readback) = rehearse depth start readback
laws verify rehearse uploading direct boxes (Upload depth start readback) = uploading depth start readback
laws verify rehearse uploading direct boxes (Direct options) = direct.up options
laws verify rehearse uploading direct boxes (Drill drones depth) = own_verb depth (drill_text drones) (λ s. drill_of (report_of s depth))
laws verify rehearse uploading direct boxes (Boxes depth) = boxes depth
laws verify rehearse uploading direct boxes (Speed depth limit) = speed_laws depth limit
laws verify rehearse uploading direct boxes (Explain depth fine all) = explain_laws depth fine all
laws verify rehearse uploading direct boxes (Dynamics depth accel jump) = dynamics_laws depth accel jump

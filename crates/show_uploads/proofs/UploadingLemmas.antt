-- The laws of `upload`.
use Rattle.show_uploads.proofs.Prelude.{◌≡◌, ◌==◌, Bool, [], ◌++◌, length, refl, arith, All-nil, PlainShow, end_frame, EndsWith, UploadGives, UploadLaw, item_limit, upload_of, Cut, Outcome, flies_text, link_in, UploadSucceeds, UploadingLaw, upload_verb}
use Rattle.link_upload.specs.Sends.{events_in, sent_over}
use Rattle.show_uploads.proofs.RehearsalLemmas.{outcome_by}

one : UploadLaw → (start readback : Bool) (s : PlainShow) (cut : Cut) (o p : Outcome) → UploadGives (link_in s start readback) cut.frames o.status o.output →
    UploadGives (link_in s start readback) cut.frames p.status p.output → o ≡ p
one law start readback s cut o p first second =
    let same = law.one (link_in s start readback) cut.frames o.status p.status o.output p.output first second in outcome_by o p same.0 same.1

-- any frames lead to an end
some : UploadLaw → (start readback : Bool) (s : PlainShow) (cut : Cut) → (o : Outcome) × UploadGives (link_in s start readback) cut.frames o.status o.output
some law start readback s cut =
    let some = law.some (link_in s start readback) cut.frames cut.frames [] (record { cut = refl; each = All-nil _; few = omega arith; going = λ n under. absurd (omega (arith, under)) }) in
    (record { status = some.0; output = some.1 }, some.2)

done : UploadLaw → (start readback : Bool) (s : PlainShow) (cut : Cut) (o : Outcome) → UploadGives (link_in s start readback) cut.frames o.status o.output → UploadSucceeds start readback s cut → o.status ≡ 0
done law start readback s cut o gives (frames, rest, takes, over) =
    let link = link_in s start readback in
    let ends : EndsWith (upload_of link) (link.ended (events_in link frames)) (length frames == item_limit) rest 0 = rw over refl in
    let wanted : UploadGives link cut.frames 0 (sent_over link (events_in link frames) ++ end_frame 0) =
    record { items = frames; rest = rest; takes = takes; ends = ends; sends = refl } in
    (law.one link cut.frames o.status 0 o.output _ gives wanted).0

pub uploading_laws : UploadLaw → UploadingLaw
uploading_laws law depth start readback = record {
  one = one law start readback;
  some = λ s cut known. some law start readback s cut;
  done = done law start readback;
  apart = λ d s cut searched apart. apart;
  headline = λ input o old new safe appended. flies_text (upload_verb depth start readback) input o safe safe.promised;
}

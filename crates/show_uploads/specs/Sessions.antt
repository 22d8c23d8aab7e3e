-- What is uploaded of a show.
use Rattle.std.specs.Prelude.{Bool}
use Rattle.choreo_show.specs.Plain.{PlainShow}
use Rattle.link_upload.specs.Links.{Link, link_of}
use Rattle.show_plan.specs.Landing.{session_for}
use Rattle.upload_model.specs.Sessions.{Upload as Session}
use Rattle.show_judge.specs.Shows.{sent_of}

-- what is uploaded of a show, with read-back or without, with starts or without
abbrev pub session_of : PlainShow → Bool → Bool → Session
session_of s readback start = session_for s.settings (sent_of s) readback start

-- the upload of a show through a link, with starts or without, with read-back or without
abbrev pub link_in : PlainShow → Bool → Bool → Link
link_in s start readback = link_of (session_of s readback start)

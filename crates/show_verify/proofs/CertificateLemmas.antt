-- What a certificate gives for a show.
use Rattle.show_verify.proofs.Prelude.{◌≡◌, List, Option, ap, sym, ◌∙◌, Name, PlainShow, Clearance, table_of, Raised, raised_of, CertFault, Certificate, fault_of, clearance_of, judged, judged_for, names_of, trajectories_of}

-- a certificate that is judged by the curves and settings of a show gives what it gives for the show
pub judged_same : (s : PlainShow) (c : Certificate) (names : List Name) (curves : Raised) (clear : Clearance) (o : Option CertFault) →
    names ≡ names_of s → curves ≡ raised_of (trajectories_of s) → clear ≡ clearance_of s.settings (trajectories_of s) → fault_of (table_of c.version) curves clear c ≡ o → judged names c o ≡ judged_for s c
judged_same s c names curves clear o names_are curves_are clear_is is =
    ap (λ (ns : List Name). judged ns c o) names_are
    ∙ ap (λ (f : Option CertFault). judged (names_of s) c f)
    (sym is
    ∙ ap (λ (cs : Raised). fault_of (table_of c.version) cs clear c) curves_are
    ∙ ap (λ (kept : Clearance). fault_of (table_of c.version) (raised_of (trajectories_of s)) kept c) clear_is)

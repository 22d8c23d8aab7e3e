-- The statuses of an upload.
use Rattle.link_upload.proofs.Prelude.{◌≡◌, ◌≢◌, inl, inr, ℕ, [], ◌∷◌, Option, Some, refl, subst, arith, Event, Link, events_in, link_of, status_of, upload_of, progress, Upload, IsStatus}
use Rattle.std.specs.List.{Contains}
use Rattle.upload_model.specs.declared.events.Progress.{Progress}
use Rattle.upload_model.specs.declared.events.Progress.TheVariants.{Going, Done, GaveUp, Refused, Differs}

abbrev IsKnown : ℕ → Type 0
IsKnown status = Contains (0 ∷ 6 ∷ 7 ∷ 8 ∷ 9 ∷ 10 ∷ 11 ∷ 13 ∷ 14 ∷ []) status

same : (a b : ℕ) → Some a ≡ Some b → a ≡ b
same a b is = cc

-- the status of an upload's own end is neither that of a failed read nor that of a failed write, and is known
abbrev IsOwn : ℕ → Type 0
IsOwn status = (status ≢ 6) × (status ≢ 7) × IsKnown status

pub own : (p : Progress) (status : ℕ) → status_of p ≡ Some status → IsOwn status
own Going status is = absurd (cc)
own Done status is = subst IsOwn (same 0 status is) (λ e. omega (arith, e), λ e. omega (arith, e), (0, omega arith, refl))
own (GaveUp drone packet) status is = subst IsOwn (same 9 status is) (λ e. omega (arith, e), λ e. omega (arith, e), (4, omega arith, refl))
own (Refused drone packet refusal) status is = subst IsOwn (same 10 status is) (λ e. omega (arith, e), λ e. omega (arith, e), (5, omega arith, refl))
own (Differs drone address wanted got) status is = subst IsOwn (same 14 status is) (λ e. omega (arith, e), λ e. omega (arith, e), (8, omega arith, refl))

pub known : (s : Upload) (status : ℕ) → IsStatus (upload_of (link_of s)) status → IsKnown status
known s status (inl (inl (frames, is))) = (own (progress s (events_in (link_of s) frames)) status is).2
known s status (inl (inr (inl e))) = rw e (3, omega arith, refl)
known s status (inl (inr (inr (inl e)))) = rw e (6, omega arith, refl)
known s status (inl (inr (inr (inr e)))) = rw e (7, omega arith, refl)
known s status (inr (inl e)) = rw e (1, omega arith, refl)
known s status (inr (inr e)) = rw e (2, omega arith, refl)

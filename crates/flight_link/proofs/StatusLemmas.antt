-- The statuses of a flight.
use Rattle.flight_link.proofs.Prelude.{◌≡◌, ◌≢◌, inl, inr, ℕ, true, false, List, [], ◌∷◌, Some, refl, subst, arith, Contains, Event, Frame, Flight, end_in, ended, sent, start, dialogue_of, To, ToAll, Noted, Over, IsStatus}

abbrev IsKnown : ℕ → Type 0
IsKnown status = Contains (0 ∷ 6 ∷ 7 ∷ 8 ∷ 11 ∷ 13 ∷ 20 ∷ []) status

pub same_status : (a b : ℕ) → Some a ≡ Some b → a ≡ b
same_status a b is = cc

-- the status of a flight's own end is neither that of a failed read nor that of a failed write, and is known
abbrev IsOwn : ℕ → Type 0
IsOwn status = (status ≢ 6) × (status ≢ 7) × IsKnown status

own_in : (frames : List Frame) (status : ℕ) → end_in frames ≡ Some status → IsOwn status
own_in [] status is = absurd (cc)
own_in (To d o ∷ frames) status is = own_in frames status is
own_in (ToAll o ∷ frames) status is = own_in frames status is
own_in (Noted n ∷ frames) status is = own_in frames status is
own_in (Over true true ∷ frames) status is = subst IsOwn (same_status 0 status is) (λ e. omega (arith, e), λ e. omega (arith, e), (0, omega arith, refl))
own_in (Over true false ∷ frames) status is = subst IsOwn (same_status 20 status is) (λ e. omega (arith, e), λ e. omega (arith, e), (6, omega arith, refl))
own_in (Over false kept ∷ frames) status is = subst IsOwn (same_status 20 status is) (λ e. omega (arith, e), λ e. omega (arith, e), (6, omega arith, refl))

pub own : (f : Flight) (events : List Event) (status : ℕ) → ended f events ≡ Some status → IsOwn status
unfolding ended
own f events status is = own_in (sent f (start f) events) status is

pub known : (f : Flight) (status : ℕ) → IsStatus (dialogue_of f) status → IsKnown status
known f status (inl (inl (events, is))) = (own f events status is).2
known f status (inl (inr (inl e))) = rw e (3, omega arith, refl)
known f status (inl (inr (inr (inl e)))) = rw e (4, omega arith, refl)
known f status (inl (inr (inr (inr e)))) = rw e (5, omega arith, refl)
known f status (inr (inl e)) = rw e (1, omega arith, refl)
known f status (inr (inr e)) = rw e (2, omega arith, refl)

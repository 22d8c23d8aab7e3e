-- What the checker's parts are made of.
use Rattle.certificate_checker.proofs.Prelude.{◌≡◌, inl, inr, ℕ, sym, subst, length, Clearance, Node, IsKnown, IsVersion, known_in, table_of, measure_of}
use Rattle.sep_parts.specs.Rulers.{Measure}

-- a node that a version knows names a direction of its table
pub known_old : (m : Measure) (clearance : Clearance) (node : Node) → m ≡ measure_of 1 clearance → IsKnown 26 node → IsKnown (length m.directions) node
unfolding table_of
known_old m clearance node is known = subst (λ (n : Measure). IsKnown (length n.directions) node) (sym is) known

pub known_wide : (m : Measure) (clearance : Clearance) (node : Node) → m ≡ measure_of 2 clearance → IsKnown 98 node → IsKnown (length m.directions) node
unfolding table_of
known_wide m clearance node is known = subst (λ (n : Measure). IsKnown (length n.directions) node) (sym is) known

-- the other version is the second
pub not_old : (version : ℕ) (node : Node) → IsVersion version → (version ≡ 1 → ⊥) → IsKnown (known_in version) node → IsKnown 98 node
not_old version node (inl e) other known = absurd (other e)
not_old version node (inr e) other known = rw e at known

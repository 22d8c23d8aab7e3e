use Rattle.upload_core.proofs.Prelude.{◌≡◌, ◌∙◌, ◌<◌, ◌∷◌, [], ℕ, List, Some, true, false, ap, sym, subst, option_copied, slice_get, InFlight, packets_in, is_past, IsBetween}
use Rattle.upload_core.proofs.Numbers.{head-first}
use Rattle.upload_core.proofs.row.Row.cursor.Goals as goal

head-of : (es : List InFlight) (e : InFlight) → slice_get es 0 ≡ Some e → (ks : List ℕ) × (packets_in es ≡ e.packet ∷ ks)
head-of [] e is = absurd (cc)
head-of (x ∷ es) e is = (packets_in es, ap (λ (p : ℕ). p ∷ packets_in es) (ap (λ (y : InFlight). y.packet) (let same : x ≡ e = cc in same)))

-- the head of what is in flight
first : (next : ℕ) (es : List InFlight) (e : InFlight) → IsBetween 0 next (packets_in es) → slice_get es 0 ≡ Some e →
    ((j : ℕ) → j < e.packet → is_past next (packets_in es) j ≡ true) × (is_past next (packets_in es) e.packet ≡ false)
first next es e rising is =
    let head = head-of es e is in
    subst (λ (ks : List ℕ). ((j : ℕ) → j < e.packet → is_past next ks j ≡ true) × (is_past next ks e.packet ≡ false)) (sym head.1)
    (head-first next e.packet head.0 (subst (IsBetween 0 next) head.1 rising))

pub returns-in-Some-clause-past : goal.returns-in-Some-clause-past
returns-in-Some-clause-past c =
    (first c.args.self.now.next c.args.self.now.window.items c.in-Some.entry.now c.requires.rising
    (ap (λ (es : List InFlight). slice_get es 0) (sym c.deref.ensures.0) ∙ sym c.first.ensures.value ∙ ap option_copied c.in-Some.is)).0

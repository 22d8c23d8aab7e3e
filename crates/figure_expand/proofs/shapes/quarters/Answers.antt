use Rattle.figure_expand.proofs.Prelude.{◌≡◌, ◌^◌, Bool, true, false, ℤ, ◌-ℤ◌, [], ◌∷◌, List, All, All-cons, All-nil, to_z, of_z, w64, arith, refl, ◌∙◌, cond, neg_ℤ}
use Rattle.std.proofs.Common.{not}
use Rattle.figure_expand.specs.declared.shapes.Quarter.{Quarter}
use Rattle.figure_expand.specs.Steps.{IsQuarterSmall}
use Rattle.figure_expand.proofs.Reach.{held, kept, sense_kept, way_told, wider}
use Rattle.figure_expand.proofs.shapes.quarters.Goals as goal

abbrev quarter : ℤ → ℤ → ℤ → ℤ → Quarter
quarter present centre first last = record { present = present; centre = centre; first = first; last = last }

same_quarters : {p p' c c' f f' l l' q q' d d' g g' m m' : ℤ} → p ≡ p' → c ≡ c' → f ≡ f' → l ≡ l' → q ≡ q' → d ≡ d' → g ≡ g' → m ≡ m' →
    ◌≡◌ {A = List Quarter} (quarter p c f l ∷ quarter q d g m ∷ []) (quarter p' c' f' l' ∷ quarter q' d' g' m' ∷ [])
same_quarters {p} {p'} {c} {c'} {f} {f'} {l} {l'} {q} {q'} {d} {d'} {g} {g'} {m} {m'} e1 e2 e3 e4 e5 e6 e7 e8 = cc

-- the other sense
other : (ccw : Bool) (z : ℤ) → cond (not ccw) (neg_ℤ z) z ≡ cond ccw z (neg_ℤ z)
other true z = refl
other false z = refl

pub returns-clause-exact : goal.returns-clause-exact
returns-clause-exact c =
    let p = c.args.p.now in
    let vx : to_z w64 (of_z w64 c.way-vx.result) ≡ p.x -ℤ c.args.cx = way_told p.x c.args.cx c.way-vx.result c.requires.point.x c.requires.x c.way-vx.ensures.small c.way-vx.ensures.value in
    let vy : to_z w64 (of_z w64 c.way-vy.result) ≡ p.y -ℤ c.args.cy = way_told p.y c.args.cy c.way-vy.result c.requires.point.y c.requires.y c.way-vy.ensures.small c.way-vy.ensures.value in
    same_quarters
    (kept p.x (wider (2 ^ 40) (2 ^ 43) p.x (omega arith) c.requires.point.x)) (kept c.args.cx (wider (2 ^ 28) (2 ^ 43) c.args.cx (omega arith) c.requires.x)) vx
    (sense_kept (λ (z : ℤ). cond c.args.ccw (neg_ℤ z) z) (p.y -ℤ c.args.cy) c.way-vy.result c.turned.result c.turned.ensures.small c.turned.ensures.value vy)
    (kept p.y (wider (2 ^ 40) (2 ^ 43) p.y (omega arith) c.requires.point.y)) (kept c.args.cy (wider (2 ^ 28) (2 ^ 43) c.args.cy (omega arith) c.requires.y)) vy
    (sense_kept (λ (z : ℤ). cond (not c.args.ccw) (neg_ℤ z) z) (p.x -ℤ c.args.cx) c.way-vx.result c.turned-2.result c.turned-2.ensures.small c.turned-2.ensures.value vx ∙ other c.args.ccw (p.x -ℤ c.args.cx))

pub returns-clause-small : goal.returns-clause-small
returns-clause-small c =
    let p = c.args.p.now in
    both _ _
    (record {
      present = held (2 ^ 40) p.x (omega arith) c.requires.point.x;
      centre = held (2 ^ 28) c.args.cx (omega arith) c.requires.x;
      first = held (2 ^ 41) c.way-vx.result (omega arith) c.way-vx.ensures.small;
      last = held (2 ^ 41) c.turned.result (omega arith) c.turned.ensures.small;
    })
    (record {
      present = held (2 ^ 40) p.y (omega arith) c.requires.point.y;
      centre = held (2 ^ 28) c.args.cy (omega arith) c.requires.y;
      first = held (2 ^ 41) c.way-vy.result (omega arith) c.way-vy.ensures.small;
      last = held (2 ^ 41) c.turned-2.result (omega arith) c.turned-2.ensures.small;
    })
  where
    both : (x y : Quarter) → IsQuarterSmall x → IsQuarterSmall y → All IsQuarterSmall (x ∷ y ∷ [])
    both x y first second = All-cons IsQuarterSmall x (y ∷ []) first (All-cons IsQuarterSmall y [] second (All-nil IsQuarterSmall))

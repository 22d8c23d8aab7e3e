-- The same by the parts of a depth: what is known of both halves is known of the whole.
use Rattle.dynamics_bound.proofs.Prelude.{◌-◌, AreWithin, within-half, within-whole, differences-part, pow-add, common_steps, ◌≡◌, ℕ, zero, suc, ◌+◌, ◌*◌, ◌^◌, ◌≤◌, ℤ, pos, ◌+ℤ◌, ◌-ℤ◌, ◌*ℤ◌, ◌≤ℤ◌, arith, refl, sym, ◌∙◌, ap, ints, by_lt_z, power, bernstein, ring, linear, one_mul_ℤ, bernstein-same, IsWithin, within_mul, part_value, blossom, bernstein-blossom, polar-first, left_half, right_half, steps, exchanged, minus_same, next_scale, polar-second, within_add, within_same, bend}
use Rattle.bezier_core.proofs.PartBounds.{bernstein-scaled}
use Rattle.dynamics_bound.proofs.Tangents.{tangent}

-- ---- the speeds of a half
speed_half : (r : ℕ) (f : ℕ → ℤ) (a c : ℤ) → bernstein 6 (steps (part_value 1 r f)) a c ≡ bernstein 6 (steps f) (pos r *ℤ (c -ℤ a) +ℤ pos (r + 1) *ℤ a) (pos 2 *ℤ c)
speed_half r f a c =
    bernstein-same 6 _ (blossom 6 (steps f) (pos r) (pos (r + 1)) (pos 2)) a c (λ k small. differences-part 1 (6 - k) 1 r k f (omega arith))
    ∙ bernstein-blossom 6 (steps f) (pos r) (pos (r + 1)) (pos 2) a c

left_speed : (f : ℕ → ℤ) (a c : ℤ) → bernstein 6 (steps (part_value 1 0 f)) a c ≡ bernstein 6 (steps f) a (pos 2 *ℤ c)
left_speed f a c = speed_half 0 f a c ∙ ap (λ (z : ℤ). bernstein 6 (steps f) z (pos 2 *ℤ c)) (omega (arith, linear))

right_speed : (f : ℕ → ℤ) (a c : ℤ) → bernstein 6 (steps (part_value 1 1 f)) a c ≡ bernstein 6 (steps f) (a +ℤ c) (pos 2 *ℤ c)
right_speed f a c = speed_half 1 f a c ∙ ap (λ (z : ℤ). bernstein 6 (steps f) z (pos 2 *ℤ c)) (omega (arith, linear))

-- ---- positions and speeds that belong together
-- how far a position departs from a tangent after the time w, and how much a speed changes
abbrev pub Departs : ℤ → ℤ → ℤ → ℤ → ℤ → ℤ → ℤ → Type 0
Departs q room w t here there speed = IsWithin (pos 21 *ℤ (w *ℤ (w *ℤ room))) (q *ℤ ((there -ℤ here) -ℤ pos 7 *ℤ (t *ℤ speed)))

abbrev pub Turns : ℤ → ℤ → ℤ → ℤ → ℤ → Type 0
Turns q room w first second = IsWithin (pos 6 *ℤ (w *ℤ room)) (q *ℤ (second -ℤ first))

pub record IsGentle (q room : ℤ) (g v : ℤ → ℤ) (low high : ℤ) : Type 0 where
  pub fore : (x y : ℤ) → low ≤ℤ x → x ≤ℤ y → y ≤ℤ high → Departs q room (y -ℤ x) (y -ℤ x) (g x) (g y) (v x)
  pub back : (x y : ℤ) → low ≤ℤ x → x ≤ℤ y → y ≤ℤ high → Departs q room (y -ℤ x) (x -ℤ y) (g y) (g x) (v y)
  pub turn : (x y : ℤ) → low ≤ℤ x → x ≤ℤ y → y ≤ℤ high → Turns q room (y -ℤ x) (v x) (v y)

departs_same : (q room : ℤ) {w t h e s w' t' h' e' s' : ℤ} → w ≡ w' → t ≡ t' → h ≡ h' → e ≡ e' → s ≡ s' → Departs q room w t h e s → Departs q room w' t' h' e' s'
departs_same q room {w} {t} {h} {e} {s} {w'} {t'} {h'} {e'} {s'} ws ts hs es ss departs = grind (arith, common_steps, within_same, pos)

turns_same : (q room : ℤ) {w x y w' x' y' : ℤ} → w ≡ w' → x ≡ x' → y ≡ y' → Turns q room w x y → Turns q room w' x' y'
turns_same q room {w} {x} {y} {w'} {x'} {y'} ws xs ys turns = grind (arith, common_steps, within_same, pos)

-- the same, later by t
shifted : (q room : ℤ) (g v g' v' : ℤ → ℤ) (t s high : ℤ) → high ≤ℤ (t +ℤ s) → ((x : ℤ) → g (x -ℤ t) ≡ g' x) → ((x : ℤ) → v (x -ℤ t) ≡ v' x) →
    IsGentle q room g v (pos 0) s → IsGentle q room g' v' t high
shifted q room g v g' v' t s high until gs vs gentle =
    record {
      fore = λ x y low order up. departs_same q room (width x y t) (width x y t) (gs x) (gs y) (vs x) (gentle.fore (x -ℤ t) (y -ℤ t) (omega (arith, linear)) (omega (arith, linear)) (omega (arith, linear)));
      back = λ x y low order up. departs_same q room (width x y t) (width y x t) (gs y) (gs x) (vs y) (gentle.back (x -ℤ t) (y -ℤ t) (omega (arith, linear)) (omega (arith, linear)) (omega (arith, linear)));
      turn = λ x y low order up. turns_same q room (width x y t) (vs x) (vs y) (gentle.turn (x -ℤ t) (y -ℤ t) (omega (arith, linear)) (omega (arith, linear)) (omega (arith, linear)));
    }
  where
    width : (x y t : ℤ) → (y -ℤ t) -ℤ (x -ℤ t) ≡ y -ℤ x
    width x y t = omega (arith, linear)

-- ---- two intervals that meet at h
fore_value : (q n x h y gx gh gy vx vh : ℤ) →
    q *ℤ ((gh -ℤ gx) -ℤ n *ℤ ((h -ℤ x) *ℤ vx)) +ℤ (q *ℤ ((gy -ℤ gh) -ℤ n *ℤ ((y -ℤ h) *ℤ vh)) +ℤ (n *ℤ (y -ℤ h)) *ℤ (q *ℤ (vh -ℤ vx)))
    ≡ q *ℤ ((gy -ℤ gx) -ℤ n *ℤ ((y -ℤ x) *ℤ vx))
fore_value q n x h y gx gh gy vx vh = simp ring (omega (arith, linear))

back_value : (q n x h y gx gh gy vh vy : ℤ) →
    q *ℤ ((gh -ℤ gy) -ℤ n *ℤ ((h -ℤ y) *ℤ vy)) +ℤ (q *ℤ ((gx -ℤ gh) -ℤ n *ℤ ((x -ℤ h) *ℤ vh)) +ℤ (n *ℤ (h -ℤ x)) *ℤ (q *ℤ (vy -ℤ vh)))
    ≡ q *ℤ ((gx -ℤ gy) -ℤ n *ℤ ((x -ℤ y) *ℤ vy))
back_value q n x h y gx gh gy vh vy = simp ring (omega (arith, linear))

join_room : (a b c : ℤ) → pos 21 *ℤ (a *ℤ (a *ℤ c)) +ℤ (pos 21 *ℤ (b *ℤ (b *ℤ c)) +ℤ (pos 7 *ℤ b) *ℤ (pos 6 *ℤ (a *ℤ c))) ≡ pos 21 *ℤ ((a +ℤ b) *ℤ ((a +ℤ b) *ℤ c))
join_room a b c =
    ap (λ (z : ℤ). pos 21 *ℤ (a *ℤ (a *ℤ c)) +ℤ (pos 21 *ℤ (b *ℤ (b *ℤ c)) +ℤ z)) (front (pos 7) (pos 6) b (a *ℤ c) ∙ forty_two (b *ℤ (a *ℤ c)))
    ∙ square (pos 21) a b c
  where
    front : (n k b y : ℤ) → (n *ℤ b) *ℤ (k *ℤ y) ≡ n *ℤ (k *ℤ (b *ℤ y))
    front n k b y = simp ring refl

    forty_two : (z : ℤ) → pos 7 *ℤ (pos 6 *ℤ z) ≡ pos 21 *ℤ z +ℤ pos 21 *ℤ z
    forty_two z = omega (arith, linear)

    square : (n a b c : ℤ) → n *ℤ (a *ℤ (a *ℤ c)) +ℤ (n *ℤ (b *ℤ (b *ℤ c)) +ℤ (n *ℤ (b *ℤ (a *ℤ c)) +ℤ n *ℤ (b *ℤ (a *ℤ c)))) ≡ n *ℤ ((a +ℤ b) *ℤ ((a +ℤ b) *ℤ c))
    square n a b c = simp ring (omega (arith, linear))

turn_room : (n a b c : ℤ) → n *ℤ (a *ℤ c) +ℤ n *ℤ (b *ℤ c) ≡ n *ℤ ((a +ℤ b) *ℤ c)
turn_room n a b c = simp ring (omega (arith, linear))

turn_value : (q x y z : ℤ) → q *ℤ (y -ℤ x) +ℤ q *ℤ (z -ℤ y) ≡ q *ℤ (z -ℤ x)
turn_value q x y z = simp ring (omega (arith, linear))

pub joined : (q room : ℤ) (g v : ℤ → ℤ) (low h high : ℤ) → IsGentle q room g v low h → IsGentle q room g v h high → IsGentle q room g v low high
joined q room g v low h high left right =
    record {
      fore = λ x y x_low order y_high.
          by_lt_z x h
          (λ first. by_lt_z h y
          (λ second. within_same
          (join_room (h -ℤ x) (y -ℤ h) room ∙ ap (λ (z : ℤ). pos 21 *ℤ (z *ℤ (z *ℤ room))) (width x h y))
          (fore_value q (pos 7) x h y (g x) (g h) (g y) (v x) (v h))
          (within_add _ _ _ _ (left.fore x h x_low (omega (arith, linear)) (omega (arith, linear)))
          (within_add _ _ _ _ (right.fore h y (omega (arith, linear)) (omega (arith, linear)) y_high)
          (within_mul (pos 7 *ℤ (y -ℤ h)) _ _ (omega (arith, linear)) (left.turn x h x_low (omega (arith, linear)) (omega (arith, linear)))))))
          (λ before. left.fore x y x_low order before))
          (λ after. right.fore x y after order y_high);
      back = λ x y x_low order y_high.
          by_lt_z x h
          (λ first. by_lt_z h y
          (λ second. within_same
          (join_room (y -ℤ h) (h -ℤ x) room ∙ ap (λ (z : ℤ). pos 21 *ℤ (z *ℤ (z *ℤ room))) (width_back x h y))
          (back_value q (pos 7) x h y (g x) (g h) (g y) (v h) (v y))
          (within_add _ _ _ _ (right.back h y (omega (arith, linear)) (omega (arith, linear)) y_high)
          (within_add _ _ _ _ (left.back x h x_low (omega (arith, linear)) (omega (arith, linear)))
          (within_mul (pos 7 *ℤ (h -ℤ x)) _ _ (omega (arith, linear)) (right.turn h y (omega (arith, linear)) (omega (arith, linear)) y_high)))))
          (λ before. left.back x y x_low order before))
          (λ after. right.back x y after order y_high);
      turn = λ x y x_low order y_high.
          by_lt_z x h
          (λ first. by_lt_z h y
          (λ second. within_same
          (turn_room (pos 6) (h -ℤ x) (y -ℤ h) room ∙ ap (λ (z : ℤ). pos 6 *ℤ (z *ℤ room)) (width x h y))
          (turn_value q (v x) (v h) (v y))
          (within_add _ _ _ _ (left.turn x h x_low (omega (arith, linear)) (omega (arith, linear))) (right.turn h y (omega (arith, linear)) (omega (arith, linear)) y_high)))
          (λ before. left.turn x y x_low order before))
          (λ after. right.turn x y after order y_high);
    }
  where
    width : (x h y : ℤ) → (h -ℤ x) +ℤ (y -ℤ h) ≡ y -ℤ x
    width x h y = omega (arith, linear)

    width_back : (x h y : ℤ) → (y -ℤ h) +ℤ (h -ℤ x) ≡ y -ℤ x
    width_back x h y = omega (arith, linear)

-- ---- a whole curve, and its halves
-- the room of a depth
abbrev pub room_of : ℕ → ℤ → ℤ → ℤ
room_of e m s = pos (2 ^ (2 * e)) *ℤ (power s 5 *ℤ m)

abbrev pub position : (ℕ → ℤ) → ℤ → ℤ → ℤ
position f s x = bernstein 7 f x s

abbrev pub speed : (ℕ → ℤ) → ℤ → ℤ → ℤ
speed f s x = bernstein 6 (steps f) x s

whole_gentle : (f : ℕ → ℤ) (m s : ℤ) → ((k : ℕ) → k ≤ 5 → IsWithin m (bend f k)) → IsGentle (pos 1) (power s 5 *ℤ m) (position f s) (speed f s) (pos 0) s
whole_gentle f m s bends =
    record {
      fore = λ x y low order high. within_same refl (sym (one_mul_ℤ _))
          (tangent f m (y -ℤ x) y x s (omega (arith, linear)) high low (omega (arith, linear)) (omega (arith, linear), omega (arith, linear)) bends);
      back = λ x y low order high. within_same refl (sym (one_mul_ℤ _))
          (tangent f m (y -ℤ x) x y s low (omega (arith, linear)) (omega (arith, linear)) high (omega (arith, linear), omega (arith, linear)) bends);
      turn = λ x y low order high. within_same refl (minus_same (polar-first 6 (steps f) y x s) (polar-second 6 (steps f) y x s) ∙ sym (one_mul_ℤ _))
          (exchanged 6 0 5 (steps f) m (y -ℤ x) y x s refl (omega (arith, linear)) high low (omega (arith, linear)) (omega (arith, linear), omega (arith, linear)) bends);
    }

scale_value : (q t k n x y gx gy vx : ℤ) → q *ℤ (((t *ℤ k) *ℤ gy -ℤ (t *ℤ k) *ℤ gx) -ℤ n *ℤ ((t *ℤ y -ℤ t *ℤ x) *ℤ (k *ℤ vx))) ≡ (q *ℤ (t *ℤ k)) *ℤ ((gy -ℤ gx) -ℤ n *ℤ ((y -ℤ x) *ℤ vx))
scale_value q t k n x y gx gy vx = simp ring (omega (arith, linear))

scale_room : (n t x y p c : ℤ) → n *ℤ ((t *ℤ y -ℤ t *ℤ x) *ℤ ((t *ℤ y -ℤ t *ℤ x) *ℤ (p *ℤ c))) ≡ n *ℤ ((y -ℤ x) *ℤ ((y -ℤ x) *ℤ ((t *ℤ (t *ℤ p)) *ℤ c)))
scale_room n t x y p c = simp ring (omega (arith, linear))

scale_turn : (q t k x y : ℤ) → t *ℤ (q *ℤ (k *ℤ y -ℤ k *ℤ x)) ≡ (q *ℤ (t *ℤ k)) *ℤ (y -ℤ x)
scale_turn q t k x y = simp ring (omega (arith, linear))

scale_turn_room : (n t x y p c : ℤ) → t *ℤ (n *ℤ ((t *ℤ y -ℤ t *ℤ x) *ℤ (p *ℤ c))) ≡ n *ℤ ((y -ℤ x) *ℤ ((t *ℤ (t *ℤ p)) *ℤ c))
scale_turn_room n t x y p c = simp ring (omega (arith, linear))

-- the same at half the scale
halved : (q p c : ℤ) (f : ℕ → ℤ) (s : ℤ) → IsGentle q (p *ℤ c) (position f (pos 2 *ℤ s)) (speed f (pos 2 *ℤ s)) (pos 0) (pos 2 *ℤ s) →
    IsGentle (q *ℤ pos 128) ((pos 2 *ℤ (pos 2 *ℤ p)) *ℤ c) (position f s) (speed f s) (pos 0) s
halved q p c f s gentle =
    record {
      fore = λ x y low order high. within_same (scale_room (pos 21) (pos 2) x y p c)
          (scale_value q (pos 2) (pos 64) (pos 7) x y (position f s x) (position f s y) (speed f s x))
          (departs_same q (p *ℤ c) refl refl (bernstein-scaled 7 f (pos 2) x s) (bernstein-scaled 7 f (pos 2) y s) (bernstein-scaled 6 (steps f) (pos 2) x s)
          (gentle.fore (pos 2 *ℤ x) (pos 2 *ℤ y) (omega (arith, linear)) (omega (arith, linear)) (omega (arith, linear))));
      back = λ x y low order high. within_same (scale_room (pos 21) (pos 2) x y p c)
          (scale_value q (pos 2) (pos 64) (pos 7) y x (position f s y) (position f s x) (speed f s y))
          (departs_same q (p *ℤ c) refl refl (bernstein-scaled 7 f (pos 2) y s) (bernstein-scaled 7 f (pos 2) x s) (bernstein-scaled 6 (steps f) (pos 2) y s)
          (gentle.back (pos 2 *ℤ x) (pos 2 *ℤ y) (omega (arith, linear)) (omega (arith, linear)) (omega (arith, linear))));
      turn = λ x y low order high. within_same (scale_turn_room (pos 6) (pos 2) x y p c)
          (scale_turn q (pos 2) (pos 64) (speed f s x) (speed f s y))
          (within_mul (pos 2) _ _ (omega (arith, linear))
          (turns_same q (p *ℤ c) refl (bernstein-scaled 6 (steps f) (pos 2) x s) (bernstein-scaled 6 (steps f) (pos 2) y s)
          (gentle.turn (pos 2 *ℤ x) (pos 2 *ℤ y) (omega (arith, linear)) (omega (arith, linear)) (omega (arith, linear)))));
    }

same_gentle : {q q' room room' : ℤ} {g v : ℤ → ℤ} {low high : ℤ} → q ≡ q' → room ≡ room' → IsGentle q room g v low high → IsGentle q' room' g v low high
same_gentle {q} {q'} {room} {room'} {g} {v} {low} {high} qs rooms gentle = grind (arith, common_steps, within_same, pos)

-- Where no part of a depth bends more than m, the whole is gentle.
pub gentle : (e : ℕ) (f : ℕ → ℤ) (m s : ℤ) → pos 0 ≤ℤ s → AreWithin 2 e f m → IsGentle (pos (2 ^ (7 * e))) (room_of e m s) (position f s) (speed f s) (pos 0) s
gentle zero f m s some bends = same_gentle refl (sym (one_mul_ℤ (power s 5 *ℤ m))) (whole_gentle f m s (λ k low. within-whole 2 k f m bends (omega arith)))
gentle (suc e) f m s some bends =
    let q : ℤ = pos (2 ^ (7 * e)) in
    let room : ℤ = room_of e m s in
    let left : IsGentle q room (position f (pos 2 *ℤ s)) (speed f (pos 2 *ℤ s)) (pos 0) s =
    shifted q room (position (part_value 1 0 f) s) (speed (part_value 1 0 f) s) _ _ (pos 0) s s (omega (arith, linear))
    (λ x. left_half f (x -ℤ pos 0) s ∙ ap (λ (z : ℤ). position f (pos 2 *ℤ s) z) (minus_zero x))
    (λ x. left_speed f (x -ℤ pos 0) s ∙ ap (λ (z : ℤ). speed f (pos 2 *ℤ s) z) (minus_zero x))
    (gentle e (part_value 1 0 f) m s some (within-half 2 e 0 f m (omega arith) bends)) in
    let right : IsGentle q room (position f (pos 2 *ℤ s)) (speed f (pos 2 *ℤ s)) s (pos 2 *ℤ s) =
    shifted q room (position (part_value 1 1 f) s) (speed (part_value 1 1 f) s) _ _ s s (pos 2 *ℤ s) (omega (arith, linear))
    (λ x. right_half f (x -ℤ s) s ∙ ap (λ (z : ℤ). position f (pos 2 *ℤ s) z) (back x s))
    (λ x. right_speed f (x -ℤ s) s ∙ ap (λ (z : ℤ). speed f (pos 2 *ℤ s) z) (back x s))
    (gentle e (part_value 1 1 f) m s some (within-half 2 e 1 f m (omega arith) bends)) in
    same_gentle (next_scale e) (ap (λ (z : ℤ). z *ℤ (power s 5 *ℤ m)) (next_power e))
    (halved q (pos (2 ^ (2 * e))) (power s 5 *ℤ m) f s (joined q room _ _ (pos 0) s (pos 2 *ℤ s) left right))
  where
    minus_zero : (x : ℤ) → x -ℤ pos 0 ≡ x
    minus_zero x = omega (arith, linear)

    back : (x s : ℤ) → (x -ℤ s) +ℤ s ≡ x
    back x s = omega (arith, linear)

    next_power : (e : ℕ) → pos 2 *ℤ (pos 2 *ℤ pos (2 ^ (2 * e))) ≡ pos (2 ^ (2 * suc e))
    next_power e = let more : 2 * suc e ≡ 2 * e + 2 = omega arith in rw (more, pow-add 2 (2 * e) 2) (omega (arith, ints))

-- ---- three instants
three_value : (q x y z f g h n v : ℤ) → (y -ℤ x) *ℤ (q *ℤ ((h -ℤ g) -ℤ n *ℤ ((z -ℤ y) *ℤ v))) +ℤ (z -ℤ y) *ℤ (q *ℤ ((f -ℤ g) -ℤ n *ℤ ((x -ℤ y) *ℤ v)))
    ≡ q *ℤ ((h -ℤ g) *ℤ (y -ℤ x) -ℤ (g -ℤ f) *ℤ (z -ℤ y))
three_value q x y z f g h n v = simp ring (omega (arith, linear))

three_room : (a b n c : ℤ) → a *ℤ (n *ℤ (b *ℤ (b *ℤ c))) +ℤ b *ℤ (n *ℤ (a *ℤ (a *ℤ c))) ≡ n *ℤ ((a +ℤ b) *ℤ (b *ℤ (a *ℤ c)))
three_room a b n c = simp ring (omega (arith, linear))

-- Positions and speeds that belong together bend no more than their room, between any three instants.
pub three_gentle : (q room : ℤ) (g v : ℤ → ℤ) (low high x y z : ℤ) → IsGentle q room g v low high → low ≤ℤ x → x ≤ℤ y → y ≤ℤ z → z ≤ℤ high →
    IsWithin (pos 21 *ℤ ((z -ℤ x) *ℤ ((z -ℤ y) *ℤ ((y -ℤ x) *ℤ room)))) (q *ℤ ((g z -ℤ g y) *ℤ (y -ℤ x) -ℤ (g y -ℤ g x) *ℤ (z -ℤ y)))
three_gentle q room g v low high x y z gentle x_low first second z_high =
    within_same
    (three_room (y -ℤ x) (z -ℤ y) (pos 21) room ∙ ap (λ (t : ℤ). pos 21 *ℤ (t *ℤ ((z -ℤ y) *ℤ ((y -ℤ x) *ℤ room)))) (width x y z))
    (three_value q x y z (g x) (g y) (g z) (pos 7) (v y))
    (within_add _ _ _ _
    (within_mul (y -ℤ x) _ _ (omega (arith, linear)) (gentle.fore y z (omega (arith, linear)) second z_high))
    (within_mul (z -ℤ y) _ _ (omega (arith, linear)) (gentle.back x y x_low first (omega (arith, linear)))))
  where
    width : (x y z : ℤ) → (y -ℤ x) +ℤ (z -ℤ y) ≡ z -ℤ x
    width x y z = omega (arith, linear)

-- Between three instants x / s, y / s, z / s the mean speed changes by no more than 21 times the widest bend times the time
-- from the first to the last: both sides are multiplied by (z - y) (y - x), and the values are numerators over s^7. A part's
-- control values are its values times 2^(7 e), and its bends are those of a 2^e-th of the time.
pub three_by_parts : (e : ℕ) (f : ℕ → ℤ) (m x y z s : ℤ) → pos 0 ≤ℤ x → x ≤ℤ y → y ≤ℤ z → z ≤ℤ s → AreWithin 2 e f m →
    IsWithin (pos 21 *ℤ ((z -ℤ x) *ℤ ((z -ℤ y) *ℤ ((y -ℤ x) *ℤ (pos (2 ^ (2 * e)) *ℤ (power s 5 *ℤ m))))))
    (pos (2 ^ (7 * e)) *ℤ ((bernstein 7 f z s -ℤ bernstein 7 f y s) *ℤ (y -ℤ x) -ℤ (bernstein 7 f y s -ℤ bernstein 7 f x s) *ℤ (z -ℤ y)))
three_by_parts e f m x y z s low first second high bends =
    three_gentle (pos (2 ^ (7 * e))) (room_of e m s) (position f s) (speed f s) (pos 0) s x y z (gentle e f m s (omega (arith, linear)) bends) low first second high

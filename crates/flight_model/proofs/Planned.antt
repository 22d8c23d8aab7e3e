-- The orders that the steps of a flight have for one drone.
use Rattle.flight_model.proofs.Prelude.{◌≡◌, ◌∷◌, ◌++◌, ◌∙◌, [], List, refl, sym, ap, None, Some, Option, ℕ, zero, suc, append_assoc, flat_map-append, map, slice_get, flat_map, range_with_len, Traj, Order, Step, Routes, Leg, legs_of, leg_count, arm_order, up_order, down_order, arm_step, up_step, start_step, down_step, last_step, lasts, order_in, ordered, in_step}
use Rattle.flight_model.specs.declared.events.Order.TheVariants as order
unfoldable use Rattle.flight_model.specs.Legs.{steps_of}
use Rattle.flight_model.specs.Plan.{one_of, up_leg, PlanLaw}

get-legs : (g : List Leg → Option Order) (ts : List Traj) (d : ℕ) (t : Traj) → slice_get ts d ≡ Some t → in_step (slice_get (map g (map legs_of ts)) d) ≡ one_of (g (legs_of t))
get-legs g [] d t e = absurd (cc)
get-legs g (u ∷ ts) zero t e = let same : u ≡ t = cc in by_order (g (legs_of u)) ∙ ap (λ (v : Traj). one_of (g (legs_of v))) same where
  by_order : (o : Option Order) → in_step (Some o) ≡ one_of o
  by_order None = refl
  by_order (Some o) = refl
get-legs g (u ∷ ts) (suc d) t e = get-legs g ts d t e

ordered-append : (d : ℕ) (xs ys : List Step) → ordered d (xs ++ ys) ≡ ordered d xs ++ ordered d ys
ordered-append d xs ys = flat_map-append (λ (step : Step). in_step (order_in step.orders d)) xs ys

ups : (w : Routes) (d : ℕ) (up : Traj) → slice_get w.up d ≡ Some up → (ks : List ℕ) →
    ordered d (flat_map (λ k. arm_step w (map legs_of w.up) k ∷ up_step w (map legs_of w.up) k ∷ []) ks) ≡ flat_map (up_leg (legs_of up)) ks
ups w d up e [] = refl
ups w d up e (k ∷ ks) =
    let a = get-legs (λ legs. arm_order legs k) w.up d up e in
    let b = get-legs (λ legs. up_order legs k) w.up d up e in
    three _ _ _ _ _ _ a b (ups w d up e ks) where
      three : (x y z p q r : List Order) → x ≡ p → y ≡ q → z ≡ r → x ++ (y ++ z) ≡ (p ++ q) ++ r
      three x y z p q r h i j = ap (λ xs. xs ++ (y ++ z)) h ∙ (ap (λ xs. p ++ (xs ++ z)) i ∙ (ap (λ xs. p ++ (q ++ xs)) j ∙ sym (append_assoc p q r)))

downs : (w : Routes) (d : ℕ) (down : Traj) → slice_get w.down d ≡ Some down → (ms : ℕ) (ks : List ℕ) →
    ordered d (map (down_step w ms (map legs_of w.down)) ks) ≡ flat_map (λ k. one_of (down_order (legs_of down) k)) ks
downs w d down e ms [] = refl
downs w d down e ms (k ∷ ks) =
    ap (λ xs. xs ++ ordered d (map (down_step w ms (map legs_of w.down)) ks)) (get-legs (λ legs. down_order legs k) w.down d down e)
    ∙ ap (λ xs. one_of (down_order (legs_of down) k) ++ xs) (downs w d down e ms ks)

pub plan_law : PlanLaw
unfolding steps_of
plan_law w d up down e f =
    let ascent = flat_map (λ k. arm_step w (map legs_of w.up) k ∷ up_step w (map legs_of w.up) k ∷ []) (range_with_len 0 (leg_count (map legs_of w.up))) in
    let descent = map (down_step w (lasts w.show) (map legs_of w.down)) (range_with_len 0 (leg_count (map legs_of w.down))) in
    let last = last_step w (map legs_of w.down) ∷ [] in
    ap (λ xs. xs ++ ordered d (ascent ++ start_step w (lasts w.show) (map legs_of w.up) ∷ (descent ++ last))) (get-legs (λ legs. Some order.Group) w.up d up e)
    ∙ ap (λ xs. order.Group ∷ xs) (ordered-append d ascent (start_step w (lasts w.show) (map legs_of w.up) ∷ (descent ++ last))
    ∙ (ap (λ xs. xs ++ order.Start ∷ ordered d (descent ++ last)) (ups w d up e (range_with_len 0 (leg_count (map legs_of w.up))))
    ∙ ap (λ xs. flat_map (up_leg (legs_of up)) (range_with_len 0 (leg_count (map legs_of w.up))) ++ order.Start ∷ xs)
    (ordered-append d descent last ∙ ap (λ xs. xs ++ order.Disarm ∷ []) (downs w d down f (lasts w.show) (range_with_len 0 (leg_count (map legs_of w.down)))))))

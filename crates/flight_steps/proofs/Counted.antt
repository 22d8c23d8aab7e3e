-- Each step of a flight is for as many drones as the show has.
use Rattle.flight_steps.proofs.Prelude.{◌≡◌, ◌∷◌, ◌∙◌, [], List, ℕ, Some, length, map, refl, inl, inr, arith, All, slice_index_or, flat_map, range_with_len, length-map, All-nil, All-cons, All-append, All-map, Leg, Step, Routes, IsFlight, legs_of, leg_count, lasts, group_step, arm_step, up_step, start_step, down_step, last_step, arm_condition, up_condition, start_condition, down_condition, last_condition, arm_order, up_order, down_order, AreConditionsOf, IsStepOf, SizeRows, anywhere}
use Rattle.flight_model.specs.declared.events.Order.TheVariants as order
unfoldable use Rattle.flight_model.specs.Legs.{steps_of}

flat-all : (P : Step → Type 0) (h : ℕ → List Step) (ks : List ℕ) → ((k : ℕ) → All P (h k)) → All P (flat_map h ks)
flat-all P h [] each = All-nil P
flat-all P h (k ∷ ks) each = All-append P (h k) (flat_map h ks) (each k) (flat-all P h ks each)

map-all : (P : Step → Type 0) (f : ℕ → Step) (ks : List ℕ) → ((k : ℕ) → P (f k)) → All P (map f ks)
map-all P f ks each = All-map P f ks (λ k d l. each (slice_index_or ks k d))

group-of : (all : List (List Leg)) (n : ℕ) → length all ≡ n → IsStepOf n (group_step all)
group-of all n e = record { conditions = inl refl; orders = length-map all (λ legs. Some order.Group) ∙ e }

arm-of : (w : Routes) (all : List (List Leg)) (n k : ℕ) → length all ≡ n → IsStepOf n (arm_step w all k)
arm-of w all n k e = record { conditions = inr (length-map all (arm_condition w k) ∙ e); orders = length-map all (λ legs. arm_order legs k) ∙ e }

up-of : (w : Routes) (all : List (List Leg)) (n k : ℕ) → length all ≡ n → IsStepOf n (up_step w all k)
up-of w all n k e = record { conditions = inr (length-map all (up_condition w k) ∙ e); orders = length-map all (λ legs. up_order legs k) ∙ e }

down-of : (w : Routes) (ms : ℕ) (all : List (List Leg)) (n k : ℕ) → length all ≡ n → IsStepOf n (down_step w ms all k)
down-of w ms all n k e = record { conditions = inr (length-map all (down_condition w k) ∙ e); orders = length-map all (λ legs. down_order legs k) ∙ e }

-- each step of a flight
pub sizes : (w : Routes) → IsFlight w → All (IsStepOf (length w.show)) (steps_of w)
unfolding steps_of
sizes w f =
    let n = length w.show in
    let ups = map legs_of w.up in
    let downs = map legs_of w.down in
    let up_long : length ups ≡ n = length-map w.up legs_of ∙ f.ups in
    let down_long : length downs ≡ n = length-map w.down legs_of ∙ f.downs in
    let last : All (IsStepOf n) (last_step w downs ∷ []) =
    All-cons (IsStepOf n) (last_step w downs) [] (record { conditions = inr (length-map w.down (last_condition w) ∙ f.downs); orders = tt }) (All-nil (IsStepOf n)) in
    let below : All (IsStepOf n) _ =
    All-append (IsStepOf n) (map (down_step w (lasts w.show) downs) (range_with_len 0 (leg_count downs))) (last_step w downs ∷ [])
    (map-all (IsStepOf n) (down_step w (lasts w.show) downs) (range_with_len 0 (leg_count downs)) (λ k. down-of w (lasts w.show) downs n k down_long)) last in
    All-cons (IsStepOf n) (group_step ups) _ (group-of ups n up_long)
    (All-append (IsStepOf n) (flat_map (λ k. arm_step w ups k ∷ up_step w ups k ∷ []) (range_with_len 0 (leg_count ups))) _
    (flat-all (IsStepOf n) (λ k. arm_step w ups k ∷ up_step w ups k ∷ []) (range_with_len 0 (leg_count ups))
    (λ k. All-cons (IsStepOf n) (arm_step w ups k) (up_step w ups k ∷ []) (arm-of w ups n k up_long)
    (All-cons (IsStepOf n) (up_step w ups k) [] (up-of w ups n k up_long) (All-nil (IsStepOf n)))))
    (All-cons (IsStepOf n) (start_step w (lasts w.show) ups) _ (record { conditions = inr (length-map w.show (start_condition w w.at_place)); orders = tt }) below))

-- ---- by hand

pub size_rows : SizeRows
size_rows = record {
  none = record { conditions = inl refl; orders = refl };
  one = λ s. not_one s.conditions;
  two = record { conditions = inr refl; orders = refl };
  three = λ s. not_three s.conditions;
  idle = record { conditions = inl refl; orders = refl };
  short = λ s. let e = s.orders in omega (arith, e);
  to_all = record { conditions = inl refl; orders = tt };
} where
  not_one : AreConditionsOf 2 (anywhere ∷ []) → ⊥
  not_one (inl e) = cc
  not_one (inr e) = omega (arith, e)

  not_three : AreConditionsOf 2 (anywhere ∷ anywhere ∷ anywhere ∷ []) → ⊥
  not_three (inl e) = cc
  not_three (inr e) = omega (arith, e)

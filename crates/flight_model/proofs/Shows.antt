-- The steps of a flight fly its show.
use Rattle.flight_model.proofs.Prelude.{◌≡◌, ◌<◌, ◌≤◌, ◌∷◌, ◌++◌, ◌∙◌, [], List, refl, sym, ap, Some, ℕ, zero, suc, length, arith, length-map, All-head, map, slice_get, All, flat_map, range_with_len, Traj, Step, Flight, Routes, Leg, IsFlight, IsWayDown, legs_of, leg_count, last_move, lasts, group_step, arm_step, up_step, start_step, start_condition, down_step, last_step, most_ms, HasShow}
unfoldable use Rattle.flight_model.specs.Legs.{steps_of}

get-after : (xs : List Step) (y : Step) (ys : List Step) → slice_get (xs ++ y ∷ ys) (length xs) ≡ Some y
get-after [] y ys = refl
get-after (x ∷ xs) y ys = get-after xs y ys

get-next : (xs : List Step) (y : Step) (ys : List Step) → slice_get (xs ++ y ∷ ys) (suc (length xs)) ≡ slice_get ys 0
get-next [] y ys = refl
get-next (x ∷ xs) y ys = get-next xs y ys

-- where the way down has no leg, there is no drone, and the show lasts no time
no_legs : (show down : List Traj) → length down ≡ length show → All IsWayDown down → leg_count (map legs_of down) ≡ 0 → lasts show ≡ 0
no_legs [] down many all none = refl
no_legs (t ∷ ts) [] many all none = absurd (omega (arith, many))
no_legs (t ∷ ts) (n ∷ ns) many all none = absurd (by_legs (legs_of n) none (All-head IsWayDown n ns all).last (All-head IsWayDown n ns all).is_last) where
  by_legs : (legs : List Leg) → length legs ≡ 0 → (l : Leg) → last_move legs ≡ Some l → ⊥
  by_legs [] e l m = absurd (cc)
  by_legs (a ∷ legs) e l m = omega (arith, e)

-- the step after the start
record Following (w : Routes) (total : ℕ) (downs : List (List Leg)) (n : ℕ) : Type 0 where
  next : Step
  is : slice_get (map (down_step w total downs) (range_with_len 0 n) ++ last_step w downs ∷ []) 0 ≡ Some next
  waits : total ≤ next.after

following : (w : Routes) (total : ℕ) (downs : List (List Leg)) (n : ℕ) → (n ≡ 0 → total ≡ 0) → Following w total downs n
following w total downs zero none = let e = none refl in record { next = last_step w downs; is = refl; waits = omega (arith, e) }
following w total downs (suc n) none = record { next = down_step w total downs 0; is = refl; waits = omega arith }

front : Routes → List Step
front w = group_step (map legs_of w.up) ∷ flat_map (λ k. arm_step w (map legs_of w.up) k ∷ up_step w (map legs_of w.up) k ∷ []) (range_with_len 0 (leg_count (map legs_of w.up)))

rear : Routes → List Step
rear w =
    map (down_step w (lasts w.show) (map legs_of w.down)) (range_with_len 0 (leg_count (map legs_of w.down))) ++ last_step w (map legs_of w.down) ∷ []

steps-are : (w : Routes) → steps_of w ≡ front w ++ start_step w (lasts w.show) (map legs_of w.up) ∷ rear w
unfolding steps_of front rear
steps-are w = refl

pub has_show : (f : Flight) (w : Routes) → IsFlight w → f.steps ≡ steps_of w → f.curves ≡ w.show → f.show_ms ≡ lasts w.show →
    f.show_ms ≤ most_ms → f.silence < most_ms → HasShow f
unfolding rear
has_show f w is steps curves ms short heard =
    let all = steps ∙ steps-are w in
    let begin = start_step w (lasts w.show) (map legs_of w.up) in
    let then = following w (lasts w.show) (map legs_of w.down) (leg_count (map legs_of w.down)) (no_legs w.show w.down is.downs is.return) in
    record {
      number = length (front w);
      starting = begin;
      next = then.next;
      is_starting = ap (λ xs. slice_get xs (length (front w))) all ∙ get-after (front w) begin (rear w);
      is_next = ap (λ xs. slice_get xs (suc (length (front w)))) all ∙ (get-next (front w) begin (rear w) ∙ then.is);
      starts = refl;
      asked = refl;
      each = length-map w.show (start_condition w w.at_place) ∙ sym (ap length curves);
      waits = let l = then.waits in omega (arith, l, ms);
      short = short;
      heard = heard;
    }

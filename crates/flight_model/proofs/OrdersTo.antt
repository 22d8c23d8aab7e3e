-- What frames tell one drone.
use Rattle.flight_model.proofs.Prelude.{◌≡◌, ◌<◌, ◌≤◌, ◌+◌, ◌∷◌, ◌++◌, ◌∙◌, [], List, Bool, true, false, cond, refl, sym, ap, subst, None, Some, Option, ℕ, zero, suc, take, eqb, arith, ne_eqb, eq-eqb, flat_map-append, append-nil, append_assoc, map, slice_get, range_with_len, Order, Note, Frame, Noted, Orders, Each, Step, Flight, order_in, frames_from, frames_of, landings, land_order, has_risen, drones, told_by, orders_to, in_step, ordered, only_if}
use Rattle.flight_model.specs.declared.flights.Orders.TheVariants.{All as ToEach}

pub orders_to-append : (d : ℕ) (xs ys : List Frame) → orders_to d (xs ++ ys) ≡ orders_to d xs ++ orders_to d ys
orders_to-append d xs ys = flat_map-append (told_by d) xs ys

-- notes tell a drone nothing
pub orders_to-notes : (d : ℕ) (ns : List Note) → orders_to d (map Noted ns) ≡ []
orders_to-notes d [] = refl
orders_to-notes d (n ∷ ns) = orders_to-notes d ns

-- frames for later drones
orders_to-past : (d k : ℕ) (os : List (Option Order)) → d < k → orders_to d (frames_from k os) ≡ []
orders_to-past d k [] l = refl
orders_to-past d k (None ∷ os) l = orders_to-past d (suc k) os (omega arith)
orders_to-past d k (Some o ∷ os) l =
    let other : eqb k d ≡ false = ne_eqb k d (λ e. absurd (omega arith)) in
    rw other (orders_to-past d (suc k) os (omega arith))

-- the frames of orders by drone
pub orders_to-from : (d k j : ℕ) (os : List (Option Order)) → d ≡ k + j → orders_to d (frames_from k os) ≡ in_step (slice_get os j)
orders_to-from d k j [] e = refl
orders_to-from d k zero (None ∷ os) e = orders_to-past d (suc k) os (omega arith)
orders_to-from d k zero (Some o ∷ os) e =
    let same : eqb k d ≡ true = eq-eqb k d (omega arith) in
    rw same (ap (λ xs. o ∷ xs) (orders_to-past d (suc k) os (omega arith)))
orders_to-from d k (suc j) (None ∷ os) e = orders_to-from d (suc k) j os (omega arith)
orders_to-from d k (suc j) (Some o ∷ os) e =
    let other : eqb k d ≡ false = ne_eqb k d (λ f. absurd (omega arith)) in
    rw other (orders_to-from d (suc k) j os (omega arith))

pub orders_to-of_step : (d : ℕ) (orders : Orders) → orders_to d (frames_of orders) ≡ in_step (order_in orders d)
orders_to-of_step d (Each os) = orders_to-from d 0 d os (omega arith)
orders_to-of_step d (ToEach o) = refl

-- ---- landings

-- one of a range
slice_get-landing : (f : Flight) (n a m j : ℕ) → j < m →
    slice_get (map (λ d. cond (has_risen f n d) (Some (land_order f)) None) (range_with_len a m)) j
    ≡ Some (cond (has_risen f n (a + j)) (Some (land_order f)) None)
slice_get-landing f n a zero j l = absurd (omega arith)
slice_get-landing f n a (suc m) zero l = let e : a + 0 ≡ a = omega arith in rw e refl
slice_get-landing f n a (suc m) (suc j) l =
    let e : a + 1 + j ≡ a + suc j = omega arith in
    subst (λ (i : ℕ). slice_get (map (λ d. cond (has_risen f n d) (Some (land_order f)) None) (range_with_len (a + 1) m)) j ≡ Some (cond (has_risen f n i) (Some (land_order f)) None)) e
    (slice_get-landing f n (a + 1) m j (omega arith))

slice_get-no_landing : (f : Flight) (n a m j : ℕ) → m ≤ j →
    slice_get (map (λ d. cond (has_risen f n d) (Some (land_order f)) None) (range_with_len a m)) j ≡ None
slice_get-no_landing f n a zero j l = refl
slice_get-no_landing f n a (suc m) zero l = absurd (omega arith)
slice_get-no_landing f n a (suc m) (suc j) l = slice_get-no_landing f n (a + 1) m j (omega arith)

pub orders_to-landing : (f : Flight) (n d : ℕ) → d < drones f → orders_to d (frames_from 0 (landings f n)) ≡ only_if (has_risen f n d) (land_order f)
orders_to-landing f n d l =
    orders_to-from d 0 d (landings f n) (omega arith) ∙ (ap in_step (slice_get-landing f n 0 (drones f) d l) ∙ by_place (0 + d) (omega arith)) where
      by_risen : (b : Bool) → in_step (Some (cond b (Some (land_order f)) None)) ≡ only_if b (land_order f)
      by_risen true = refl
      by_risen false = refl

      by_place : (i : ℕ) → i ≡ d → in_step (Some (cond (has_risen f n i) (Some (land_order f)) None)) ≡ only_if (has_risen f n d) (land_order f)
      by_place i e = rw e (by_risen (has_risen f n d))

pub orders_to-no_landing : (f : Flight) (n d : ℕ) → drones f ≤ d → orders_to d (frames_from 0 (landings f n)) ≡ []
orders_to-no_landing f n d l = orders_to-from d 0 d (landings f n) (omega arith) ∙ ap in_step (slice_get-no_landing f n 0 (drones f) d l)

-- ---- the orders of the first steps

pub ordered-next : (d n : ℕ) (steps : List Step) (step : Step) → slice_get steps n ≡ Some step →
    ordered d (take (suc n) steps) ≡ ordered d (take n steps) ++ in_step (order_in step.orders d)
ordered-next d zero [] step e = absurd (cc)
ordered-next d (suc n) [] step e = absurd (cc)
ordered-next d zero (s ∷ steps) step e =
    let same : s ≡ step = cc in
    subst (λ (x : Step). in_step (order_in s.orders d) ++ [] ≡ in_step (order_in x.orders d)) same (append-nil (in_step (order_in s.orders d)))
ordered-next d (suc n) (s ∷ steps) step e =
    ap (λ xs. in_step (order_in s.orders d) ++ xs) (ordered-next d n steps step e)
    ∙ sym (append_assoc (in_step (order_in s.orders d)) (ordered d (take n steps)) (in_step (order_in step.orders d)))

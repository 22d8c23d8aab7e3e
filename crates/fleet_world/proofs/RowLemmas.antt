-- What each drone has, drone by drone, and traffic that changes at one of them.
use Rattle.fleet_world.proofs.Prelude.{◌≡◌, ◌≢◌, ℕ, ◌+◌, ◌<◌, ◌≤◌, List, [], length, map, set, get_or, sym, ap, ◌∙◌, arith, vec_len, vec_capacity, map-set, length-map, get_or-set_same, get_or-set_other, get_or-map, set-get_or, All-weaker, Traffic, row_of, HasRoom}

-- what one drone has, read from the traffic as it is kept
pub row-kept : {X : Type 0} (f : Traffic → List X) (traffic : List Traffic) (d : ℕ) (t : Traffic) → d < length traffic → row_of (map f traffic) d ≡ f (get_or traffic d t)
row-kept f traffic d t l = get_or-map f traffic d t [] l

-- one drone's traffic is written, with the same in it
pub rows-set_kept : {X : Type 0} (f : Traffic → List X) (traffic : List Traffic) (d : ℕ) (new old : Traffic) → d < length traffic →
    f new ≡ f (get_or traffic d old) → map f (set traffic d new) ≡ map f traffic
rows-set_kept f traffic d new old l same =
    map-set f traffic d new ∙ ap (set (map f traffic) d) (same ∙ sym (row-kept f traffic d old l)) ∙ set-get_or (map f traffic) d []

-- one drone's traffic is written, with something else
pub row-set_same : {X : Type 0} (f : Traffic → List X) (traffic : List Traffic) (d : ℕ) (t : Traffic) → d < length traffic → row_of (map f (set traffic d t)) d ≡ f t
row-set_same {X} f traffic d t l =
    ap (λ (rows : List (List X)). get_or rows d []) (map-set f traffic d t) ∙ get_or-set_same (map f traffic) d (f t) [] (let n = length-map traffic f in omega arith)

pub row-set_other : {X : Type 0} (f : Traffic → List X) (traffic : List Traffic) (d i : ℕ) (t : Traffic) → i ≢ d → row_of (map f (set traffic d t)) i ≡ row_of (map f traffic) i
row-set_other {X} f traffic d i t other =
    ap (λ (rows : List (List X)). get_or rows i []) (map-set f traffic d t) ∙ get_or-set_other (map f traffic) d i (f t) [] other

-- less room is enough
pub HasRoom-less : (traffic : List Traffic) (n m : ℕ) → m ≤ n → HasRoom traffic n → HasRoom traffic m
HasRoom-less traffic n m l room =
    All-weaker (λ (t : Traffic). vec_len t.sent + n ≤ vec_capacity t.sent) (λ (t : Traffic). vec_len t.sent + m ≤ vec_capacity t.sent) (λ t h. omega arith) traffic room

-- Lines of a memory and of a table, one after another.
use Rattle.rehearsal.proofs.Prelude.{common_steps, ◌≡◌, ◌∙◌, ℕ, suc, ◌+◌, ◌<◌, List, [], ◌∷◌, ◌++◌, length, take, map, get_or, Option, refl, sym, ap, append_assoc, append-nil, arith, flat_map, range_with_len, map-append, length-map, length-take, flat_map-append, take_at_read, DroneState, memory_line, drone_text, AreTexts, IsFound}
use Rattle.upload_model.proofs.HostSteps.{range-more}
use Rattle.traj_codec.specs.declared.traj.Traj.{Traj}

-- one row more
pub rows-more : (text : List ℕ) (memory : List ℕ) (k : ℕ) (old new : List ℕ) → old ≡ text ++ flat_map (memory_line memory) (range_with_len 0 k) → new ≡ old ++ memory_line memory k →
    new ≡ text ++ flat_map (memory_line memory) (range_with_len 0 (k + 1))
rows-more text memory k old new is more =
    let so_far : List ℕ = flat_map (memory_line memory) (range_with_len 0 k) in
    let e : k + 1 ≡ suc k = omega arith in
    let one : range_with_len 0 (k + 1) ≡ range_with_len 0 k ++ k ∷ [] =
    ap (range_with_len 0) e ∙ range-more 0 k ∙ ap (λ (n : ℕ). range_with_len 0 k ++ n ∷ []) (let z : 0 + k ≡ k = omega arith in z) in
    let all : flat_map (memory_line memory) (range_with_len 0 (k + 1)) ≡ so_far ++ memory_line memory k =
    ap (flat_map (memory_line memory)) one ∙ flat_map-append (memory_line memory) (range_with_len 0 k) (k ∷ [])
    ∙ ap (λ (xs : List ℕ). so_far ++ xs) (append-nil (memory_line memory k)) in
    more ∙ ap (λ (xs : List ℕ). xs ++ memory_line memory k) is ∙ append_assoc text so_far (memory_line memory k) ∙ ap (λ (xs : List ℕ). text ++ xs) (sym all)

-- ---- drone by drone

-- one drone more
pub texts-push : (drones : ℕ → DroneState) (id n m : ℕ) (names : List (List ℕ)) (said : List ℕ) (name : List ℕ) (o : Option Traj) → n + length names ≡ m →
    AreTexts drones id n names said → IsFound id (drones m) o → AreTexts drones id n (names ++ name ∷ []) (said ++ drone_text name (drones m) o)
texts-push drones id n m [] said name o here are is =
    let same : n ≡ m = omega arith in
    (o, [], rw same is, refl, rw (are, same) (sym (append-nil (drone_text name (drones m) o))))
texts-push drones id n m (x ∷ names) said name o here are is = grind (arith, common_steps, append_assoc, (texts-push drones id (suc n) m names are.1 name o (omega arith) are.3 is))

-- the text of the first drones, and of one more
pub texts-next : {N : Type 0} (drones : ℕ → DroneState) (id : ℕ) (f : N → List ℕ) (names : List N) (n0 : N) (d : ℕ) (said name : List ℕ) (o : Option Traj) → d < length names → name ≡ f (get_or names d n0) →
    AreTexts drones id 0 (map f (take d names)) said → IsFound id (drones d) o → AreTexts drones id 0 (map f (take (d + 1) names)) (said ++ drone_text name (drones d) o)
texts-next drones id f names n0 d said name o below is are found = grind (arith, common_steps, take, take_at_read, map-append, get_or, length-map, length-take, texts-push)

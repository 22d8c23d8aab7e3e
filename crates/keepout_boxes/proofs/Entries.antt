-- The first part that isn't kept, of all regions.
use Rattle.keepout_boxes.proofs.Prelude.{common_steps, ◌≡◌, ℕ, ◌^◌, ◌<◌, sym, subst, ◌∙◌, ap, inl, inr, List, length, get_or, Some, slice_get, arith, Raised, item_there, same_item, Region, IsBefore, IsFirstEntry, IsSpot, KeptAt, Spot, IsFirstOfRegion, KeptHere, RegionsKept}
use Rattle.fleet_curves.proofs.Differences.{same_default}

-- one region more is kept
pub region_more : (c : Raised) (r h depth : ℕ) (regions : List Region) (k : ℕ) (x : Region) → x ≡ get_or regions k x → ((drone : ℕ) → drone < c.drones → (cue : ℕ) → cue < c.cues → (index : ℕ) → index < 2 ^ depth → KeptHere c r h depth x drone cue index) →
    (region : Region) → slice_get regions k ≡ Some region → (drone : ℕ) → drone < c.drones → (cue : ℕ) → cue < c.cues → (index : ℕ) → index < 2 ^ depth → KeptHere c r h depth region drone cue index
region_more c r h depth regions k x told kept region is drone drone_in cue cue_in index index_in =
    subst (λ (y : Region). KeptHere c r h depth y drone cue index) (sym (same_item regions k region x is told)) (kept drone drone_in cue cue_in index index_in)

before : (c : Raised) (r h depth : ℕ) (regions : List Region) (k drone cue index : ℕ) (x : Region) → x ≡ get_or regions k x → RegionsKept c r h depth regions k → IsFirstOfRegion c r h depth x drone cue index →
    (t : Spot) → IsSpot c regions depth t → IsBefore t (record { region = k; drone = drone; cue = cue; index = index }) → KeptAt c r h depth regions t
before c r h depth regions k drone cue index x told earlier found t spot (inl less) region is = earlier t.region less region is t.drone spot.has_drone t.cue spot.has_cue t.index spot.has_part
before c r h depth regions k drone cue index x told earlier found t spot (inr (same, inl less)) region is =
    subst (λ (y : Region). KeptHere c r h depth y t.drone t.cue t.index) (sym (same_item regions k region x (ap (λ (n : ℕ). slice_get regions n) (sym same) ∙ is) told))
    (found.drones_before t.drone less t.cue spot.has_cue t.index spot.has_part)
before c r h depth regions k drone cue index x told earlier found t spot (inr (same, inr (same_drone, inl less))) region is =
    subst (λ (y : Region). KeptHere c r h depth y t.drone t.cue t.index) (sym (same_item regions k region x (ap (λ (n : ℕ). slice_get regions n) (sym same) ∙ is) told))
    (subst (λ (d : ℕ). KeptHere c r h depth x d t.cue t.index) (sym same_drone) (found.first.cues_before t.cue less t.index spot.has_part))
before c r h depth regions k drone cue index x told earlier found t spot (inr (same, inr (same_drone, inr (same_cue, less)))) region is =
    grind (arith, common_steps, same_item, slice_get)

pub first_entry : (c : Raised) (r h depth : ℕ) (regions : List Region) (k drone cue index : ℕ) (x : Region) → k < length regions → x ≡ get_or regions k x → RegionsKept c r h depth regions k → IsFirstOfRegion c r h depth x drone cue index →
    IsFirstEntry c r h depth regions (record { region = k; drone = drone; cue = cue; index = index })
first_entry c r h depth regions k drone cue index x inside told earlier found = grind (arith, common_steps, item_there, before)

-- the same of an element that is read
pub region_read : (c : Raised) (r h depth : ℕ) (regions : List Region) (k : ℕ) (d : Region) → k < length regions → ((drone : ℕ) → drone < c.drones → (cue : ℕ) → cue < c.cues → (index : ℕ) → index < 2 ^ depth → KeptHere c r h depth (get_or regions k d) drone cue index) →
    (region : Region) → slice_get regions k ≡ Some region → (drone : ℕ) → drone < c.drones → (cue : ℕ) → cue < c.cues → (index : ℕ) → index < 2 ^ depth → KeptHere c r h depth region drone cue index
region_read c r h depth regions k d inside kept = region_more c r h depth regions k (get_or regions k d) (same_default regions k d (get_or regions k d) inside) kept

pub entry_read : (c : Raised) (r h depth : ℕ) (regions : List Region) (k drone cue index : ℕ) (d : Region) → k < length regions → RegionsKept c r h depth regions k → IsFirstOfRegion c r h depth (get_or regions k d) drone cue index →
    IsFirstEntry c r h depth regions (record { region = k; drone = drone; cue = cue; index = index })
entry_read c r h depth regions k drone cue index d inside earlier found =
    first_entry c r h depth regions k drone cue index (get_or regions k d) inside (same_default regions k d (get_or regions k d) inside) earlier found

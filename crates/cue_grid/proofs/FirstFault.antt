-- The first fault of a show, of the faults of its parts.
use Rattle.cue_grid.proofs.Prelude.{common_steps, ◌≡◌, ℕ, ◌≤◌, false, cond, List, length, map, Option, Some, None, refl, sym, ap, subst, ◌∙◌, arith, not, ◌==◌, drop_all, Body, PlainShow, has_block, body_of, figure_of, IsValid, blocks_none, Block, Figure, DroneLine, over_at, most_drones, no_drone, many_drones, too_many, no_cue, many_cues, or_else, grid_fault, name_fault, GridFault}
use Rattle.choreo_show.specs.Plain as plain
use Rattle.cue_grid.proofs.Earliest.{earliest_name}
use Rattle.cue_grid.specs.declared.grid.GridFault.TheVariants as fault

pub few_drones : (s : PlainShow) (ds : List DroneLine) → ds ≡ s.drones → (length ds == 0) ≡ false → length ds ≤ most_drones → None ≡ or_else (no_drone s) (many_drones s)
few_drones s ds e n h =
    let some : (length s.drones == 0) ≡ false = ap (λ xs. length xs == 0) (sym e) ∙ n in
    let few : length s.drones ≤ most_drones = subst (λ xs. length xs ≤ most_drones) e h in
    sym (ap (λ b. or_else (cond b (Some (fault.NoDrone 1)) None) (many_drones s)) some ∙ ap too_many (drop_all most_drones s.drones few))

some_cue : (b : Body) → not (has_block b) ≡ false → no_cue b ≡ None
some_cue plain.Done h = cc
some_cue (plain.Cue line ms acts rest) h = refl
some_cue (plain.Repeat line times inside rest) h = refl
some_cue (plain.Perform line figure frame drones rest) h = refl

-- no fault of the counts
pub few_cues : (given bs : List Block) (those figures : List Figure) (o : Option ℕ) → given ≡ bs → those ≡ figures → (length given == 0) ≡ false → o ≡ over_at (map figure_of those) 0 (body_of given) → o ≡ None → None ≡ or_else (no_cue (body_of bs)) (many_cues (over_at (map figure_of figures) 0 (body_of bs)))
few_cues given bs those figures o p q n e h = grind (arith, common_steps, some_cue, blocks_none)

or_else_assoc : (a b c : Option GridFault) → or_else (or_else a b) c ≡ or_else a (or_else b c)
or_else_assoc None b c = refl
or_else_assoc (Some f) b c = refl

-- the fault of a valid show, of its parts
pub grid_fault_by : (s : PlainShow) → IsValid s → (d n c : Option GridFault) → d ≡ or_else (no_drone s) (many_drones s) → n ≡ name_fault s → c ≡ or_else (no_cue s.body) (many_cues (over_at s.figures 0 s.body)) → or_else d (or_else n c) ≡ grid_fault s
grid_fault_by s v d n c p q r = grind (arith, common_steps, or_else_assoc, earliest_name)

-- a fault of names, where the drones are of a good number
pub name_fault_by : (s : PlainShow) → IsValid s → (d n : Option GridFault) (f : GridFault) → d ≡ or_else (no_drone s) (many_drones s) → d ≡ None → n ≡ name_fault s → n ≡ Some f → Some f ≡ grid_fault s
name_fault_by s v d n f p dn q ns =
    sym (ap (λ x. or_else x (or_else n (or_else (no_cue s.body) (many_cues (over_at s.figures 0 s.body))))) dn ∙ ap (λ x. or_else x (or_else (no_cue s.body) (many_cues (over_at s.figures 0 s.body)))) ns)
    ∙ grid_fault_by s v d n (or_else (no_cue s.body) (many_cues (over_at s.figures 0 s.body))) p q refl

-- a fault of the number of cues, where nothing else is wrong
pub count_fault_by : (s : PlainShow) → IsValid s → (d n c : Option GridFault) → d ≡ or_else (no_drone s) (many_drones s) → d ≡ None → n ≡ name_fault s → n ≡ None → c ≡ or_else (no_cue s.body) (many_cues (over_at s.figures 0 s.body)) → c ≡ grid_fault s
count_fault_by s v d n c p dn q nn r =
    sym (ap (λ x. or_else x (or_else n c)) dn ∙ ap (λ x. or_else x c) nn) ∙ grid_fault_by s v d n c p q r

-- Cues written out, block by block.
use Rattle.cue_grid.proofs.Prelude.{common_steps, ◌≡◌, ℕ, zero, suc, ◌+◌, ◌<◌, ◌≤◌, false, cond, List, [], ◌∷◌, ◌++◌, length, get_or, take, drop, refl, sym, ap, ◌∙◌, append_assoc, add-one, drop-cons, arith, take_more, take_all, drop_all, append-nil, Name, Body, PlainShow, ◌⨾◌, block_of, body_of, body_push, Block, Frame, Cue, same_name, Playing, cue_of, times_over, cues_in, player, as_written, performed_cues, no_frame}
use Rattle.choreo_show.specs.Plain as plain

times_last : {A : Type 0} (n : ℕ) (xs : List A) → times_over (suc n) xs ≡ times_over n xs ++ xs
times_last zero xs = append-nil xs
times_last (suc n) xs = ap (λ ys. xs ++ ys) (times_last n xs) ∙ sym (append_assoc xs (times_over n xs) xs)

-- one more turn at the end
times_more : {A : Type 0} (n : ℕ) (xs : List A) → times_over (n + 1) xs ≡ times_over n xs ++ xs
times_more n xs = ap (λ k. times_over k xs) (add-one n) ∙ times_last n xs

appended : {A : Type 0} (base front last now next whole : List A) → now ≡ base ++ front → next ≡ now ++ last → whole ≡ front ++ last → next ≡ base ++ whole
appended base front last now next whole e f g = f ∙ ap (λ xs. xs ++ last) e ∙ append_assoc base front last ∙ ap (λ xs. base ++ xs) (sym g)

-- blocks one after the other give their cues one after the other
cues_in-then : (s : PlainShow) (p : Playing) (performed : Name → Frame → List Name → List Cue) (a b : Body) → cues_in s p performed (a ⨾ b) ≡ cues_in s p performed a ++ cues_in s p performed b
cues_in-then s p performed plain.Done b = refl
cues_in-then s p performed (plain.Cue line ms acts rest) b = ap (λ cs. cue_of s p line ms acts ∷ cs) (cues_in-then s p performed rest b)
cues_in-then s p performed (plain.Repeat line times inside rest) b =
    ap (λ cs. times_over times (cues_in s p performed inside) ++ cs) (cues_in-then s p performed rest b)
    ∙ sym (append_assoc (times_over times (cues_in s p performed inside)) (cues_in s p performed rest) (cues_in s p performed b))
cues_in-then s p performed (plain.Perform line figure frame drones rest) b =
    ap (λ cs. performed figure frame drones ++ cs) (cues_in-then s p performed rest b)
    ∙ sym (append_assoc (performed figure frame drones) (cues_in s p performed rest) (cues_in s p performed b))

cues_more : (s : PlainShow) (p : Playing) (performed : Name → Frame → List Name → List Cue) (bs : List Block) (i : ℕ) (d : Block) → i < length bs → cues_in s p performed (body_of (take (i + 1) bs)) ≡ cues_in s p performed (body_of (take i bs)) ++ cues_in s p performed (block_of (get_or bs i d) plain.Done)
cues_more s p performed bs i d h = grind (arith, common_steps, take_more, body_push, take, cues_in-then)

-- What a loop over blocks appends: one block more, and one turn more.

pub cues_put : (s : PlainShow) (p : Playing) (performed : Name → Frame → List Name → List Cue) (base now next : List Cue) (bs : List Block) (i : ℕ) (b : Block) → i < length bs → b ≡ get_or bs i b → now ≡ base ++ cues_in s p performed (body_of (take i bs)) → next ≡ now ++ cues_in s p performed (block_of b plain.Done) → next ≡ base ++ cues_in s p performed (body_of (take (i + 1) bs))
cues_put s p performed base now next bs i b h e g k =
    appended base (cues_in s p performed (body_of (take i bs))) (cues_in s p performed (block_of b plain.Done)) now next (cues_in s p performed (body_of (take (i + 1) bs))) g k
    (cues_more s p performed bs i b h ∙ ap (λ x. cues_in s p performed (body_of (take i bs)) ++ cues_in s p performed (block_of x plain.Done)) (sym e))

pub cues_turn : (s : PlainShow) (p : Playing) (performed : Name → Frame → List Name → List Cue) (base start now : List Cue) (items whole : List Block) (i n : ℕ) → items ≡ whole → length items ≤ i → start ≡ base ++ times_over n (cues_in s p performed (body_of whole)) → now ≡ start ++ cues_in s p performed (body_of (take i items)) → now ≡ base ++ times_over (n + 1) (cues_in s p performed (body_of whole))
cues_turn s p performed base start now items whole i n e h g k =
    appended base (times_over n (cues_in s p performed (body_of whole))) (cues_in s p performed (body_of whole)) start now (times_over (n + 1) (cues_in s p performed (body_of whole))) g
    (k ∙ ap (λ xs. start ++ cues_in s p performed (body_of xs)) (take_all i items h ∙ e)) (times_more n (cues_in s p performed (body_of whole)))

-- Who plays a role.

no_drones : (roles : List Name) (n : Name) → player roles [] n ≡ n
no_drones [] n = refl
no_drones (r ∷ roles) n = refl

-- a role without a drone is passed over
pub role_behind : (roles drones : List Name) (n : Name) (i : ℕ) → length drones ≤ i → player (drop i roles) (drop i drones) n ≡ player (drop (i + 1) roles) (drop (i + 1) drones) n
role_behind roles drones n i h =
    ap (λ ds. player (drop i roles) ds n) (drop_all i drones h) ∙ no_drones (drop i roles) n
    ∙ sym (ap (λ ds. player (drop (i + 1) roles) ds n) (drop_all (i + 1) drones (omega arith)) ∙ no_drones (drop (i + 1) roles) n)

-- so is a role of another name
pub role_later : (roles drones : List Name) (n r : Name) (i : ℕ) → i < length roles → i < length drones → r ≡ get_or roles i r → same_name n r ≡ false → player (drop i roles) (drop i drones) n ≡ player (drop (i + 1) roles) (drop (i + 1) drones) n
role_later roles drones n r i h k e f =
    ap (λ rs. player rs (drop i drones) n) (drop-cons roles i r h)
    ∙ ap (λ ds. player (get_or roles i r ∷ drop (suc i) roles) ds n) (drop-cons drones i r k)
    ∙ ap (λ b. cond b (get_or drones i r) (player (drop (suc i) roles) (drop (suc i) drones) n)) (ap (same_name n) (sym e) ∙ f)
    ∙ ap (λ j. player (drop j roles) (drop j drones) n) (sym (add-one i))

-- a block more of the show, whose blocks are played as they are written
pub written_put : (s : PlainShow) (fr : Frame) (now next : List Cue) (bs : List Block) (i : ℕ) (b : Block) → fr ≡ no_frame → i < length bs → b ≡ get_or bs i b → now ≡ cues_in s as_written (performed_cues s) (body_of (take i bs)) → next ≡ now ++ cues_in s (record { frame = fr; roles = []; drones = [] }) (performed_cues s) (block_of b plain.Done) → next ≡ cues_in s as_written (performed_cues s) (body_of (take (i + 1) bs))
written_put s fr now next bs i b p h e g k =
    cues_put s as_written (performed_cues s) [] now next bs i b h e g
    (k ∙ ap (λ f. now ++ cues_in s (record { frame = f; roles = []; drones = [] }) (performed_cues s) (block_of b plain.Done)) p)

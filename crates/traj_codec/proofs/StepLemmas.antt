-- The loop of join_holds.
use Rattle.traj_codec.proofs.Prelude.{common_steps, ◌≡◌, ℕ, ◌+◌, ◌<◌, ◌≤◌, arith, refl, List, [], ◌∷◌, ◌++◌, append-nil, length, drop, get_or, drop_all, Segment, joined_from, next_held, put_held, put_next}
use Rattle.std.proofs.Math.Seq.{drop-cons}

unfold_one : (held : ℕ) (s : Segment) (rest : List Segment) → joined_from held (s ∷ rest) ≡ put_next held s (joined_from (next_held held s) rest)
unfolding joined_from
unfold_one held s rest = refl

unfold_none : (held : ℕ) → joined_from held [] ≡ put_held held []
unfolding joined_from
unfold_none held = refl

pub joined_step : (old new whole items segs : List Segment) (held n i : ℕ) (d : Segment) → items ≡ segs → i < length items →
    ((later : List Segment) → new ++ later ≡ old ++ put_next held (get_or items i d) later) → n ≡ next_held held (get_or items i d) →
    old ++ joined_from held (drop i segs) ≡ whole → new ++ joined_from n (drop (i + 1) segs) ≡ whole
joined_step old new whole items segs held n i d same inside put next before = grind (arith, common_steps, drop, drop-cons, unfold_one)

pub joined_end : (old new whole items segs : List Segment) (held i : ℕ) → items ≡ segs → length items ≤ i →
    ((later : List Segment) → new ++ later ≡ old ++ put_held held later) → old ++ joined_from held (drop i segs) ≡ whole → new ≡ whole
joined_end old new whole items segs held i same outside put before = grind (arith, common_steps, append-nil, unfold_none, drop_all, drop)

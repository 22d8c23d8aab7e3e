-- The bytes that wait in a buffer.
use Rattle.byte_streams.proofs.Prelude.{common_steps, ◌≡◌, ℕ, ◌+◌, ◌-◌, ◌≤◌, min, List, ◌++◌, length, take, drop, length-append, refl, sym, ap, ◌∙◌, arith, copy_within, cases_lt, take-append-add, drop_all, drop-drop, drop-take, length-drop, length-take, length-take-le, take_at, take-take}
use Rattle.std.proofs.lemmas.Slice.{take-put_mid, take-put_mid_below}
use borrow.Rule.Slice.PartMut.{put_mid}

-- the bytes between two places, cut from either side
pub between_is : (start end : ℕ) (buf : List ℕ) → start ≤ end → take (end - start) (drop start buf) ≡ drop start (take end buf)
between_is start end buf order =
    let whole : start + (end - start) ≡ end = omega (arith, order) in
    sym (drop-take start (end - start) buf) ∙ ap (λ (n : ℕ). drop start (take n buf)) whole

-- some bytes fewer
pub skipped : (start end count : ℕ) (buf : List ℕ) → start ≤ end → drop (min end (start + count)) (take end buf) ≡ drop count (drop start (take end buf))
skipped start end count buf order = grind (arith, common_steps, cases_lt, min, drop-drop, take, drop_all, length-take, drop, length-drop)

-- What waits after a read after what was moved to the front.
pub moved : (buf shifted given : List ℕ) (start end n k : ℕ) → start ≤ end → end ≤ length buf → shifted ≡ copy_within buf start end 0 → length given ≡ k → n ≤ k →
    take (end - start + n) (put_mid (end - start) k shifted given) ≡ drop start (take end buf) ++ take n given
moved buf shifted given start end n k order within is long few =
    let size : ℕ = end - start in
    let front : List ℕ = take size (drop start buf) in
    let sized : length front ≡ size = length-take-le size (drop start buf) (omega (arith, length-drop start buf, within)) in
    let kept : take size shifted ≡ front = ap (λ (xs : List ℕ). take size xs) is ∙ take_at front (drop (0 + size) buf) size sized in
    let total : length shifted ≡ length buf = ap length is ∙ omega (arith, length-append front (drop (0 + size) buf), sized, length-drop (0 + size) buf, within) in
    let whole : take (size + length given) (put_mid size k shifted given) ≡ take size shifted ++ given = take-put_mid size k shifted given (size + length given) refl (omega (arith, total, within)) in
    sym (take-take (size + n) (size + length given) (put_mid size k shifted given) (omega (arith, long, few)))
    ∙ ap (λ (xs : List ℕ). take (size + n) xs) (whole ∙ ap (λ (xs : List ℕ). xs ++ given) kept)
    ∙ ap (λ (m : ℕ). take (m + n) (front ++ given)) (sym sized) ∙ take-append-add front given n
    ∙ ap (λ (xs : List ℕ). xs ++ take n given) (between_is start end buf order)

-- what waits where a read after what was moved to the front failed
pub unmoved : (buf shifted given : List ℕ) (start end k : ℕ) → start ≤ end → end ≤ length buf → shifted ≡ copy_within buf start end 0 →
    drop start (take end buf) ≡ take (end - start) (put_mid (end - start) k shifted given)
unmoved buf shifted given start end k order within is =
    grind (arith, common_steps, take, drop, length-take-le, length-drop, take_at, length-append, take-put_mid_below, between_is)

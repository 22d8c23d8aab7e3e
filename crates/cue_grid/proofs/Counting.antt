-- Counts of cues.
use Rattle.cue_grid.proofs.Prelude.{common_steps, ◌≡◌, ℕ, zero, suc, ◌+◌, ◌*◌, ◌<◌, ◌≤◌, false, List, length, get_or, take, ap, ◌∙◌, arith, ◌⊎◌, inl, inr, min, nat_lt, Vec, take_more, take_all, cases_lt, nat_tests, Name, Body, ◌⨾◌, block_of, body_of, body_push, repeat_is, Block, Global, most_cues, count_in}
use Rattle.choreo_show.specs.Plain as plain
use Rattle.choreo_show.specs.declared.show.Block.TheVariants as block

-- blocks one after the other count their sum
pub count_in-then : (performed : Name → ℕ) (a b : Body) → count_in performed (a ⨾ b) ≡ count_in performed a + count_in performed b
count_in-then performed plain.Done b = omega arith
count_in-then performed (plain.Cue line ms acts rest) b = omega (arith, count_in-then performed rest b)
count_in-then performed (plain.Repeat line times inside rest) b = omega (arith, count_in-then performed rest b)
count_in-then performed (plain.Perform line figure frame drones rest) b = omega (arith, count_in-then performed rest b)

-- one block more
count_more : (performed : Name → ℕ) (bs : List Block) (i : ℕ) (d : Block) → i < length bs → count_in performed (body_of (take (i + 1) bs)) ≡ count_in performed (body_of (take i bs)) + count_in performed (block_of (get_or bs i d) plain.Done)
count_more performed bs i d h = grind (arith, common_steps, take_more, body_push, take, count_in-then)

-- a sum that stopped at a number goes on
pub added : (performed : Name → ℕ) (c total one next : ℕ) (bs : List Block) (i : ℕ) (b : Block) → i < length bs → b ≡ get_or bs i b → total ≡ min c (count_in performed (body_of (take i bs))) → one ≡ min c (count_in performed (block_of b plain.Done)) → next ≡ min c (total + one) → next ≡ min c (count_in performed (body_of (take (i + 1) bs)))
added performed c total one next bs i b h e f g k = grind (arith, common_steps, count_more)

-- a sum that has reached the number stays there
pub stays_full : (performed : Name → ℕ) (c total : ℕ) (bs : List Block) (i : ℕ) (b : Block) → i < length bs → b ≡ get_or bs i b → total ≡ min c (count_in performed (body_of (take i bs))) → c ≤ total → total ≡ min c (count_in performed (body_of (take (i + 1) bs)))
stays_full performed c total bs i b h e f full =
    let more = count_more performed bs i b h in
    omega (arith, more, f, full)

cut_some : (c t n : ℕ) → (n < c) ⊎ (c ≤ n) → min c (t * min c n) ≡ min c (t * n)
cut_some c t n (inl h) = let e : min c n ≡ n = omega arith in ap (λ m. min c (t * m)) e
cut_some c zero n (inr h) = omega arith
cut_some c (suc t) n (inr h) = let e : min c n ≡ c = omega arith in ap (λ m. min c (suc t * m)) e ∙ omega arith

-- a product of a number that was cut
cut_product : (c t n : ℕ) → min c (t * min c n) ≡ min c (t * n)
cut_product c t n = cut_some c t n (cases_lt n c)

-- a repeat counts its body this many times
pub repeat_count : (performed : Name → ℕ) (c : ℕ) (b : Block) (line times : ℕ) (v : Vec Block Global) (items : List Block) (i inside : ℕ) → b ≡ block.Repeat line times v → items ≡ v.items → length items ≤ i → inside ≡ min c (count_in performed (body_of (take i items))) → min c (times * inside) ≡ min c (count_in performed (block_of b plain.Done))
repeat_count performed c b line times v items i inside e f h g = grind (arith, common_steps, take_all, cut_product, repeat_is)

-- The first block with which there are too many.

not_over : (n : ℕ) → n ≤ most_cues → nat_lt most_cues n ≡ false
not_over n h = grind (arith, nat_tests)

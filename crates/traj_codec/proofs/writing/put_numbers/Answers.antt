use Rattle.traj_codec.proofs.Prelude.{◌≡◌, ℕ, ◌+◌, ◌<◌, ◌++◌, ◌∷◌, [], List, ℤ, FitsSigned, ap, sym, ◌∙◌, append-nil, append_assoc, flat_map-append, get_or, length, pos, take, take_all, number, numbers, rules, to_z-of_z, take_more}
use mir.Syntax.{w16}
use Rattle.traj_codec.proofs.writing.put_numbers.Goals as goal

-- one number more
more : (vs : List ℤ) (k : ℕ) → k < length vs → numbers (take (k + 1) vs) ≡ numbers (take k vs) ++ number (get_or vs k (pos 0))
more vs k within =
    ap numbers (take_more vs k (pos 0) within) ∙ flat_map-append number (take k vs) (get_or vs k (pos 0) ∷ [])
    ∙ ap (λ (bytes : List ℕ). numbers (take k vs) ++ bytes) (append-nil (number (get_or vs k (pos 0))))

pub loop-v-preserved : goal.loop-v-preserved
loop-v-preserved c =
    let vs : List ℤ = c.args.vs.now in
    let k : ℕ = c.loop-v.v-index in
    let fits : FitsSigned w16 (get_or vs k (pos 0)) = search rules in
    (simp to_z-of_z at c.in_ok-put_number.ensures)
    ∙ ap (λ (bytes : List ℕ). bytes ++ number (get_or vs k (pos 0))) c.loop-v.invariant
    ∙ append_assoc c.args.out.now.items (numbers (take k vs)) (number (get_or vs k (pos 0)))
    ∙ ap (λ (bytes : List ℕ). c.args.out.now.items ++ bytes) (sym (more vs k c.loop-v-test.true))

pub returns : goal.returns
returns c = c.loop-v.invariant ∙ ap (λ (vs : List ℤ). c.args.out.now.items ++ numbers vs) (take_all c.loop-v.v-index c.args.vs.now c.loop-v-test.false)

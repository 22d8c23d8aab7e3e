use Rattle.integer_player.proofs.Prelude.{common_steps, ◌≡◌, ◌++◌, ◌∷◌, [], pos, length, FitsSigned, get_or, rules, arith, to_z-of_z, w64, decimal}
use Rattle.integer_player.proofs.RowLemmas.{row-built}
use Rattle.integer_player.proofs.row.play_row.Goals as goal

pub returns : goal.returns
returns c =
    let many : length c.args.position ≡ 4 = search rules in
    let p : FitsSigned w64 (get_or c.args.position 0 (pos 0)) = search rules in
    let q : FitsSigned w64 (get_or c.args.position 1 (pos 0)) = search rules in
    let r : FitsSigned w64 (get_or c.args.position 2 (pos 0)) = search rules in
    let s : FitsSigned w64 (get_or c.args.position 3 (pos 0)) = search rules in
    let begun : c.try_extend_from_slice-2.new.self.items ≡ (decimal c.args.ms ++ 32 ∷ []) ++ c.args.name.now = grind (arith, common_steps) in
    row-built c.args.ms c.args.name.now c.args.position _ _ _ _ _ _ many begun
    (simp (to_z-of_z w64 (get_or c.args.position 0 (pos 0)) p) at c.put_number.ensures.number)
    (simp (to_z-of_z w64 (get_or c.args.position 1 (pos 0)) q) at c.put_number-2.ensures.number)
    (simp (to_z-of_z w64 (get_or c.args.position 2 (pos 0)) r) at c.put_number-3.ensures.number)
    (simp (to_z-of_z w64 (get_or c.args.position 3 (pos 0)) s) at c.put_number-4.ensures.number)
    c.push-2.ensures.items

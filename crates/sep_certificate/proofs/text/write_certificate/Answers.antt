use Rattle.sep_certificate.proofs.Prelude.{◌≡◌, ◌++◌, ◌+◌, ◌<◌, [], List, ℕ, sym, subst, refl, ◌∙◌, ap, append_assoc, take, get_or, length, arith, All, flat_map, take_all, All-get_or, Node, IsKnown, known_in, Says, fed, head_lines, text_of, tree_line}
use Rattle.fleet_curves.proofs.Differences.{same_default}
use Rattle.fleet_curves.proofs.Fleets.{fleet_more}
use Rattle.sep_certificate.proofs.TextLaws.{texts}
use Rattle.sep_certificate.proofs.text.write_certificate.Goals as goal

pub put_tree-requires-clause-known : goal.put_tree-requires-clause-known
put_tree-requires-clause-known c =
    subst (λ (nodes : List Node). All (IsKnown (known_in c.args.cert.now.version)) nodes) (sym c.tree.ensures)
    (All-get_or (All (IsKnown (known_in c.args.cert.now.version))) c.args.cert.now.trees c.loop-k.k [] (omega (arith, c.loop-k-test.true, c.len-k-end.ensures)) c.requires.whole.leaves)

-- the text with a tree more
more_trees : (f : List Node → List ℕ) (trees : List (List Node)) (k : ℕ) (front text new : List ℕ) (here : List Node) → k < length trees → here ≡ get_or trees k [] →
    text ≡ front ++ flat_map f (take k trees) → new ≡ text ++ f here → new ≡ front ++ flat_map f (take (k + 1) trees)
more_trees f trees k front text new here inside here_is text_is new_is =
    new_is ∙ ap (λ (t : List ℕ). t ++ f here) text_is ∙ append_assoc front (flat_map f (take k trees)) (f here)
    ∙ ap (λ (t : List ℕ). front ++ t)
    (fleet_more f trees k here (flat_map f (take k trees)) (flat_map f (take k trees) ++ f here) inside (here_is ∙ same_default trees k [] here inside) refl refl)

pub loop-k-preserved : goal.loop-k-preserved
loop-k-preserved c =
    more_trees (λ nodes. fed (tree_line c.args.cert.now.version nodes)) c.args.cert.now.trees c.loop-k.k (flat_map fed (head_lines c.args.cert.now.version c.args.cert.now.depth)) _ _ c.tree.result.now
    (omega (arith, c.loop-k-test.true, c.len-k-end.ensures)) c.tree.ensures c.loop-k.invariant c.in_ok-put_tree.ensures

written : (c : goal.After-loop-k) → c.loop-k.text.items ≡ text_of c.args.cert.now
unfolding text_of
written c =
    let trees_are : take c.loop-k.k c.args.cert.now.trees ≡ c.args.cert.now.trees = take_all c.loop-k.k c.args.cert.now.trees (omega (arith, c.loop-k-test.false, c.len-k-end.ensures)) in
    c.loop-k.invariant ∙ ap (λ (trees : List (List Node)). flat_map fed (head_lines c.args.cert.now.version c.args.cert.now.depth) ++ flat_map (λ nodes. fed (tree_line c.args.cert.now.version nodes)) trees) trees_are

pub returns-clause-exact : goal.returns-clause-exact
returns-clause-exact c = written c

pub returns-clause-says : goal.returns-clause-says
returns-clause-says c = subst (λ (bytes : List ℕ). Says bytes c.args.cert.now) (sym (written c)) (texts.written c.args.cert.now c.requires)

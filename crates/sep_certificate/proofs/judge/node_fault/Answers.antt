use Rattle.sep_certificate.proofs.Prelude.{common_steps, rules, ◌≡◌, ℕ, ◌<◌, ℤ, length, Option, Some, None, Bool, true, refl, sym, ◌∙◌, ap, arith, option_map, Fails, first_low, IsControl, first_low-small}
use Rattle.std.proofs.lemmas.Bool.{false≢true}
use Rattle.std.specs.Prelude.{is_none}
use Rattle.sep_certificate.proofs.judge.node_fault.Goals as goal

-- nothing is low where no control value is said to be
none_of : (o : Option ℕ) (said : Bool) → said ≡ is_none o → said ≡ true → o ≡ None
none_of None said e is = refl
none_of (Some k) said e is = absurd (false≢true (sym e ∙ is))

pub separates-requires : goal.separates-requires
separates-requires g c =
    let known : c.in-Leaf.dir < length c.args.ruler.now.directions = rw c.in-Leaf.is at c.requires.known in
    (search rules, (c.requires.level, known))

pub low_control-low-requires : goal.low_control-low-requires
low_control-low-requires g c =
    let known : c.in-Leaf.dir < length c.args.ruler.now.directions = rw c.in-Leaf.is at c.requires.known in
    (search rules, (c.requires.level, known))

is_control : (o : Option ℕ) (f : ℕ → ℤ) (least : ℤ) → o ≡ first_low f least → IsControl o
is_control None f least e = tt
is_control (Some k) f least e = first_low-small f least k (sym e)

pub fails-requires : goal.fails-requires
fails-requires g c = is_control c.low_control-low.result _ _ c.low_control-low.ensures

pub returns-then-separates-clause-exact : goal.returns-then-separates-clause-exact
returns-then-separates-clause-exact g c = grind (arith, common_steps, none_of)

pub returns-else-separates-clause-exact : goal.returns-else-separates-clause-exact
returns-else-separates-clause-exact g c =
    rw c.in-Leaf.is
    (c.fails.ensures ∙ ap (λ (o : Option ℕ). option_map (Fails c.args.slot.a c.args.slot.b c.args.slot.cue c.args.level.now.place c.in-Leaf.dir) o) c.low_control-low.ensures)

use Rattle.choreo_reader.proofs.Prelude.{◌≡◌, ◌+◌, ◌<◌, length, refl, ap, arith, Result, Ok, Err, built_of, ◌-◌, OnOk}
use Rattle.choreo_reader.proofs.Opened.{opens_set}
use Rattle.choreo_reader.proofs.reader.Reader.add_act.Goals as goal

on_ok : {A E : Type 0} (r : Result A E) (P Q : Type 0) → (P → Q) → OnOk r P → OnOk r Q
on_ok (Ok x) P Q f h = f h
on_ok (Err e) P Q f h = tt

pub returns-in-Some : goal.returns-in-Some
returns-in-Some c =
    let v = c.args.self.now.opened in
    let some : 0 < v.len = c.in-Some.ensures.variant.0 refl in
    let last : v.len - 1 + 1 ≡ length v.items = omega (arith, some, v.ok.0) in
    on_ok c.put_act.result _ _ (λ e.
    ap (λ os. record (built_of c.args.self.now) { open_blocks = os })
    (opens_set v.items (v.len - 1) c.in-Some.inner.now c.put_act.new.inner c.args.act last c.in-Some.ensures.value e)) c.put_act.ensures

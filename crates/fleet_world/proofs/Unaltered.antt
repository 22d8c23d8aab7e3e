-- Without read-back a schedule alters no byte.
use Rattle.fleet_world.proofs.Prelude.{common_steps, ◌≡◌, ℕ, zero, suc, Bool, true, false, cond, List, [], ◌∷◌, codes, refl, subst, Option, Some, None, Result, Ok, Err, arith, Absent, lines_of, Line, numbered, WorldEvent, Take, Hear, Alter, ScheduleLaw, event_of, event_with, events_by, put_event}
use Rattle.std.specs.Str.{bytes_eq}
use Rattle.upload_model.specs.Theorem.{IsUnaltered}

-- no alteration
abbrev IsPlain : Option WorldEvent → Type 0
IsPlain (Some (Alter d address value)) = ⊥
IsPlain event = Unit {0}

plain_cond : (b : Bool) (x y : Option WorldEvent) → IsPlain x → IsPlain y → IsPlain (cond b x y)
plain_cond true x y first second = first
plain_cond false x y first second = second

event_with_plain : (kind : List ℕ) (drone n : Option ℕ) → IsPlain (event_with kind drone n)
event_with_plain kind (Some drone) (Some n) =
    plain_cond (bytes_eq kind (codes "take")) (Some (Take drone n)) (cond (bytes_eq kind (codes "hear")) (Some (Hear drone n)) None) tt
    (plain_cond (bytes_eq kind (codes "hear")) (Some (Hear drone n)) None tt tt)
event_with_plain kind drone n = tt

event_of_plain : (names words : List (List ℕ)) → IsPlain (event_of false names words)
event_of_plain names words = grind (arith, common_steps, plain_cond, cond, codes, event_with_plain)

-- an event that is no alteration, before others that are none
unaltered_cons : (e : WorldEvent) (es : List WorldEvent) → IsPlain (Some e) → IsUnaltered es → IsUnaltered (e ∷ es)
unaltered_cons e es plain rest zero d address value at =
    let is : e ≡ Alter d address value = cc in
    absurd (subst (λ (x : WorldEvent). IsPlain (Some x)) is plain)
unaltered_cons e es plain rest (suc i) d address value at = rest i d address value at

put_unaltered : (number : ℕ) (event : Option WorldEvent) (later : Result (List WorldEvent) ℕ) (events : List WorldEvent) → IsPlain event →
    ((es : List WorldEvent) → later ≡ Ok es → IsUnaltered es) → put_event number event later ≡ Ok events → IsUnaltered events
put_unaltered number None later events plain rest is = absurd (cc)
put_unaltered number (Some e) (Err faulty) events plain rest is = absurd (cc)
put_unaltered number (Some e) (Ok es) events plain rest is =
    let same : e ∷ es ≡ events = cc in
    subst IsUnaltered same (unaltered_cons e es plain (rest es refl))

lines_unaltered : (read : List (List ℕ) → Option WorldEvent) → ((words : List (List ℕ)) → IsPlain (read words)) → (lines : List Line) (events : List WorldEvent) →
    events_by read lines ≡ Ok events → IsUnaltered events
lines_unaltered read plain [] events is = grind (arith, common_steps)
lines_unaltered read plain (line ∷ lines) events is =
    put_unaltered line.number (read line.words) (events_by read lines) events (plain line.words) (λ es is_es. lines_unaltered read plain lines es is_es) is

pub unaltered_law : ScheduleLaw
unaltered_law names text events is = lines_unaltered (λ words. event_of false names words) (event_of_plain names) (numbered Absent 1 (lines_of text)) events is

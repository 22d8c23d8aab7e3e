-- A show of one drone, explained.
use Rattle.definition_tests.proofs.Prelude.{◌≡◌, ℕ, zero, suc, pos, false, List, [], ◌∷◌, Option, None, Some, codes, ap, get_or, length, arith, refl, subst, ◌∙◌, slice_get, MatchOption, All-cons, All-nil, raised_of, expanded, slots, Traj, IsClosest, NoTouch, PlainShow, DroneLine, Whole, IsItem, StandsFor, Drone, ShowLaw, trajectories_of, FlyApart, sent_of, Explains, TellsTouches, blocked_of, ExplainRows, solo, solo_text, spot, line_of, nobody}
use Rattle.sep_parts.specs.Apart as exact
use Rattle.touch_witness.specs.declared.site.Closest.{Closest}
use Rattle.definition_tests.proofs.StandsRows.{begins_so}

-- the only drone
abbrev only : DroneLine
only = record { line = 2; name = record { items = codes "a" }; at = spot (pos 0) (pos 0) (pos 0) (pos 0) }

solo_stands : StandsFor solo_text solo
solo_stands = record {
  form = Whole;
  items = Drone only ∷ [];
  header = record { number = 1; words = codes "choreo" ∷ codes "1" ∷ [] };
  lines = record { number = 2; words = codes "drone" ∷ codes "a" ∷ codes "0" ∷ codes "0" ∷ codes "0" ∷ codes "0" ∷ [] } ∷ [];
  bytes = refl;
  cut = refl;
  first = refl;
  said = (record { number = refl; says = (refl, refl, ((refl, refl), (record { is = refl; from = omega arith; to = omega arith }, (record { is = refl; from = omega arith; to = omega arith }, (record { is = refl; from = omega arith; to = omega arith }, (record { is = refl; from = omega arith; to = omega arith }, tt)))))) }, tt);
  each = All-cons IsItem (Drone only) [] tt (All-nil IsItem);
  single = record { memory = omega arith; trajectory = omega arith; ellipsoid = omega arith; stray = omega arith; late = omega arith };
  makes = refl;
}

nobody_stands : StandsFor (line_of (codes "choreo 1")) (nobody 0)
nobody_stands = record {
  form = Whole;
  items = [];
  header = record { number = 1; words = codes "choreo" ∷ codes "1" ∷ [] };
  lines = [];
  bytes = refl;
  cut = refl;
  first = refl;
  said = tt;
  each = All-nil IsItem;
  single = record { memory = omega arith; trajectory = omega arith; ellipsoid = omega arith; stray = omega arith; late = omega arith };
  makes = refl;
}

-- no two drones of a list of one differ
no_two : (x t u : Traj) (a b : ℕ) → (a ≡ b → ⊥) → slice_get (x ∷ []) a ≡ Some t → slice_get (x ∷ []) b ≡ Some u → ⊥
no_two x t u zero zero other first second = other refl
no_two x t u (suc a) b other first second = let none : None ≡ Some t = first in absurd (cc)
no_two x t u zero (suc b) other first second = let none : None ≡ Some u = second in absurd (cc)

lone : (x : Traj) (r h stray late : ℕ) → exact.FlyApart r h stray late (x ∷ [])
lone x r h stray late = λ a b t u other first second. absurd (no_two x t u a b other first second)

-- no listed instant has one drone
no_touch : (x : Traj) (r h fine : ℕ) → NoTouch (x ∷ []) r h fine
no_touch x r h fine = λ s is. let low = is.pair in let high = is.drone in absurd (omega (arith, low, high))

alone : TellsTouches 6 5 false solo_text (Some []) (Some (line_of (codes "separated")))
unfolding raised_of slots expanded
alone = record {
  s = solo;
  text = line_of (codes "separated");
  stands = solo_stands;
  explains = record { closest = None; touch = None; separation = line_of (codes "separated"); is_closest = refl; is_first = no_touch _ 120 300 5; says = refl; is = refl };
  apart = λ blocked. lone _ 120 300 0 0;
  written = refl;
}

-- nothing is closest, and nothing touches, in a list of one
is_none : (x : Traj) (r h fine : ℕ) (c : Option Closest) → MatchOption c (length (x ∷ []) ≡ 1) (IsClosest (x ∷ []) r h fine) → c ≡ None
is_none x r h fine None is = refl
is_none x r h fine (Some c) is = let low = is.among.pair in let high = is.among.drone in absurd (omega (arith, low, high))

-- so one text explains the show
one_text : (text : List ℕ) → Explains 6 5 false solo text → text ≡ line_of (codes "separated")
unfolding raised_of slots expanded
one_text text explains = rw (explains.says, is_none _ 120 300 5 explains.closest explains.is_closest) at explains.is

text_is : ShowLaw → (new : List ℕ) → TellsTouches 6 5 false solo_text (Some []) (Some new) → new ≡ line_of (codes "separated")
text_is law new tells =
    let same : tells.s ≡ solo = law.one solo_text tells.s solo tells.stands solo_stands in
    let written : new ≡ tells.text = tells.written in
    written ∙ one_text tells.text (subst (λ (s : PlainShow). Explains 6 5 false s tells.text) same tells.explains)

none_of_nobody : (text : List ℕ) → Explains 6 5 false (nobody 0) text → ⊥
unfolding expanded
none_of_nobody text explains = by explains.closest explains.is_closest where
  by : (c : Option Closest) → MatchOption c (length (trajectories_of (nobody 0)) ≡ 1) (IsClosest (trajectories_of (nobody 0)) 120 300 5) → ⊥
  by None is = let same : ◌≡◌ {A = ℕ} 0 1 = is in omega (arith, same)
  by (Some c) is = let low = is.among.pair in let high = is.among.drone in absurd (omega (arith, low, high))

pub explains : ShowLaw → ExplainRows
explains law = record {
  alone = alone;
  unwritten = λ tells. let same = ap (λ (bytes : List ℕ). length bytes) (text_is law [] tells) in absurd (omega (arith, same));
  touching = λ tells. let same = ap (λ (bytes : List ℕ). length bytes) (text_is law _ tells) in absurd (omega (arith, same));
  no_show = λ old new tells.
      let letters : ◌≡◌ {A = ℕ} 0 99 = begins_so [] tells.s tells.stands in absurd (omega (arith, letters));
  no_drone = λ old new tells.
      let same : tells.s ≡ nobody 0 = law.one (line_of (codes "choreo 1")) tells.s (nobody 0) tells.stands nobody_stands in
      none_of_nobody tells.text (subst (λ (s : PlainShow). Explains 6 5 false s tells.text) same tells.explains);
  apart = λ depth fine all input s old new stands tells none.
      let same : tells.s ≡ s = law.one input tells.s s tells.stands stands in
      (subst (λ (x : PlainShow). blocked_of depth x ≡ None → FlyApart x.settings (sent_of x)) same tells.apart) none;
}

-- Small definitions, computed.
use Rattle.definition_tests.proofs.Prelude.{◌≡◌, ℕ, ◌≤◌, List, [], ◌++◌, length, length-append, Some, inl, ap, arith, refl, All-nil, digits, joined_from, difference, expanded, root_above, speed_of, jump, jump_between, blocked_place, happens, start_world, Take, Tick, StopsAtEnd, Takes, items_bytes, SmallRows, over}

buffered : (bytes : List ℕ) → length bytes ≡ 4096 → StopsAtEnd over (Some bytes) (Some [])
buffered bytes many stream unread items rest known left took ends =
    let s : bytes ≡ stream = cc in
    omega (
      arith,
      many,
      length-append (items_bytes over items) rest,
      ap (λ (l : List ℕ). length l) s,
      ap (λ (l : List ℕ). length l) took.cut,
    )

read_on : (bytes : List ℕ) → length bytes ≡ 4097 → StopsAtEnd over (Some bytes) (Some []) → ⊥
read_on bytes many stops =
    let took : Takes over bytes [] bytes = record { cut = refl; each = All-nil (λ byte. Unit {0}); few = omega arith; going = λ n under. absurd (omega (arith, under)) } in
    let few : length bytes ≤ 4096 = stops bytes [] [] bytes refl refl took (inl (λ none. absurd (cc))) in
    absurd (omega (arith, many, few))

pub small : SmallRows
unfolding root_above blocked_place expanded joined_from digits jump jump_between speed_of difference happens start_world
small = record {
  past_the_end = refl;
  digit = refl;
  still = refl;
  half = refl;
  two_parts = refl;
  root_of_none = refl;
  root_of_two = refl;
  root_of_four = refl;
  point = refl;
  no_setting = refl;
  first_byte = refl;
  scale = refl;
  just_fits = refl;
  both_lines = λ depth t a b. refl;
  buffered = buffered;
  read_on = read_on;
  both_starts = refl;
  inside = λ t axis j greatest. greatest.inside;
  enough = λ depth t keeps. record { keeps = keeps; within = tt };
  no_room = refl;
  three = refl;
  greatest = refl;
  shared = λ t u r h p q s. s.some;
  regions = λ input old new is. is.stands;
  never = λ cut complete. complete.1;
  widest = refl;
  half_speed = refl;
  last_curve = refl;
  own_axes = refl;
  climbs = refl;
  strays = refl;
  rounds = refl;
  arc_yaw = refl;
  no_line = refl;
  fills = refl;
  opens_empty = refl;
  no_repeat = refl;
  first_line = refl;
  no_names = refl;
  numbers = λ t is. is.start;
  same_bytes = λ s start w is. is.same;
  no_start = λ w takes. let e : Tick ≡ Take 0 takes.0 = takes.1 in absurd (cc);
  not_there = refl;
  stay_two = refl;
}

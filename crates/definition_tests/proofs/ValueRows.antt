-- Places, lines and packets, computed.
use Rattle.definition_tests.proofs.Prelude.{◌≡◌, ℕ, ◌++◌, List, [], ◌∷◌, ap, arith, refl, take, digits, bernstein, decoded, moment, rest_of, polar, widest_bend, widest_bend_part, BlockedLines, part_count}
use Rattle.definition_tests.specs.Values.{PacketRows, PlaceRows, WordRows, first_part}

pub places : PlaceRows
unfolding bernstein decoded moment polar widest_bend widest_bend_part
places = record {
  half = refl;
  rounded = refl;
  all_axes = refl;
  above = record { above = omega arith };
  touching = λ is. let high = is.above in absurd (omega (arith, high));
  in_it = record { within = omega arith };
  aside_x = λ is. let near = is.within in absurd (omega (arith, near));
  aside_y = λ is. let near = is.within in absurd (omega (arith, near));
  aside_z = λ is. let near = is.within in absurd (omega (arith, near));
  far_x = λ is. let near = is.near in absurd (omega (arith, near));
  far_y = λ is. let near = is.near in absurd (omega (arith, near));
  far_z = λ is. let near = is.near in absurd (omega (arith, near));
  low_end = (omega arith, omega arith);
  high_end = (omega arith, omega arith);
  too_low = λ is. let low = is.0 in absurd (omega (arith, low));
  steps = refl;
  even = record { first = (omega arith, omega arith); last = (omega arith, omega arith) };
  bends = refl;
  limit = refl;
  no_time = λ is. omega (arith, is);
  some_time = omega arith;
  seven = λ v is. is;
  held_axes = refl;
  held_values = refl;
}

-- what one line says, and no line after it
is_one : (text first rest : List ℕ) → first ≡ 1 ∷ [] → rest ≡ [] → text ≡ first ++ rest → text ≡ 1 ∷ []
is_one text first rest says none is = rw says at (rw none at is)

pub words : WordRows
unfolding rest_of digits
words = record {
  more = refl;
  comment = refl;
  rest = refl;
  letters = refl;
  digits = refl;
  nothing = refl;
  tree = refl;
  blocked = refl;
  separated = refl;
  says_blocked = λ names e trajs depth fine text is. ap (λ (bytes : List ℕ). take 13 bytes) is.2;
  one_line = (1 ∷ [], [], refl, refl, refl);
  two_lines = λ is. let e : 1 ∷ 1 ∷ [] ≡ 1 ∷ [] = is_one (1 ∷ 1 ∷ []) is.0 is.1 is.2 is.3 is.4 in absurd (cc);
  no_lines = λ is. let e : [] ≡ 1 ∷ [] = is_one [] is.0 is.1 is.2 is.3 is.4 in absurd (cc);
  same_line = refl;
  performs_more = refl;
  after_it = refl;
  none_counts = refl;
}

pub packets : PacketRows
unfolding part_count rest_of
packets = record {
  ports = refl;
  asked = refl;
  answered = refl;
  read = refl;
  parts = refl;
  not_gone = λ is.
      let byte : is.bytes ≡ 1 ∷ [] = cc in
      let left : 1 ∷ 2 ∷ [] ≡ is.bytes ++ 1 ∷ 2 ∷ [] = is.left in
      let e : 1 ∷ 2 ∷ [] ≡ 1 ∷ 1 ∷ 2 ∷ [] = rw byte at left in absurd (cc);
  few = omega arith;
  reads = refl;
  reads_nothing = refl;
  gives = λ s cut. refl;
  judged = ((λ e. omega (arith, e)), (λ e. omega (arith, e)), (λ e. omega (arith, e)));
  no_memory = λ is. is.0 refl;
  no_read = λ is. is.1 refl;
  no_write = λ is. is.2 refl;
}

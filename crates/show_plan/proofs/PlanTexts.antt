-- The text of a plan is of one list of drones and trajectories: its lines end at their feeds, its words at spaces.
use Rattle.show_plan.proofs.Prelude.{◌≡◌, ℕ, ◌+◌, ◌-◌, ◌<◌, ◌≤◌, ◌⊎◌, inl, inr, Bool, true, false, cond, eqb, nat_lt, ◌&&◌, List, [], ◌∷◌, ◌++◌, All, All-from_get_or, All-get_or, All-head, All-tail, length, map, codes, decimal, drop, get_or, append_assoc, arith, refl, ap, sym, ◌∙◌, flat_map, list_all, range_with_len, hex_word, line, Name, is_name, Traj, IsTrajectory, ending, spelling, Upload, packet_at, packet_count, write_count, drone_part, drone_parts, packet_line, packet_lines, packet_word, plan_text, Settings, IsSendable, size, AreUploadable, no_trajectory, session_for, suc, append-nil, nat_le, ◌/◌, ◌%◌, not, ◌||◌, ◌^◌, hex_digit, begins_lower, goes_in_name, SpellingLaw, IsPlan, PlanLaw}
use Rattle.std.specs.Str.{bytes_eq}
use Rattle.std.proofs.lemmas.Bool.{and_parts, cases_lt, cond_both, eqb-true, false≢true, le-ltb, leb-true, lt-ltb, or_cases}
use Rattle.std.proofs.lemmas.Fmt.{decimal_injective, decimal_is_IsNumeral}
use Rattle.std.proofs.lemmas.Str.Parse.{digit_from_value}
use Rattle.std.specs.Str.Parse.{AllDigits}

-- ---- words

-- no byte is a space or a line feed
abbrev IsPlain : List ℕ → Type 0
IsPlain [] = Unit {0}
IsPlain (b ∷ bs) = (33 ≤ b) × IsPlain bs

abbrev ArePlain : List (List ℕ) → Type 0
ArePlain [] = Unit {0}
ArePlain (word ∷ words) = IsPlain word × ArePlain words

-- whether no byte of a word that is written out is a space or a line feed
plain_if : (word : List ℕ) → list_all (λ b. nat_le 33 b) word ≡ true → IsPlain word
plain_if [] all = tt
plain_if (b ∷ word) all =
    let parts = and_parts (nat_le 33 b) (list_all (λ b. nat_le 33 b) word) all in
    (leb-true 33 b parts.0, plain_if word parts.1)

-- bytes that begin with a space or a line feed
abbrev Ends : List ℕ → Type 0
Ends [] = ⊥
Ends (b ∷ bs) = b ≤ 32

-- a word ends at the first such byte
word_cut : (w v after next : List ℕ) → IsPlain w → IsPlain v → Ends after → Ends next → w ++ after ≡ v ++ next → (w ≡ v) × (after ≡ next)
word_cut [] [] after next p q s t e = (refl, e)
word_cut [] (c ∷ v) [] next p q s t e = absurd s
word_cut [] (c ∷ v) (z ∷ after) next p q s t e = let same : z ≡ c = ap (λ (xs : List ℕ). get_or xs 0 0) e in let low : z ≤ 32 = s in let high : 33 ≤ c = q.0 in absurd (omega (arith, low, high, same))
word_cut (c ∷ w) [] after [] p q s t e = absurd t
word_cut (c ∷ w) [] after (z ∷ next) p q s t e = let same : c ≡ z = ap (λ (xs : List ℕ). get_or xs 0 0) e in let low : z ≤ 32 = t in let high : 33 ≤ c = p.0 in absurd (omega (arith, low, high, same))
word_cut (c ∷ w) (k ∷ v) after next p q s t e =
    let same : c ≡ k = ap (λ (xs : List ℕ). get_or xs 0 0) e in
    let cut = word_cut w v after next p.1 q.1 s t (ap (drop 1) e) in
    (ap (λ (b : ℕ). b ∷ w) same ∙ ap (λ (bs : List ℕ). k ∷ bs) cut.0, cut.1)

-- words, each after a space
abbrev spaced : List (List ℕ) → List ℕ
spaced words = flat_map (λ (word : List ℕ). 32 ∷ word) words

spaced-ends : (words : List (List ℕ)) (after : List ℕ) → Ends (spaced words ++ 10 ∷ after)
spaced-ends [] after = let low : 10 ≤ 32 = omega arith in low
spaced-ends (word ∷ words) after = let low : 32 ≤ 32 = omega arith in low

words_cut : (words others : List (List ℕ)) (after next : List ℕ) → ArePlain words → ArePlain others → spaced words ++ 10 ∷ after ≡ spaced others ++ 10 ∷ next →
    (words ≡ others) × (after ≡ next)
words_cut [] [] after next p q e = (refl, ap (drop 1) e)
words_cut [] (v ∷ vs) after next p q e = let heads : ◌≡◌ {A = ℕ} 10 32 = ap (λ (xs : List ℕ). get_or xs 0 0) e in absurd (omega arith)
words_cut (w ∷ ws) [] after next p q e = let heads : ◌≡◌ {A = ℕ} 32 10 = ap (λ (xs : List ℕ). get_or xs 0 0) e in absurd (omega arith)
words_cut (w ∷ ws) (v ∷ vs) after next p q e =
    let rest : w ++ (spaced ws ++ 10 ∷ after) ≡ v ++ (spaced vs ++ 10 ∷ next) =
    sym (append_assoc w (spaced ws) (10 ∷ after)) ∙ ap (drop 1) e ∙ append_assoc v (spaced vs) (10 ∷ next) in
    let cut = word_cut w v (spaced ws ++ 10 ∷ after) (spaced vs ++ 10 ∷ next) p.0 q.0 (spaced-ends ws after) (spaced-ends vs next) rest in
    let more = words_cut ws vs after next p.1 q.1 cut.1 in
    (ap (λ (word : List ℕ). word ∷ ws) cut.0 ∙ ap (λ (words : List (List ℕ)). v ∷ words) more.0, more.1)

-- ---- lines

line_is : (first : List ℕ) (others : List (List ℕ)) (after : List ℕ) → line first others ++ after ≡ first ++ (spaced others ++ 10 ∷ after)
line_is first others after = append_assoc (first ++ spaced others) (10 ∷ []) after ∙ append_assoc first (spaced others) (10 ∷ after)

-- texts that begin with lines begin with the same one, and go on alike
line_cut : (w v : List ℕ) (words others : List (List ℕ)) (after next : List ℕ) → IsPlain w → IsPlain v → ArePlain words → ArePlain others →
    line w words ++ after ≡ line v others ++ next → (w ≡ v) × (words ≡ others) × (after ≡ next)
line_cut w v words others after next p q ps qs e =
    let cut = word_cut w v (spaced words ++ 10 ∷ after) (spaced others ++ 10 ∷ next) p q (spaced-ends words after) (spaced-ends others next)
    (sym (line_is w words after) ∙ e ∙ line_is v others next) in
    let more = words_cut words others after next ps qs cut.1 in
    (cut.0, more.0, more.1)

-- ---- the words of a plan

hex_digit-plain : (n : ℕ) → 33 ≤ hex_digit n
hex_digit-plain n = cond_both (nat_lt n 10) (48 + n) (55 + n) (λ (b : ℕ). 33 ≤ b) (λ small. omega arith) (λ large. omega arith)

hex_digit-one : (m n : ℕ) → hex_digit m ≡ hex_digit n → m ≡ n
hex_digit-one m n e = elim (cases_lt m 10) [
  | inl a ↦ elim (cases_lt n 10) [
    | inl b ↦ let same : 48 + m ≡ 48 + n = sym (low m a) ∙ e ∙ low n b in omega (arith, same)
    | inr b ↦ let same : 48 + m ≡ 55 + n = sym (low m a) ∙ e ∙ high n b in absurd (omega (arith, same, a, b))
  ]
  | inr a ↦ elim (cases_lt n 10) [
    | inl b ↦ let same : 55 + m ≡ 48 + n = sym (high m a) ∙ e ∙ low n b in absurd (omega (arith, same, a, b))
    | inr b ↦ let same : 55 + m ≡ 55 + n = sym (high m a) ∙ e ∙ high n b in omega (arith, same)
  ]
]
  where
    low : (k : ℕ) → k < 10 → hex_digit k ≡ 48 + k
    low k small = rw (lt-ltb k 10 small) refl

    high : (k : ℕ) → 10 ≤ k → hex_digit k ≡ 55 + k
    high k large = rw (le-ltb k 10 large) refl

hex-plain : (bytes : List ℕ) → ArePlain (map hex_word bytes)
hex-plain [] = tt
hex-plain (b ∷ bytes) = ((hex_digit-plain (b / 16), (hex_digit-plain (b % 16), tt)), hex-plain bytes)

hex_word-one : (b c : ℕ) → hex_word b ≡ hex_word c → b ≡ c
hex_word-one b c e =
    let high = hex_digit-one (b / 16) (c / 16) (ap (λ (xs : List ℕ). get_or xs 0 0) e) in
    let low = hex_digit-one (b % 16) (c % 16) (ap (λ (xs : List ℕ). get_or xs 1 0) e) in
    omega (arith, high, low)

hex-one : (bytes others : List ℕ) → map hex_word bytes ≡ map hex_word others → bytes ≡ others
hex-one [] [] e = refl
hex-one [] (c ∷ others) e = absurd (let lengths : 0 ≡ suc (length (map hex_word others)) = ap length e in omega (arith, lengths))
hex-one (b ∷ bytes) [] e = absurd (let lengths : suc (length (map hex_word bytes)) ≡ 0 = ap length e in omega (arith, lengths))
hex-one (b ∷ bytes) (c ∷ others) e =
    let first = hex_word-one b c (ap (λ (words : List (List ℕ)). get_or words 0 []) e) in
    ap (λ (x : ℕ). x ∷ bytes) first ∙ ap (λ (xs : List ℕ). c ∷ xs) (hex-one bytes others (ap (drop 1) e))

digits-plain : (digits : List ℕ) → AllDigits 10 digits → IsPlain digits
digits-plain [] all = tt
digits-plain (c ∷ digits) all = (omega (arith, (digit_from_value c all.0).0), digits-plain digits all.1)

decimal-plain : (n : ℕ) → n < 2 ^ 64 → IsPlain (decimal n)
decimal-plain n small = digits-plain (decimal n) (decimal_is_IsNumeral n small).0.1

goes-plain : (b : ℕ) → goes_in_name b ≡ true → 33 ≤ b
goes-plain b goes = elim (or_cases ((nat_le 97 b && nat_le b 122) || (nat_le 48 b && nat_le b 57)) (eqb b 95) goes) [
  | inl first ↦ elim (or_cases (nat_le 97 b && nat_le b 122) (nat_le 48 b && nat_le b 57) first) [
    | inl letter ↦ omega (arith, leb-true 97 b (and_parts (nat_le 97 b) (nat_le b 122) letter).0)
    | inr digit ↦ omega (arith, leb-true 48 b (and_parts (nat_le 48 b) (nat_le b 57) digit).0)
  ]
  | inr under ↦ omega (arith, eqb-true b 95 under)
]

all-plain : (word : List ℕ) → list_all goes_in_name word ≡ true → IsPlain word
all-plain [] all = tt
all-plain (b ∷ word) all =
    let parts = and_parts (goes_in_name b) (list_all goes_in_name word) all in
    (goes-plain b parts.0, all-plain word parts.1)

name-plain : (word : List ℕ) → is_name word ≡ true → IsPlain word
name-plain word is =
    let begins : Bool = begins_lower word in
    let all : Bool = list_all goes_in_name word in
    let short : Bool = nat_le (length word) 16 in
    let no_form : Bool = not (bytes_eq word (codes "form")) in
    let no_end : Bool = not (bytes_eq word (codes "end")) in
    let first = (and_parts (begins && all && short && no_form) no_end is).0 in
    let second = (and_parts (begins && all && short) no_form first).0 in
    let third = (and_parts (begins && all) short second).0 in
    all-plain word (and_parts begins all third).1

-- a word that is a packet's, which the line of a drone or the last line hasn't: its third letter is another
record IsPackets (word : List ℕ) : Type 0 where
  plain : IsPlain word
  no_drone : eqb (get_or word 2 0) 111 ≡ false
  no_end : eqb (get_or word 2 0) 100 ≡ false

packet_word-is : (s : Upload) (d k : ℕ) → IsPackets (packet_word s d k)
packet_word-is s d k =
    cond_both (nat_lt k (write_count s d)) (codes "write") (cond (eqb k (write_count s d)) (codes "define") (codes "start")) IsPackets
    (λ is. record { plain = plain_if (codes "write") refl; no_drone = refl; no_end = refl })
    (λ other. cond_both (eqb k (write_count s d)) (codes "define") (codes "start") IsPackets
    (λ is. record { plain = plain_if (codes "define") refl; no_drone = refl; no_end = refl })
    (λ no. record { plain = plain_if (codes "start") refl; no_drone = refl; no_end = refl }))

-- ---- packets

-- a text that goes on with a drone's line or with the last one
record GoesOn (text : List ℕ) : Type 0 where
  first : List ℕ
  others : List (List ℕ)
  rest : List ℕ
  is : text ≡ line first others ++ rest
  plain : IsPlain first
  all_plain : ArePlain others
  named : (first ≡ codes "drone") ⊎ (first ≡ codes "end")

no_packet : (s : Upload) (d k : ℕ) (text after : List ℕ) → GoesOn text → text ≡ packet_line s d k ++ after → ⊥
no_packet s d k text after on e =
    let word = packet_word-is s d k in
    let cut = line_cut on.first (packet_word s d k) on.others (map hex_word (packet_at s d k)) on.rest after on.plain word.plain on.all_plain (hex-plain (packet_at s d k)) (sym on.is ∙ e) in
    elim on.named [
      | inl is ↦ false≢true (sym word.no_drone ∙ ap (λ (w : List ℕ). eqb (get_or w 2 0) 111) (sym cut.0 ∙ is))
      | inr is ↦ false≢true (sym word.no_end ∙ ap (λ (w : List ℕ). eqb (get_or w 2 0) 100) (sym cut.0 ∙ is))
    ]

packets_cut : (s u : Upload) (d i : ℕ) (ks js after next : List ℕ) → GoesOn after → GoesOn next →
    flat_map (packet_line s d) ks ++ after ≡ flat_map (packet_line u i) js ++ next → after ≡ next
packets_cut s u d i [] [] after next on off e = e
packets_cut s u d i [] (j ∷ js) after next on off e =
    absurd (no_packet u i j after (flat_map (packet_line u i) js ++ next) on (e ∙ append_assoc (packet_line u i j) (flat_map (packet_line u i) js) next))
packets_cut s u d i (k ∷ ks) [] after next on off e =
    absurd (no_packet s d k next (flat_map (packet_line s d) ks ++ after) off (sym e ∙ append_assoc (packet_line s d k) (flat_map (packet_line s d) ks) after))
packets_cut s u d i (k ∷ ks) (j ∷ js) after next on off e =
    let cut = line_cut (packet_word s d k) (packet_word u i j) (map hex_word (packet_at s d k)) (map hex_word (packet_at u i j))
    (flat_map (packet_line s d) ks ++ after) (flat_map (packet_line u i) js ++ next)
    (packet_word-is s d k).plain (packet_word-is u i j).plain (hex-plain (packet_at s d k)) (hex-plain (packet_at u i j))
    (sym (append_assoc (packet_line s d k) (flat_map (packet_line s d) ks) after) ∙ e ∙ append_assoc (packet_line u i j) (flat_map (packet_line u i) js) next) in
    packets_cut s u d i ks js after next on off cut.2

-- ---- drones

-- a trajectory that is written: few segments, and few bytes
record IsWritten (t : Traj) : Type 0 where
  formed : IsTrajectory t
  few : length t.segments ≤ 255
  short : size t ≤ 4096

abbrev last_line : List ℕ
last_line = line (codes "end") []

abbrev words_of : Name → Traj → List (List ℕ)
words_of name t = name.items ∷ codes "bytes" ∷ decimal (size t) ∷ codes "pieces" ∷ decimal (length t.segments) ∷ []

words-plain : (name : Name) (t : Traj) → is_name name.items ≡ true → IsWritten t → ArePlain (words_of name t)
words-plain name t named w =
    let few = w.few in let short = w.short in (
      name-plain name.items named,
      (
        plain_if (codes "bytes") refl,
        (
          decimal-plain (size t) (omega (arith, short)),
          (
            plain_if (codes "pieces") refl,
            (decimal-plain (length t.segments) (omega (arith, few)), tt),
          ),
        ),
      ),
    )

part_is : (s : Upload) (d : ℕ) (name : Name) (t : Traj) (after : List ℕ) →
    drone_part s d name.items t ++ after ≡ line (codes "drone") (words_of name t) ++ (line (codes "data") (map hex_word (spelling t ++ ending)) ++ (packet_lines s d ++ after))
part_is s d name t after =
    let head = line (codes "drone") (words_of name t) in
    let bytes = line (codes "data") (map hex_word (spelling t ++ ending)) in
    append_assoc (head ++ bytes) (packet_lines s d) after ∙ append_assoc head bytes (packet_lines s d ++ after)

parts_is : (s : Upload) (d : ℕ) (name : Name) (t : Traj) (names : List Name) (ts : List Traj) →
    drone_parts s d (name ∷ names) (t ∷ ts) ++ last_line
    ≡ line (codes "drone") (words_of name t) ++ (line (codes "data") (map hex_word (spelling t ++ ending)) ++ (packet_lines s d ++ (drone_parts s (d + 1) names ts ++ last_line)))
parts_is s d name t names ts =
    append_assoc (drone_part s d name.items t) (drone_parts s (d + 1) names ts) last_line ∙ part_is s d name t (drone_parts s (d + 1) names ts ++ last_line)

abbrev AreNamed : List Name → Type 0
AreNamed names = All (λ (name : Name). is_name name.items ≡ true) names

end-goes_on : GoesOn last_line
end-goes_on = record { first = codes "end"; others = []; rest = []; is = sym (append-nil last_line); plain = plain_if (codes "end") refl; all_plain = tt; named = inr refl }

goes_on : (s : Upload) (d : ℕ) (names : List Name) (ts : List Traj) → AreNamed names → All IsWritten ts → GoesOn (drone_parts s d names ts ++ last_line)
goes_on s d [] ts named written = end-goes_on
goes_on s d (name ∷ names) [] named written = end-goes_on
goes_on s d (name ∷ names) (t ∷ ts) named written = record {
  first = codes "drone";
  others = words_of name t;
  rest = line (codes "data") (map hex_word (spelling t ++ ending)) ++ (packet_lines s d ++ (drone_parts s (d + 1) names ts ++ last_line));
  is = parts_is s d name t names ts;
  plain = plain_if (codes "drone") refl;
  all_plain = words-plain name t (All-head (λ (n : Name). is_name n.items ≡ true) name names named) (All-head IsWritten t ts written);
  named = inl refl;
}

-- a drone's line isn't the last one
no_end : (s : Upload) (d : ℕ) (name : Name) (t : Traj) (names : List Name) (ts : List Traj) → AreNamed (name ∷ names) → All IsWritten (t ∷ ts) →
    last_line ≡ drone_parts s d (name ∷ names) (t ∷ ts) ++ last_line → ⊥
no_end s d name t names ts named written e =
    let cut = line_cut (codes "end") (codes "drone") [] (words_of name t) [] _ (plain_if (codes "end") refl) (plain_if (codes "drone") refl) tt
    (words-plain name t (All-head (λ (n : Name). is_name n.items ≡ true) name names named) (All-head IsWritten t ts written))
    (append-nil last_line ∙ e ∙ parts_is s d name t names ts) in
    let letters : ◌≡◌ {A = ℕ} 101 100 = ap (λ (word : List ℕ). get_or word 0 0) cut.0 in
    omega (arith, letters)

parts_cut : SpellingLaw → (s u : Upload) (d i : ℕ) (names others : List Name) (ts us : List Traj) → AreNamed names → AreNamed others →
    length ts ≡ length names → length us ≡ length others → All IsWritten ts → All IsWritten us →
    drone_parts s d names ts ++ last_line ≡ drone_parts u i others us ++ last_line → (names ≡ others) × (ts ≡ us)
parts_cut law s u d i [] [] [] [] p q m n w v e = (refl, refl)
parts_cut law s u d i (name ∷ names) (other ∷ others) (t ∷ ts) (x ∷ us) p q m n w v e =
    let wrote = All-head IsWritten t ts w in
    let written = All-head IsWritten x us v in
    let named = All-head (λ (a : Name). is_name a.items ≡ true) name names p in
    let also = All-head (λ (a : Name). is_name a.items ≡ true) other others q in
    let drone : IsPlain (codes "drone") = plain_if (codes "drone") refl in
    let bytes_word : IsPlain (codes "data") = plain_if (codes "data") refl in
    let head = line_cut (codes "drone") (codes "drone") (words_of name t) (words_of other x) _ _ drone drone (words-plain name t named wrote) (words-plain other x also written)
    (sym (parts_is s d name t names ts) ∙ e ∙ parts_is u i other x others us) in
    let bytes = line_cut (codes "data") (codes "data") (map hex_word (spelling t ++ ending)) (map hex_word (spelling x ++ ending)) _ _ bytes_word bytes_word
    (hex-plain (spelling t ++ ending)) (hex-plain (spelling x ++ ending)) head.2 in
    let rest = packets_cut s u d i (range_with_len 0 (packet_count s d)) (range_with_len 0 (packet_count u i)) (drone_parts s (d + 1) names ts ++ last_line)
    (drone_parts u (i + 1) others us ++ last_line) (goes_on s (d + 1) names ts (All-tail (λ (a : Name). is_name a.items ≡ true) name names p) (All-tail IsWritten t ts w))
    (goes_on u (i + 1) others us (All-tail (λ (a : Name). is_name a.items ≡ true) other others q) (All-tail IsWritten x us v)) bytes.2 in
    let first : name.items ≡ other.items = ap (λ (words : List (List ℕ)). get_or words 0 []) head.1 in
    let few = wrote.few in let fewer = written.few in
    let pieces : length t.segments ≡ length x.segments =
    decimal_injective (length t.segments) (length x.segments) (omega (arith, few)) (omega (arith, fewer)) (ap (λ (words : List (List ℕ)). get_or words 4 []) head.1) in
    let same : t ≡ x = (law t x ending ending wrote.formed written.formed pieces (hex-one (spelling t ++ ending) (spelling x ++ ending) bytes.1)).0 in
    let more = parts_cut law s u (d + 1) (i + 1) names others ts us (All-tail (λ (a : Name). is_name a.items ≡ true) name names p)
    (All-tail (λ (a : Name). is_name a.items ≡ true) other others q) (let count : suc (length ts) ≡ suc (length names) = m in omega (arith, count)) (let count : suc (length us) ≡ suc (length others) = n in omega (arith, count)) (All-tail IsWritten t ts w) (All-tail IsWritten x us v) rest in
    (ap (λ (items : List ℕ). record { items = items } ∷ names) first ∙ ap (λ (ns : List Name). other ∷ ns) more.0, ap (λ (a : Traj). a ∷ ts) same ∙ ap (λ (later : List Traj). x ∷ later) more.1)
parts_cut law s u d i [] others (t ∷ ts) us p q m n w v e = absurd (let none : suc (length ts) ≡ 0 = m in omega (arith, none))
parts_cut law s u d i (name ∷ names) others [] us p q m n w v e = absurd (let none : 0 ≡ suc (length names) = m in omega (arith, none))
parts_cut law s u d i names [] ts (x ∷ us) p q m n w v e = absurd (let none : suc (length us) ≡ 0 = n in omega (arith, none))
parts_cut law s u d i names (other ∷ others) ts [] p q m n w v e = absurd (let none : 0 ≡ suc (length others) = n in omega (arith, none))
parts_cut law s u d i [] (other ∷ others) [] (x ∷ us) p q m n w v e = absurd (no_end u i other x others us q v e)
parts_cut law s u d i (name ∷ names) [] (t ∷ ts) [] p q m n w v e = absurd (no_end s d name t names ts p w (sym e))

-- ---- the law

written : (e : Settings) (ts : List Traj) → AreUploadable e ts → All IsWritten ts
written e ts u = All-from_get_or IsWritten ts no_trajectory (λ i within.
    let room = All-get_or (λ (x : Traj). size x ≤ 4096 - e.offset) ts i no_trajectory within u.room in
    record {
      formed = All-get_or IsTrajectory ts i no_trajectory within u.formed;
      few = (All-get_or IsSendable ts i no_trajectory within u.sendable).few;
      short = omega (arith, room);
    })

pub plan_law : SpellingLaw → PlanLaw
unfolding plan_text
plan_law law e f names others ts us plan other same =
    let plan_word : IsPlain (codes "plan") = plain_if (codes "plan") refl in
    let version : ArePlain (codes "1" ∷ []) = (plain_if (codes "1") refl, tt) in
    let cut = line_cut (codes "plan") (codes "plan") (codes "1" ∷ []) (codes "1" ∷ []) (drone_parts (session_for e ts false true) 0 names ts ++ last_line)
    (drone_parts (session_for f us false true) 0 others us ++ last_line) plan_word plan_word version version same in
    parts_cut law (session_for e ts false true) (session_for f us false true) 0 0 names others ts us plan.named other.named plan.counted other.counted
    (written e ts plan.uploadable) (written f us other.uploadable) cut.2

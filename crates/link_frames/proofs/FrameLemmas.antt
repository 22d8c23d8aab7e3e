-- What bytes of a frame that is begun look like, and what one byte more makes of them.
use Rattle.std.proofs.lemmas.Grind.{common_steps}
use Rattle.std.proofs.Common.{◌≡◌, ℕ, ◌+◌, ◌-◌, ◌<◌, ◌≤◌, Bool, true, false, cond, List, [], ◌∷◌, ◌++◌, length, drop, take, replicate, length-append, append_assoc, refl, sym, ap, ◌∙◌, arith}
use Rattle.std.specs.List.{All}
use Rattle.std.proofs.lemmas.List.{length-replicate, length-take, take-append-drop}
use Rattle.std.proofs.lemmas.List.Elements.{All-head, All-tail}
use Rattle.std.proofs.Math.Seq.{drop-append_seam, take-append_seam}
use Rattle.link_frames.specs.declared.frame.Frame.{Frame}
use Rattle.link_frames.specs.declared.frame.Frame.TheVariants as frame
use Rattle.link_frames.specs.declared.frame.Fed.TheVariants as fed_is
use Rattle.link_frames.specs.declared.frame.FrameFault.{FrameFault}
use Rattle.link_frames.specs.declared.frame.FrameFault.TheVariants.{Kind, Drone, Length}
use Rattle.link_frames.specs.Frames.{BeginsNoFrame, IsBegun, FrameLaw, IsFrame, fed, fed_kind, fed_packet, frame_bytes, frames_bytes, packet_byte, tick_byte}
use Rattle.std.proofs.lemmas.Bool.Decides.{nat_tests}
use Rattle.std.specs.Prelude.{◌==◌, ◌&&◌, nat_le, nat_lt, slice_index_or, slice_range}

-- the kind, the drone, the length, and fewer bytes of the packet
abbrev pub Shape : List ℕ → Type 0
Shape [] = Unit {0}
Shape (k ∷ []) = k ≡ 0x50
Shape (k ∷ d ∷ []) = (k ≡ 0x50) × (1 ≤ d) × (d ≤ 32)
Shape (k ∷ d ∷ n ∷ p) = (k ≡ 0x50) × (1 ≤ d) × (d ≤ 32) × (1 ≤ n) × (n ≤ 31) × (length p < n)

shape_of : (bytes : List ℕ) (f : Frame) (more : List ℕ) → IsFrame f → frame_bytes f ≡ bytes ++ more → 1 ≤ length more → Shape bytes
shape_of [] f more formed cut some = tt
shape_of (k ∷ bs) frame.Tick more formed cut some = absurd (let e = ap (λ (xs : List ℕ). length xs) cut in omega (arith, e, length-append bs more, some))
shape_of (k ∷ []) (frame.Packet d p) more formed cut some = cc
shape_of (k ∷ e ∷ []) (frame.Packet d p) more formed cut some = let is : e ≡ d = cc in (cc, rw is formed.0, rw is formed.1)
shape_of (k ∷ e ∷ n ∷ q) (frame.Packet d p) more formed cut some = grind (arith, common_steps, length-append)

pub shape : (bytes : List ℕ) → IsBegun bytes → Shape bytes
shape bytes b = shape_of bytes b.frame b.more b.formed b.cut b.some

pub begun : (bytes : List ℕ) → Shape bytes → IsBegun bytes
begun [] is = record { frame = frame.Tick; more = 0x54 ∷ []; formed = tt; cut = refl; some = omega arith }
begun (k ∷ []) is = record { frame = frame.Packet 1 (0 ∷ []); more = 1 ∷ 1 ∷ 0 ∷ []; formed = (omega arith, omega arith, omega arith, omega arith); cut = rw is refl; some = omega arith }
begun (k ∷ d ∷ []) is = record { frame = frame.Packet d (0 ∷ []); more = 1 ∷ 0 ∷ []; formed = (is.1, is.2, omega arith, omega arith); cut = rw is.0 refl; some = omega arith }
begun (k ∷ d ∷ n ∷ p) is =
    let pad : List ℕ = replicate (n - length p) 0 in
    let padded : length pad ≡ n - length p = length-replicate (n - length p) 0 in
    let full : length (p ++ pad) ≡ n = omega (arith, length-append p pad, padded, is.5) in
    record {
      frame = frame.Packet d (p ++ pad);
      more = pad;
      formed = (is.1, is.2, rw full is.3, rw full is.4);
      cut = rw (is.0, full) refl;
      some = omega (arith, padded, is.5);
    }

-- a frame that is begun is no whole one: no frame is a proper front of another
pub no_frame : (bytes : List ℕ) → Shape bytes → BeginsNoFrame bytes
no_frame [] is frame.Tick later formed cut = cc
no_frame (k ∷ []) is frame.Tick later formed cut = let b : k ≡ 0x54 = cc in omega (arith, is, b)
no_frame (k ∷ rest) is frame.Tick later formed cut = let b : k ≡ 0x54 = cc in grind arith
no_frame (k ∷ e ∷ n ∷ q) is (frame.Packet d p) later formed cut = grind (arith, common_steps, length-append)
no_frame bytes is f later formed cut = cc

-- ---- one byte more

by_kind : (byte : ℕ) (a b : Bool) → (byte == 0x54) ≡ a → (byte == 0x50) ≡ b → cond a (fed_is.Frame frame.Tick) (cond b fed_is.More (fed_is.Bad Kind)) ≡ fed_is.More → byte ≡ 0x50
by_kind byte true b first second is = absurd (cc)
by_kind byte false true first second is = grind (arith, nat_tests)
by_kind byte false false first second is = absurd (cc)

fed_none : (byte : ℕ) → fed [] byte ≡ fed_kind byte
fed_none byte = refl

differ : (m n : ℕ) → n < m → (m == n) ≡ false
differ m n above = grind (arith, nat_tests)

fed_long : (k d n : ℕ) (p : List ℕ) (byte : ℕ) → fed (k ∷ d ∷ n ∷ p) byte ≡ fed_packet d n p byte
fed_long k d n p byte =
    rw (differ (length (k ∷ d ∷ n ∷ p)) 0 (omega arith), differ (length (k ∷ d ∷ n ∷ p)) 1 (omega arith), differ (length (k ∷ d ∷ n ∷ p)) 2 (omega arith)) refl

within : (byte most : ℕ) → (nat_le 1 byte && nat_le byte most) ≡ true → (1 ≤ byte) × (byte ≤ most)
within byte most test = (grind (arith, nat_tests), grind (arith, nat_tests))

outside : (byte most : ℕ) → (nat_le 1 byte && nat_le byte most) ≡ false → 1 ≤ byte → byte ≤ most → ⊥
outside byte most test low high = grind (arith, nat_tests)

-- which test let a byte pass
passed : (t : Bool) (why : FrameFault) → cond t fed_is.More (fed_is.Bad why) ≡ fed_is.More → t ≡ true
passed true why is = refl
passed false why is = absurd (cc)

failed : (t : Bool) (why other : FrameFault) → cond t fed_is.More (fed_is.Bad why) ≡ fed_is.Bad other → t ≡ false
failed true why other is = absurd (cc)
failed false why other is = refl

never_whole : (t : Bool) (why : FrameFault) (f : Frame) → cond t fed_is.More (fed_is.Bad why) ≡ fed_is.Frame f → ⊥
never_whole true why f is = cc
never_whole false why f is = cc

still_short : (t : Bool) (f : Frame) → cond t fed_is.More (fed_is.Frame f) ≡ fed_is.More → t ≡ true
still_short true f is = refl
still_short false f is = absurd (cc)

below : (m n : ℕ) → nat_lt m n ≡ true → m < n
below m n test = grind (arith, nat_tests)

not_below : (m n : ℕ) → nat_lt m n ≡ false → n ≤ m
not_below m n test = grind (arith, nat_tests)

pub more_step : (bytes : List ℕ) (byte : ℕ) → Shape bytes → fed bytes byte ≡ fed_is.More → Shape (bytes ++ byte ∷ [])
more_step [] byte is fed_so = by_kind byte (byte == 0x54) (byte == 0x50) refl refl fed_so
more_step (k ∷ []) byte is fed_so = let ok = within byte 32 (passed (nat_le 1 byte && nat_le byte 32) Drone fed_so) in (is, ok.0, ok.1)
more_step (k ∷ d ∷ []) byte is fed_so = let ok = within byte 31 (passed (nat_le 1 byte && nat_le byte 31) Length fed_so) in (is.0, is.1, is.2, ok.0, ok.1, omega (arith, ok.0))
more_step (k ∷ d ∷ n ∷ p) byte is fed_so = grind (arith, common_steps, below, still_short, fed_long, length-append)

whole_packet : (t : Bool) (f g : Frame) → cond t fed_is.More (fed_is.Frame f) ≡ fed_is.Frame g → (t ≡ false) × (f ≡ g)
whole_packet true f g is = absurd (cc)
whole_packet false f g is = (refl, cc)

whole_kind : (byte : ℕ) (a b : Bool) (g : Frame) → (byte == 0x54) ≡ a → cond a (fed_is.Frame frame.Tick) (cond b fed_is.More (fed_is.Bad Kind)) ≡ fed_is.Frame g → (byte ≡ 0x54) × (g ≡ frame.Tick)
whole_kind byte true b g first is = (grind (arith, nat_tests), cc)
whole_kind byte false true g first is = absurd (cc)
whole_kind byte false false g first is = absurd (cc)

pub whole_step : (bytes : List ℕ) (byte : ℕ) (f : Frame) → Shape bytes → fed bytes byte ≡ fed_is.Frame f → IsFrame f × (frame_bytes f ≡ bytes ++ byte ∷ [])
whole_step [] byte f is fed_so = let k = whole_kind byte (byte == 0x54) (byte == 0x50) f refl fed_so in rw (k.1, k.0) (tt, refl)
whole_step (k ∷ []) byte f is fed_so = absurd (never_whole (nat_le 1 byte && nat_le byte 32) Drone f fed_so)
whole_step (k ∷ d ∷ []) byte f is fed_so = absurd (never_whole (nat_le 1 byte && nat_le byte 31) Length f fed_so)
whole_step (k ∷ d ∷ n ∷ p) byte f is fed_so = grind (arith, common_steps, whole_packet, fed_long, not_below, length-append)

bad_kind : (byte : ℕ) (a b : Bool) (why : FrameFault) → (byte == 0x54) ≡ a → (byte == 0x50) ≡ b → cond a (fed_is.Frame frame.Tick) (cond b fed_is.More (fed_is.Bad Kind)) ≡ fed_is.Bad why →
    (byte ≡ 0x54 → ⊥) × (byte ≡ 0x50 → ⊥)
bad_kind byte true b why first second is = absurd (cc)
bad_kind byte false true why first second is = absurd (cc)
bad_kind byte false false why first second is = ((λ e. grind (arith, nat_tests)), (λ e. grind (arith, nat_tests)))

never_bad : (t : Bool) (f : Frame) (why : FrameFault) → cond t fed_is.More (fed_is.Frame f) ≡ fed_is.Bad why → ⊥
never_bad true f why is = cc
never_bad false f why is = cc

pub bad_step : (bytes later : List ℕ) (byte : ℕ) (why : FrameFault) → Shape bytes → fed bytes byte ≡ fed_is.Bad why → BeginsNoFrame (bytes ++ byte ∷ later)
bad_step [] later byte why is fed_so frame.Tick more formed cut = (bad_kind byte (byte == 0x54) (byte == 0x50) why refl refl fed_so).0 (cc)
bad_step [] later byte why is fed_so (frame.Packet d p) more formed cut = (bad_kind byte (byte == 0x54) (byte == 0x50) why refl refl fed_so).1 (cc)
bad_step (k ∷ []) later byte why is fed_so frame.Tick more formed cut = let b : k ≡ 0x54 = cc in omega (arith, is, b)
bad_step (k ∷ []) later byte why is fed_so (frame.Packet d p) more formed cut =
    let e : byte ≡ d = cc in outside byte 32 (failed (nat_le 1 byte && nat_le byte 32) Drone why fed_so) (rw e formed.0) (rw e formed.1)
bad_step (k ∷ e ∷ []) later byte why is fed_so frame.Tick more formed cut = let b : k ≡ 0x54 = cc in omega (arith, is.0, b)
bad_step (k ∷ e ∷ []) later byte why is fed_so (frame.Packet d p) more formed cut =
    let n : byte ≡ length p = cc in outside byte 31 (failed (nat_le 1 byte && nat_le byte 31) Length why fed_so) (rw n formed.2) (rw n formed.3)
bad_step (k ∷ e ∷ n ∷ q) later byte why is fed_so f more formed cut =
    absurd (never_bad (nat_lt (length q + 1) n) (frame.Packet e (q ++ byte ∷ [])) why (sym (fed_long k e n q byte) ∙ fed_so))

-- ---- a whole frame at the front

-- the drone, the length and the packet after the first byte, where all of it is there
pub front_packet : (rest p : List ℕ) (n : ℕ) → 2 ≤ length rest → n ≡ slice_index_or rest 1 0 → n ≤ length rest - 2 → p ≡ slice_range rest 2 (2 + n) →
    (length p ≡ n) × ((later : List ℕ) × (0x50 ∷ rest ≡ 0x50 ∷ slice_index_or rest 0 0 ∷ length p ∷ (p ++ later)))
front_packet [] p n two counted fits is = absurd (omega (arith, two))
front_packet (d ∷ []) p n two counted fits is = absurd (omega (arith, two))
front_packet (d ∷ k ∷ q) p n two counted fits is =
    let n_is : n ≡ k = counted in
    let e : 2 + n - 2 ≡ n = omega arith in
    let p_is : p ≡ take n q = is ∙ ap (λ (m : ℕ). take m q) e in
    let len : length p ≡ n = ap (λ (l : List ℕ). length l) p_is ∙ length-take n q ∙ omega (arith, fits) in
    (len, (drop n q, rw (len, n_is, p_is ∙ ap (λ (m : ℕ). take m q) n_is, take-append-drop k q) refl))

-- ---- one list of frames

front_of : (p q r s : List ℕ) → length p ≡ length q → p ++ r ≡ q ++ s → p ≡ q
front_of p q r s len is = sym (take-append_seam p r) ∙ ap (take (length p)) is ∙ rw len (take-append_seam q s)

back_of : (p q r s : List ℕ) → length p ≡ length q → p ++ r ≡ q ++ s → r ≡ s
back_of p q r s len is = sym (drop-append_seam p r) ∙ ap (drop (length p)) is ∙ rw len (drop-append_seam q s)

one_step : (f g : Frame) (r s : List ℕ) → frame_bytes f ++ r ≡ frame_bytes g ++ s → (f ≡ g) × (r ≡ s)
one_step frame.Tick frame.Tick r s is = (refl, cc)
one_step frame.Tick (frame.Packet d p) r s is = absurd (let b : tick_byte ≡ packet_byte = cc in omega (arith, b))
one_step (frame.Packet d p) frame.Tick r s is = absurd (let b : packet_byte ≡ tick_byte = cc in omega (arith, b))
one_step (frame.Packet d p) (frame.Packet e q) r s is = grind (arith, common_steps, front_of, back_of)

pub one_list : (fs gs : List Frame) (rest left : List ℕ) → All IsFrame fs → All IsFrame gs → BeginsNoFrame rest → BeginsNoFrame left →
    frames_bytes fs ++ rest ≡ frames_bytes gs ++ left → (fs ≡ gs) × (rest ≡ left)
one_list [] [] rest left fine well none nothing is = (refl, is)
one_list [] (g ∷ gs) rest left fine well none nothing is =
    absurd (none g (frames_bytes gs ++ left) (All-head IsFrame g gs well) (is ∙ append_assoc (frame_bytes g) (frames_bytes gs) left))
one_list (f ∷ fs) [] rest left fine well none nothing is =
    absurd (nothing f (frames_bytes fs ++ rest) (All-head IsFrame f fs fine) (sym is ∙ append_assoc (frame_bytes f) (frames_bytes fs) rest))
one_list (f ∷ fs) (g ∷ gs) rest left fine well none nothing is =
    let step = one_step f g (frames_bytes fs ++ rest) (frames_bytes gs ++ left) (sym (append_assoc (frame_bytes f) (frames_bytes fs) rest) ∙ is ∙ append_assoc (frame_bytes g) (frames_bytes gs) left) in
    let more = one_list fs gs rest left (All-tail IsFrame f fs fine) (All-tail IsFrame g gs well) none nothing step.1 in
    (rw (step.0, more.0) refl, more.1)

pub frame_law : FrameLaw
frame_law = record {
  none = begun [] tt;
  more = λ bytes byte b is. begun (bytes ++ byte ∷ []) (more_step bytes byte (shape bytes b) is);
  whole = λ bytes byte f b is. whole_step bytes byte f (shape bytes b) is;
  bad = λ bytes later byte why b is. bad_step bytes later byte why (shape bytes b) is;
  begun = λ bytes b. no_frame bytes (shape bytes b);
  step = one_step;
  one = one_list;
}

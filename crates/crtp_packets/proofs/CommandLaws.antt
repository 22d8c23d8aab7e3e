-- A payload that is read as a command is that command, field by field, and the other way round.
use Rattle.std.proofs.lemmas.Grind.{common_steps}
use Rattle.std.proofs.Common.{◌≡◌, ℕ, suc, ◌^◌, ◌<◌, ◌≤◌, true, nat_lt, ◌==◌, List, [], ◌∷◌, ◌++◌, length, drop, slice_index, refl, ap, sym, subst, ◌∙◌, arith, Ok, IfOk}
use Rattle.std.proofs.lemmas.Bool.{le-ltb}
use Rattle.byteorder.specs.Endian.{little_bytes, little_number}
use Rattle.crtp_packets.proofs.ReadingLaws.{AreBytes, four_bytes, number_fits, if_ok, not_short}
use Rattle.crtp_packets.specs.Commands.{command_of, SpellsCommand}
use Rattle.crtp_packets.specs.declared.commands.TheConstants.{DEFINE, START}
use Rattle.crtp_packets.specs.declared.commands.Command.{Command}
use Rattle.crtp_packets.specs.declared.commands.Command.TheVariants.{Define, Start}

-- what stands after a define's first byte, or a start's, is the fields that are read there
record IsRead (rest : List ℕ) : Type 0 where
  define : SpellsCommand (6 ∷ rest) (Define (slice_index rest 0) (slice_index rest 1) (slice_index rest 2) (little_number 4 (drop 3 rest)) (slice_index rest 7))
  start : SpellsCommand (5 ∷ rest) (Start (slice_index rest 0) (slice_index rest 1) (slice_index rest 2) (slice_index rest 3)
      (slice_index rest 4 ∷ slice_index rest 5 ∷ slice_index rest 6 ∷ slice_index rest 7 ∷ []))

fields : (rest : List ℕ) → 8 ≤ length rest → AreBytes rest → IsRead rest
fields (i ∷ l ∷ f ∷ a ∷ b ∷ c ∷ d ∷ p ∷ tail) long small = record {
  define = (
    tail,
    ap (λ (bs : List ℕ). 6 ∷ i ∷ l ∷ f ∷ (bs ++ p ∷ tail)) (sym (four_bytes a b c d (p ∷ tail) (small 3) (small 4) (small 5) (small 6))),
    number_fits a b c d (p ∷ tail) (small 3) (small 4) (small 5) (small 6),
  );
  start = (tail, refl, refl);
}
fields rest long small = absurd (omega arith)

-- a test that holds says that the numbers are equal
same : (a b : ℕ) → (a == b) ≡ true → a ≡ b
same a b e = grind arith

pub spells : (payload : List ℕ) → AreBytes payload → IfOk (command_of payload) (SpellsCommand payload)
spells [] small = tt
spells (kind ∷ rest) small =
    if_ok (SpellsCommand (kind ∷ rest)) (kind == 6) _ _
    (λ at. if_ok (SpellsCommand (kind ∷ rest)) (nat_lt (length rest) 8) _ _ (λ short. tt)
    (λ long. subst (λ (k : ℕ). SpellsCommand (k ∷ rest) (Define (slice_index rest 0) (slice_index rest 1) (slice_index rest 2) (little_number 4 (drop 3 rest)) (slice_index rest 7)))
    (sym (same kind 6 at)) (fields rest (not_short (length rest) 8 long) (λ i. small (suc i))).define))
    (λ other. if_ok (SpellsCommand (kind ∷ rest)) (kind == 5) _ _
    (λ at. if_ok (SpellsCommand (kind ∷ rest)) (nat_lt (length rest) 8) _ _ (λ short. tt)
    (λ long. subst (λ (k : ℕ). SpellsCommand (k ∷ rest) (Start (slice_index rest 0) (slice_index rest 1) (slice_index rest 2) (slice_index rest 3) (slice_index rest 4 ∷ slice_index rest 5 ∷ slice_index rest 6 ∷ slice_index rest 7 ∷ [])))
    (sym (same kind 5 at)) (fields rest (not_short (length rest) 8 long) (λ i. small (suc i))).start))
    (λ none. tt))

-- a define that is written out is read as itself
define_read : (id location form offset pieces : ℕ) (rest : List ℕ) → offset < 2 ^ 32 →
    command_of (DEFINE ∷ id ∷ location ∷ form ∷ (little_bytes 4 offset ++ pieces ∷ rest)) ≡ Ok (Define id location form offset pieces)
define_read id location form offset pieces rest fits = grind (arith, common_steps, le-ltb)

-- a start that is written out is read as itself
start_read : (mask relative reversed id : ℕ) (scale rest : List ℕ) → length scale ≡ 4 →
    command_of (START ∷ mask ∷ relative ∷ reversed ∷ id ∷ (scale ++ rest)) ≡ Ok (Start mask relative reversed id scale)
start_read mask relative reversed id (a ∷ b ∷ c ∷ d ∷ []) rest four = grind (arith, common_steps, le-ltb)
start_read mask relative reversed id scale rest four = absurd (omega arith)

pub spelled : (payload : List ℕ) (command : Command) → SpellsCommand payload command → command_of payload ≡ Ok command
spelled payload (Define id location form offset pieces) s = ap command_of s.1 ∙ define_read id location form offset pieces s.0 s.2
spelled payload (Start mask relative reversed id scale) s = ap command_of s.1 ∙ start_read mask relative reversed id scale s.0 s.2

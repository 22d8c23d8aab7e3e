-- What a call answers, from the run of its command.
use Rattle.hemtoghai.proofs.Prelude.{◌≡◌, ◌⊎◌, inl, inr, ℕ, ◌≤◌, List, [], ◌++◌, length, take, drop, Option, Some, None, refl, sym, ap, ◌∙◌, arith, cases_lt, nat_tests, take_all, Contains, String, codes, part_of, SureIn, told_sure, empty, told_input, Compile, UploadsText, Behaves, Does, Run, Verb, during, behaves_as, RunsOver, WholeOut, put_in, said_in}
use Rattle.std.proofs.Math.Seq.{take-append_seam}
use Rattle.std.specs.declared.alloc.Global.{Global}
use Rattle.byte_streams.specs.Causes.{Rose}
use Rattle.command_words.specs.declared.command.Command.{Command}
use Rattle.show_looks.specs.Compile.{Headline}
use Rattle.show_looks.proofs.CompileLemmas.{headline_of}
use Rattle.show_run.specs.Verbs.{IsCalled, command_in, judges_apart, verb_of}
use Rattle.show_run.proofs.NameLemmas.{compiles, uploads}

-- ---- the run of a command over all of its input

-- a source that gave nothing yet, and a sink that took nothing yet
abbrev pub begins : List ℕ → SureIn
begins input = record { given = []; left = input }

abbrev pub untouched : WholeOut
untouched = record { written = []; faults = 0 }

-- What a run does over ends that never fail it does on the whole input, however much of it was read.
pub runs_over : (v : Verb) (input : List ℕ) (source : SureIn) (sink : WholeOut) (status : ℕ) → sink.faults ≡ 0 →
    Does v (during told_sure (λ (k : WholeOut). Some k.written) (λ (k : WholeOut). k.faults) (begins input) source untouched sink) status → RunsOver v input sink.written status
runs_over v input source sink status quiet does =
    record { left = drop (length source.given) input; behaves = rw quiet at (does.behaves input (told_input (told_sure (begins input)) (told_sure source) input does.gives refl (empty input))) }

-- status 0 is that of a command
of_command : {P : Type 0} (words : List (String Global)) (status : ℕ) (o : Option Command) → command_in words ≡ o → (command_in words ≡ None → (status ≡ 2) ⊎ (status ≡ 7)) → status ≡ 0 →
    ((c : Command) → command_in words ≡ Some c → P) → P
of_command words status None is usage done each = elim (usage is) [
  | inl e ↦ absurd (omega (arith, e, done))
  | inr e ↦ absurd (omega (arith, e, done))
]
of_command words status (Some c) is usage done each = each c is

-- 0 of a command that judges whether drones keep apart: it speaks of the whole input
pub uploads_over : (words : List (String Global)) (name input whole : List ℕ) (status : ℕ) → IsCalled words name → Contains judges_apart name → (command_in words ≡ None → (status ≡ 2) ⊎ (status ≡ 7)) →
    ((c : Command) → command_in words ≡ Some c → RunsOver (verb_of c) input whole status) → status ≡ 0 → UploadsText (part_of input)
uploads_over words name input whole status called judges usage runs done =
    of_command words status (command_in words) refl usage done (λ c is. uploads words c name called judges is input _ status (runs c is).behaves.runs refl done)

-- and 0 of `compile`
pub headline_over : (words : List (String Global)) (input whole : List ℕ) (status : ℕ) → IsCalled words (codes "compile") → (command_in words ≡ None → (status ≡ 2) ⊎ (status ≡ 7)) →
    ((c : Command) → command_in words ≡ Some c → RunsOver (verb_of c) input whole status) → status ≡ 0 → Headline input (Some []) (Some whole)
headline_over words input whole status called usage runs done =
    of_command words status (command_in words) refl usage done
    (λ c is. (let compile = compiles words c called is in headline_of compile.0 input _ status (behaves_as c (Compile compile.0) _ _ (sym compile.1) (runs c is).behaves).runs refl done))

-- ---- what the caller gets

-- a count that is 0 before and after didn't rise
pub not_rose : (before now : ℕ) → before ≡ 0 → now ≡ 0 → Rose before now → ⊥
not_rose before now first last rose = elim rose [
  | inl more ↦ omega (arith, more, last)
  | inr most ↦ omega (arith, most, last)
]

-- out of memory, nothing was written
pub none_written : (words : Option Command) (r : Run) (status : ℕ) (bytes : List ℕ) → (words ≡ None → (status ≡ 2) ⊎ (status ≡ 7)) → ((c : Command) → words ≡ Some c → Behaves (verb_of c) r status) →
    r.written ≡ Some [] → Some bytes ≡ r.written_after → status ≡ 1 → bytes ≡ []
none_written None r status bytes usage behaves first last one = elim (usage refl) [
  | inl e ↦ absurd (omega (arith, e, one))
  | inr e ↦ absurd (omega (arith, e, one))
]
none_written (Some c) r status bytes usage behaves first last one = let same = ((behaves c refl).runs.one one).0 in cc

-- another status than 7 is the command's own, and there was room for all
pub said_as : (room bytes : List ℕ) (status result n : ℕ) → (n ≡ 7 → ⊥) → result ≡ said_in room bytes status → result ≡ n → (status ≡ n) × (length bytes ≤ length room)
said_as room bytes status result n other says is = elim (cases_lt (length room) (length bytes)) [
  | inl lt ↦ absurd (other (grind (arith, nat_tests)))
  | inr le ↦ (grind (arith, nat_tests), le)
]

-- where there is room for all, all stands in front
pub whole_put : (room bytes : List ℕ) → length bytes ≤ length room → take (length bytes) (put_in room bytes) ≡ bytes
whole_put room bytes le = ap (λ (front : List ℕ). take (length bytes) (front ++ drop (length bytes) room)) (take_all (length room) bytes le) ∙ take-append_seam bytes (drop (length bytes) room)

pub whole_of : (room bytes : List ℕ) (size : ℕ) → size ≡ length bytes → length bytes ≤ length room → take size (put_in room bytes) ≡ bytes
whole_of room bytes size all le = ap (λ (n : ℕ). take n (put_in room bytes)) all ∙ whole_put room bytes le

-- What status 0 says where words begin with the name of a command.
use Rattle.show_run.proofs.Prelude.{◌≡◌, ℕ, List, [], ◌∷◌, Option, Some, None, map, refl, sym, ap, subst, ◌∙◌, Contains, All-contains, All-from_recursion, command_of, depth_in, has, options_for, step_in, Command, Check, Compile, Certify, Play, Report, Verify, Rehearse, Upload, Runs, Run, uploads_of, IsCalled, command_in, judges_apart, verb_of}
use Rattle.std.specs.Prelude.{codes, string_bytes, String}
use Rattle.std.specs.Option.{option_map}
use Rattle.std.specs.declared.alloc.Global.{Global}
use Rattle.std.proofs.lemmas.Option.{none-some}
use Rattle.command_words.specs.declared.options.OptionName.TheVariants.{Depth, Step, Start, Readback}
use Rattle.command_words.specs.declared.options.Options.{Options}
use Rattle.text_lines.specs.Marker.{part_of}
use Rattle.show_judge.specs.Headline.{UploadsText}

-- what a value was made of
made_of : {A B : Type 0} (f : A → B) (x : Option A) (y : B) → option_map f x ≡ Some y → (a : A) × (f a ≡ y)
made_of f None y e = absurd (none-some y e)
made_of f (Some a) y e = (a, cc)

-- where words are a command, and begin with a name, what is so of each command of this name is so of it
named : (words : List (String Global)) (name : List ℕ) (P : Command → Type 0) (c : Command) → IsCalled words name → command_in words ≡ Some c →
    ((options : List (List ℕ)) → command_of (name ∷ options) ≡ Some c → P c) → P c
named [] name P c called is each = absurd (none-some name called)
named (word ∷ words) name P c called is each =
    let same : string_bytes word ≡ name = cc in
    each (map string_bytes words) (ap (λ (w : List ℕ). command_of (w ∷ map string_bytes words)) (sym same) ∙ is)

-- words that begin with `compile` compile, with some depth
pub compiles : (words : List (String Global)) (c : Command) → IsCalled words (codes "compile") → command_in words ≡ Some c → (depth : ℕ) × (Compile depth ≡ c)
compiles words c called is =
    named words (codes "compile") (λ (d : Command). (depth : ℕ) × (Compile depth ≡ d)) c called is
    (λ options told. let o = made_of _ _ c told in (_, o.1))

-- status 0 of a command says that the drones of its input keep apart, and that each upload of it goes right
abbrev pub Uploads : Command → Type 0
Uploads c = (input : List ℕ) (r : Run) (status : ℕ) → Runs (verb_of c) r status → r.left ≡ Some input → status ≡ 0 → UploadsText (part_of input)

-- and so does each command of a name
abbrev pub UploadsAs : List ℕ → Type 0
UploadsAs name = (options : List (List ℕ)) (c : Command) → command_of (name ∷ options) ≡ Some c → Uploads c

pub uploads : (words : List (String Global)) (c : Command) (name : List ℕ) → IsCalled words name → Contains judges_apart name → command_in words ≡ Some c → Uploads c
uploads words c name called judges is =
    named words name Uploads c called is (λ options told. All-contains UploadsAs judges_apart name (All-from_recursion UploadsAs judges_apart all) judges options c told)
  where
    keeps : (name : List ℕ) (f : Options → Command) → ((o : Options) → Uploads (f o)) → ((options : List (List ℕ)) → (x : Option Options) × (command_of (name ∷ options) ≡ option_map f x)) → UploadsAs name
    keeps name f each by options c told = let x = by options in let o = made_of f x.0 c (sym x.1 ∙ told) in subst Uploads o.1 (each o.0)

    all : (UploadsAs (codes "check") × (UploadsAs (codes "compile") × (UploadsAs (codes "certify") × (UploadsAs (codes "play") × (UploadsAs (codes "report") × (UploadsAs (codes "verify") × (UploadsAs (codes "rehearse") × (UploadsAs (codes "upload") × Unit {0}))))))))
    all = (
      keeps (codes "check") (λ o. Check (depth_in o)) (λ o. uploads_of (verb_of (Check (depth_in o))) refl refl (λ s cut promised. promised)) (λ options. (options_for (Depth ∷ []) options, refl)),
      (
        keeps (codes "compile") (λ o. Compile (depth_in o)) (λ o. uploads_of (verb_of (Compile (depth_in o))) refl refl (λ s cut promised. promised)) (λ options. (options_for (Depth ∷ []) options, refl)),
        (
          keeps (codes "certify") (λ o. Certify (depth_in o)) (λ o. uploads_of (verb_of (Certify (depth_in o))) refl refl (λ s cut promised. promised)) (λ options. (options_for (Depth ∷ []) options, refl)),
          (
            keeps (codes "play") (λ o. Play (depth_in o) (step_in o)) (λ o. uploads_of (verb_of (Play (depth_in o) (step_in o))) refl refl (λ s cut promised. promised)) (λ options. (options_for (Depth ∷ Step ∷ []) options, refl)),
            (
              keeps (codes "report") (λ o. Report (depth_in o)) (λ o. uploads_of (verb_of (Report (depth_in o))) refl refl (λ s cut promised. promised)) (λ options. (options_for (Depth ∷ []) options, refl)),
              (
                keeps (codes "verify") (λ o. Verify) (λ o. uploads_of (verb_of Verify) refl refl (λ s cut promised. promised)) (λ options. (options_for [] options, refl)),
                (
                  keeps (codes "rehearse") (λ o. Rehearse (depth_in o) (has o Start) (has o Readback)) (λ o. uploads_of (verb_of (Rehearse (depth_in o) (has o Start) (has o Readback))) refl refl (λ s cut promised. promised)) (λ options. (options_for (Depth ∷ Start ∷ Readback ∷ []) options, refl)),
                  (keeps (codes "upload") (λ o. Upload (depth_in o) (has o Start) (has o Readback)) (λ o. uploads_of (verb_of (Upload (depth_in o) (has o Start) (has o Readback))) refl refl (λ s cut promised. promised)) (λ options. (options_for (Depth ∷ Start ∷ Readback ∷ []) options, refl)), tt),
                ),
              ),
            ),
          ),
        ),
      ),
    )

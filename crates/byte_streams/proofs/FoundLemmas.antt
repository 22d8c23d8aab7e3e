-- The part that a reader of parts returns.
use Rattle.byte_streams.proofs.Prelude.{common_steps, ◌≡◌, ℕ, ◌+◌, ◌<◌, ◌≤◌, Bool, true, false, List, [], ◌∷◌, ◌++◌, length, take, drop, Option, Some, None, Result, Ok, Err, refl, ap, ◌∙◌, append-nil, arith, IfOk, IfErr, IfSome, Consumes, Keeps, IsAtEnd, length-take, cases_Bool, Part, IoFault, is_marker, part_of, TakesPart}
use Rattle.std.proofs.lemmas.Result.{IfErr-weaker}
use Rattle.byte_streams.specs.declared.parts.IoFault.TheVariants.{TooLong}
use Rattle.byte_streams.proofs.MarkLemmas.{Gathers, Finds, Finds-marker, Finds-last_marker, Finds-none, too_long}

-- the part that was found in a text is the part that is taken
TakesPart-found : (text bytes rest : List ℕ) (new : Option (List ℕ)) (is_marked : Bool) → new ≡ Some rest → Finds text bytes is_marked rest → TakesPart (Some text) new bytes is_marked
TakesPart-found text bytes rest new is_marked e f = record { part = f.part_is; marker = f.marked_is; rest = e ∙ ap Some f.rest_is }

-- of bytes that are not told nothing is promised
TakesPart-unknown : (new : Option (List ℕ)) (bytes : List ℕ) (is_marked : Bool) → TakesPart None new bytes is_marked
TakesPart-unknown new bytes is_marked = record { part = tt; marker = tt; rest = tt }

-- the line feed of a marker line ends the part
pub at_marker : (old mid new : Option (List ℕ)) (bytes : List ℕ) (start : ℕ) → Consumes old mid bytes → Consumes mid new (10 ∷ []) → is_marker (drop start bytes) ≡ true → Gathers bytes start → TakesPart old new (take start bytes) true
at_marker None mid new bytes start before now is g = TakesPart-unknown new (take start bytes) true
at_marker (Some all) None new bytes start before now is g = absurd before
at_marker (Some all) (Some some) None bytes start before now is g = absurd now
at_marker (Some all) (Some some) (Some rest) bytes start before now is g = TakesPart-found all (take start bytes) rest (Some rest) true refl (Finds-marker all bytes rest start (before ∙ ap (λ (xs : List ℕ). bytes ++ xs) now) is g)

-- the rest is empty, and stays so
pub ends : (old mid new : Option (List ℕ)) (bytes part : List ℕ) (is_marked : Bool) → Consumes old mid bytes → IsAtEnd mid → Keeps mid new → Finds bytes part is_marked [] → TakesPart old new part is_marked
ends None mid new bytes part is_marked before none same f = TakesPart-unknown new part is_marked
ends (Some all) None new bytes part is_marked before none same f = absurd before
ends (Some all) (Some some) None bytes part is_marked before none same f = absurd same
ends (Some all) (Some some) (Some rest) bytes part is_marked before none same f =
    let e : all ≡ bytes = before ∙ ap (λ (xs : List ℕ). bytes ++ xs) none ∙ append-nil bytes in
    rw e (TakesPart-found bytes part [] (Some rest) is_marked (ap Some (same ∙ none)) f)

-- part is this, if there is one
pub made : (old new : Option (List ℕ)) (bytes : List ℕ) (is_marked : Bool) (most limit : ℕ) (r : Result Part IoFault) → TakesPart old new bytes is_marked → IfOk r (λ part. (part.bytes.items ≡ bytes) × (part.marker ≡ is_marked) × (most ≤ limit)) → IfOk r (λ part. TakesPart old new part.bytes.items part.marker)
made old new bytes is_marked most limit (Ok part) takes is = rw (is.0, is.1) takes
made old new bytes is_marked most limit (Err fault) takes is = tt

-- the part is too long, if it is refused
pub refused : (old new : Option (List ℕ)) (bytes : List ℕ) (is_marked : Bool) (limit : ℕ) (r : Result Part IoFault) → TakesPart old new bytes is_marked → IfErr r (λ fault. (fault ≡ TooLong) × (limit < length bytes)) → r ≡ Err TooLong → IfSome old (λ all. limit < length (part_of all))
refused None new bytes is_marked limit r takes is e = tt
refused (Some all) new bytes is_marked limit (Ok part) takes is e = absurd cc
refused (Some all) new bytes is_marked limit (Err fault) takes is e = omega (arith, is.1, ap length takes.part)

-- this many gathered bytes are too long a part
pub long_already : (old mid : Option (List ℕ)) (bytes : List ℕ) (start limit : ℕ) → limit + 4 ≤ length bytes → Consumes old mid bytes → Gathers bytes start → IfSome old (λ all. limit < length (part_of all))
long_already None mid bytes start limit long before g = tt
long_already (Some all) None bytes start limit long before g = absurd before
long_already (Some all) (Some rest) bytes start limit long before g = omega (arith, too_long all bytes rest start before g)

-- a part that ends before a marker line is refused where it is too long
pub refused_at_start : (old new : Option (List ℕ)) (bytes : List ℕ) (start limit : ℕ) (r : Result Part IoFault) → start ≤ length bytes → TakesPart old new (take start bytes) true → IfErr r (λ fault. (fault ≡ TooLong) × (limit < start)) → r ≡ Err TooLong → IfSome old (λ all. limit < length (part_of all))
refused_at_start old new bytes start limit r within takes is = refused old new (take start bytes) true limit r takes (IfErr-weaker r (λ fault. (fault ≡ TooLong) × (limit < start)) (λ fault. (fault ≡ TooLong) × (limit < length (take start bytes))) (λ fault h. (h.0, omega (arith, h.1, length-take start bytes))) is)

-- the part that the end of the input ends
pub at_end : (old mid new : Option (List ℕ)) (bytes : List ℕ) (start limit : ℕ) (r : Result Part IoFault) → Consumes old mid bytes → IsAtEnd mid → Keeps mid new → Gathers bytes start
    → (is_marker (drop start bytes) ≡ true → IfOk r (λ part. (part.bytes.items ≡ take start bytes) × (part.marker ≡ true) × (start ≤ limit)) × IfErr r (λ fault. (fault ≡ TooLong) × (limit < start)))
    → (is_marker (drop start bytes) ≡ false → IfOk r (λ part. (part.bytes.items ≡ bytes) × (part.marker ≡ false) × (length bytes ≤ limit)) × IfErr r (λ fault. (fault ≡ TooLong) × (limit < length bytes)))
    → IfOk r (λ part. TakesPart old new part.bytes.items part.marker) × (r ≡ Err TooLong → IfSome old (λ all. limit < length (part_of all)))
at_end old mid new bytes start limit r before none same g marked whole =
    grind (arith, common_steps, cases_Bool, drop, take, ends, Finds-last_marker, made, refused_at_start, Finds-none, refused)

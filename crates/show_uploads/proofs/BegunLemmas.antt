-- What is said of an upload that began, however it ended.
use Rattle.show_uploads.proofs.Prelude.{common_steps, ◌≡◌, inl, inr, ℕ, Bool, List, [], ◌∷◌, ◌++◌, length, length-append, append-nil, Option, Some, IfSome, sym, ap, ◌∙◌, arith, append_cancel_left, part_of, AppendsFront, end_frame, packet_byte, Link, Wrote, cut_of, some_map, IsLinkOf, HasBegun, upload_ways, UploadsText}

-- a packet's first byte isn't that of an end frame
never_front : (status : ℕ) (old new : Option (List ℕ)) → AppendsFront old new (end_frame status) → HasBegun old new → ⊥
never_front status old new (sent, rest, e, appends) (before, later, is, is_new) = grind (arith, common_steps, append_cancel_left)

-- where the end frame was written, or a prefix of it, no upload began
pub never_wrote : (wanted : ℕ) (old new : Option (List ℕ)) (before after status : ℕ) → Wrote wanted (end_frame wanted) old new before after status → HasBegun old new → ⊥
never_wrote wanted old new before after status wrote begun = elim wrote [
  | inl (e, appends, later) ↦ never_front wanted old new (end_frame wanted, [], sym (append-nil (end_frame wanted)), appends) begun
  | inr (e, rose, front, later) ↦ never_front wanted old new front begun
]

-- where nothing was written, neither
pub never_same : (old : Option (List ℕ)) → HasBegun old old → ⊥
never_same old (before, later, is, is_new) =
    let same : Some before ≡ Some (before ++ packet_byte ∷ later) = sym is ∙ is_new in
    let grown : before ≡ before ++ packet_byte ∷ later = cc in
    omega (arith, ap (λ (xs : List ℕ). length xs) grown, length-append before (packet_byte ∷ later))

-- the uploads of a show that is accepted
pub begun_link : (depth : ℕ) (start readback : Bool) (left : Option (List ℕ)) (link : Link) → IfSome left (λ all. IsLinkOf (upload_ways depth) start readback (cut_of all) link) →
    IfSome left (λ input. UploadsText (part_of input))
begun_link depth start readback left link is =
    some_map left _ _ (λ all it. record { flies = record { s = it.s; stands = it.stands; near = it.safe.near; apart = it.safe.apart }; uploads = it.safe.uploads }) is

-- A dialogue with its end frame.
use Rattle.link_dialogue.proofs.Prelude.{Bool, IfSome, List, None, Option, Some, [], ap, append-nil, append_assoc, arith, false, inl, refl, inr, sym, ℕ, ◌++◌, ◌∙◌, ◌∷◌, ◌≡◌, ◌≢◌, ◌⊎◌, Appends, Consumes, Appends-append, Rose, AppendsFront, end_frame, Dialogue, DialogueFails, DialogueGives, IsOwnEnd, IsStatus, StaysPrompt, Breaks, Ends, Fails}
use Rattle.link_dialogue.proofs.ItemLemmas.{BeginsWith-trans, front_more, same_front}

-- ---- what was sent

-- all, with the end frame
pub all_sent : (t : Dialogue) (status result : ℕ) (stream old mid new : Option (List ℕ)) → result ≡ status → Ends t status stream old mid → Appends mid new (end_frame status) →
    IfSome stream (λ bytes. (output : List ℕ) × DialogueGives t bytes result output × Appends old new output)
all_sent t status result None old mid new is e w = tt
all_sent t status result (Some bytes) old mid new is e w = rw is (
  t.sent e.0 ++ end_frame status,
  record { items = e.0; rest = e.1; takes = e.2; ends = e.3; sends = refl },
  Appends-append old mid new _ _ e.4 w,
)

-- what a failed read leaves
pub failed : (t : Dialogue) (stream left old mid new : Option (List ℕ)) → Fails t stream left old mid → Appends mid new (end_frame 6) →
    IfSome stream (λ _. (taken : List ℕ) × (output : List ℕ) × Consumes stream left taken × DialogueFails t taken output × Appends old new output)
failed t None left old mid new x w = tt
failed t (Some bytes) left old mid new x w = (
  x.0,
  t.sent x.1 ++ end_frame 6,
  x.3,
  record { items = x.1; rest = x.2; takes = x.4; fewer = x.5; going = x.6; begun = x.7; sends = refl },
  Appends-append old mid new _ _ x.8 w,
)

-- what a failed write leaves
abbrev pub Cut : Dialogue → Option (List ℕ) → Option (List ℕ) → ℕ → ℕ → Bool → Option (List ℕ) → Option (List ℕ) → Type 0
Cut t stream left before now at_end old new =
    IfSome stream (λ bytes. (output : List ℕ) × AppendsFront old new output
    × (((status : ℕ) × DialogueGives t bytes status output)
    ⊎ (Rose before now × (at_end ≡ false) × ((taken : List ℕ) × Consumes stream left taken × DialogueFails t taken output))))

pub cut_ended : (t : Dialogue) (status : ℕ) (stream left : Option (List ℕ)) (before now : ℕ) (at_end : Bool) (old mid new : Option (List ℕ)) → Ends t status stream old mid →
    AppendsFront mid new (end_frame status) → Cut t stream left before now at_end old new
cut_ended t status None left before now at_end old mid new e w = tt
cut_ended t status (Some bytes) left before now at_end old mid new e w =
    let all : List ℕ = t.sent e.0 ++ end_frame status in
    (all, front_more old mid new _ _ all e.4 w ([], sym (append-nil all)), inl (status, record { items = e.0; rest = e.1; takes = e.2; ends = e.3; sends = refl }))

pub cut_failed : (t : Dialogue) (stream left : Option (List ℕ)) (before now : ℕ) (at_end : Bool) (old mid new : Option (List ℕ)) → Rose before now → at_end ≡ false → Fails t stream left old mid →
    AppendsFront mid new (end_frame 6) → Cut t stream left before now at_end old new
cut_failed t None left before now at_end old mid new rose not_ended x w = tt
cut_failed t (Some bytes) left before now at_end old mid new rose not_ended x w =
    let all : List ℕ = t.sent x.1 ++ end_frame 6 in (
      all,
      front_more old mid new _ _ all x.8 w ([], sym (append-nil all)),
      inr (rose, not_ended, (x.0, x.3, record { items = x.1; rest = x.2; takes = x.4; fewer = x.5; going = x.6; begun = x.7; sends = refl })),
    )

pub cut_broken : (t : Dialogue) (stream left : Option (List ℕ)) (before now : ℕ) (at_end : Bool) (old new : Option (List ℕ)) → Breaks t stream old new → Cut t stream left before now at_end old new
cut_broken t None left before now at_end old new b = tt
cut_broken t (Some bytes) left before now at_end old new b = (b.0, b.1, inl b.2)

-- ---- no answer waits

-- what was sent so far is told where it was told before
abbrev pub Grew : Option (List ℕ) → Option (List ℕ) → Option (List ℕ) → Type 0
Grew stream old new = IfSome stream (λ _. (output : List ℕ) × Appends old new output)

pub grew_ended : (t : Dialogue) (status : ℕ) (stream old new : Option (List ℕ)) → Ends t status stream old new → Grew stream old new
grew_ended t status None old new e = tt
grew_ended t status (Some bytes) old new e = (t.sent e.0, e.4)

pub grew_failed : (t : Dialogue) (stream left old new : Option (List ℕ)) → Fails t stream left old new → Grew stream old new
grew_failed t None left old new x = tt
grew_failed t (Some bytes) left old new x = (t.sent x.1, x.8)

-- more that was sent is prompt too
pub prompt_kept : (t : Dialogue) (stream left old mid new : Option (List ℕ)) (more : List ℕ) → StaysPrompt t stream left old mid → Grew stream old mid → AppendsFront mid new more → StaysPrompt t stream left old new
prompt_kept t None left old mid new more p grew front bytes unread before taken sent known_bytes known_left cut known_before known_sent ys tail formed cut_so long = absurd (cc)
prompt_kept t (Some xs) left None mid new more p grew front bytes unread before taken sent known_bytes known_left cut known_before known_sent ys tail formed cut_so long = absurd (cc)
prompt_kept t (Some xs) left (Some b) None new more p grew front bytes unread before taken sent known_bytes known_left cut known_before known_sent ys tail formed cut_so long = absurd grew.1
prompt_kept t (Some xs) left (Some b) (Some m) None more p grew front bytes unread before taken sent known_bytes known_left cut known_before known_sent ys tail formed cut_so long = absurd front.3
prompt_kept t (Some xs) left (Some b) (Some m) (Some n) more p grew front bytes unread before taken sent known_bytes known_left cut known_before known_sent ys tail formed cut_so long =
    let e : b ≡ before = cc in
    let g : n ≡ before ++ sent = cc in
    let mid_is : m ≡ before ++ grew.0 = grew.1 ∙ ap (λ (l : List ℕ). l ++ grew.0) e in
    let sent_is : sent ≡ grew.0 ++ front.0 = same_front before sent (grew.0 ++ front.0) (sym g ∙ front.3 ∙ ap (λ (l : List ℕ). l ++ front.0) mid_is ∙ append_assoc before grew.0 front.0) in
    BeginsWith-trans _ _ _ (p bytes unread before taken grew.0 known_bytes known_left cut known_before (ap (λ (l : List ℕ). Some l) mid_is) ys tail formed cut_so long) (front.0, sent_is)

-- ---- the status

-- a dialogue's own end is neither that of a failed read nor that of a failed write
pub status_ended : (t : Dialogue) → ((items : List t.Item) (status : ℕ) → t.ended items ≡ Some status → (status ≢ 6) × (status ≢ 7)) → (status : ℕ) → IsOwnEnd t status → (status ≢ 6) × (status ≢ 7)
status_ended t own status (inl (items, is)) = own items status is
status_ended t own status (inr (inl e)) = (λ f. omega (arith, e, f), λ f. omega (arith, e, f))
status_ended t own status (inr (inr (inl e))) = (λ f. omega (arith, e, f), λ f. omega (arith, e, f))
status_ended t own status (inr (inr (inr e))) = (λ f. omega (arith, e, f), λ f. omega (arith, e, f))

pub status_known : (t : Dialogue) (status result : ℕ) → IsStatus t status → (result ≡ status) ⊎ (result ≡ 7) → IsStatus t result
status_known t status result known is = elim is [
  | inl e ↦ rw e known
  | inr e ↦ inr (inr e)
]

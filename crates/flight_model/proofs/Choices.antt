-- What the director chooses, phase by phase.
use Rattle.flight_model.proofs.Prelude.{◌≡◌, ◌||◌, Bool, true, false, cond, refl, Event, Flight, Steps, Landing, Off, Halted, State, Choice, Rest, Begin, Descend, Wait, Cut, Quit, Finish, chosen, on_landing, is_stop, is_land, is_due, may_land, is_over, has_landed}

-- what holds of each choice that may be made
cond-has : (P : Choice → Type 0) (b : Bool) (x y : Choice) → (b ≡ true → P x) → (b ≡ false → P y) → P (cond b x y)
cond-has P true x y f g = f refl
cond-has P false x y f g = g refl

pub steps-has : (P : Choice → Type 0) (f : Flight) (h : State) (e : Event) (fault : Bool) →
    (is_stop e ≡ true → P Cut) →
    (is_stop e ≡ false → h.wanted || (is_land e || fault) ≡ true → may_land f h ≡ true → P Descend) →
    (is_stop e ≡ false → h.wanted || (is_land e || fault) ≡ true → may_land f h ≡ false → h.wanted ≡ false → P Wait) →
    (is_stop e ≡ false → h.wanted || (is_land e || fault) ≡ false → is_due f h e ≡ true → P Begin) →
    P Rest → P (chosen f h e fault Steps)
steps-has P f h e fault cut descend wait begin rest =
    cond-has P (is_stop e) Cut (cond (h.wanted || (is_land e || fault)) (on_landing f h) (cond (is_due f h e) Begin Rest)) cut
    (λ go. cond-has P (h.wanted || (is_land e || fault)) (on_landing f h) (cond (is_due f h e) Begin Rest)
    (λ wants. cond-has P (may_land f h) Descend (cond h.wanted Rest Wait) (descend go wants)
    (λ none. cond-has P h.wanted Rest Wait (λ was. rest) (wait go wants none)))
    (λ on. cond-has P (is_due f h e) Begin Rest (begin go on) (λ no. rest)))

pub landing-has : (P : Choice → Type 0) (f : Flight) (h : State) (e : Event) (fault : Bool) →
    (is_stop e ≡ true → P Cut) → (is_stop e ≡ false → P Quit) → (is_stop e ≡ false → P Rest) → P (chosen f h e fault Landing)
landing-has P f h e fault cut quit rest =
    cond-has P (is_stop e) Cut (cond (has_landed f h) Quit Rest) cut
    (λ go. cond-has P (has_landed f h) Quit Rest (λ b. quit go) (λ b. rest go))

pub off-has : (P : Choice → Type 0) (f : Flight) (h : State) (e : Event) (fault : Bool) →
    (is_stop e ≡ true → P Cut) → (is_stop e ≡ false → P Finish) → (is_stop e ≡ false → P Rest) → P (chosen f h e fault Off)
off-has P f h e fault cut finish rest =
    cond-has P (is_stop e) Cut (cond (is_over f h) Finish Rest) cut
    (λ go. cond-has P (is_over f h) Finish Rest (λ b. finish go) (λ b. rest go))

pub halted-has : (P : Choice → Type 0) (f : Flight) (h : State) (e : Event) (fault : Bool) → P Finish → P Rest → P (chosen f h e fault Halted)
halted-has P f h e fault finish rest = cond-has P (is_over f h) Finish Rest (λ b. finish) (λ b. rest)

use Rattle.show_direct.proofs.Prelude.{◌≡◌, Err, List, Ok, Result, ℕ, subst, sym, Exchange, Went, Went-trans, back, Accepted, Flight, Held, MarkerLaw, FlightOptions, ShowLaw, Told, Unflown, unflown_by, FlightRead, IsRead, coming, down_exchange, flight_exchange, show_exchange, up_exchange}
use Rattle.std.specs.Result.{IsErrAnd}
use Rattle.show_direct.proofs.CarryLemmas.{ends, little_read, read_next}
use Rattle.show_direct.proofs.FlownLemmas.{flight_read, no_flight_read}
use Rattle.show_direct.proofs.flying.read_flight.Goals as goal

-- what a `?` returns
failed : (o : FlightOptions) (all : List ℕ) (x : Exchange) (held holds : Held) (t u : Told) (result : Result Flight Unflown) (why : Unflown) → IsErrAnd result (λ e. e ≡ why) →
    FlightRead o all x held t holds u (Err why) → FlightRead o all x held t holds u result
failed o all x held holds t u (Ok f) why is read = absurd is
failed o all x held holds t u (Err e) why is read = subst (λ (w : Unflown). FlightRead o all x held t holds u (Err w)) (sym is) read

-- two texts were read, or three
two : ShowLaw → MarkerLaw → (o : FlightOptions) (all : List ℕ) (p q r z : Held) (t u v w : Told) (a b : Accepted) (result : Result Flight Unflown) → (up : IsRead o.depth (coming p all t) (coming q all u) q.ended a) →
    (show : IsRead o.depth (coming q all u) (coming r all v) r.ended b) → Went p.ended q.ended t u → Went q.ended r.ended u v →
    FlightRead o all (down_exchange o up.accepted.s show.accepted.s) r v z w result → FlightRead o all (up_exchange o) p t z w result
two law marker o all p q r z t u v w a b result up show first second later =
    read_next law marker o.depth (λ s. show_exchange o s) o all p q z t u w a result up first
    (read_next law marker o.depth (λ s. down_exchange o up.accepted.s s) o all q r z u v w b result show second later)

three : ShowLaw → MarkerLaw → (o : FlightOptions) (all : List ℕ) (p q r s z : Held) (t u v x w : Told) (a b d : Accepted) (result : Result Flight Unflown) → (up : IsRead o.depth (coming p all t) (coming q all u) q.ended a) →
    (show : IsRead o.depth (coming q all u) (coming r all v) r.ended b) → (down : IsRead o.depth (coming r all v) (coming s all x) s.ended d) → Went p.ended q.ended t u → Went q.ended r.ended u v → Went r.ended s.ended v x →
    FlightRead o all (flight_exchange o up.accepted.s show.accepted.s down.accepted.s) s x z w result → FlightRead o all (up_exchange o) p t z w result
three law marker o all p q r s z t u v x w a b d result up show down first second third later =
    two law marker o all p q r z t u v w a b result up show first second
    (read_next law marker o.depth (λ y. flight_exchange o up.accepted.s show.accepted.s y) o all r s z v x w d result down third later)

pub returns-in_err-up-clause-read : goal.returns-in_err-up-clause-read
returns-in_err-up-clause-read g c all may =
    let o = c.args.options.now in
    let told = g.S.Source.told in
    failed o all (up_exchange o) c.args.parts.now c.read_show.new.parts (told c.args.source.now) (told c.read_show.new.source) c.from_residual.result c.in_err-up.field-0.0 c.from_residual.ensures.1
    (ends c.show_law.ensures c.marker_law.ensures o.depth (λ s. show_exchange o s) o all c.args.parts.now c.read_show.new.parts (told c.args.source.now) (told c.read_show.new.source) c.in_err-up.field-0.0
    (c.in_err-up.ensures.gives all may) c.read_show.ensures.went.gives.later)

pub returns-in_err-show-clause-read : goal.returns-in_err-show-clause-read
returns-in_err-show-clause-read g c all may =
    let o = c.args.options.now in
    let told = g.S.Source.told in
    let up = c.in_ok-up.ensures.gives all (back _ _ _ _ all c.read_show-2.ensures.went may) in
    failed o all (up_exchange o) c.args.parts.now c.read_show-2.new.parts (told c.args.source.now) (told c.read_show-2.new.source) c.from_residual-in_err-show.result c.in_err-show.field-0.0 c.from_residual-in_err-show.ensures.1
    (read_next c.show_law.ensures c.marker_law.ensures o.depth (λ s. show_exchange o s) o all c.args.parts.now c.read_show.new.parts c.read_show-2.new.parts (told c.args.source.now) (told c.read_show.new.source)
    (told c.read_show-2.new.source) c.in_ok-up.up (Err c.in_err-show.field-0.0) up c.read_show.ensures.went
    (ends c.show_law.ensures c.marker_law.ensures o.depth (λ s. down_exchange o up.accepted.s s) o all c.read_show.new.parts c.read_show-2.new.parts (told c.read_show.new.source) (told c.read_show-2.new.source)
    c.in_err-show.field-0.0 (c.in_err-show.ensures.gives all may) c.read_show-2.ensures.went.gives.later))

pub returns-in_err-down-clause-read : goal.returns-in_err-down-clause-read
returns-in_err-down-clause-read g c all may =
    let o = c.args.options.now in
    let told = g.S.Source.told in
    let second = back _ _ _ _ all c.read_show-3.ensures.went may in
    let up = c.in_ok-up.ensures.gives all (back _ _ _ _ all c.read_show-2.ensures.went second) in
    let show = c.in_ok-show.ensures.gives all second in
    failed o all (up_exchange o) c.args.parts.now c.read_show-3.new.parts (told c.args.source.now) (told c.read_show-3.new.source) c.from_residual-in_err-down.result c.in_err-down.field-0.0 c.from_residual-in_err-down.ensures.1
    (two c.show_law.ensures c.marker_law.ensures o all c.args.parts.now c.read_show.new.parts c.read_show-2.new.parts c.read_show-3.new.parts (told c.args.source.now) (told c.read_show.new.source)
    (told c.read_show-2.new.source) (told c.read_show-3.new.source) c.in_ok-up.up c.in_ok-show.show (Err c.in_err-down.field-0.0) up show c.read_show.ensures.went c.read_show-2.ensures.went
    (ends c.show_law.ensures c.marker_law.ensures o.depth (λ s. flight_exchange o up.accepted.s show.accepted.s s) o all c.read_show-2.new.parts c.read_show-3.new.parts (told c.read_show-2.new.source)
    (told c.read_show-3.new.source) c.in_err-down.field-0.0 (c.in_err-down.ensures.gives all may) c.read_show-3.ensures.went.gives.later))

pub returns-in_err-down-clause-little : goal.returns-in_err-down-clause-little
returns-in_err-down-clause-little g c all may long =
    little_read _ _ _ _ _ _ (c.in_ok-up.ensures.gives all (back _ _ _ _ all c.read_show-2.ensures.went (back _ _ _ _ all c.read_show-3.ensures.went may))) long

pub returns-in_err-down-clause-went : goal.returns-in_err-down-clause-went
returns-in_err-down-clause-went g c = Went-trans _ _ _ _ _ _ c.read_show.ensures.went (Went-trans _ _ _ _ _ _ c.read_show-2.ensures.went c.read_show-3.ensures.went)

pub returns-in_err-flight-clause-read : goal.returns-in_err-flight-clause-read
returns-in_err-flight-clause-read g c all may =
    let o = c.args.options.now in
    let told = g.S.Source.told in
    let second = back _ _ _ _ all c.read_show-3.ensures.went may in
    let up = c.in_ok-up.ensures.gives all (back _ _ _ _ all c.read_show-2.ensures.went second) in
    let show = c.in_ok-show.ensures.gives all second in
    let down = c.in_ok-down.ensures.gives all may in
    failed o all (up_exchange o) c.args.parts.now c.read_show-3.new.parts (told c.args.source.now) (told c.read_show-3.new.source) c.from_residual-in_err-flight.result (unflown_by c.in_err-flight.field-0.0) c.from_residual-in_err-flight.ensures.1
    (three c.show_law.ensures c.marker_law.ensures o all c.args.parts.now c.read_show.new.parts c.read_show-2.new.parts c.read_show-3.new.parts c.read_show-3.new.parts (told c.args.source.now)
    (told c.read_show.new.source) (told c.read_show-2.new.source) (told c.read_show-3.new.source) (told c.read_show-3.new.source) c.in_ok-up.up c.in_ok-show.show c.in_ok-down.down (Err (unflown_by c.in_err-flight.field-0.0)) up show down
    c.read_show.ensures.went c.read_show-2.ensures.went c.read_show-3.ensures.went
    (no_flight_read o up.accepted.s show.accepted.s down.accepted.s all c.read_show-3.new.parts (told c.read_show-3.new.source) c.in_err-flight.field-0.0 c.read_show-3.ensures.most
    (c.in_err-flight.ensures.made up.accepted.s show.accepted.s down.accepted.s up.accepted.fitted show.accepted.fitted down.accepted.fitted)))

pub returns-in_err-flight-clause-little : goal.returns-in_err-flight-clause-little
returns-in_err-flight-clause-little g c all may long =
    little_read _ _ _ _ _ _ (c.in_ok-up.ensures.gives all (back _ _ _ _ all c.read_show-2.ensures.went (back _ _ _ _ all c.read_show-3.ensures.went may))) long

pub returns-in_err-flight-clause-went : goal.returns-in_err-flight-clause-went
returns-in_err-flight-clause-went g c = Went-trans _ _ _ _ _ _ c.read_show.ensures.went (Went-trans _ _ _ _ _ _ c.read_show-2.ensures.went c.read_show-3.ensures.went)

pub returns-clause-read : goal.returns-clause-read
returns-clause-read g c all may =
    let o = c.args.options.now in
    let told = g.S.Source.told in
    let second = back _ _ _ _ all c.read_show-3.ensures.went may in
    let up = c.in_ok-up.ensures.gives all (back _ _ _ _ all c.read_show-2.ensures.went second) in
    let show = c.in_ok-show.ensures.gives all second in
    let down = c.in_ok-down.ensures.gives all may in
    three c.show_law.ensures c.marker_law.ensures o all c.args.parts.now c.read_show.new.parts c.read_show-2.new.parts c.read_show-3.new.parts c.read_show-3.new.parts (told c.args.source.now)
    (told c.read_show.new.source) (told c.read_show-2.new.source) (told c.read_show-3.new.source) (told c.read_show-3.new.source) c.in_ok-up.up c.in_ok-show.show c.in_ok-down.down (Ok c.in_ok-flight.flight) up show down
    c.read_show.ensures.went c.read_show-2.ensures.went c.read_show-3.ensures.went
    (flight_read o up.accepted.s show.accepted.s down.accepted.s all c.read_show-3.new.parts (told c.read_show-3.new.source) c.in_ok-flight.flight
    (c.in_ok-flight.ensures.made up.accepted.s show.accepted.s down.accepted.s up.accepted.fitted show.accepted.fitted down.accepted.fitted))

pub returns-clause-little : goal.returns-clause-little
returns-clause-little g c all may long =
    little_read _ _ _ _ _ _ (c.in_ok-up.ensures.gives all (back _ _ _ _ all c.read_show-2.ensures.went (back _ _ _ _ all c.read_show-3.ensures.went may))) long

pub returns-clause-went : goal.returns-clause-went
returns-clause-went g c = Went-trans _ _ _ _ _ _ c.read_show.ensures.went (Went-trans _ _ _ _ _ _ c.read_show-2.ensures.went c.read_show-3.ensures.went)

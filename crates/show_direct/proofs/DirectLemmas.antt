-- The laws of `direct`.
use Rattle.show_direct.proofs.Prelude.{ℕ, true, List, Option, Appends, rest_of, ShowLaw, PlainShow, KeptLaw, FlightLinkLaw, IsSafe, IsVerb, cut_of, Outcome, FlightOptions, fault_of, flight_of, routes_of, IsExchange, DirectLaw, FliesWhole, direct_verb, down_exchange, flight_exchange, show_exchange}
use Rattle.flight_model.specs.Law.{OverLaw}
use Rattle.show_direct.proofs.ExchangeLemmas.{flown_by, is_exchange_by, is_text_exchange, is_text_verb, led_on}
use Rattle.show_direct.proofs.FlightLemmas.{are_flight, some_steps}
use Rattle.show_direct.proofs.KeptLemmas.{flies_show, said_kept}

-- what status 0 says of an input
whole : ShowLaw → OverLaw → KeptLaw → (o : FlightOptions) (input : List ℕ) (p : Outcome) (old new : Option (List ℕ)) → IsSafe (direct_verb o) (cut_of input) p → Appends old new p.output → FliesWhole o input old new
whole law over kept o input p old new safe appended =
    let show = led_on o.depth (λ s. down_exchange o safe.s s) (rest_of input) p safe.gives safe.done in
    let down = led_on o.depth (λ d. flight_exchange o safe.s show.s d) (rest_of (rest_of input)) p show.gives safe.done in
    let flown = flown_by o safe.s show.s down.s (fault_of o safe.s show.s down.s) (rest_of (rest_of (rest_of input))) p down.gives safe.done in
    let flight = are_flight o safe.s show.s down.s flown.0 in
    let f = flight_of o safe.s show.s down.s in
    let said = said_kept f (rest_of (rest_of (rest_of input))) p.output flown.1 in
    record {
      up = record { s = safe.s; stands = safe.stands; near = safe.near; apart = safe.promised.apart };
      show = show.s;
      down = down.s;
      show_stands = show.accepts.stands;
      down_stands = down.accepts.stands;
      flight = flight;
      output = p.output;
      says = record {
        says = record { events = flown.1.items; each = flown.1.takes.each; stand = (flown.1.rest, flown.1.takes.cut); said = flown.1.sends };
        told = over f (some_steps (routes_of o safe.s show.s down.s)) flown.1.items true said;
      };
      kept = kept.kept f flown.1.items (flies_show law kept o safe.s show.s down.s (rest_of input) flight show.accepts) said;
      written = appended;
    }

is_flight_exchange : FlightLinkLaw → (o : FlightOptions) (up show down : PlainShow) → IsExchange (flight_exchange o up show down)
is_flight_exchange link o up show down = is_exchange_by link o up show down (fault_of o up show down)

is_down_exchange : ShowLaw → FlightLinkLaw → (o : FlightOptions) (up show : PlainShow) → IsExchange (down_exchange o up show)
is_down_exchange law link o up show = is_text_exchange law o.depth (λ d. flight_exchange o up show d) (is_flight_exchange link o up show)

is_show_exchange : ShowLaw → FlightLinkLaw → (o : FlightOptions) (up : PlainShow) → IsExchange (show_exchange o up)
is_show_exchange law link o up = is_text_exchange law o.depth (λ s. down_exchange o up s) (is_down_exchange law link o up)

is_direct : ShowLaw → FlightLinkLaw → OverLaw → KeptLaw → (o : FlightOptions) → IsVerb (direct_verb o)
is_direct law link over kept o =
    let is = is_text_verb o.depth (λ u. show_exchange o u) (is_show_exchange law link o) in
    record {
      one = is.one;
      some = is.some;
      done = is.done;
      apart = is.apart;
      headline = λ input p old new safe appended. whole law over kept o input p old new safe appended;
    }

pub direct_laws : ShowLaw → FlightLinkLaw → OverLaw → KeptLaw → DirectLaw
direct_laws law link over kept = record {
  up = is_direct law link over kept;
  show = λ o up. is_text_verb o.depth (λ s. down_exchange o up s) (is_down_exchange law link o up);
  down = λ o up show. is_text_verb o.depth (λ d. flight_exchange o up show d) (is_flight_exchange link o up show);
}

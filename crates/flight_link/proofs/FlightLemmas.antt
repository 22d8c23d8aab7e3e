-- A flight is a dialogue, so it has one end, with one output.
use Rattle.flight_link.proofs.Prelude.{arith, Flight, FrameLaw, drones, IsDialogue, dialogue_of}
use Rattle.flight_link.proofs.SendLemmas.{sent-front}
use Rattle.flight_link.proofs.EventLemmas.{begun, event_some, found, none_begun, short, step}

pub is_dialogue : FrameLaw → (f : Flight) → IsDialogue (dialogue_of f)
is_dialogue law f = record {
  some = event_some;
  step = step law (drones f);
  found = found law (drones f);
  none = none_begun (drones f);
  begun = begun law (drones f);
  short = λ bytes b. (let few = short (drones f) bytes b in omega (arith, few));
  front = sent-front f;
}

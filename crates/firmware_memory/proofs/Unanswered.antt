-- A drone gives no answer exactly to a packet that is none of the four, and such a packet changes
-- nothing.
use Rattle.std.proofs.lemmas.Grind.{common_steps}
use Rattle.std.proofs.Common.{◌≡◌, ℕ, Bool, true, false, cond, not, nat_lt, nat_le, ◌==◌, ◌||◌, ◌+◌, List, [], ◌∷◌, length, refl, arith, is_some, IsNone, IsErr, Result, Ok, Err}
use Rattle.crtp_packets.specs.Reading.{down_of}
use Rattle.crtp_packets.specs.declared.reading.PacketFault.{PacketFault}
use Rattle.crtp_packets.specs.declared.reading.Down.{Down}
use Rattle.crtp_packets.specs.declared.reading.Down.TheVariants as down
use Rattle.std.specs.Str.{bytes_eq}
use Rattle.crtp_packets.specs.Commands.{command_of}
use Rattle.crtp_packets.specs.declared.chunks.TheConstants.{MEMORY_BYTES}
use Rattle.upload_model.specs.declared.limits.TheConstants.{TABLE_ENTRIES}
use Rattle.crtp_packets.specs.declared.commands.CommandFault.{CommandFault}
use Rattle.crtp_packets.specs.declared.commands.Command.{Command}
use Rattle.crtp_packets.specs.declared.commands.Command.TheVariants.{Define, Start}
use Rattle.upload_model.specs.Drones.{DroneState, Handled, silent, has_entry, write_taken, read_taken, command_taken, message_taken, handled}
use Rattle.firmware_memory.specs.Shown.{IsOtherMessage, IsOther}

-- a test can't be both
clash : (b : Bool) → b ≡ true → b ≡ false → ⊥
clash b yes_it_is no_it_is = grind arith

-- a choice of two answers is an answer
either : (b : Bool) (x y : Handled) → is_some x.answer ≡ true → is_some y.answer ≡ true → is_some (cond b x y).answer ≡ true
either true x y p q = p
either false x y p q = q

-- a define and a start are answered
unanswered_command : (d : DroneState) (packet : List ℕ) (c : Result Command CommandFault) →
    IsNone (command_taken d packet c).answer → IsErr c
unanswered_command d packet (Ok (Define id location form offset pieces)) none = grind (arith, common_steps, clash, is_some, either, nat_le, not)
unanswered_command d packet (Ok (Start mask relative reversed id scale)) none =
    absurd (clash (is_some (command_taken d packet (Ok (Start mask relative reversed id scale))).answer)
    (either (not (mask == 0) || not (relative == 0) || not (reversed == 0) || not (bytes_eq scale (0 ∷ 0 ∷ 0x80 ∷ 0x3F ∷ [])) || nat_le TABLE_ENTRIES id || not (has_entry d.table id)) _ _ refl refl) none)
unanswered_command d packet (Err fault) none = refl

-- a write and a read are answered
unanswered_message : (d : DroneState) (packet : List ℕ) (m : Result Down PacketFault) →
    IsNone (message_taken d packet m).answer → IsOtherMessage m
unanswered_message d packet (Ok (down.Write id address piece)) none =
    clash (is_some (write_taken d id address piece.items).answer)
    (either (not (id == d.memory_id)) _ _ refl (either (nat_lt MEMORY_BYTES (address + length piece.items)) _ _ refl refl)) none
unanswered_message d packet (Ok (down.Read id address len)) none =
    clash (is_some (read_taken d id address len).answer)
    (either (not (id == d.memory_id)) _ _ refl (either (len == 0 || nat_lt 20 len || nat_lt MEMORY_BYTES (address + len)) _ _ refl refl)) none
unanswered_message d packet (Ok (down.Command payload)) none = unanswered_command d packet (command_of payload.items) none
unanswered_message d packet (Err fault) none = tt

-- what is no command leaves a drone as it is
silent_command : (d : DroneState) (packet : List ℕ) (c : Result Command CommandFault) → IsErr c → command_taken d packet c ≡ silent d
silent_command d packet (Ok command) err = absurd (clash false err refl)
silent_command d packet (Err fault) err = refl

-- what is none of the four leaves a drone as it is
silent_message : (d : DroneState) (packet : List ℕ) (m : Result Down PacketFault) → IsOtherMessage m → message_taken d packet m ≡ silent d
silent_message d packet (Ok (down.Write id address piece)) other = absurd other
silent_message d packet (Ok (down.Read id address len)) other = absurd other
silent_message d packet (Ok (down.Command payload)) other = silent_command d packet (command_of payload.items) other
silent_message d packet (Err fault) other = refl

pub unanswered : (d : DroneState) (packet : List ℕ) → IsNone (handled d packet).answer → IsOther packet
unfolding handled
unanswered d packet none = unanswered_message d packet (down_of packet) none

pub unmoved : (d : DroneState) (packet : List ℕ) → IsOther packet → handled d packet ≡ silent d
unfolding handled
unmoved d packet other = silent_message d packet (down_of packet) other

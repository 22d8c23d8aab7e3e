-- What an upload sends as frames, and what a frame that comes in is for its host.
use Rattle.std.specs.Prelude.{ℕ, ◌+◌, ◌-◌, nat_le, if◌then◌else◌, List, [], ◌∷◌, ◌++◌}
use Rattle.std.specs.List.{flat_map}
use Rattle.link_frames.specs.declared.frame.Frame.{Frame}
use Rattle.link_frames.specs.declared.frame.Frame.TheVariants as frame
use Rattle.link_frames.specs.Frames.{frame_bytes}
use Rattle.upload_model.specs.declared.events.Event.{Event}
use Rattle.upload_model.specs.declared.events.Event.TheVariants as event
use Rattle.upload_model.specs.declared.events.Sent.{Sent}
use Rattle.link_upload.specs.Links.{Link}

-- ---- out

-- the frame of a packet that is sent; a frame counts drones from 1
abbrev pub packet_frame : Link → Sent → List ℕ
packet_frame l x = frame_bytes (frame.Packet (x.drone + 1) (l.packet x.drone x.packet))

-- the frames of packets, in their order
abbrev pub packet_frames : Link → List Sent → List ℕ
packet_frames l xs = flat_map (packet_frame l) xs

-- what these events send that come after the events g
abbrev pub answers_after : Link → List Event → List Event → List ℕ
answers_after l g [] = []
answers_after l g (e ∷ es) = packet_frames l (l.out g e) ++ answers_after l (g ++ e ∷ []) es

-- All that is sent up to the last of the events h: what is sent before any event, and what each of them sends.
unfoldable pub sent_over : Link → List Event → List ℕ
sent_over l h = packet_frames l l.first ++ answers_after l [] h

-- ---- in

-- What a frame is for the host: a tick, or what comes up from a drone of the session. A packet of another drone is no
-- event.
abbrev pub event_in : Link → Frame → List Event
event_in l frame.Tick = event.Tick ∷ []
event_in l (frame.Packet drone packet) = if nat_le drone l.drones then event.Up (drone - 1) packet ∷ [] else []

-- what frames are for the host
abbrev pub events_in : Link → List Frame → List Event
events_in l frames = flat_map (event_in l) frames

-- What went to each drone and what came back, in order.
use Rattle.std.specs.Prelude.{ℕ, ◌+◌, ◌<◌, ◌≤◌, ◌==◌, List, [], map, filter, All, vec_len, vec_capacity, slice_index_or}
use Rattle.upload_model.specs.declared.events.Sent.{Sent}
use Rattle.upload_model.specs.Sessions.{Upload, packet_at, packet_count}
use Rattle.fleet_world.specs.declared.traffic.Traffic.{Traffic}

-- The packets ever sent to each drone, by their numbers.
abbrev pub sent_of : List Traffic → List (List ℕ)
sent_of traffic = map (λ t. t.sent.items) traffic

-- The answers that each drone ever gave.
abbrev pub given_of : List Traffic → List (List (List ℕ))
given_of traffic = map (λ t. t.given) traffic

-- What such a list has of drone d. Past the last drone there is nothing.
abbrev pub row_of : {X : Type 0} → List (List X) → ℕ → List X
row_of rows d = slice_index_or rows d []

-- The packets of drone d that have these numbers.
abbrev pub packets_at : Upload → ℕ → List ℕ → List (List ℕ)
packets_at s d ks = map (packet_at s d) ks

-- The numbers of those packets of a list that go to drone d.
abbrev pub numbers_for : List Sent → ℕ → List ℕ
numbers_for xs d = map (λ x. x.packet) (filter (λ x. x.drone == d) xs)

-- Each number is that of a packet of its drone.
abbrev pub AreNumbersOf : Upload → List (List ℕ) → Type 0
AreNumbersOf s rows = (d : ℕ) → All (λ k. k < packet_count s d) (row_of rows d)

-- There is room for n packets more to each drone.
abbrev pub HasRoom : List Traffic → ℕ → Type 0
HasRoom traffic n = All (λ t. vec_len t.sent + n ≤ vec_capacity t.sent) traffic

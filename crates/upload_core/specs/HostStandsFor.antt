-- Which lists of events a host stands for.
use Rattle.std.specs.Prelude.{◌≡◌, ℕ, ◌<◌, ◌⊎◌, true, List}
use Rattle.upload_model.specs.declared.events.Event.{Event}
use Rattle.upload_model.specs.declared.events.Progress.TheVariants.{Going, Done}
use Rattle.upload_model.specs.declared.events.Sent.{Sent}
use Rattle.upload_model.specs.Sessions.{drone_count, packet_count}
use Rattle.upload_model.specs.Hosts.{acked, flight, includes, ticks, progress}
use Rattle.upload_core.specs.HostState.{HostView}

-- The host has come to where the events h lead it: its last answer is that of h; while the upload is
-- going and after Done it has marked what h acknowledges; and while the upload is going it has
-- counted the ticks of what is in flight. After the other ends only the answer counts.
pub record HostStandsFor (host : HostView) (h : List Event) : Type 0 where
  pub answer : host.progress ≡ progress host.session h
  pub marked : (host.progress ≡ Going) ⊎ (host.progress ≡ Done) →
      (d k : ℕ) → d < drone_count host.session → k < packet_count host.session d →
      host.marked d k ≡ acked host.session h d k
  pub counted : host.progress ≡ Going → (x : Sent) → x.drone < drone_count host.session →
      includes (flight host.session h) x ≡ true → host.counted x.drone x.packet ≡ ticks host.session h x

use Rattle.flight_director.proofs.Prelude.{◌≡◌, ◌<◌, ◌∙◌, List, Some, sym, ap, arith, set, get_or, length, None, false, length-set, slice_get-get_or, slice_get, Track, State, track_with, with_tracks}
use Rattle.flight_director.proofs.Walks.{refill-same, take-by}
use Rattle.flight_director.proofs.state.State.take.Goals as goal

pub returns-then-d-len : goal.returns-then-d-len
returns-then-d-len c =
    let d = c.in-Seen.drone in
    let v : State = record {
      phase = c.self.inside.phase;
      next = c.self.inside.next;
      waited = c.self.inside.waited;
      steady = c.self.inside.steady;
      stood = c.self.inside.stood;
      showing = c.self.inside.showing;
      kept = c.self.inside.kept;
      wanted = c.self.inside.wanted;
      tracks = c.self.inside.tracks.items;
      answered = c.self.inside.answered.items;
    } in
    let same : v ≡ c.args.self.now = c.self.view_is in
    let tracks : c.self.inside.tracks.items ≡ c.args.self.now.tracks = ap (λ (s : State). s.tracks) same in
    let put : c.put_track.new.tracks ≡ set c.self.inside.tracks.items d c.track_with-track.result =
    c.put_track.ensures ∙ ap (λ ts. set ts d c.track_with-track.result) c.as_mut_slice-then-d-len.ensures.value in
    let long : length c.put_track.new.tracks ≡ length c.self.inside.tracks.items =
    ap (λ (ts : List Track). length ts) put ∙ length-set c.self.inside.tracks.items d c.track_with-track.result in
    let inside : d < length c.self.inside.tracks.items = omega (arith, c.len.ensures.value, c.if-d-len.true) in
    let t : Track = get_or c.args.self.now.tracks d (record { seen = None; off = None; unsure = None; outside = false }) in
    let at : slice_get c.args.self.now.tracks d ≡ Some t = slice_get-get_or c.args.self.now.tracks d (record { seen = None; off = None; unsure = None; outside = false }) (omega (arith, ap (λ (ts : List Track). length ts) tracks, inside)) in
    ap (λ ts. with_tracks v ts) (refill-same c.self.inside.tracks.items c.put_track.new.tracks long)
    ∙ (ap (λ s. with_tracks s c.put_track.new.tracks) same
    ∙ take-by c.args.f.now c.args.self.now c.args.e.now d c.in-Seen.sample t c.put_track.new.tracks c.in-Seen.is at
    (put
    ∙ (ap (λ ts. set ts d c.track_with-track.result) tracks
    ∙ ap (λ (u : Track). set c.args.self.now.tracks d u)
    (c.track_with-track.ensures
    ∙ ap (λ (ts : List Track). track_with c.args.f.now c.args.self.now d (get_or ts d (record { seen = None; off = None; unsure = None; outside = false })) c.in-Seen.sample) (c.as_slice.ensures.value ∙ tracks)))))

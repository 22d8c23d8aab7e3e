use Rattle.upload_core.proofs.Prelude.{◌≡◌, ◌⊎◌, ◌<◌, ◌∙◌, ℕ, true, List, length, ap, sym, subst, arith, inl, inr, cases_lt, Event, Going, Done, drone_count, packet_count, acked, progress, Row, HostState, view_of, HostStandsFor, is_marked, row_at, marked, cursor_of, IsRow}
use Rattle.upload_core.proofs.Windows.{row-at}
use Rattle.upload_core.proofs.Standing.{row-shape}
use Rattle.upload_core.proofs.Looking.{marks-stand, cursor-here, cursor-end}
use Rattle.upload_core.proofs.host.Host.cursor.Goals as goal
use Rattle.upload_core.proofs.host.Host.cursor.Goals.{After-index}

known : (c : After-index) → c.args.drone < drone_count c.self.inside.session
known c = subst (λ (v : HostState). c.args.drone < drone_count v.session) (sym c.self.view_is) c.requires

-- the row that is indexed
here : (c : After-index) → row_at c.self.inside.rows.items c.args.drone ≡ c.index.result.now
here c =
    row-at c.self.inside.rows.items c.args.drone c.index.result.now c.index.ensures
    (let n : length c.self.inside.rows.items ≡ drone_count c.self.inside.session = c.self.invariant.0.count in let l = known c in omega arith)

pub cursor-requires : goal.cursor-requires
cursor-requires c =
    let w = (goal.at.cursor-requires c).After-index in
    subst (IsRow 0) (here w)
    (row-shape c.self.inside.session c.self.inside.phase c.self.inside.rows.items c.self.invariant.0 c.args.drone
    (let n : length c.self.inside.rows.items ≡ drone_count c.self.inside.session = c.self.invariant.0.count in let l = known w in omega arith))

pub returns : goal.returns
returns c =
    subst
    (λ (v : HostState). (h : List Event) → HostStandsFor (view_of v) h → (progress v.session h ≡ Going) ⊎ (progress v.session h ≡ Done) → c.min.result ≡ cursor_of v.session (acked v.session h) c.args.drone)
    c.self.view_is
    (λ h stands either.
    let w = (goal.at.returns c).After-index in
    let same
    = marks-stand (record { session = c.self.inside.session; rows = c.self.inside.rows.items; phase = c.self.inside.phase; progress = c.self.inside.progress }) h c.args.drone (known w) stands either in
    let past : (k : ℕ) → k < c.cursor.result → marked c.self.inside.rows.items c.args.drone k ≡ true = λ k l. ap (λ (row : Row). is_marked row k) (here w) ∙ c.cursor.ensures.past k l in
    let count : c.count-count.result ≡ packet_count c.self.inside.session c.args.drone = c.count-count.ensures.value in
    let least = c.min.ensures in
    elim (cases_lt c.cursor.result (packet_count c.self.inside.session c.args.drone)) [
      | inl below ↦
          (let e : c.min.result ≡ c.cursor.result = omega (arith, least, count, below) in e)
          ∙ cursor-here c.self.inside.session (marked c.self.inside.rows.items) (acked c.self.inside.session h) c.args.drone same c.cursor.result past
          (ap (λ (row : Row). is_marked row c.cursor.result) (here w) ∙ c.cursor.ensures.here) below
      | inr all ↦
          (let e : c.min.result ≡ packet_count c.self.inside.session c.args.drone = omega (arith, least, count, all) in e)
          ∙ cursor-end c.self.inside.session (marked c.self.inside.rows.items) (acked c.self.inside.session h) c.args.drone same c.cursor.result past all
    ])

use Rattle.upload_core.proofs.Prelude.{◌≡◌, ◌∙◌, ◌≤◌, ◌==◌, ◌∷◌, List, [], length, refl, inl, inr, not, filter, ap, sym, subst, arith, eqb-true, InFlight, packets_in, among, IsBetween}
use Rattle.upload_core.proofs.Numbers.{past-yes}
use Rattle.upload_core.proofs.RowLemmas.{packets-some, grows-past, grows-twice, Grows, less-marks, less-counts, less-low, less-news, less-rising, until-some, until-none}
use Rattle.upload_core.proofs.row.Row.settle.Goals as goal
use Rattle.upload_core.proofs.row.Row.settle.Goals.{After-fill-next, After-fill-self}

left : (c : After-fill-next) → c.without-window.result.items ≡ filter (λ e. not (e.packet == c.args.k)) c.args.self.now.window.items
left c = c.without-window.ensures ∙ ap (λ (es : List InFlight). filter (λ e. not (e.packet == c.args.k)) es) c.as_slice.ensures.value

-- ---- something is in flight

pub returns-then-not-is_empty-clause-stands : goal.returns-then-not-is_empty-clause-stands
returns-then-not-is_empty-clause-stands c s p d stands last =
    let w = (goal.at.returns-then-not-is_empty-clause-stands c).After-fill-next in
    let e = c.fill-next.ensures in
    let from = e.from in let begin = stands.shape.from in
    record {
      shape = record {
        rising = less-rising c.args.self.now c.args.k c.without-window.result.items (left w) c.requires.row.rising c.requires.in_flight
            c.fill-next.new.window.items c.fill-next.result e.grown e.from s p d stands e.few;
        from = omega arith;
        past = e.past;
        few = e.few;
        full = e.full;
      };
      until = until-some c.args.self.now c.args.k c.without-window.result.items (left w) c.requires.row.rising c.requires.in_flight
          c.fill-next.new.window.items c.fill-next.result e.grown e.from s p d stands e.few
          (packets-some c.fill-next.new.window.items c.is_empty.result c.is_empty.ensures c.if-not-is_empty.true) e.past;
    }

pub returns-then-not-is_empty-clause-marks : goal.returns-then-not-is_empty-clause-marks
returns-then-not-is_empty-clause-marks c =
    less-marks c.args.self.now c.args.k c.without-window.result.items (left (goal.at.returns-then-not-is_empty-clause-marks c).After-fill-next) c.requires.row.rising c.requires.in_flight
    c.fill-next.new.window.items c.fill-next.result c.fill-next.ensures.grown c.fill-next.ensures.from

pub returns-then-not-is_empty-clause-counts : goal.returns-then-not-is_empty-clause-counts
returns-then-not-is_empty-clause-counts c =
    less-counts c.args.self.now c.args.k c.without-window.result.items (left (goal.at.returns-then-not-is_empty-clause-counts c).After-fill-next) c.requires.row.rising c.requires.in_flight
    c.fill-next.new.window.items c.fill-next.result c.fill-next.ensures.grown c.fill-next.ensures.from

pub returns-then-not-is_empty-clause-low : goal.returns-then-not-is_empty-clause-low
returns-then-not-is_empty-clause-low c =
    less-low c.args.self.now c.args.k c.without-window.result.items (left (goal.at.returns-then-not-is_empty-clause-low c).After-fill-next) c.requires.row.rising c.requires.in_flight
    c.fill-next.new.window.items c.fill-next.result c.fill-next.ensures.grown c.fill-next.ensures.from

pub returns-then-not-is_empty-clause-news : goal.returns-then-not-is_empty-clause-news
returns-then-not-is_empty-clause-news c =
    less-news c.args.self.now c.args.k c.without-window.result.items (left (goal.at.returns-then-not-is_empty-clause-news c).After-fill-next) c.requires.row.rising c.requires.in_flight
    c.fill-next.new.window.items c.fill-next.result c.fill-next.ensures.grown c.fill-next.ensures.from

-- ---- nothing was left

module _ (c : After-fill-self) where
  left-self : c.without-window.result.items ≡ filter (λ e. not (e.packet == c.args.k)) c.args.self.now.window.items
  left-self = c.without-window.ensures ∙ ap (λ (es : List InFlight). filter (λ e. not (e.packet == c.args.k)) es) c.as_slice.ensures.value

  from-self : c.args.self.now.next ≤ c.fill-self.result
  from-self = let a = c.fill-next.ensures.from in let b = c.fill-self.ensures.from in omega arith

  grown-self : Grows c.without-window.result.items c.fill-self.new.window.items c.args.self.now.next c.fill-self.result
  grown-self =
      grows-twice c.without-window.result.items c.fill-next.new.window.items c.fill-self.new.window.items c.args.self.now.next c.fill-next.result c.fill-self.result
      c.fill-next.ensures.from c.fill-self.ensures.from c.fill-next.ensures.grown c.fill-self.ensures.grown

pub returns-clause-stands : goal.returns-clause-stands
returns-clause-stands c s p d stands last =
    let w = (goal.at.returns-clause-stands c).After-fill-self in
    let e = c.fill-self.ensures in
    let a = from-self w in let begin = stands.shape.from in
    let empty : length c.fill-next.new.window.items ≡ 0 = eqb-true (length c.fill-next.new.window.items) 0 (sym c.is_empty.ensures ∙ c.if-not-is_empty.false) in
    let none : c.fill-next.new.window.items ≡ [] = no-length c.fill-next.new.window.items empty in
    let reached : c.fill-next.result ≡ c.args.self.now.until = elim c.fill-next.ensures.full [ inl four ↦ absurd (omega arith) | inr there ↦ there ] in
    record {
      shape = record {
        rising = less-rising c.args.self.now c.args.k c.without-window.result.items (left-self w) c.requires.row.rising c.requires.in_flight
            c.fill-self.new.window.items c.fill-self.result (grown-self w) (from-self w) s p d stands e.few;
        from = omega arith;
        past = e.past;
        few = e.few;
        full = e.full;
      };
      until = until-none c.args.self.now c.args.k c.without-window.result.items (left-self w) c.requires.row.rising c.requires.in_flight
          c.fill-self.new.window.items c.fill-self.result (grown-self w) (from-self w) s p d stands e.few c.args.end last
          (λ j l. grows-past 0 c.fill-next.new.window.items c.fill-self.new.window.items c.fill-next.result c.fill-self.result e.grown e.from
          (subst (λ (es : List InFlight). IsBetween 0 c.fill-next.result (packets_in es)) (sym none) tt) j
          ∙ past-yes c.fill-next.result (packets_in c.fill-next.new.window.items) j (omega arith) (ap (λ (es : List InFlight). among (packets_in es) j) none));
    } where
      no-length : (es : List InFlight) → length es ≡ 0 → es ≡ []
      no-length [] e = refl
      no-length (x ∷ es) e = absurd (omega arith)

pub returns-clause-marks : goal.returns-clause-marks
returns-clause-marks c =
    let w = (goal.at.returns-clause-marks c).After-fill-self in
    less-marks c.args.self.now c.args.k c.without-window.result.items (left-self w) c.requires.row.rising c.requires.in_flight
    c.fill-self.new.window.items c.fill-self.result (grown-self w) (from-self w)

pub returns-clause-counts : goal.returns-clause-counts
returns-clause-counts c =
    let w = (goal.at.returns-clause-counts c).After-fill-self in
    less-counts c.args.self.now c.args.k c.without-window.result.items (left-self w) c.requires.row.rising c.requires.in_flight
    c.fill-self.new.window.items c.fill-self.result (grown-self w) (from-self w)

pub returns-clause-low : goal.returns-clause-low
returns-clause-low c =
    let w = (goal.at.returns-clause-low c).After-fill-self in
    less-low c.args.self.now c.args.k c.without-window.result.items (left-self w) c.requires.row.rising c.requires.in_flight
    c.fill-self.new.window.items c.fill-self.result (grown-self w) (from-self w)

pub returns-clause-news : goal.returns-clause-news
returns-clause-news c =
    let w = (goal.at.returns-clause-news c).After-fill-self in
    less-news c.args.self.now c.args.k c.without-window.result.items (left-self w) c.requires.row.rising c.requires.in_flight
    c.fill-self.new.window.items c.fill-self.result (grown-self w) (from-self w)

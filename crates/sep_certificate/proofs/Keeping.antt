-- Where a certificate is valid, any two drones are apart throughout the show.
use Rattle.sep_certificate.proofs.Prelude.{common_steps, ◌≡◌, ℕ, ◌*◌, ◌≤◌, ◌<◌, ℤ, pos, arith, refl, sym, ◌∙◌, ap, subst, List, length, All, Some, slice_get, sum, ints, Moment, moment, by_lt, moment-inside, IsInside, Traj, durations, Rules, Node, CurvesStandFor, HasFewPoints, Raised, difference, IsLasting, AreSmall, reach_on, AreTogether, KeepReach, KeepsApart, MayBeAt, MovesWithin, Point, ShareNoPoint, root, slots, AreValid, Tree, at_place, segments_of, cue_of, own_some, IsSeenAt, decoded_seen, seen_apart, share_none_turned, together_turned}
use Rattle.std.proofs.lemmas.Option.{slice_get_within}
use Rattle.sep_certificate.proofs.Covers.{IsSeenBy, seen_in_tree, seen_small}
use Rattle.sep_certificate.proofs.Members.{tree_of}

-- the tree of a pair and a cue separates them at each moment of the cue
pub seen_by : (rules : Rules) (dirs : List (List ℤ)) (curves : Raised) (trees : List (List Node)) (trajs : List Traj) (stands : CurvesStandFor curves trajs)
    (a b : ℕ) (u : Traj) (m : Moment) → AreValid rules dirs curves (slots curves.drones curves.cues) trees →
    a < b → slice_get trajs b ≡ Some u → IsInside (length stands.times) m → IsSeenBy rules.clearance dirs (cue_of (difference curves a b m.cue)) (pos m.a) (pos m.c)
seen_by rules dirs curves trees trajs stands a b u m valid order u_is inside =
    let b_in : b < length trajs = slice_get_within trajs b u u_is in
    let tree : (tree : Tree) × _ = tree_of rules dirs curves trees a b m.cue order (omega (arith, stands.drones)) (omega (arith, stands.cues, inside.cue)) valid in
    seen_in_tree rules dirs (difference curves a b m.cue) tree.0 root (pos m.a) (pos m.c) (omega (arith, ints, inside.some)) (omega (arith, ints)) (omega (arith, ints, inside.within)) tree.1

-- the drones of a pair are seen to be apart at a moment
seen_at : (rules : Rules) (dirs : List (List ℤ)) (curves : Raised) (trees : List (List Node)) (trajs : List Traj) (stands : CurvesStandFor curves trajs)
    (a b : ℕ) (t u : Traj) (m : Moment) → All AreSmall dirs → AreValid rules dirs curves (slots curves.drones curves.cues) trees →
    a < b → slice_get trajs a ≡ Some t → slice_get trajs b ≡ Some u → IsInside (length stands.times) m → IsSeenAt rules.clearance t u m
seen_at rules dirs curves trees trajs stands a b t u m small valid order t_is u_is inside =
    let t_len : length t.segments ≡ length stands.times = segments_of t stands.times (at_place (λ (t : Traj). durations t.segments ≡ stands.times) trajs a t stands.one_show.same_times t_is) in
    let u_len : length u.segments ≡ length stands.times = segments_of u stands.times (at_place (λ (t : Traj). durations t.segments ≡ stands.times) trajs b u stands.one_show.same_times u_is) in
    decoded_seen rules.clearance curves a b t u m (stands.curves a m.cue t t_is inside.cue) (stands.curves b m.cue u u_is inside.cue)
    (omega (arith, t_len, inside.cue)) (omega (arith, u_len, inside.cue))
    (λ axis near. at_place (HasFewPoints (length stands.times)) trajs a t stands.few_points t_is m.cue axis inside.cue near)
    (λ axis near. at_place (HasFewPoints (length stands.times)) trajs b u stands.few_points u_is m.cue axis inside.cue near)
    (seen_small rules.clearance dirs (cue_of (difference curves a b m.cue)) (pos m.a) (pos m.c) small (seen_by rules dirs curves trees trajs stands a b u m valid order u_is inside))

-- the drones of a pair are apart, the first one named first
in_order : (rules : Rules) (dirs : List (List ℤ)) (curves : Raised) (trees : List (List Node)) → All AreSmall dirs → AreValid rules dirs curves (slots curves.drones curves.cues) trees →
    (trajs : List Traj) → CurvesStandFor curves trajs → KeepReach rules.clearance trajs → (a b : ℕ) (t u : Traj) → a < b → slice_get trajs a ≡ Some t → slice_get trajs b ≡ Some u →
    (p q s w : ℕ) → 1 ≤ q → 1 ≤ w → p ≤ q * sum (durations t.segments) → s ≤ w * sum (durations u.segments) → AreTogether rules.clearance.late p q s w →
    (first second : Point) → MayBeAt rules.clearance.stray t p q first → MayBeAt rules.clearance.stray u s w second → ShareNoPoint rules.clearance.r rules.clearance.h first second
in_order rules dirs curves trees small valid trajs stands reach a b t u order t_is u_is p q s w p_some w_some p_before s_before together first second at_first at_second =
    let t_times : durations t.segments ≡ stands.times = at_place (λ (t : Traj). durations t.segments ≡ stands.times) trajs a t stands.one_show.same_times t_is in
    let u_times : durations u.segments ≡ stands.times = at_place (λ (t : Traj). durations t.segments ≡ stands.times) trajs b u stands.one_show.same_times u_is in
    let u_lasts : IsLasting u = subst (λ (ns : List ℕ). All (λ ms. 1 ≤ ms) ns) (sym u_times) stands.one_show.lasting in
    let inside : IsInside (length stands.times) (moment (durations t.segments) p q) = grind (arith, common_steps, moment-inside) in
    let moves = at_place (λ (t : Traj). (axis : ℕ) → axis ≤ 2 → MovesWithin rules.clearance.late (reach_on rules.clearance axis) t axis) trajs b u reach u_is in
    seen_apart rules.clearance t u p q s w (moment (durations t.segments) p q) first second inside.some (own_some u s w w_some u_lasts) refl (ap (λ (ns : List ℕ). moment ns p q) (u_times ∙ sym t_times))
    (seen_at rules dirs curves trees trajs stands a b t u (moment (durations t.segments) p q) small valid order t_is u_is inside)
    (λ axis near. moves axis near p q s w p_some w_some (subst (λ (ns : List ℕ). p ≤ q * sum ns) (t_times ∙ sym u_times) p_before) s_before together) at_first at_second

-- Where a certificate is valid, any two different drones fly apart.
pub keeps : (rules : Rules) (dirs : List (List ℤ)) (curves : Raised) (trees : List (List Node)) → All AreSmall dirs → AreValid rules dirs curves (slots curves.drones curves.cues) trees → KeepsApart curves rules.clearance
keeps rules dirs curves trees small valid trajs stands reach a b t u differ t_is u_is p q s w p_some w_some p_before s_before together first second at_first at_second =
    by_lt a b
    (λ order. in_order rules dirs curves trees small valid trajs stands reach a b t u order t_is u_is p q s w p_some w_some p_before s_before together first second at_first at_second)
    (λ later. share_none_turned rules.clearance.r rules.clearance.h second first
    (in_order rules dirs curves trees small valid trajs stands reach b a u t (above a b differ later) u_is t_is s w p q w_some p_some s_before p_before (together_turned rules.clearance.late p q s w together) second first at_second at_first))
  where
    above : (a b : ℕ) → (a ≡ b → ⊥) → b ≤ a → b < a
    above a b differ later = by_lt b a (λ less. less) (λ same. absurd (differ (omega arith)))

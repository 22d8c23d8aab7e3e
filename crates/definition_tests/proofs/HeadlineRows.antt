-- A show of one drone that stays, and its plan.
use Rattle.definition_tests.proofs.Prelude.{common_steps, ◌≡◌, ℕ, zero, suc, ◌-◌, ◌≤◌, length, pos, List, [], ◌∷◌, All, None, Some, codes, ap, get_or, arith, refl, slice_get, All-cons, All-nil, digits, bernstein, decoded, moment, Traj, hold, joined_from, HasDuration, IsTrajectory, PlainShow, FitsPoint, DroneLine, Whole, IsItem, StandsFor, Blocks, Drone, grid_of, IsGrid, expanded, packet_at, packet_count, part_count, read_count, write_count, IsSendable, size, AreUploadable, FlyApart, plan_text, Uploads, UploadsLaw, keeps_near_show, Headline, HeadlineRows, stay, stay_plan, stay_text, staying, spot, line_of}
use Rattle.show_plan.specs.Flight.{KeepsNearShow}
use Rattle.show_plan.specs.Trajectories.{sent}
use Rattle.definition_tests.proofs.LandedRows.{touch}
use Rattle.definition_tests.proofs.StandsRows.{begins_so}

-- the only drone
abbrev only : DroneLine
only = record { line = 2; name = record { items = codes "a" }; at = spot (pos 0) (pos 0) (pos 0) (pos 0) }

pub stay_stands : StandsFor stay_text stay
stay_stands = record {
  form = Whole;
  items = Drone only ∷ Blocks stay.body ∷ [];
  header = record { number = 1; words = codes "choreo" ∷ codes "1" ∷ [] };
  lines = record { number = 2; words = codes "drone" ∷ codes "a" ∷ codes "0" ∷ codes "0" ∷ codes "0" ∷ codes "0" ∷ [] }
      ∷ record { number = 3; words = codes "cue" ∷ codes "10" ∷ [] } ∷ record { number = 4; words = codes "end" ∷ [] } ∷ [];
  bytes = refl;
  cut = refl;
  first = refl;
  said = (
    record {
      number = refl;
      says = (
        refl,
        refl,
        (
          (refl, refl),
          (
            record { is = refl; from = omega arith; to = omega arith },
            (
              record { is = refl; from = omega arith; to = omega arith },
              (record { is = refl; from = omega arith; to = omega arith }, (record { is = refl; from = omega arith; to = omega arith }, tt)),
            ),
          ),
        ),
      );
    },
    (record { number = refl; says = (refl, refl, (record { is = refl; from = omega arith; to = omega arith }, tt)) }, (record { number = tt; says = (refl, refl, tt) }, tt)),
  );
  each = All-cons IsItem (Drone only) (Blocks stay.body ∷ []) tt (All-cons IsItem (Blocks stay.body) [] (refl, omega arith) (All-nil IsItem));
  single = record { memory = omega arith; trajectory = omega arith; ellipsoid = omega arith; stray = omega arith; late = omega arith };
  makes = refl;
}

is_grid : IsGrid (grid_of stay)
is_grid = record {
  some_start = omega arith;
  few_starts = omega arith;
  starts = All-cons (λ (s : DroneLine). FitsPoint s.at) only []
      ((omega arith, omega arith), (omega arith, omega arith), (omega arith, omega arith), (omega arith, omega arith)) (All-nil (λ (s : DroneLine). FitsPoint s.at));
  some_cue = omega arith;
  few_cues = omega arith;
  cues = (
    record {
      lasts = omega arith;
      short = omega arith;
      count = refl;
      jobs = (((omega arith, (omega arith, omega arith), (omega arith, omega arith), (omega arith, omega arith)), tt), tt);
    },
    tt,
  );
}

-- what the drone is sent
abbrev flown : Traj
flown = record { start = pos 0 ∷ pos 0 ∷ pos 0 ∷ pos 0 ∷ []; segments = hold 10 ∷ [] }

sent_is : sent (grid_of stay) ≡ flown ∷ []
unfolding expanded joined_from
sent_is = refl

formed : IsTrajectory flown
formed = grind (arith, common_steps, All-cons, All-nil)

lasts : All HasDuration flown.segments
lasts = grind (arith, common_steps, All-cons, All-nil)

uploadable : AreUploadable stay.settings (flown ∷ [])
uploadable = record {
  settings = (omega arith, omega arith, omega arith, omega arith, omega arith, omega arith, omega arith, omega arith);
  some = omega arith;
  few = omega arith;
  formed = All-cons IsTrajectory flown [] formed (All-nil IsTrajectory);
  sendable = All-cons IsSendable flown [] (record { few = omega arith; last = lasts }) (All-nil IsSendable);
  segments = All-cons (λ (t : Traj). 1 ≤ length t.segments) flown [] (omega arith) (All-nil (λ (t : Traj). 1 ≤ length t.segments));
  room = All-cons (λ (t : Traj). size t ≤ 4096 - 0) flown [] (omega arith) (All-nil (λ (t : Traj). size t ≤ 4096 - 0));
}

-- no two drones of a list of one differ
no_two : (x t u : Traj) (a b : ℕ) → (a ≡ b → ⊥) → slice_get (x ∷ []) a ≡ Some t → slice_get (x ∷ []) b ≡ Some u → ⊥
no_two x t u zero zero other first second = other refl
no_two x t u (suc a) b other first second = let none : None ≡ Some t = first in absurd (cc)
no_two x t u zero (suc b) other first second = let none : None ≡ Some u = second in absurd (cc)

near : KeepsNearShow (grid_of stay) (flown ∷ [])
unfolding expanded joined_from
near = keeps_near_show (grid_of stay) is_grid

apart : FlyApart stay.settings (flown ∷ [])
apart a b t u other first second = absurd (no_two flown t u a b other first second)

uploads : UploadsLaw → Uploads (grid_of stay) stay.settings (flown ∷ [])
uploads law = law (grid_of stay) stay.settings (flown ∷ []) uploadable near apart

pub holds : UploadsLaw → Headline stay_text (Some []) (Some stay_plan)
unfolding digits plan_text packet_at packet_count part_count read_count write_count
holds law = record { s = stay; sent = flown ∷ []; stands = stay_stands; planned = refl; near = near; apart = apart; uploads = uploads law }

after_others : UploadsLaw → Headline stay_text (Some (1 ∷ 2 ∷ [])) (Some (1 ∷ 2 ∷ stay_plan))
unfolding digits plan_text packet_at packet_count part_count read_count write_count
after_others law = record { s = stay; sent = flown ∷ []; stands = stay_stands; planned = refl; near = near; apart = apart; uploads = uploads law }

-- what stays a millimetre aside isn't near
pub far : KeepsNearShow (grid_of stay) (staying (pos 1) ∷ []) → ⊥
unfolding expanded bernstein decoded moment
far keeps = let near = (keeps.near 0 (omega arith)).x 0 1 (omega arith) (omega arith) in let high = near.above in absurd (omega (arith, high))

aside : (s : PlainShow) (sent : List Traj) → s ≡ stay → sent ≡ staying (pos 1) ∷ [] → KeepsNearShow (grid_of s) sent → ⊥
aside s sent s_is sent_is near = far (rw s_is at (rw sent_is at near))

pub headlines : UploadsLaw → HeadlineRows
unfolding plan_text
headlines law = record {
  holds = holds law;
  after_others = after_others law;
  unwritten = λ is. let same : ◌≡◌ {A = ℕ} 0 112 = ap (λ (bytes : List ℕ). get_or bytes 0 0) is.planned in absurd (omega (arith, same));
  cut = λ is. let same : ◌≡◌ {A = ℕ} 108 112 = ap (λ (bytes : List ℕ). get_or bytes 0 0) is.planned in absurd (omega (arith, same));
  no_show = λ old new is.
      let letters : ◌≡◌ {A = ℕ} 108 99 = begins_so (line_of (codes "late 3")) is.s is.stands in absurd (omega (arith, letters));
  far = λ input old new is s_is sent_is. aside _ _ s_is sent_is is.near;
  touching = λ input old new is e_is sent_is. touch _ _ e_is sent_is is.apart;
}

-- What was loaded is there, byte by byte, and decodes to what was sent.
use Rattle.std.proofs.lemmas.Grind.{common_steps}
use Rattle.std.proofs.Common.{◌≡◌, ℕ, zero, suc, ◌+◌, ◌<◌, ◌≤◌, List, [], ◌∷◌, ◌++◌, length, drop, get_or, slice_get, Option, Some, None, Result, Ok, Err, IfOk, refl, ap, subst, ◌∙◌, append_assoc, arith}
use Rattle.std.specs.List.{All}
use Rattle.std.specs.Prelude.{IfNone}
use Rattle.traj_codec.specs.declared.traj.Traj.{Traj}
use Rattle.traj_codec.specs.declared.reading.CodecFault.{CodecFault}
use Rattle.traj_codec.specs.declared.reading.CodecFault.TheVariants.{Short, ZeroDuration}
use Rattle.traj_codec.specs.Reading.{BeginsWith, IsDecoded}
use Rattle.traj_codec.specs.Spelling.{HasDuration, IsTrajectory, SpellingLaw, ending, spelling}
use Rattle.upload_model.specs.declared.loads.Def.{Def}
use Rattle.upload_model.specs.Drones.{DroneState}
use Rattle.upload_model.specs.Sessions.{IsSession, Upload, drone_count, load_of}
use Rattle.upload_model.specs.Memories.{HasEntry, HasLoad}
use Rattle.firmware_memory.specs.Decoded.{Carries, DecodesTo, load_for}

-- bytes that stand in a list from its front on
at_front : (xs ys : List ℕ) → length ys ≤ length xs → ((i : ℕ) → i < length ys → get_or xs i 0 ≡ get_or ys i 0) → xs ≡ ys ++ drop (length ys) xs
at_front xs [] fits same = refl
at_front [] (y ∷ ys) fits same = absurd (omega (arith, fits))
at_front (x ∷ xs) (y ∷ ys) fits same =
    let first : x ≡ y = same 0 (omega arith) in
    let rest : xs ≡ ys ++ drop (length ys) xs = at_front xs ys (omega (arith, fits)) (λ i below. same (suc i) (omega (arith, below))) in
    rw first (ap (λ (zs : List ℕ). y ∷ zs) rest)

-- bytes that stand in a list from a place on
pub stands_at : (xs ys : List ℕ) (o : ℕ) → o + length ys ≤ length xs → ((i : ℕ) → i < length ys → get_or xs (o + i) 0 ≡ get_or ys i 0) → drop o xs ≡ ys ++ drop (length ys) (drop o xs)
stands_at xs ys zero fits same = at_front xs ys (omega (arith, fits)) (λ i below. let e : 0 + i ≡ i = omega arith in rw e at (same i below))
stands_at [] ys (suc o) fits same = absurd (omega (arith, fits))
stands_at (x ∷ xs) ys (suc o) fits same =
    stands_at xs ys o (omega (arith, fits)) (λ i below. let e : suc o + i ≡ suc (o + i) = omega arith in rw e at (same i below))

-- one entry
one_entry : (e f : Def) (o : Option (Option Def)) → o ≡ Some (Some e) → o ≡ Some (Some f) → e ≡ f
one_entry e f o first second = cc

pub one_curve : SpellingLaw → (drone : DroneState) (id : ℕ) (t u : Traj) → DecodesTo drone id t → DecodesTo drone id u → t ≡ u
one_curve law drone id t u first second = grind (arith, common_steps, one_entry, drop)

pub loaded_curve : (s : Upload) (drone : DroneState) (d : ℕ) (t : Traj) → IsSession s → d < drone_count s → load_of s d ≡ load_for t → IsTrajectory t →
    All HasDuration t.segments → length drone.memory ≡ 4096 → HasLoad s (load_of s d) drone → HasEntry s (load_of s d) drone → Carries drone s.trajectory_id t
loaded_curve s drone d t session known load formed last whole there listed =
    let room = (session.loads d known).has_room in
    let bytes : List ℕ = spelling t ++ ending in
    let stands : drop s.offset drone.memory ≡ bytes ++ drop (length bytes) (drop s.offset drone.memory) =
    stands_at drone.memory bytes s.offset (let fits : s.offset + length bytes ≤ 4096 = rw load at room in omega (arith, fits, whole)) (rw load at there) in
    let rest : List ℕ = drop (length bytes) (drop s.offset drone.memory) in
    record {
      decodes = record {
        entry = record { offset = s.offset; pieces = length t.segments };
        used = length (spelling t);
        listed = rw load at listed;
        begins = grind (arith, common_steps, drop, append_assoc);
      };
      rest = rest;
      whole = stands ∙ append_assoc (spelling t) ending rest;
    }

-- ---- what is read

-- an entry and a trajectory at its place
pub decodes : (drone : DroneState) (id : ℕ) (entry : Def) (t : Traj) (used : ℕ) → slice_get drone.table id ≡ Some (Some entry) →
    BeginsWith (drop entry.offset drone.memory) entry.pieces t used → DecodesTo drone id t
decodes drone id entry t used listed begins = record { entry = entry; used = used; listed = listed; begins = begins }

-- no entry
pub unlisted : (drone : DroneState) (id : ℕ) (t : Traj) → slice_get drone.table id ≡ Some None → DecodesTo drone id t → ⊥
unlisted drone id t none is = let listed = is.listed in absurd (cc)

-- an entry, and no trajectory at its place
pub unread : (drone : DroneState) (id : ℕ) (entry : Def) (t : Traj) → slice_get drone.table id ≡ Some (Some entry) →
    ((u : Traj) (used : ℕ) → BeginsWith (drop entry.offset drone.memory) entry.pieces u used → ⊥) → DecodesTo drone id t → ⊥
unread drone id entry t listed none is =
    let same : is.entry ≡ entry = one_entry is.entry entry _ is.listed listed in
    none t is.used (subst (λ (e : Def). BeginsWith (drop e.offset drone.memory) e.pieces t is.used) same is.begins)

-- where a fault is read, the bytes begin with no trajectory
pub not_short : (t : Traj) (used place : ℕ) (fault : CodecFault) (r : Result (Traj × ℕ) CodecFault) → r ≡ Err fault → fault ≡ Short place → IsDecoded t used r → ⊥
not_short t used place fault r is short decoded = grind (arith, common_steps)

pub not_zero : (t : Traj) (used place : ℕ) (fault : CodecFault) (r : Result (Traj × ℕ) CodecFault) → r ≡ Err fault → fault ≡ ZeroDuration place → IsDecoded t used r → ⊥
not_zero t used place fault r is none decoded = grind (arith, common_steps)

-- what follows where nothing is found
pub none_weaker : {T E : Type 0} (r : Result (Option T) E) (P Q : Type 0) → (P → Q) → IfOk r (λ o. IfNone o P) → IfOk r (λ o. IfNone o Q)
none_weaker (Ok None) P Q f p = f p
none_weaker r P Q f p = tt

-- what stands at a place of the table
pub listed_at : (table : List (Option Def)) (id : ℕ) (o : Option Def) → id < length table → get_or table id None ≡ o → slice_get table id ≡ Some o
listed_at [] id o below is = absurd (omega arith)
listed_at (x ∷ table) zero o below is = ap Some is
listed_at (x ∷ table) (suc id) o below is = listed_at table id o (omega arith) is

-- What a frame says of the cause that it names.
use Rattle.show_direct.proofs.Prelude.{◌≡◌, ℕ, ◌+◌, ◌*◌, ◌/◌, ◌%◌, ◌<◌, ap, refl, sym, ◌∙◌, arith, ShowLaw, FlightFault, FaultFrameLaw, IsNamed, fault_frame, fault_in}
use Rattle.flight_steps.specs.declared.faults.FlightFault.TheVariants as fault
use Rattle.flight_steps.specs.declared.faults.Seam.TheVariants as seam
use Rattle.flight_steps.specs.declared.faults.Way.TheVariants as way
use Rattle.show_direct.proofs.NamedLemmas.{named}

one_byte : (n : ℕ) → n < 256 → n % 256 ≡ n
one_byte n small = omega (arith, small)

two_bytes : (n : ℕ) → n < 256 * 256 → n % 256 + 256 * ((n / 256) % 256) ≡ n
two_bytes n small = omega (arith, small)

reads_back : (near stray : ℕ) (f : FlightFault) → IsNamed near stray f → fault_in near stray (fault_frame f) ≡ f
reads_back near stray (fault.OtherDrone way.Up d) is = ap (λ (n : ℕ). fault.OtherDrone way.Up n) (one_byte d is)
reads_back near stray (fault.OtherDrone way.Down d) is = ap (λ (n : ℕ). fault.OtherDrone way.Down n) (one_byte d is)
reads_back near stray (fault.Gap seam.UpToShow d) is = ap (λ (n : ℕ). fault.Gap seam.UpToShow n) (one_byte d is)
reads_back near stray (fault.Gap seam.ShowToDown d) is = ap (λ (n : ℕ). fault.Gap seam.ShowToDown n) (one_byte d is)
reads_back near stray (fault.Gap seam.DownToUp d) is = ap (λ (n : ℕ). fault.Gap seam.DownToUp n) (one_byte d is)
reads_back near stray (fault.Restless way.Up d cue) is =
    ap (λ (n : ℕ). fault.Restless way.Up n (cue % 256 + 256 * ((cue / 256) % 256))) (one_byte d is.0)
    ∙ ap (λ (n : ℕ). fault.Restless way.Up d n) (two_bytes cue is.1)
reads_back near stray (fault.Restless way.Down d cue) is =
    ap (λ (n : ℕ). fault.Restless way.Down n (cue % 256 + 256 * ((cue / 256) % 256))) (one_byte d is.0)
    ∙ ap (λ (n : ℕ). fault.Restless way.Down d n) (two_bytes cue is.1)
reads_back near stray (fault.Still way.Up d) is = ap (λ (n : ℕ). fault.Still way.Up n) (one_byte d is)
reads_back near stray (fault.Still way.Down d) is = ap (λ (n : ℕ). fault.Still way.Down n) (one_byte d is)
reads_back near stray (fault.Slanted way.Up d) is = ap (λ (n : ℕ). fault.Slanted way.Up n) (one_byte d is)
reads_back near stray (fault.Slanted way.Down d) is = ap (λ (n : ℕ). fault.Slanted way.Down n) (one_byte d is)
reads_back near stray (fault.Narrow n s) is = ap (λ (k : ℕ). fault.Narrow k stray) (sym is.0) ∙ ap (λ (k : ℕ). fault.Narrow n k) (sym is.1)
reads_back near stray (fault.OtherEllipsoid way.Up) is = refl
reads_back near stray (fault.OtherEllipsoid way.Down) is = refl

pub frame_law : ShowLaw → FaultFrameLaw
frame_law law = record { one = reads_back; named = named law }

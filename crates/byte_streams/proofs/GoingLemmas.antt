-- What steps of a reader of parts keep adds up.
use Rattle.byte_streams.proofs.Prelude.{◌≡◌, ◌∙◌, IsTrue, Held, Goes, Told}
use Rattle.byte_streams.proofs.ToldLemmas.{Went-none, Went-trans}

-- two steps, one after the other
pub Goes-trans : (a b c : Held) (t u v : Told) → Goes a b t u → Goes b c u v → Goes a c t v
Goes-trans a b c t u v p q = record {
  went = Went-trans a.ended b.ended c.ended t u v p.went q.went;
  sound = q.sound ∙ p.sound;
  lines = q.lines ∙ p.lines;
}

-- a step that doesn't ask the source
pub Goes-unasked : (a b : Held) (t : Told) → b.sound ≡ a.sound → b.lines ≡ a.lines → b.ended ≡ a.ended → (IsTrue a.ended → IsTrue t.ended) → Goes a b t t
Goes-unasked a b t sound lines ended at_end = record { went = Went-none a.ended b.ended t ended at_end; sound = sound; lines = lines }

-- Values of the definitions, compared with lines and numbers that were written down elsewhere.
use Rattle.touch_witness.proofs.Prelude.{◌≡◌, [], ◌∷◌, ◌++◌, refl, codes, instant_of}
use Rattle.touch_witness.specs.Lines.{blocked_pair_line, closest_line, no_touch_line, separated_line, touch_line}
use Rattle.std.specs.Fmt.{digits}

separated-row : separated_line ≡ codes "separated" ++ 10 ∷ []
separated-row = refl

blocked-row : blocked_pair_line (codes "a") (codes "b") 0 28 6 ≡ codes "blocked pair a b cue 1 part 28 of 64" ++ 10 ∷ []
unfolding digits
blocked-row = refl

closest-row : closest_line (codes "a") (codes "b") 5 (record { cue = 1; at = 16; a = 0; b = 1; level = 2777 }) ≡ codes "closest pair a b cue 2 at 16 of 32 level 2777" ++ 10 ∷ []
unfolding digits
closest-row = refl

touch-row : touch_line (codes "a") (codes "b") 5 (record { cue = 0; at = 15; a = 0; b = 1 }) ≡ codes "touch pair a b cue 1 at 15 of 32" ++ 10 ∷ []
unfolding digits
touch-row = refl

-- one cue has 33 listed instants
instants-row : no_touch_line 1 5 ≡ codes "no-touch instants 33" ++ 10 ∷ []
unfolding digits
instants-row = refl

-- the fraction 3 / 4 of the second of two cues, in quarters of a millisecond
instant-row : instant_of (1000 ∷ 2000 ∷ []) 1 3 4 ≡ 10000
instant-row = refl

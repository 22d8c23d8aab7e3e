-- The parts of one cue, searched.
use Rattle.definition_tests.proofs.Prelude.{refl, bernstein, raised_value, polar, difference, raised_of, root_above, first_low, slots, blocked_place, first_direction, measure_of}
use Rattle.sep_parts.specs.Versions.{table_of}
use Rattle.pair_search.specs.Fleets.{direction_at}
use Rattle.definition_tests.specs.Blocked.{BlockedRows}

pub blocked : BlockedRows
unfolding bernstein raised_value polar difference raised_of root_above first_low slots table_of direction_at blocked_place first_direction measure_of
blocked = record { whole = refl; in_halves = refl; touching = refl }

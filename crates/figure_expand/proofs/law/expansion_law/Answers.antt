use Rattle.figure_expand.proofs.Pieces.{closed_forms, flies_as_written, piece_whole, piece_begins, piece_ends}
use Rattle.figure_expand.proofs.Fitting.{fits_well, fits_back}
use Rattle.figure_expand.proofs.law.expansion_law.Goals as goal

pub returns : goal.returns
returns c = assumption (flies_as_written, fits_well, fits_back, piece_whole, piece_begins, piece_ends, closed_forms)

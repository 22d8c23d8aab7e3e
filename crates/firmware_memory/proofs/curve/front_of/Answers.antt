-- Why `front_of` keeps its contract, where the bytes are no trajectory.
use Rattle.firmware_memory.proofs.CurveLemmas.{not_short, not_zero}
use Rattle.firmware_memory.proofs.curve.front_of.Goals as goal

pub returns-in-Err-Short-clause-none : goal.returns-in-Err-Short-clause-none
returns-in-Err-Short-clause-none c t used begins =
    not_short t used c.in-Err-Short.field-0-0 c.in-Err-Short.field-0 c.decode.result c.in-Err-Short.is c.in-Err-Short.field-0-is (c.decode.ensures.only t used begins)

pub returns-in-Err-ZeroDuration-clause-none : goal.returns-in-Err-ZeroDuration-clause-none
returns-in-Err-ZeroDuration-clause-none c t used begins =
    not_zero t used c.in-Err-ZeroDuration.field-0-0 c.in-Err-ZeroDuration.field-0 c.decode.result c.in-Err-ZeroDuration.is c.in-Err-ZeroDuration.field-0-is (c.decode.ensures.only t used begins)
